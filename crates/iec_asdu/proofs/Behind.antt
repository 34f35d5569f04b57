-- What a buffer has after a write, and after one write behind another.
use Rattle.std.proofs.Common.{◌≡◌, ℕ, zero, suc, ◌+◌, ◌-◌, ◌<◌, ◌≤◌, List, [], ◌∷◌, ◌++◌, length}
use Rattle.std.proofs.Common.{get_or, take, drop, refl, ap, sym, ◌∙◌, append_assoc, arith, length-append}
use Rattle.std.specs.List.{flat_map}
use Rattle.std.proofs.lemmas.List.{append-nil, drop-drop, drop-take, drop_at, length-take-le, take-append-drop, take-take, take_more}
use Rattle.std.proofs.lemmas.List.Concat.{flat_map-append}
use Rattle.std.proofs.lemmas.Slice.{take-put_mid, drop-put_mid}
use borrow.Rule.Slice.PartMut.{put_mid}
use Rattle.iec_asdu.specs.Buffer.{Writes}

pub writes_part : (start k : ℕ) (old octets written : List ℕ) → start ≤ length old → length octets ≡ k
    → written ≡ octets
    → Writes start (start + k) old (put_mid start (start + k - start) old written) octets
writes_part start k old octets written room long is =
    rw is (record {
      ends = omega (arith, long);
      front = take-put_mid start (start + k - start) old octets (start + k) (omega (arith, long)) room;
      rest = drop-put_mid start (start + k - start) old octets (start + k) (omega arith) room (omega (arith, long));
    })

pub writes_both : (start middle end : ℕ) (old between new first second : List ℕ)
    → Writes start middle old between first → Writes middle end between new second
    → Writes start end old new (first ++ second)
writes_both start middle end old between new first second v w =
    record {
      ends = omega (arith, v.ends, w.ends, length-append first second);
      front = w.front ∙ (ap (λ (o : List ℕ). o ++ second) v.front ∙ append_assoc (take start old) first second);
      rest = w.rest ∙ (behind between ∙ (ap (λ (o : List ℕ). drop (length second) o) v.rest ∙ sym (behind old)));
    }
  where
    behind : (o : List ℕ) → drop end o ≡ drop (length second) (drop middle o)
    behind o = ap (λ (n : ℕ). drop n o) w.ends ∙ sym (drop-drop (length second) middle o)

-- after a write at the front, behind which something stands already
pub writes_before : (middle end : ℕ) (old between new first second : List ℕ) → middle ≤ length old
    → Writes middle end old between second → Writes 0 middle between new first
    → Writes 0 end old new (first ++ second)
writes_before middle end old between new first second room v w =
    record {
      ends = omega (arith, v.ends, w.ends, length-append first second);
      front = sym (take-append-drop middle (take end new)) ∙ rw (in_front, behind) refl;
      rest = beyond new ∙ (ap (λ (o : List ℕ). drop (length second) o) w.rest ∙ (sym (beyond between) ∙ v.rest));
    }
  where
    apart : (o : List ℕ) → drop middle (take end o) ≡ take (length second) (drop middle o)
    apart o = ap (λ (n : ℕ). drop middle (take n o)) v.ends ∙ drop-take middle (length second) o

    beyond : (o : List ℕ) → drop end o ≡ drop (length second) (drop middle o)
    beyond o = ap (λ (n : ℕ). drop n o) v.ends ∙ sym (drop-drop (length second) middle o)

    in_front : take middle (take end new) ≡ first
    in_front = take-take middle end new (omega (arith, v.ends)) ∙ w.front

    stays : drop middle (take end between) ≡ second
    stays =
        ap (λ (o : List ℕ). drop middle o) v.front
        ∙ drop_at (take middle old) second middle (length-take-le middle old room)

    behind : drop middle (take end new) ≡ second
    behind =
        apart new
        ∙ (ap (λ (o : List ℕ). take (length second) o) w.rest ∙ (sym (apart between) ∙ stays))

-- one more of a list
pub flat_map_next : {X : Type 0} (f : X → List ℕ) (xs : List X) (i : ℕ) (d : X) → i < length xs
    → flat_map f (take (i + 1) xs) ≡ flat_map f (take i xs) ++ f (get_or xs i d)
flat_map_next f xs i d inside =
    ap (flat_map f) (take_more xs i d inside)
    ∙ (flat_map-append f (take i xs) (get_or xs i d ∷ [])
    ∙ ap (λ (o : List ℕ). flat_map f (take i xs) ++ o) (append-nil (f (get_or xs i d))))

-- there is room for it, where there is room for all
pub room_next : {X : Type 0} (f : X → List ℕ) (xs : List X) (i : ℕ) (d : X) → i < length xs
    → length (flat_map f (take i xs)) + length (f (get_or xs i d)) ≤ length (flat_map f xs)
room_next f [] i d inside = absurd (omega arith)
room_next f (x ∷ xs) zero d inside = omega (arith, length-append (f x) (flat_map f xs))
room_next f (x ∷ xs) (suc i) d inside =
    omega (
      arith,
      room_next f xs i d (omega arith),
      length-append (f x) (flat_map f xs),
      length-append (f x) (flat_map f (take i xs)),
    )
