-- How the segments of octets begin: the first one, and those of the rest.
use Rattle.std.proofs.Common.{◌≡◌, ℕ, ◌+◌, ◌*◌, ◌%◌, ◌<◌, Bool, true, false, ◌&&◌, eqb, List, []}
use Rattle.std.proofs.Common.{◌∷◌, length, take, drop, map, zero, suc, min, refl, sym, ◌∙◌, ap, arith, length-drop}
use Rattle.std.specs.List.{range_with_len}
use Rattle.std.proofs.lemmas.List.{drop-drop, take_min, drop_min}
use Rattle.std.proofs.lemmas.Bool.Decides.{nat_tests}
use Rattle.dnp_transport.specs.Cut.{segment_count, header_of, segments_from}

same_test : (a b c d : ℕ) → (a ≡ b → c ≡ d) → (c ≡ d → a ≡ b) → eqb a b ≡ eqb c d
same_test a b c d to from = grind (arith, nat_tests)

-- a list by index, from one later index on
map_shifted : {X : Type 0} (f g : ℕ → X) (a n : ℕ) → ((k : ℕ) → f (k + 1) ≡ g k)
    → map f (range_with_len (a + 1) n) ≡ map g (range_with_len a n)
map_shifted f g a zero same = refl
map_shifted f g a (suc n) same = let head = same a in let tail = map_shifted f g (a + 1) n same in cc

-- segment k of n
abbrev piece : ℕ → Bool → ℕ → List ℕ → ℕ → List ℕ
piece n begins first octets k =
    header_of (eqb (k + 1) n) (begins && eqb k 0) (first + k) ∷ take 249 (drop (249 * k) octets)

piece_same : (p p' q q' : Bool) (m m' : ℕ) (r r' : List ℕ) → p ≡ p' → q ≡ q' → m % 64 ≡ m' % 64 → r ≡ r'
    → header_of p q m ∷ take 249 r ≡ header_of p' q' m' ∷ take 249 r'
piece_same p p' q q' m m' r r' ep eq em er = cc

and-false : (b c : Bool) → c ≡ false → (b && c) ≡ false
and-false true c e = e
and-false false c e = refl

and-true : (b : Bool) → (b && true) ≡ b
and-true true = refl
and-true false = refl

-- a later segment is a segment of the rest, one place earlier
piece-later : (n : ℕ) (begins : Bool) (first : ℕ) (octets : List ℕ) (k : ℕ)
    → piece (suc n) begins first octets (k + 1) ≡ piece n false ((first + 1) % 64) (drop 249 octets) k
piece-later n begins first octets k =
    piece_same _ _ _ _ _ _ _ _
    (same_test (k + 1 + 1) (suc n) (k + 1) n (λ e. omega arith) (λ e. omega arith))
    (and-false begins (eqb (k + 1) 0) (grind (arith, nat_tests)))
    (omega arith)
    (ap (λ (j : ℕ). drop j octets) (omega arith) ∙ sym (drop-drop (249 * k) 249 octets))

piece-first : (n : ℕ) (begins : Bool) (first : ℕ) (octets : List ℕ) → eqb 1 (suc n) ≡ eqb (length (drop 249 octets)) 0
    → piece (suc n) begins first octets 0 ≡ header_of (eqb (length (drop 249 octets)) 0) begins first ∷ take 249 octets
piece-first n begins first octets last = piece_same _ _ _ _ _ _ _ _ last (and-true begins) (omega arith) refl

pub segments_from-nil : (begins : Bool) (first : ℕ) → segments_from begins first [] ≡ []
unfolding segments_from
segments_from-nil begins first = refl

count_rest : (octets : List ℕ) → 0 < length octets
    → segment_count (length octets) ≡ suc (segment_count (length (drop 249 octets)))
count_rest octets some = rw length-drop (omega arith)

ends_test : (octets : List ℕ) (n : ℕ) → n ≡ segment_count (length (drop 249 octets))
    → eqb 1 (suc n) ≡ eqb (length (drop 249 octets)) 0
ends_test octets n e = same_test 1 (suc n) (length (drop 249 octets)) 0 (λ h. omega arith) (λ h. omega arith)

pub segments_from-cons : (begins : Bool) (first : ℕ) (octets : List ℕ) → 0 < length octets
    → segments_from begins first octets ≡ (header_of (eqb (length (drop 249 octets)) 0) begins first ∷ take 249 octets)
    ∷ segments_from false ((first + 1) % 64) (drop 249 octets)
unfolding segments_from
segments_from-cons begins first octets some =
    let n = segment_count (length (drop 249 octets)) in
    let head = piece-first n begins first octets (ends_test octets n refl) in
    let tail = map_shifted (piece (suc n) begins first octets) (piece n false ((first + 1) % 64) (drop 249 octets)) 0 n
    (piece-later n begins first octets) in
    ap (λ (m : ℕ). map (piece m begins first octets) (range_with_len 0 m)) (count_rest octets some)
    ∙ (ap (λ (h : List ℕ). h ∷ map (piece (suc n) begins first octets) (range_with_len 1 n)) head
    ∙ ap (λ (t : List (List ℕ)). (header_of (eqb (length (drop 249 octets)) 0) begins first ∷ take 249 octets) ∷ t)
    tail)

-- the same, of octets that are parted at 249 or at their end
pub segments_from-parted : (begins : Bool) (first : ℕ) (octets front back : List ℕ) (n : ℕ) → 0 < length octets
    → n ≡ min 249 (length octets) → front ≡ take n octets → back ≡ drop n octets
    → segments_from begins first octets
    ≡ (header_of (eqb (length back) 0) begins first ∷ front) ∷ segments_from false ((first + 1) % 64) back
segments_from-parted begins first octets front back n some en ef eb =
    let taken : front ≡ take 249 octets = ef ∙ (ap (λ (j : ℕ). take j octets) en ∙ take_min 249 octets) in
    let dropped : back ≡ drop 249 octets = eb ∙ (ap (λ (j : ℕ). drop j octets) en ∙ drop_min 249 octets) in
    rw (taken, dropped) (segments_from-cons begins first octets some)
