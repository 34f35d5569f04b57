-- A feed that is asked until it gives no APDU.
use Rattle.std.proofs.Common.{◌≡◌, ℕ, ◌+◌, ◌<◌, ◌≤◌, List, [], ◌∷◌, ◌++◌, length}
use Rattle.std.proofs.Common.{get_or, take, drop, Option, Some, None, Result, Ok, Err, refl}
use Rattle.std.proofs.Common.{sym, ◌∙◌, ap, subst, arith, append_assoc, length-drop}
use Rattle.std.specs.Prelude.{map}
use Rattle.std.specs.List.{flat_map}
use Rattle.std.proofs.lemmas.List.{append-nil, map_push, take_more, take_all}
use Rattle.std.proofs.lemmas.Grind.{flat_map-append}
use Rattle.iec_apci.specs.declared.apdu.Apdu.{Apdu}
use Rattle.iec_apci.specs.declared.fault.ApciFault.{ApciFault}
use Rattle.iec_apci.specs.Apdu.{ApduContent, apdu}
use Rattle.iec_apci.specs.ApduContent.{content, content_if_ok}
use Rattle.iec_apci.specs.Stream.{answer_at_front, Ending, Open, Faulty, Reading, reading_with_first, reading}
use Rattle.iec_apci.specs.Calls.{ending_after_piece, answer, ending_behind, ending_after_answer, reading_of_ending}
use Rattle.iec_apci.specs.Laws.{joined_readings, fault_of}
use Rattle.iec_apci.proofs.Front.{Shown, front_taken}
use Rattle.iec_apci.proofs.Streams.{reading_apdu, reading_fault, reading_none, reading-append, size_held}

-- an APDU that is given is the first of what is said, and fewer octets are held back then
record Gave (held : Ending) (c : ApduContent) : Type 0 where
  pub said : reading_of_ending held ≡ reading_with_first c (reading_of_ending (ending_after_answer held))
  pub fewer : size_held (ending_after_answer held) < size_held held

open_gave : (octets : List ℕ) (o : Option Shown) (c : ApduContent) → answer_at_front octets ≡ o → o ≡ Some (Ok c)
    → (reading octets ≡ reading_with_first c (reading_of_ending (ending_behind octets o)))
    × (size_held (ending_behind octets o) < length octets)
open_gave octets o c front is =
    let shown : answer_at_front octets ≡ Some (Ok c) = front ∙ is in
    let fewer : length (drop (length (apdu c)) octets) < length octets =
    omega (arith, front_taken octets c shown, length-drop (length (apdu c)) octets) in
    subst (λ (x : Option Shown). (reading octets ≡ reading_with_first c (reading_of_ending (ending_behind octets x)))
    × (size_held (ending_behind octets x) < length octets)) (sym is) (reading_apdu octets c shown, fewer)

err_ok : (f : ApciFault) (c : ApduContent) → ◌≡◌ {A = Option Shown} (Some (Err f)) (Some (Ok c)) → ⊥
err_ok f c h = cc

gave : (held : Ending) (c : ApduContent) → answer held ≡ Some (Ok c) → Gave held c
gave (Open octets) c h =
    let g = open_gave octets (answer_at_front octets) c refl h in
    record { said = g.0; fewer = g.1 }
gave (Faulty f) c h = absurd (err_ok f c h)

-- nothing more is said
record Ended (held : Ending) (o : Option ApciFault) : Type 0 where
  pub said : reading_of_ending held ≡ record { apdus = []; ending = ending_after_answer held }
  pub fault : o ≡ fault_of (ending_after_answer held)

open_none : (octets : List ℕ) (o : Option Shown) → answer_at_front octets ≡ o → o ≡ None
    → (reading octets ≡ record { apdus = []; ending = ending_behind octets o })
    × (None ≡ fault_of (ending_behind octets o))
open_none octets o front is =
    subst (λ (x : Option Shown). (reading octets ≡ record { apdus = []; ending = ending_behind octets x })
    × (None ≡ fault_of (ending_behind octets x))) (sym is) (reading_none octets (front ∙ is), refl)

open_fault : (octets : List ℕ) (o : Option Shown) (f : ApciFault) → answer_at_front octets ≡ o → o ≡ Some (Err f)
    → (reading octets ≡ record { apdus = []; ending = ending_behind octets o })
    × (Some f ≡ fault_of (ending_behind octets o))
open_fault octets o f front is =
    subst (λ (x : Option Shown). (reading octets ≡ record { apdus = []; ending = ending_behind octets x })
    × (Some f ≡ fault_of (ending_behind octets x))) (sym is) (reading_fault octets f (front ∙ is), refl)

none_err : (f : ApciFault) → ◌≡◌ {A = Option Shown} (Some (Err f)) None → ⊥
none_err f h = cc

err_is : (f g : ApciFault) → ◌≡◌ {A = Option Shown} (Some (Err f)) (Some (Err g)) → g ≡ f
err_is f g h = cc

gave_none : (held : Ending) → answer held ≡ None → Ended held None
gave_none (Open octets) h =
    let g = open_none octets (answer_at_front octets) refl h in
    record { said = g.0; fault = g.1 }
gave_none (Faulty f) h = absurd (none_err f h)

gave_fault : (held : Ending) (f : ApciFault) → answer held ≡ Some (Err f) → Ended held (Some f)
gave_fault (Open octets) f h =
    let g = open_fault octets (answer_at_front octets) f refl h in
    record { said = g.0; fault = g.1 }
gave_fault (Faulty g) f h = record { said = refl; fault = ap (λ (x : ApciFault). Some x) (err_is g f h) }

-- what the loop keeps after one more APDU, and that it ends
pub record Goes (xs all : List ApduContent) (held last before : Ending) : Type 0 where
  pub apdus : xs ++ (reading_of_ending held).apdus ≡ all
  pub rest : (reading_of_ending held).ending ≡ last
  pub fewer : size_held held < size_held before

pub goes_on : (old new : List Apdu) (r : Result Apdu ApciFault) (a : Apdu) (held next last : Ending)
    (all : List ApduContent) → r ≡ Ok a → Some (content_if_ok r) ≡ answer held → next ≡ ending_after_answer held
    → new ≡ old ++ a ∷ []
    → map content old ++ (reading_of_ending held).apdus ≡ all → (reading_of_ending held).ending ≡ last
    → Goes (map content new) all next last held
goes_on old new r a held next last all is answered after pushed apdus rest =
    let g = gave held (content a) (sym answered ∙ ap (λ x. Some (content_if_ok x)) is) in
    subst (λ (x : Ending). Goes (map content new) all x last held) (sym after) (record {
      apdus =
          ap (λ xs. map content xs ++ (reading_of_ending (ending_after_answer held)).apdus) pushed
          ∙ (ap (λ t. t ++ (reading_of_ending (ending_after_answer held)).apdus) (map_push content old a)
          ∙ (append_assoc (map content old) (content a ∷ []) (reading_of_ending (ending_after_answer held)).apdus
          ∙ (ap (λ (x : Reading). map content old ++ x.apdus) (sym g.said) ∙ apdus)));
      rest = ap (λ (x : Reading). x.ending) (sym g.said) ∙ rest;
      fewer = g.fewer;
    })

-- what holds once it gave none
pub record Done (xs all : List ApduContent) (next last : Ending) (o : Option ApciFault) : Type 0 where
  pub apdus : xs ≡ all
  pub rest : next ≡ last
  pub fault : o ≡ fault_of last

is_done : (xs all : List ApduContent) (held next last : Ending) (o : Option ApciFault) → Ended held o
    → next ≡ ending_after_answer held → xs ++ (reading_of_ending held).apdus ≡ all
    → (reading_of_ending held).ending ≡ last → Done xs all next last o
is_done xs all held next last o e after apdus rest =
    let ends : ending_after_answer held ≡ last = ap (λ (x : Reading). x.ending) (sym e.said) ∙ rest in
    record {
      apdus = sym (append-nil xs) ∙ (ap (λ (x : Reading). xs ++ x.apdus) (sym e.said) ∙ apdus);
      rest = after ∙ ends;
      fault = e.fault ∙ ap fault_of ends;
    }

pub done_none : (xs all : List ApduContent) (held next last : Ending) → None ≡ answer held
    → next ≡ ending_after_answer held → xs ++ (reading_of_ending held).apdus ≡ all
    → (reading_of_ending held).ending ≡ last → Done xs all next last None
done_none xs all held next last answered after apdus rest =
    is_done xs all held next last None (gave_none held (sym answered)) after apdus rest

pub done_fault : (xs all : List ApduContent) (r : Result Apdu ApciFault) (f : ApciFault) (held next last : Ending)
    → r ≡ Err f → Some (content_if_ok r) ≡ answer held → next ≡ ending_after_answer held
    → xs ++ (reading_of_ending held).apdus ≡ all → (reading_of_ending held).ending ≡ last
    → Done xs all next last (Some f)
done_fault xs all r f held next last is answered after apdus rest =
    is_done xs all held next last (Some f)
    (gave_fault held f (sym answered ∙ ap (λ x. Some (content_if_ok x)) is)) after apdus rest

pub reading_nil : reading [] ≡ record { apdus = []; ending = Open [] }
unfolding reading
reading_nil = refl

-- what was said so far, of octets
pub record Said (octets : List ℕ) (xs : List ApduContent) (held : Ending) (fault : Option ApciFault) : Type 0 where
  pub apdus : xs ≡ (reading octets).apdus
  pub held_back : held ≡ (reading octets).ending
  pub met : fault ≡ fault_of held

pub said_nil : Said [] [] (Open []) None
said_nil = record {
  apdus = ap (λ (r : Reading). r.apdus) (sym reading_nil);
  held_back = ap (λ (r : Reading). r.ending) (sym reading_nil);
  met = refl;
}

said_more : (octets piece : List ℕ) (xs ys : List ApduContent) (held given next : Ending) (f g : Option ApciFault)
    → Said octets xs held f → given ≡ ending_after_piece held piece → ys ≡ xs ++ (reading_of_ending given).apdus
    → next ≡ (reading_of_ending given).ending → g ≡ fault_of (reading_of_ending given).ending
    → Said (octets ++ piece) ys next g
said_more octets piece xs ys held given next f g s given_is apdus rest fault =
    let same : given ≡ ending_after_piece (reading octets).ending piece =
    given_is ∙ ap (λ (e : Ending). ending_after_piece e piece) s.held_back in
    let whole : reading (octets ++ piece) ≡ joined_readings (reading octets) (reading_of_ending given) =
    reading-append octets piece
    ∙ ap (λ (e : Ending). joined_readings (reading octets) (reading_of_ending e)) (sym same) in
    record {
      apdus =
          apdus ∙ (ap (λ t. t ++ (reading_of_ending given).apdus) s.apdus ∙ ap (λ (r : Reading). r.apdus) (sym whole));
      held_back = rest ∙ ap (λ (r : Reading). r.ending) (sym whole);
      met = fault ∙ ap fault_of (sym rest);
    }

-- what was said of the first i pieces, and of one more
pub said_next : {X : Type 0} (now : X → List ℕ) (pieces : List X) (i : ℕ) (d : X) (xs ys : List ApduContent)
    (held given next : Ending) (f g : Option ApciFault) → i < length pieces
    → Said (flat_map now (take i pieces)) xs held f → given ≡ ending_after_piece held (now (get_or pieces i d))
    → ys ≡ xs ++ (reading_of_ending given).apdus → next ≡ (reading_of_ending given).ending
    → g ≡ fault_of (reading_of_ending given).ending
    → Said (flat_map now (take (i + 1) pieces)) ys next g
said_next now pieces i d xs ys held given next f g lt s given_is apdus rest fault =
    let octets : flat_map now (take (i + 1) pieces) ≡ flat_map now (take i pieces) ++ now (get_or pieces i d) =
    ap (flat_map now) (take_more pieces i d lt)
    ∙ (flat_map-append now (take i pieces) (get_or pieces i d ∷ [])
    ∙ ap (λ (x : List ℕ). flat_map now (take i pieces) ++ x) (append-nil (now (get_or pieces i d)))) in
    subst (λ (o : List ℕ). Said o ys next g) (sym octets) (said_more (flat_map now (take i pieces))
    (now (get_or pieces i d)) xs ys held given next f g s given_is apdus rest fault)

-- and of all
pub said_all : {X : Type 0} (now : X → List ℕ) (pieces : List X) (i : ℕ) (xs : List ApduContent) (held : Ending)
    (f : Option ApciFault) → length pieces ≤ i → Said (flat_map now (take i pieces)) xs held f
    → Said (flat_map now pieces) xs held f
said_all now pieces i xs held f le s = subst (λ t. Said (flat_map now t) xs held f) (take_all i pieces le) s

pub said_new : (xs : List Apdu) (held : Ending) → xs ≡ [] → held ≡ Open [] → Said [] (map content xs) held None
said_new xs held none new =
    subst (λ (t : List Apdu). Said [] (map content t) held None) (sym none)
    (subst (λ (e : Ending). Said [] [] e None) (sym new) said_nil)
