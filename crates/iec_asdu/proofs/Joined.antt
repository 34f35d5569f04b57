-- What is read is what the octets mean, and a fault comes only where they mean nothing.
use Rattle.std.proofs.Common.{◌≡◌, ℕ, zero, suc, ◌+◌, ◌*◌, ◌==◌, Bool, true, false, cond}
use Rattle.std.proofs.Common.{nat_lt, List, [], ◌∷◌, length, drop, Option, Some, None}
use Rattle.std.proofs.Common.{Result, Ok, Err, refl, sym, ap, ◌∙◌, subst, arith, inl, inr}
use Rattle.std.specs.Prelude.{IfOk, ok_or}
use Rattle.std.specs.Result.{result_ok}
use Rattle.std.proofs.lemmas.Bool.{cases_order, le-ltb, lt-ltb, eq-eqb, ne_eqb}
use Rattle.gw_model.specs.declared.point.Stamp.{Stamp}
use Rattle.gw_model.specs.declared.observation.Value.{Value}
use Rattle.gw_model.specs.declared.observation.Quality.{Quality}
use Rattle.gw_model.specs.declared.observation.Observation.{Observation}
use Rattle.iec_asdu.specs.declared.fault.AsduFault.{AsduFault}
use Rattle.iec_asdu.specs.declared.fault.AsduFault.TheVariants.{Short, Long, UnknownType, Reserved, Tag}
use Rattle.iec_asdu.specs.declared.reading.Monitor.{Monitor}
use Rattle.gw_model.specs.Optional.{◌>>=◌}
use Rattle.gw_model.specs.Outcome.{Gives}
use Rattle.iec_asdu.specs.Types.{Layout}
use Rattle.iec_asdu.specs.Asdu.{Asdu, size_of, address_at, observation_of, observation_at}
use Rattle.iec_asdu.specs.Asdu.{objects_apart, objects_in_sequence, objects_of, asdu_meaning}
use Rattle.iec_asdu.specs.Grammar.{IsAsdu}
use Rattle.iec_asdu.specs.Reading.{object_read, read_apart, read_in_sequence, objects_read, asdu_read, is_memory}
use Rattle.iec_asdu.specs.Contents.{Contents, contents_of, Spells, monitor_contents, contents_read}
use Rattle.iec_asdu.proofs.Spelled.{meaning_is_spelled}

-- one reading after another
abbrev then_read : {A B : Type 0} → Result A AsduFault → (A → Result B AsduFault) → Result B AsduFault
then_read (Ok x) f = f x
then_read (Err e) f = Err e

-- ---- objects

object_parts : (common address : ℕ) (s : Option (Value × Quality)) (t : Option Stamp)
    → result_ok
    (then_read (ok_or s Reserved)
    (λ value. then_read (ok_or t Tag) (λ stamp. Ok (observation_of common address value stamp))))
    ≡ (s >>= λ value. (t >>= λ stamp. Some (observation_of common address value stamp)))
object_parts common address None t = refl
object_parts common address (Some s) None = refl
object_parts common address (Some s) (Some t) = refl

object_given : (common address : ℕ) (layout : Layout) (octets : List ℕ)
    → result_ok (object_read common address layout octets) ≡ observation_at common address layout octets
object_given common address layout octets = object_parts common address _ _

two_given : (r : Result Observation AsduFault) (rs : Result (List Observation) AsduFault) (o : Option Observation)
    (os : Option (List Observation)) → result_ok r ≡ o → result_ok rs ≡ os
    → result_ok (then_read r (λ x. then_read rs (λ xs. Ok (x ∷ xs)))) ≡ (o >>= λ x. (os >>= λ xs. Some (x ∷ xs)))
two_given (Ok x) (Ok xs) o os e f = rw (← e, ← f) refl
two_given (Ok x) (Err d) o os e f = rw (← e, ← f) refl
two_given (Err d) rs o os e f = rw (← e) refl

apart_given : (common : ℕ) (layout : Layout) (n : ℕ) (octets : List ℕ)
    → result_ok (read_apart common layout n octets) ≡ objects_apart common layout n octets
unfolding read_apart objects_apart
apart_given common layout zero octets = refl
apart_given common layout (suc n) octets =
    two_given _ _ _ _ (object_given common _ layout _) (apart_given common layout n _)

sequence_given : (common : ℕ) (layout : Layout) (n address : ℕ) (octets : List ℕ)
    → result_ok (read_in_sequence common layout n address octets) ≡ objects_in_sequence common layout n address octets
unfolding read_in_sequence objects_in_sequence
sequence_given common layout zero address octets = refl
sequence_given common layout (suc n) address octets =
    two_given _ _ _ _ (object_given common address layout _) (sequence_given common layout n (address + 1) _)

by_length : (has wanted : ℕ) (r : Result (List Observation) AsduFault) (o : Option (List Observation)) → result_ok r ≡ o
    → result_ok (cond (nat_lt has wanted) (Err Short) (cond (nat_lt wanted has) (Err Long) r))
    ≡ cond (has == wanted) o None
by_length has wanted r o e =
    elim (cases_order has wanted) [
      | inl same ↦ rw (le-ltb has wanted (omega arith), le-ltb wanted has (omega arith), eq-eqb has wanted same) e
      | inr (inl lt) ↦ rw (lt-ltb has wanted lt, ne_eqb has wanted (λ e. omega arith)) refl
      | inr (inr gt) ↦
          rw (le-ltb has wanted (omega arith), lt-ltb wanted has gt, ne_eqb has wanted (λ e. omega arith)) refl
    ]

objects_given : (common : ℕ) (layout : Layout) (sequence : Bool) (n : ℕ) (octets : List ℕ)
    → result_ok (objects_read common layout sequence n octets) ≡ objects_of common layout sequence n octets
unfolding objects_read objects_of
objects_given common layout sequence zero octets = refl
objects_given common layout true (suc n) octets =
    rw (ne_eqb (suc n) 0 (λ e. omega arith))
    (by_length (length octets) (3 + suc n * size_of layout) _ _
    (sequence_given common layout (suc n) (address_at octets) (drop 3 octets)))
objects_given common layout false (suc n) octets =
    rw (ne_eqb (suc n) 0 (λ e. omega arith))
    (by_length (length octets) (suc n * (3 + size_of layout)) (read_apart common layout (suc n) octets)
    (objects_apart common layout (suc n) octets) (apart_given common layout (suc n) octets))

-- ---- the whole

objects_made : (r : Result (List Observation) AsduFault) (o : Option (List Observation))
    (make : List Observation → Asdu) → result_ok r ≡ o
    → result_ok (then_read r (λ xs. Ok (make xs))) ≡ (o >>= λ xs. Some (make xs))
objects_made (Ok xs) o make e = rw (← e) refl
objects_made (Err d) o make e = rw (← e) refl

header_given : (l : Option Layout) (read : Layout → Result (List Observation) AsduFault)
    (of : Layout → Option (List Observation)) (make : List Observation → Asdu)
    → ((layout : Layout) → result_ok (read layout) ≡ of layout)
    → result_ok (then_read (ok_or l UnknownType) (λ layout. then_read (read layout) (λ xs. Ok (make xs))))
    ≡ (l >>= λ layout. (of layout >>= λ xs. Some (make xs)))
header_given None read of make e = refl
header_given (Some layout) read of make e = objects_made (read layout) (of layout) make (e layout)

pub asdu_given : (types : List Layout) (octets : List ℕ)
    → result_ok (asdu_read types octets) ≡ asdu_meaning types octets
unfolding asdu_read asdu_meaning
asdu_given types (identification ∷ qualifier ∷ cause ∷ originator ∷ low ∷ high ∷ objects) =
    rw (le-ltb (length (identification ∷ qualifier ∷ cause ∷ originator ∷ low ∷ high ∷ objects)) 6 (omega arith))
    (header_given _ _ _ (λ xs. record {
      identification = identification;
      cause = cause;
      originator = originator;
      common_address = low + 256 * high;
      observations = xs;
    }) (λ layout. objects_given (low + 256 * high) layout _ _ objects))
asdu_given types [] = refl
asdu_given types (a ∷ []) = refl
asdu_given types (a ∷ b ∷ []) = refl
asdu_given types (a ∷ b ∷ c ∷ []) = refl
asdu_given types (a ∷ b ∷ c ∷ d ∷ []) = refl
asdu_given types (a ∷ b ∷ c ∷ d ∷ e ∷ []) = refl

-- ---- what a call tells

read_some : (r : Result Asdu AsduFault) (c : Contents) → then_read r (λ a. Ok (contents_of a)) ≡ Ok c
    → (a : Asdu) × (r ≡ Ok a) × (contents_of a ≡ c)
read_some (Ok a) c e = (a, refl, cc)
read_some (Err d) c e = absurd cc

pub found_for : (types : List Layout) (octets : List ℕ) (result : Result Monitor AsduFault)
    → Gives is_memory monitor_contents result (contents_read types octets)
    → IfOk result (λ m. Spells types octets (monitor_contents m))
found_for types octets (Ok m) h =
    let r = read_some (asdu_read types octets) (monitor_contents m) h in (
      r.0,
      (meaning_is_spelled types octets r.0).0
          (sym (asdu_given types octets) ∙ ap (λ (x : Result Asdu AsduFault). result_ok x) r.1),
      r.2,
    )
found_for types octets (Err e) h = tt

read_of : (r : Result Asdu AsduFault) (a : Asdu) → result_ok r ≡ Some a → r ≡ Ok a
read_of (Ok b) a e = cc
read_of (Err d) a e = absurd cc

pub only_for : (types : List Layout) (octets : List ℕ) (result : Result Monitor AsduFault)
    → Gives is_memory monitor_contents result (contents_read types octets)
    → (asdu : Asdu) → IsAsdu types octets asdu → Gives is_memory monitor_contents result (Ok (contents_of asdu))
only_for types octets result h asdu is =
    let read : asdu_read types octets ≡ Ok asdu =
    read_of (asdu_read types octets) asdu (asdu_given types octets ∙ (meaning_is_spelled types octets asdu).1 is) in
    subst (λ (r : Result Asdu AsduFault).
    Gives is_memory monitor_contents result (then_read r (λ a. Ok (contents_of a)))) read h
