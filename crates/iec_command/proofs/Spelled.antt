-- What is read is spelled so, and its fields have the bits of their places.
use Rattle.std.proofs.Common.{◌≡◌, ℕ, suc, ◌+◌, ◌*◌, ◌/◌, ◌%◌, ◌<◌, Bool, true, false}
use Rattle.std.proofs.Common.{not, ◌||◌, eqb, nat_lt, List, [], ◌∷◌, length, Result, Ok, Err}
use Rattle.std.proofs.Common.{IfOk, refl, sym, ap, subst, arith, ltb-false, eqb-true}
use Rattle.std.specs.Prelude.{slice_index}
use Rattle.std.proofs.lemmas.Bool.{not-false}
use Rattle.std.specs.Int.{w16, from_le_bytes}
use Rattle.gw_model.specs.First.{when, first_of}
use Rattle.gw_model.specs.Octets.{AreOctets}
use Rattle.iec_command.specs.declared.command.Command.{Command}
use Rattle.iec_command.specs.declared.fault.CommandFault.{CommandFault}
use Rattle.iec_command.specs.declared.fault.CommandFault.TheVariants.{Short, Long, UnknownType, Count}
use Rattle.iec_command.specs.Commands.{type_of, element_of, spelling, is_known, element_length}
use Rattle.iec_command.specs.Commands.{action_of, command_in, unless, command_of, IsWholeAction, IsWhole}
use Rattle.iec_command.proofs.Octets.{cause_again, single_again, double_again, setpoint_again, cast_fits}

-- ---- an element

-- what an element of this type tells has its type and its octets
record IsTyped (t : ℕ) (element : List ℕ) : Type 0 where
  pub type : type_of (action_of t element) ≡ t
  pub octets : element_of (action_of t element) ≡ element
  pub whole : IsWholeAction (action_of t element)

-- of a type, each element that is as long as those of the type
abbrev EachIsTyped : ℕ → Type 0
EachIsTyped t = (element : List ℕ) → length element ≡ element_length t → AreOctets element → IsTyped t element

single_typed : (element : List ℕ) → length element ≡ 1 → AreOctets element → IsTyped 45 element
single_typed (sco ∷ []) long are =
    record { type = refl; octets = ap (λ n. n ∷ []) (single_again sco (are 0)); whole = omega arith }
single_typed _ long are = absurd (omega arith)

double_typed : (element : List ℕ) → length element ≡ 1 → AreOctets element → IsTyped 46 element
double_typed (dco ∷ []) long are = record {
  type = refl;
  octets = ap (λ n. n ∷ []) (double_again dco (are 0));
  whole = (omega arith, omega arith);
}
double_typed _ long are = absurd (omega arith)

setpoint_typed : (element : List ℕ) → length element ≡ 3 → AreOctets element → IsTyped 49 element
setpoint_typed (low ∷ high ∷ qos ∷ []) long are =
    let small_low : low < 256 = are 0 in
    let small_high : high < 256 = are 1 in
    record {
      type = refl;
      octets = setpoint_again low high qos small_low small_high (are 2);
      whole = (cast_fits (from_le_bytes w16 (low ∷ high ∷ qos ∷ [])) (omega arith), omega arith);
    }
setpoint_typed _ long are = absurd (omega arith)

interrogation_typed : (element : List ℕ) → length element ≡ 1 → AreOctets element → IsTyped 100 element
interrogation_typed (qoi ∷ []) long are = record { type = refl; octets = refl; whole = are 0 }
interrogation_typed _ long are = absurd (omega arith)

counters_typed : (element : List ℕ) → length element ≡ 1 → AreOctets element → IsTyped 101 element
counters_typed (qcc ∷ []) long are = record { type = refl; octets = refl; whole = are 0 }
counters_typed _ long are = absurd (omega arith)

read_typed : (element : List ℕ) → length element ≡ 0 → AreOctets element → IsTyped 102 element
read_typed [] long are = record { type = refl; octets = refl; whole = tt }
read_typed _ long are = absurd (omega arith)

either : {P : Type 0} (x y : Bool) → (x ≡ true → P) → (y ≡ true → P) → (x || y) ≡ true → P
either true y f g e = f refl
either false y f g e = g e

typed_at : (n t : ℕ) → EachIsTyped n → eqb t n ≡ true → EachIsTyped t
typed_at n t typed e = subst EachIsTyped (sym (eqb-true t n e)) typed

-- each known type
each_typed : (t : ℕ) → is_known t ≡ true → EachIsTyped t
each_typed t =
    let to_46 = eqb t 45 || eqb t 46 in
    let to_49 = to_46 || eqb t 49 in
    let to_100 = to_49 || eqb t 100 in
    let to_101 = to_100 || eqb t 101 in
    either to_101 (eqb t 102)
    (either to_100 (eqb t 101)
    (either to_49 (eqb t 100)
    (either to_46 (eqb t 49)
    (either (eqb t 45) (eqb t 46) (typed_at 45 t single_typed) (typed_at 46 t double_typed))
    (typed_at 49 t setpoint_typed))
    (typed_at 100 t interrogation_typed))
    (typed_at 101 t counters_typed))
    (typed_at 102 t read_typed)

-- ---- a whole command

-- the octets are those of this command, whose fields have the bits of their places
pub record IsTold (octets : List ℕ) (c : Command) : Type 0 where
  pub spelled : spelling c ≡ octets
  pub whole : IsWhole c

cons : {x y : ℕ} {xs ys : List ℕ} → x ≡ y → xs ≡ ys → x ∷ xs ≡ y ∷ ys
cons e f = λ i. e i ∷ f i

told_in : (octets : List ℕ) → AreOctets octets → is_known (slice_index octets 0) ≡ true → slice_index octets 1 ≡ 1
    → length octets ≡ 9 + element_length (slice_index octets 0) → IsTold octets (command_in octets)
told_in (t ∷ n ∷ k ∷ o ∷ l ∷ h ∷ a ∷ b ∷ c ∷ element) are known one long =
    let behind : AreOctets element = λ i. are (suc (suc (suc (suc (suc (suc (suc (suc (suc i))))))))) in
    let typed = each_typed t known element (omega (arith, long)) behind in
    let small_k : k < 256 = are 2 in
    let small_o : o < 256 = are 3 in
    let small_l : l < 256 = are 4 in
    let small_h : h < 256 = are 5 in
    let small_a : a < 256 = are 6 in
    let small_b : b < 256 = are 7 in
    let small_c : c < 256 = are 8 in
    let address = a + 256 * b + 65536 * c in
    let first_common : (l + 256 * h) % 256 ≡ l = omega arith in
    let second_common : (l + 256 * h) / 256 % 256 ≡ h = omega arith in
    let first : address % 256 ≡ a = omega arith in
    let second : address / 256 % 256 ≡ b = omega arith in
    let third : address / 65536 % 256 ≡ c = omega arith in
    record {
      spelled = cons typed.type (cons (sym one) (cons (cause_again k small_k) (cons refl
          (cons first_common (cons second_common (cons first (cons second (cons third typed.octets))))))));
      whole = record {
        cause = omega arith;
        originator = small_o;
        common_address = omega arith;
        address = omega arith;
        action = typed.whole;
      };
    }
told_in _ are known one long = absurd (omega arith)

-- the tests for faults, one after another
abbrev tested : Bool → Bool → Bool → Bool → Bool → Command → Result Command CommandFault
tested header type count short long c =
    let faults =
    when header Short ∷ when type UnknownType ∷ when count Count ∷ when short Short ∷ when long Long ∷ [] in
    unless (first_of faults) c

-- no test told a fault
record IsFree (header type count short long : Bool) (c d : Command) : Type 0 where
  pub no_type : type ≡ false
  pub no_count : count ≡ false
  pub no_short : short ≡ false
  pub no_long : long ≡ false
  pub same : c ≡ d

free : (header type count short long : Bool) (c d : Command) → tested header type count short long c ≡ Ok d
    → IsFree header type count short long c d
free false false false false false c d e =
    record { no_type = refl; no_count = refl; no_short = refl; no_long = refl; same = cc }
free _ _ _ _ _ c d e = absurd cc

pub told : (octets : List ℕ) (c : Command) → AreOctets octets → command_of octets ≡ Ok c → IsTold octets c
unfolding command_of
told octets c are e =
    let t = slice_index octets 0 in
    let whole = 9 + element_length t in
    let n = length octets in
    let other_count = not (eqb (slice_index octets 1) 1) in
    let other_type = not (is_known t) in
    let f = free (nat_lt n 6) other_type other_count (nat_lt n whole) (nat_lt whole n) (command_in octets) c e in
    let known : is_known t ≡ true = not-false (is_known t) f.no_type in
    let one : slice_index octets 1 ≡ 1 =
    eqb-true (slice_index octets 1) 1 (not-false (eqb (slice_index octets 1) 1) f.no_count) in
    let long : n ≡ whole = omega (arith, ltb-false n whole f.no_short, ltb-false whole n f.no_long) in
    subst (λ (d : Command). IsTold octets d) f.same (told_in octets are known one long)

-- ---- what a call gives

pub found_for : (octets : List ℕ) (result : Result Command CommandFault) → AreOctets octets
    → result ≡ command_of octets → IfOk result (λ c. spelling c ≡ octets)
found_for octets (Ok c) are e = (told octets c are (sym e)).spelled
found_for octets (Err fault) are e = tt

pub whole_for : (octets : List ℕ) (result : Result Command CommandFault) → AreOctets octets
    → result ≡ command_of octets → IfOk result IsWhole
whole_for octets (Ok c) are e = (told octets c are (sym e)).whole
whole_for octets (Err fault) are e = tt
