-- What the requests that operate an output give, read again from their octets.
use Rattle.std.proofs.Common.{◌≡◌, ◌↔◌, ℕ, ℤ, pos, negsuc, ◌+◌, ◌^◌, ◌<◌, Bool, true, false, List, []}
use Rattle.std.proofs.Common.{◌∷◌, ◌++◌, drop, Option, Some, None, refl, sym, ap, subst, ◌∙◌, arith, inl, inr}
use Rattle.std.specs.Prelude.{◌==◌, option_map}
use Rattle.std.specs.Int.{w16, w32, to_le_bytes, cast_unsigned}
use Rattle.std.specs.Int.RustNames.{FitsSigned}
use Rattle.std.proofs.lemmas.Bool.{and_parts, and_from, cases_Bool, eqb-true, eq-eqb}
use Rattle.std.proofs.lemmas.Int.{ints}
use Rattle.std.proofs.lemmas.Nat.{from_le_bytes-to_le_bytes_4}
use Rattle.std.proofs.lemmas.Slice.Eq.{bytes_eq-Decides}
use Rattle.gw_model.specs.Optional.{◌>>=◌}
use Rattle.gw_model.specs.declared.control.Shape.{Shape}
use Rattle.gw_model.specs.declared.control.Shape.TheVariants.{Latch, Pulse}
use Rattle.gw_model.specs.declared.control.Act.{Act}
use Rattle.gw_model.specs.declared.control.Act.TheVariants.{Switch, Set}
use Rattle.dnp_objects.specs.Headers.{number, headers_from}
use Rattle.dnp_objects.specs.Library.{object_of}
use Rattle.dnp_app.specs.declared.echoed.Echo.{Echo}
use Rattle.dnp_app.specs.declared.operation.Operation.{Operation}
use Rattle.dnp_app.specs.declared.operation.Operation.TheVariants.{Select, Operate, DirectOperate}
use Rattle.dnp_app.specs.declared.request.Request.{Request}
use Rattle.dnp_app.specs.declared.response.ApplicationControl.{ApplicationControl}
use Rattle.dnp_app.specs.Asking.{Asking, asking_of}
use Rattle.dnp_app.specs.Control.{control_of}
use Rattle.dnp_app.specs.Echo.{body_of, command_in, echo_taken, is_same_echo, is_taken}
use Rattle.dnp_app.specs.Operating.{operating, operating_of, operates_for, operation_of, operated_in, act_in, signed, switched}
use Rattle.dnp_app.specs.Requests.{control_octets, command_object, function_code, group_of}
use Rattle.dnp_app.specs.Requests.{variation_of, octets_of, on_time, relay_code, request}

-- ---- numbers

number-two : (n : ℕ) → n < 2 ^ 16 → number (to_le_bytes w16 n) ≡ n
number-two n fits = omega arith

number-four : (n : ℕ) → n < 2 ^ 32 → number (to_le_bytes w32 n) ≡ n
number-four n fits = omega (arith, from_le_bytes-to_le_bytes_4 n fits)

unsigned_small : (z : ℤ) → FitsSigned w16 z → cast_unsigned w16 z < 2 ^ 16
unsigned_small (pos n) fit = omega (arith, ints, fit)
unsigned_small (negsuc n) fit = omega (arith, ints)

signed-again : (z : ℤ) → FitsSigned w16 z → signed (cast_unsigned w16 z) ≡ z
signed-again (pos n) fit = grind (arith, ints, fit)
signed-again (negsuc n) fit = grind (arith, ints, fit)

-- ---- the request

-- a pulse's time fits 32 bits, a value 16 bits
abbrev pub FitsObject : Act → Type 0
FitsObject (Switch on shape) = on_time shape < 2 ^ 32
FitsObject (Set value) = FitsSigned w16 value

switched-again : (on : Bool) (shape : Shape) → switched (relay_code on shape) (on_time shape) ≡ Some (Switch on shape)
switched-again true Latch = refl
switched-again false Latch = refl
switched-again true (Pulse milliseconds) = refl
switched-again false (Pulse milliseconds) = refl

act-again : (act : Act) → FitsObject act → act_in (group_of act) (variation_of act) (command_object act) ≡ Some act
act-again (Switch on shape) fits = rw (number-four (on_time shape) fits) (switched-again on shape)
act-again (Set value) fits =
    rw (number-two (cast_unsigned w16 value) (unsigned_small value fits), signed-again value fits) refl

operation-again : (operation : Operation) → operation_of (function_code operation) ≡ Some operation
operation-again Select = refl
operation-again Operate = refl
operation-again DirectOperate = refl

found_with : (i index : ℕ) (read : Option Act) (act : Act) → i ≡ index → read ≡ Some act
    → option_map {U = ℕ × Act} (λ (a : Act). (i, a)) read ≡ Some (index, act)
found_with i index read act e f = rw (e, f) refl

object-again : (index : ℕ) (act : Act) → index < 2 ^ 16 → FitsObject act
    → operated_in (group_of act ∷ variation_of act ∷ 0x28 ∷ 1 ∷ 0 ∷ (to_le_bytes w16 index ++ command_object act))
    ≡ Some (index, act)
object-again index act small fits =
    found_with (number (to_le_bytes w16 index)) index
    (act_in (group_of act) (variation_of act) (command_object act)) act (number-two index small) (act-again act fits)

whole : (octet function : ℕ) (control : ApplicationControl) (operation : Operation) (index : ℕ) (act : Act)
    (found : Option (ℕ × Act)) → control_of octet ≡ control → operation_of function ≡ Some operation
    → found ≡ Some (index, act)
    → (operation_of function >>= λ o. option_map (λ (x : ℕ × Act). operating (control_of octet) o x.0 x.1) found)
    ≡ Some (operating control operation index act)
whole octet function control operation index act found e f g = rw (e, f, g) refl

control-again : (sequence : ℕ) → sequence < 16
    → control_of (192 + sequence) ≡ record { fir = true; fin = true; con = false; uns = false; sequence = sequence }
control-again sequence small = grind arith

octets-again : (operation : Operation) (index : ℕ) (act : Act) (sequence : ℕ) → sequence < 16 → index < 2 ^ 16
    → FitsObject act
    → operating_of (control_octets operation index act sequence) ≡ operates_for sequence operation index act
octets-again operation index act sequence small short fits =
    whole (192 + sequence) (function_code operation) _ operation index act _ (control-again sequence small)
    (operation-again operation) (object-again index act short fits)

whole_request : (operation : Operation) (index : ℕ) (act : Act) (sequence : ℕ)
    → octets_of (request (control_octets operation index act sequence)) ≡ control_octets operation index act sequence
whole_request operation index (Switch on shape) sequence = refl
whole_request operation index (Set value) sequence = refl

-- a request of an operation is read as that operation of its act
pub operates_again : (operation : Operation) (index : ℕ) (act : Act) (sequence : ℕ) → sequence < 16 → index < 2 ^ 16
    → FitsObject act
    → operating_of (octets_of (request (control_octets operation index act sequence)))
    ≡ operates_for sequence operation index act
operates_again operation index act sequence small short fits =
    ap operating_of (whole_request operation index act sequence)
    ∙ octets-again operation index act sequence small short fits

pub operates_as : (operation : Operation) (index : ℕ) (act same : Act) (sequence : ℕ) (written : Request)
    → sequence < 16 → index < 2 ^ 16 → act ≡ same → FitsObject same
    → written ≡ request (control_octets operation index act sequence)
    → operating_of (octets_of written) ≡ operates_for sequence operation index act
operates_as operation index act same sequence written small short is fits e =
    ap (λ (r : Request). operating_of (octets_of r)) e
    ∙ operates_again operation index act sequence small short (subst FitsObject (sym is) fits)

-- ---- its echo

abbrev echo_at : ℕ → ℕ → List ℕ → Option Echo
echo_at index group body = Some (record { index = index; group = group; body = body; status = 0 })

-- the command in a request is the echo that says that it was taken
command_sent : (operation : Operation) (index : ℕ) (act : Act) (sequence : ℕ) → index < 2 ^ 16
    → command_in (drop 2 (control_octets operation index act sequence)) ≡ Some (echo_taken index act)
unfolding headers_from object_of
command_sent operation index (Switch on shape) sequence short =
    ap (λ (i : ℕ). echo_at i 12 (body_of (command_object (Switch on shape)))) (number-two index short)
command_sent operation index (Set value) sequence short =
    ap (λ (i : ℕ). echo_at i 41 (body_of (command_object (Set value)))) (number-two index short)

same_fields : (e other : Echo) → e.index ≡ other.index → e.group ≡ other.group → e.status ≡ other.status
    → e.body ≡ other.body → e ≡ other
same_fields e other index group status body i =
    record { index = index i; group = group i; body = body i; status = status i }

same_echo : (e other : Echo) → is_same_echo e other ≡ true → e ≡ other
same_echo e other is =
    let last = and_parts _ _ is in
    let third = and_parts _ _ last.0 in
    let front = and_parts _ _ third.0 in
    same_fields e other (eqb-true _ _ front.0) (eqb-true _ _ front.1) (eqb-true _ _ third.1)
    ((bytes_eq-Decides e.body other.body).0 last.1)

echo_is_same : (e : Echo) → is_same_echo e e ≡ true
echo_is_same e =
    and_from _ _ (and_from _ _ (and_from _ _ (eq-eqb e.index e.index refl) (eq-eqb e.group e.group refl))
    (eq-eqb e.status e.status refl)) ((bytes_eq-Decides e.body e.body).1 refl)

taken_is : (index : ℕ) (act : Act) (e : Option Echo) → is_taken index act e ≡ true → e ≡ Some (echo_taken index act)
taken_is index act None is = absurd cc
taken_is index act (Some e) is = ap Some (same_echo e (echo_taken index act) is)

-- an echo says that an act was taken exactly where it is the command of the request
pub taken_as_sent : (operation : Operation) (index : ℕ) (act : Act) (sequence : ℕ) (e : Option Echo) → index < 2 ^ 16
    → (is_taken index act e ≡ true) ↔ (e ≡ command_in (drop 2 (control_octets operation index act sequence)))
taken_as_sent operation index act sequence e short =
    let sent = command_sent operation index act sequence short in (
      λ is. taken_is index act e is ∙ sym sent,
      λ same. ap (is_taken index act) (same ∙ sent) ∙ echo_is_same (echo_taken index act),
    )

-- ---- other requests

no_operation : (octet function : ℕ) (objects : List ℕ) (a : Asking) → asking_of (octet ∷ function ∷ objects) ≡ Some a
    → operation_of function ≡ None
no_operation octet function objects a asks =
    elim (cases_Bool (function == 3)) [
      | inl is ↦ absurd (third (eqb-true function 3 is))
      | inr not3 ↦ elim (cases_Bool (function == 4)) [
        | inl is ↦ absurd (fourth (eqb-true function 4 is))
        | inr not4 ↦ elim (cases_Bool (function == 5)) [
          | inl is ↦ absurd (fifth (eqb-true function 5 is))
          | inr not5 ↦ rw (not3, not4, not5) refl
        ]
      ]
    ]
  where
    none : (n : ℕ) → asking_of (octet ∷ n ∷ objects) ≡ None → function ≡ n → ⊥
    none n other is =
        let both : None ≡ Some a = sym other ∙ (ap (λ (m : ℕ). asking_of (octet ∷ m ∷ objects)) (sym is) ∙ asks) in cc

    third : function ≡ 3 → ⊥
    third is = none 3 refl is

    fourth : function ≡ 4 → ⊥
    fourth is = none 4 refl is

    fifth : function ≡ 5 → ⊥
    fifth is = none 5 refl is

-- a request that asks for something else operates nothing
pub controls_apart : (octets : List ℕ) (a : Asking) → asking_of octets ≡ Some a → operating_of octets ≡ None
controls_apart [] a asks = absurd cc
controls_apart (octet ∷ []) a asks = absurd cc
controls_apart (octet ∷ function ∷ objects) a asks = rw (no_operation octet function objects a asks) refl
