-- What is accepted is acceptable, and the other way round.
use Rattle.std.proofs.Common.{◌≡◌, ◌↔◌, ℕ, ◌==◌, Bool, true, false, not, ◌&&◌, ◌||◌, ◌⊎◌, inl}
use Rattle.std.proofs.Common.{inr, List, [], ◌∷◌, Option, Some, None, Result, Ok, Err, refl, sym, ap, ◌∙◌}
use Rattle.std.proofs.lemmas.Bool.{eqb-true, eq-eqb, and_parts, and_from, or_cases, or_left, or_right, not-true, not_from_false}
use Rattle.gw_model.specs.First.{when, first_of}
use Rattle.gw_map.specs.Settings.{Setup, is_known, HasSingleAddresses}
use Rattle.iec_command.specs.declared.command.Command.{Command}
use Rattle.iec_command.specs.declared.command.Action.{Action}
use Rattle.iec_command.specs.declared.command.Action.TheVariants.{Interrogation, CounterInterrogation, Read}
use Rattle.iec_command.specs.declared.fault.CommandFault.{CommandFault}
use Rattle.iec_command.specs.declared.fault.CommandFault.TheVariants.{UnknownType}
use Rattle.iec_command.specs.Commands.{command_of}
use Rattle.gw_judge.specs.declared.judging.Judged.TheVariants.{Accepted}
use Rattle.gw_judge.specs.Judging.{is_known_cause, has_known_cause, is_for_all, is_addressed}
use Rattle.gw_judge.specs.Judging.{has_object, refusal_of, judged_by, judged_reading, judged}
use Rattle.gw_judge.specs.Acceptable.{HasAddress, IsCauseOf, HasKnownCause, IsFor, IsAcceptable, object_for}
use Rattle.gw_judge.proofs.Addresses.{address_there, address_known}
use Rattle.gw_judge.proofs.Objects.{object_there, object_found}

-- ---- one of two numbers

one_of : (n a b : ℕ) → (n == a || n == b) ≡ true → (n ≡ a) ⊎ (n ≡ b)
one_of n a b h = elim (or_cases (n == a) (n == b) h) [ inl e ↦ inl (eqb-true n a e) | inr e ↦ inr (eqb-true n b e) ]

of_one : (n a b : ℕ) → (n ≡ a) ⊎ (n ≡ b) → (n == a || n == b) ≡ true
of_one n a b h = elim h [
  | inl e ↦ or_left (n == a) (n == b) (eq-eqb n a e)
  | inr e ↦ or_right (n == a) (n == b) (eq-eqb n b e)
]

-- ---- the cause

cause_known : (action : Action) (cause : ℕ) → is_known_cause action cause ≡ true → IsCauseOf action cause
cause_known Read cause h = eqb-true cause 5 h
cause_known _ cause h = one_of cause 6 8 h

known_cause : (action : Action) (cause : ℕ) → IsCauseOf action cause → is_known_cause action cause ≡ true
known_cause Read cause h = eq-eqb cause 5 h
known_cause _ cause h = of_one cause 6 8 h

-- ---- the common address

or_never : (x y : Bool) → (x || (false && y)) ≡ true → x ≡ true
or_never true y h = refl
or_never false y h = absurd cc

known_or_all : (setup : Setup) (common : ℕ) → (is_known setup common || common == 65535) ≡ true
    → HasAddress setup common ⊎ (common ≡ 65535)
known_or_all setup common h = elim (or_cases (is_known setup common) (common == 65535) h) [
  | inl known ↦ inl (address_there setup common known)
  | inr all ↦ inr (eqb-true common 65535 all)
]

all_or_known : (setup : Setup) (common : ℕ) → HasAddress setup common ⊎ (common ≡ 65535)
    → (is_known setup common || common == 65535) ≡ true
all_or_known setup common h = elim h [
  | inl known ↦ or_left (is_known setup common) (common == 65535) (address_known setup common known)
  | inr all ↦ or_right (is_known setup common) (common == 65535) (eq-eqb common 65535 all)
]

address_right : (setup : Setup) (action : Action) (common : ℕ)
    → (is_known setup common || (is_for_all action && common == 65535)) ≡ true → IsFor setup action common
address_right setup (Interrogation qualifier) common h = known_or_all setup common h
address_right setup (CounterInterrogation qualifier) common h = known_or_all setup common h
address_right setup _ common h =
    address_there setup common (or_never (is_known setup common) (common == 65535) h)

right_address : (setup : Setup) (action : Action) (common : ℕ) → IsFor setup action common
    → (is_known setup common || (is_for_all action && common == 65535)) ≡ true
right_address setup (Interrogation qualifier) common h = all_or_known setup common h
right_address setup (CounterInterrogation qualifier) common h = all_or_known setup common h
right_address setup _ common h =
    or_left (is_known setup common) (false && common == 65535) (address_known setup common h)

-- ---- the refusals

abbrev pub first_refusal : Bool → Bool → Bool → Option ℕ
first_refusal cause station object = first_of (when (not cause) 45 ∷ when (not station) 46 ∷ when (not object) 47 ∷ [])

not_refused : (a b c : Bool) → first_refusal a b c ≡ None → (a ≡ true) × (b ≡ true) × (c ≡ true)
not_refused true true true e = (refl, refl, refl)
not_refused _ _ _ e = absurd cc

refused_not : (a b c : Bool) → a ≡ true → b ≡ true → c ≡ true → first_refusal a b c ≡ None
refused_not true true true _ _ _ = refl
refused_not _ _ _ ea eb ec = absurd cc

-- a known cause, and a station that is addressed
pub cause_is : (c : Command) → has_known_cause c ≡ true → HasKnownCause c
cause_is c e =
    let cause = and_parts (not c.negative && not c.test) (is_known_cause c.action c.cause) e in
    let bits = and_parts (not c.negative) (not c.test) cause.0 in
    record {
      positive = not-true c.negative bits.0;
      real = not-true c.test bits.1;
      cause = cause_known c.action c.cause cause.1;
    }

pub is_cause : (c : Command) → HasKnownCause c → has_known_cause c ≡ true
is_cause c h =
    and_from (not c.negative && not c.test) (is_known_cause c.action c.cause)
    (and_from (not c.negative) (not c.test) (not_from_false c.negative h.positive) (not_from_false c.test h.real))
    (known_cause c.action c.cause h.cause)

pub station_is : (setup : Setup) (c : Command) → is_addressed setup c ≡ true
    → IsFor setup c.action c.common_address
station_is setup c e = address_right setup c.action c.common_address e

pub is_station : (setup : Setup) (c : Command) → IsFor setup c.action c.common_address
    → is_addressed setup c ≡ true
is_station setup c h = right_address setup c.action c.common_address h

pub acceptable : (setup : Setup) (c : Command) → refusal_of setup c ≡ None → IsAcceptable setup c
acceptable setup c e =
    let r = not_refused (has_known_cause c) (is_addressed setup c) (has_object setup c) e in
    record {
      cause = cause_is c r.0;
      station = station_is setup c r.1;
      object = object_there setup c.action (object_for c) r.2;
    }

pub unrefused : (setup : Setup) (c : Command) → HasSingleAddresses setup.rows setup.controls → IsAcceptable setup c
    → refusal_of setup c ≡ None
unrefused setup c single h =
    refused_not (has_known_cause c) (is_addressed setup c) (has_object setup c)
    (is_cause c h.cause) (is_station setup c h.station) (object_found setup c.action (object_for c) single h.object)

-- ---- the judgement

accepted_by : (o : Option ℕ) (d c : Command) → judged_by o d ≡ Accepted c → (d ≡ c) × (o ≡ None)
accepted_by None d c e = (cc, refl)
accepted_by (Some cause) d c e = absurd cc

accepted_reading : (setup : Setup) (r : Result Command CommandFault) (c : Command) → judged_reading setup r ≡ Accepted c
    → (r ≡ Ok c) × (refusal_of setup c ≡ None)
accepted_reading setup (Ok d) c e =
    let by = accepted_by (refusal_of setup d) d c e in
    (ap (λ (x : Command). Ok x) by.0, ap (refusal_of setup) (sym by.0) ∙ by.1)
accepted_reading setup (Err UnknownType) c e = absurd cc
accepted_reading setup (Err _) c e = absurd cc

pub accepted_exactly : (setup : Setup) (octets : List ℕ) (c : Command) → HasSingleAddresses setup.rows setup.controls
    → (judged setup octets ≡ Accepted c) ↔ ((command_of octets ≡ Ok c) × IsAcceptable setup c)
accepted_exactly setup octets c single = (
  (λ e. let r = accepted_reading setup (command_of octets) c e in (r.0, acceptable setup c r.1)),
  (λ h. ap (judged_reading setup) h.0 ∙ ap (λ (o : Option ℕ). judged_by o c) (unrefused setup c single h.1)),
)
