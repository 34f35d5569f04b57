-- Each cause with which an ASDU is sent back, and what closes the connection.
use Rattle.std.proofs.Common.{◌≡◌, ◌↔◌, ℕ, ◌+◌, ◌==◌, Bool, true, false, not, ◌&&◌, inl, inr, List, []}
use Rattle.std.proofs.Common.{◌∷◌, length, Option, Some, None, Result, Ok, Err, refl, sym, ap, ◌∙◌, arith}
use Rattle.std.specs.Prelude.{nat_lt, slice_index}
use Rattle.std.proofs.lemmas.Bool.{cases_Bool, eqb-true, eq-eqb, true≢false, ltb-false, ltb-true, le-ltb, lt-ltb}
use Rattle.std.proofs.lemmas.Option.{same_Some}
use Rattle.gw_model.specs.First.{when, first_of}
use Rattle.gw_map.specs.Settings.{Setup, HasSingleAddresses}
use Rattle.iec_command.specs.declared.command.Command.{Command}
use Rattle.iec_command.specs.declared.command.Action.{Action}
use Rattle.iec_command.specs.declared.command.Action.TheVariants.{Single, Double, Setpoint, Interrogation, CounterInterrogation, Read}
use Rattle.iec_command.specs.declared.fault.CommandFault.{CommandFault}
use Rattle.iec_command.specs.declared.fault.CommandFault.TheVariants.{Short, Long, UnknownType, Count}
use Rattle.iec_command.specs.Commands.{action_of, command_in, command_of, element_length, is_known, type_of, unless}
use Rattle.gw_judge.specs.declared.judging.Judged.{Judged}
use Rattle.gw_judge.specs.declared.judging.Judged.TheVariants.{Malformed, Refuse}
use Rattle.gw_judge.specs.Judging.{has_known_cause, is_addressed, has_object, is_execute, refusal_of, judged_by, judged_reading, judged}
use Rattle.gw_judge.specs.Acceptable.{HasKnownCause, IsFor, HasObject, object_for}
use Rattle.gw_judge.specs.Refusals.{HasKnownType, IsMalformed, HasUnknownType, HasUnknownCause}
use Rattle.gw_judge.specs.Refusals.{HasUnknownStation, HasUnknownObject, ComesBackWith}
use Rattle.gw_judge.proofs.Accepted.{cause_is, is_cause, station_is, is_station, first_refusal}
use Rattle.gw_judge.proofs.Objects.{object_there, object_found}
use Rattle.gw_judge.proofs.Refused.{cut_short, cause_within}

-- ---- a known type

pub not_so : (b : Bool) → (b ≡ true → ⊥) → b ≡ false
not_so true never = absurd (never refl)
not_so false never = refl

pub so_not : (b : Bool) → b ≡ false → b ≡ true → ⊥
so_not b e is = true≢false (sym is ∙ e)

-- a known type is that of the action that its element tells
type_again : (n : ℕ) (element : List ℕ) → is_known n ≡ true → n ≡ type_of (action_of n element)
type_again n element h = elim (cases_Bool (n == 45)) [
  | inl single ↦ rw single (eqb-true n 45 single)
  | inr other ↦ elim (cases_Bool (n == 46)) [
    | inl double ↦ rw (other, double) (eqb-true n 46 double)
    | inr other2 ↦ elim (cases_Bool (n == 49)) [
      | inl setpoint ↦ rw (other, other2, setpoint) (eqb-true n 49 setpoint)
      | inr other3 ↦ elim (cases_Bool (n == 100)) [
        | inl station ↦ rw (other, other2, other3, station) (eqb-true n 100 station)
        | inr other4 ↦ elim (cases_Bool (n == 101)) [
          | inl counters ↦ rw (other, other2, other3, other4, counters) (eqb-true n 101 counters)
          | inr other5 ↦ rw (other, other2, other3, other4, other5)
              (eqb-true n 102 (rw (other, other2, other3, other4, other5) at h))
        ]
      ]
    ]
  ]
]

known_type : (octets : List ℕ) → is_known (slice_index octets 0) ≡ true → HasKnownType octets
known_type octets h = (action_of (slice_index octets 0) octets, type_again (slice_index octets 0) octets h)

is_type : (action : Action) → is_known (type_of action) ≡ true
is_type (Single x) = refl
is_type (Double x) = refl
is_type (Setpoint x) = refl
is_type (Interrogation qualifier) = refl
is_type (CounterInterrogation qualifier) = refl
is_type Read = refl

type_known : (octets : List ℕ) → HasKnownType octets → is_known (slice_index octets 0) ≡ true
type_known octets h = ap is_known h.1 ∙ is_type h.0

-- ---- the first fault

-- what may be wrong, in order
abbrev fault_by : Bool → Bool → Bool → Bool → Bool → Option CommandFault
fault_by cut unknown count short long =
    first_of (when cut Short ∷ when unknown UnknownType ∷ when count Count ∷ when short Short ∷ when long Long ∷ [])

unknown_by : (cut unknown count short long : Bool) (c : Command)
    → unless (fault_by cut unknown count short long) c ≡ Err UnknownType → (cut ≡ false) × (unknown ≡ true)
unknown_by true unknown count short long c e = absurd cc
unknown_by false true count short long c e = (refl, refl)
unknown_by false false true short long c e = absurd cc
unknown_by false false false true long c e = absurd cc
unknown_by false false false false true c e = absurd cc
unknown_by false false false false false c e = absurd cc

by_unknown : (cut unknown count short long : Bool) (c : Command) → cut ≡ false → unknown ≡ true
    → unless (fault_by cut unknown count short long) c ≡ Err UnknownType
by_unknown true unknown count short long c long_enough eu = absurd cc
by_unknown false true count short long c _ _ = refl
by_unknown false false count short long c _ eu = absurd cc

read_unknown : (octets : List ℕ) → command_of octets ≡ Err UnknownType
    → (nat_lt (length octets) 6 ≡ false) × (not (is_known (slice_index octets 0)) ≡ true)
unfolding command_of
read_unknown octets e =
    let whole = 9 + element_length (slice_index octets 0) in
    unknown_by (nat_lt (length octets) 6) (not (is_known (slice_index octets 0))) (not (slice_index octets 1 == 1))
    (nat_lt (length octets) whole) (nat_lt whole (length octets)) (command_in octets) e

unknown_read : (octets : List ℕ) → nat_lt (length octets) 6 ≡ false → not (is_known (slice_index octets 0)) ≡ true
    → command_of octets ≡ Err UnknownType
unfolding command_of
unknown_read octets long unknown =
    let whole = 9 + element_length (slice_index octets 0) in
    by_unknown (nat_lt (length octets) 6) (not (is_known (slice_index octets 0))) (not (slice_index octets 1 == 1))
    (nat_lt (length octets) whole) (nat_lt whole (length octets)) (command_in octets) long unknown

-- ---- 44, and what closes

not_is : (b : Bool) → not b ≡ true → b ≡ false
not_is true e = absurd cc
not_is false e = refl

is_not : (b : Bool) → b ≡ false → not b ≡ true
is_not true e = absurd cc
is_not false e = refl

refused_unknown : (setup : Setup) (r : Result Command CommandFault) (execute : Bool)
    → judged_reading setup r ≡ Refuse 44 execute → (r ≡ Err UnknownType) × (execute ≡ false)
refused_unknown setup (Ok c) execute e = absurd (never (refusal_of setup c) e refl)
  where
    never : (o : Option ℕ) → judged_by o c ≡ Refuse 44 execute → o ≡ refusal_of setup c → ⊥
    never None e is = cc
    never (Some cause) e is =
        first_never (has_known_cause c) (is_addressed setup c) (has_object setup c) (sym is ∙ ap cause_in e)
      where
        cause_in : Judged → Option ℕ
        cause_in (Refuse n b) = Some n
        cause_in _ = None

        first_never : (a b d : Bool) → first_refusal a b d ≡ Some 44 → ⊥
        first_never false b d e = omega (arith, same_Some _ _ e)
        first_never true false d e = omega (arith, same_Some _ _ e)
        first_never true true false e = omega (arith, same_Some _ _ e)
        first_never true true true e = cc
refused_unknown setup (Err UnknownType) execute e = (refl, sym (ap flag e))
  where
    flag : Judged → Bool
    flag (Refuse n b) = b
    flag _ = execute
refused_unknown setup (Err _) execute e = absurd cc

pub unknown_type : (setup : Setup) (octets : List ℕ) (execute : Bool)
    → (judged setup octets ≡ Refuse 44 execute) ↔ (HasUnknownType octets × (execute ≡ false))
unknown_type setup octets execute = (
  (λ e.
      let r = refused_unknown setup (command_of octets) execute e in
      let u = read_unknown octets r.0 in (
        record {
          header = ltb-false (length octets) 6 u.0;
          unknown = λ known. so_not _ (not_is _ u.1) (type_known octets known);
        },
        r.1,
      )),
  (λ h.
      let long : nat_lt (length octets) 6 ≡ false = le-ltb (length octets) 6 h.0.header in
      let unknown = is_not _ (not_so (is_known (slice_index octets 0)) (λ is. h.0.unknown (known_type octets is))) in
      ap (judged_reading setup) (unknown_read octets long unknown) ∙ ap (λ (b : Bool). Refuse 44 b) (sym h.1)),
)

-- ---- commands

refused_by : (o : Option ℕ) (c : Command) (cause : ℕ) (execute : Bool) → judged_by o c ≡ Refuse cause execute
    → (o ≡ Some cause) × (execute ≡ (cause == 47 && is_execute c))
refused_by None c cause execute e = absurd cc
refused_by (Some n) c cause execute e =
    let same : n ≡ cause = cc in
    (ap (λ (m : ℕ). Some m) same, cc)

refused_reading : (setup : Setup) (r : Result Command CommandFault) (cause : ℕ) (execute : Bool) → (cause ≡ 44 → ⊥)
    → judged_reading setup r ≡ Refuse cause execute
    → (c : Command) × (r ≡ Ok c) × (refusal_of setup c ≡ Some cause) × (execute ≡ (cause == 47 && is_execute c))
refused_reading setup (Ok c) cause execute other e =
    let r = refused_by (refusal_of setup c) c cause execute e in (c, refl, r.0, r.1)
refused_reading setup (Err UnknownType) cause execute other e = let is : 44 ≡ cause = cc in absurd (other (sym is))
refused_reading setup (Err _) cause execute other e = absurd cc

refusing : (setup : Setup) (octets : List ℕ) (c : Command) (cause : ℕ) (execute : Bool) → command_of octets ≡ Ok c
    → refusal_of setup c ≡ Some cause → execute ≡ (cause == 47 && is_execute c)
    → judged setup octets ≡ Refuse cause execute
refusing setup octets c cause execute e refused is =
    ap (judged_reading setup) e
    ∙ (ap (λ (o : Option ℕ). judged_by o c) refused ∙ ap (λ (b : Bool). Refuse cause b) (sym is))

-- which of three tests fails first
first_fails : (a b d : Bool) → first_refusal a b d ≡ Some 45 → a ≡ false
first_fails false b d e = refl
first_fails true false d e = absurd (omega (arith, same_Some _ _ e))
first_fails true true false e = absurd (omega (arith, same_Some _ _ e))
first_fails true true true e = absurd cc

second_fails : (a b d : Bool) → first_refusal a b d ≡ Some 46 → (a ≡ true) × (b ≡ false)
second_fails false b d e = absurd (omega (arith, same_Some _ _ e))
second_fails true false d e = (refl, refl)
second_fails true true false e = absurd (omega (arith, same_Some _ _ e))
second_fails true true true e = absurd cc

third_fails : (a b d : Bool) → first_refusal a b d ≡ Some 47 → (a ≡ true) × (b ≡ true) × (d ≡ false)
third_fails false b d e = absurd (omega (arith, same_Some _ _ e))
third_fails true false d e = absurd (omega (arith, same_Some _ _ e))
third_fails true true false e = (refl, refl, refl)
third_fails true true true e = absurd cc

fails_first : (a b d : Bool) → a ≡ false → first_refusal a b d ≡ Some 45
fails_first false b d _ = refl
fails_first true b d e = absurd cc

fails_second : (a b d : Bool) → a ≡ true → b ≡ false → first_refusal a b d ≡ Some 46
fails_second true false d _ _ = refl
fails_second _ _ d ea eb = absurd cc

fails_third : (a b d : Bool) → a ≡ true → b ≡ true → d ≡ false → first_refusal a b d ≡ Some 47
fails_third true true false _ _ _ = refl
fails_third _ _ _ ea eb ed = absurd cc

-- 45
cause_fails : (setup : Setup) (c : Command) → refusal_of setup c ≡ Some 45 → HasKnownCause c → ⊥
cause_fails setup c e known =
    so_not _ (first_fails (has_known_cause c) (is_addressed setup c) (has_object setup c) e) (is_cause c known)

fails_by_cause : (setup : Setup) (c : Command) → (HasKnownCause c → ⊥) → refusal_of setup c ≡ Some 45
fails_by_cause setup c unknown =
    fails_first (has_known_cause c) (is_addressed setup c) (has_object setup c)
    (not_so (has_known_cause c) (λ is. unknown (cause_is c is)))

cause_refuses : (setup : Setup) (octets : List ℕ) (c : Command) (execute : Bool) → HasUnknownCause octets c
    → execute ≡ false → judged setup octets ≡ Refuse 45 execute
cause_refuses setup octets c execute h plain =
    refusing setup octets c 45 execute h.spelled (fails_by_cause setup c h.unknown) plain

pub unknown_cause : (setup : Setup) (octets : List ℕ) (execute : Bool)
    → (judged setup octets ≡ Refuse 45 execute) ↔ ((c : Command) × HasUnknownCause octets c × (execute ≡ false))
unknown_cause setup octets execute = (
  (λ e.
      let r = refused_reading setup (command_of octets) 45 execute (λ n. omega (arith, n)) e in
      (r.0, record { spelled = r.1; unknown = cause_fails setup r.0 r.2 }, r.3)),
  (λ h. cause_refuses setup octets h.0 execute h.1 h.2),
)

-- 46
station_fails : (setup : Setup) (c : Command) → refusal_of setup c ≡ Some 46
    → HasKnownCause c × (IsFor setup c.action c.common_address → ⊥)
station_fails setup c e =
    let fails = second_fails (has_known_cause c) (is_addressed setup c) (has_object setup c) e in
    (cause_is c fails.0, λ known. so_not _ fails.1 (is_station setup c known))

fails_by_station : (setup : Setup) (c : Command) → HasKnownCause c
    → (IsFor setup c.action c.common_address → ⊥) → refusal_of setup c ≡ Some 46
fails_by_station setup c cause unknown =
    fails_second (has_known_cause c) (is_addressed setup c) (has_object setup c) (is_cause c cause)
    (not_so (is_addressed setup c) (λ is. unknown (station_is setup c is)))

station_refuses : (setup : Setup) (octets : List ℕ) (c : Command) (execute : Bool)
    → HasUnknownStation setup octets c → execute ≡ false → judged setup octets ≡ Refuse 46 execute
station_refuses setup octets c execute h plain =
    refusing setup octets c 46 execute h.spelled (fails_by_station setup c h.cause h.unknown) plain

pub unknown_station : (setup : Setup) (octets : List ℕ) (execute : Bool)
    → (judged setup octets ≡ Refuse 46 execute)
    ↔ ((c : Command) × HasUnknownStation setup octets c × (execute ≡ false))
unknown_station setup octets execute = (
  (λ e.
      let r = refused_reading setup (command_of octets) 46 execute (λ n. omega (arith, n)) e in
      let fails = station_fails setup r.0 r.2 in
      (r.0, record { spelled = r.1; cause = fails.0; unknown = fails.1 }, r.3)),
  (λ h. station_refuses setup octets h.0 execute h.1 h.2),
)

-- 47
object_fails : (setup : Setup) (c : Command) → HasSingleAddresses setup.rows setup.controls
    → refusal_of setup c ≡ Some 47
    → HasKnownCause c × IsFor setup c.action c.common_address
    × (HasObject setup c.action (object_for c) → ⊥)
object_fails setup c single e =
    let fails = third_fails (has_known_cause c) (is_addressed setup c) (has_object setup c) e in (
      cause_is c fails.0,
      station_is setup c fails.1,
      λ there. so_not _ fails.2 (object_found setup c.action (object_for c) single there),
    )

fails_by_object : (setup : Setup) (c : Command) → HasKnownCause c
    → IsFor setup c.action c.common_address → (HasObject setup c.action (object_for c) → ⊥)
    → refusal_of setup c ≡ Some 47
fails_by_object setup c cause station unknown =
    fails_third (has_known_cause c) (is_addressed setup c) (has_object setup c) (is_cause c cause)
    (is_station setup c station)
    (not_so (has_object setup c) (λ is. unknown (object_there setup c.action (object_for c) is)))

object_refuses : (setup : Setup) (octets : List ℕ) (c : Command) (execute : Bool)
    → HasUnknownObject setup octets c → execute ≡ is_execute c → judged setup octets ≡ Refuse 47 execute
object_refuses setup octets c execute h is =
    refusing setup octets c 47 execute h.spelled (fails_by_object setup c h.cause h.station h.unknown) is

pub unknown_object : (setup : Setup) (octets : List ℕ) (execute : Bool)
    → HasSingleAddresses setup.rows setup.controls → (judged setup octets ≡ Refuse 47 execute)
    ↔ ((c : Command) × HasUnknownObject setup octets c × (execute ≡ is_execute c))
unknown_object setup octets execute single = (
  (λ e.
      let r = refused_reading setup (command_of octets) 47 execute (λ n. omega (arith, n)) e in
      let fails = object_fails setup r.0 single r.2 in
      (r.0, record { spelled = r.1; cause = fails.0; station = fails.1; unknown = fails.2 }, r.3)),
  (λ h. object_refuses setup octets h.0 execute h.1 h.2),
)

-- ---- what closes

not_malformed_by : (o : Option ℕ) (c : Command) → judged_by o c ≡ Malformed → ⊥
not_malformed_by None c e = cc
not_malformed_by (Some n) c e = cc

-- a fault that isn't the type's
malformed_reading : (setup : Setup) (r : Result Command CommandFault) → judged_reading setup r ≡ Malformed
    → ((c : Command) → r ≡ Ok c → ⊥) × (r ≡ Err UnknownType → ⊥)
malformed_reading setup (Ok c) e = absurd (not_malformed_by (refusal_of setup c) c e)
malformed_reading setup (Err UnknownType) e = absurd cc
malformed_reading setup (Err Short) e = ((λ c is. cc), (λ is. cc))
malformed_reading setup (Err Long) e = ((λ c is. cc), (λ is. cc))
malformed_reading setup (Err Count) e = ((λ c is. cc), (λ is. cc))

reading_malformed : (setup : Setup) (r : Result Command CommandFault) → ((c : Command) → r ≡ Ok c → ⊥)
    → (r ≡ Err UnknownType → ⊥) → judged_reading setup r ≡ Malformed
reading_malformed setup (Ok c) never other = absurd (never c refl)
reading_malformed setup (Err UnknownType) never other = absurd (other refl)
reading_malformed setup (Err Short) never other = refl
reading_malformed setup (Err Long) never other = refl
reading_malformed setup (Err Count) never other = refl

pub malformed : (setup : Setup) (octets : List ℕ) → (judged setup octets ≡ Malformed) ↔ IsMalformed octets
malformed setup octets = (
  (λ e.
      let no = malformed_reading setup (command_of octets) e in
      elim (cases_Bool (nat_lt (length octets) 6)) [
        | inl cut ↦ inl (ltb-true (length octets) 6 cut)
        | inr long ↦ elim (cases_Bool (is_known (slice_index octets 0))) [
          | inl known ↦ inr (known_type octets known, no.0)
          | inr unknown ↦ absurd (no.1 (unknown_read octets long (is_not _ unknown)))
        ]
      ]),
  (λ h. elim h [
    | inl cut ↦ ap (judged_reading setup) (cut_short octets (lt-ltb (length octets) 6 cut))
    | inr wrong ↦ reading_malformed setup (command_of octets) wrong.1
        (λ unknown. so_not _ (not_is _ (read_unknown octets unknown).1) (type_known octets wrong.0))
  ]),
)

-- ---- all that comes back

pub comes_back : (setup : Setup) (octets : List ℕ) (cause : ℕ) (execute : Bool)
    → HasSingleAddresses setup.rows setup.controls → judged setup octets ≡ Refuse cause execute
    → ComesBackWith setup octets cause
comes_back setup octets cause execute single e = elim (cases_Bool (cause == 44)) [
  | inl is ↦
      let n : cause ≡ 44 = eqb-true cause 44 is in
      inl (n, ((unknown_type setup octets execute).0 (e ∙ ap (λ (m : ℕ). Refuse m execute) n)).0)
  | inr other ↦ elim (cases_Bool (cause == 45)) [
    | inl is ↦
        let n : cause ≡ 45 = eqb-true cause 45 is in
        let h = (unknown_cause setup octets execute).0 (e ∙ ap (λ (m : ℕ). Refuse m execute) n) in
        inr (h.0, inl (n, h.1))
    | inr other2 ↦ elim (cases_Bool (cause == 46)) [
      | inl is ↦
          let n : cause ≡ 46 = eqb-true cause 46 is in
          let h = (unknown_station setup octets execute).0 (e ∙ ap (λ (m : ℕ). Refuse m execute) n) in
          inr (h.0, inr (inl (n, h.1)))
      | inr other3 ↦
          let within = cause_within setup octets cause execute e in
          let not_44 : cause ≡ 44 → ⊥ = λ n. so_not _ other (eq-eqb cause 44 n) in
          let not_45 : cause ≡ 45 → ⊥ = λ n. so_not _ other2 (eq-eqb cause 45 n) in
          let not_46 : cause ≡ 46 → ⊥ = λ n. so_not _ other3 (eq-eqb cause 46 n) in
          let n : cause ≡ 47 = omega (arith, within.0, within.1, not_44, not_45, not_46) in
          let h = (unknown_object setup octets execute single).0 (e ∙ ap (λ (m : ℕ). Refuse m execute) n) in
          inr (h.0, inr (inr (n, h.1)))
    ]
  ]
]

pub back_comes : (setup : Setup) (octets : List ℕ) (cause : ℕ) → HasSingleAddresses setup.rows setup.controls
    → ComesBackWith setup octets cause → (execute : Bool) × (judged setup octets ≡ Refuse cause execute)
back_comes setup octets cause single h = elim h [
  | inl u ↦
      (false, (unknown_type setup octets false).1 (u.1, refl) ∙ ap (λ (m : ℕ). Refuse m false) (sym u.0))
  | inr spelled ↦ elim spelled.1 [
    | inl u ↦ (
      false,
      (unknown_cause setup octets false).1 (spelled.0, u.1, refl)
          ∙ ap (λ (m : ℕ). Refuse m false) (sym u.0),
    )
    | inr more ↦ elim more [
      | inl u ↦ (
        false,
        (unknown_station setup octets false).1 (spelled.0, u.1, refl)
            ∙ ap (λ (m : ℕ). Refuse m false) (sym u.0),
      )
      | inr u ↦
          let execute : Bool = is_execute spelled.0 in (
            execute,
            (unknown_object setup octets execute single).1 (spelled.0, u.1, refl)
                ∙ ap (λ (m : ℕ). Refuse m execute) (sym u.0),
          )
    ]
  ]
]

-- what spells a command has its type
pub spelled_type : (octets : List ℕ) (c : Command) → command_of octets ≡ Ok c → HasKnownType octets
spelled_type octets c e = elim (cases_Bool (is_known (slice_index octets 0))) [
  | inl known ↦ known_type octets known
  | inr unknown ↦ elim (cases_Bool (nat_lt (length octets) 6)) [
    | inl cut ↦ absurd (err_not (sym e ∙ cut_short octets cut))
    | inr long ↦ absurd (err_not (sym e ∙ unknown_read octets long (is_not _ unknown)))
  ]
]
  where
    err_not : {fault : CommandFault} → Ok c ≡ Err fault → ⊥
    err_not e = cc
