-- How many places an ASDU wants is what its octets say.
use Rattle.std.proofs.Common.{◌≡◌, ◌↔◌, ℕ, ◌/◌, ◌%◌, ◌==◌, Bool, true, false, not, ◌&&◌, ◌⊎◌, inl, inr}
use Rattle.std.proofs.Common.{List, [], drop, Option, Some, None, Result, Ok, Err, refl, sym, ap, subst, ◌∙◌, arith}
use Rattle.std.specs.Prelude.{slice_index, if◌then◌else◌}
use Rattle.std.proofs.lemmas.Bool.{cases_Bool, true≢false, eqb-true, eqb-false, eq-eqb}
use Rattle.std.proofs.lemmas.Bool.{ne_eqb, and_parts, and_from, not-true, not_from_false}
use Rattle.std.proofs.lemmas.List.{get_or-drop}
use Rattle.gw_model.specs.Bits.{is_set}
use Rattle.gw_model.specs.declared.point.ObjectKey.{ObjectKey}
use Rattle.gw_map.specs.Settings.{Setup}
use Rattle.iec_command.specs.declared.command.Command.{Command}
use Rattle.iec_command.specs.declared.command.Action.{Action}
use Rattle.iec_command.specs.declared.command.Action.TheVariants as actions
use Rattle.iec_command.specs.declared.fault.CommandFault.{CommandFault}
use Rattle.iec_command.specs.declared.fault.CommandFault.TheVariants.{Short, Long, UnknownType, Count}
use Rattle.iec_command.specs.Commands.{action_of, command_in, command_of, setpoint_of, single_of, double_of, unless, faults}
use Rattle.gw_model.specs.First.{first_of}
use Rattle.gw_judge.specs.declared.judging.Judged.{Judged}
use Rattle.gw_judge.specs.declared.judging.Judged.TheVariants.{Malformed, Refuse, Accepted}
use Rattle.gw_judge.specs.Judging.{executes, has_known_cause, has_object, is_addressed}
use Rattle.gw_judge.specs.Judging.{is_execute, is_object_of, judged, judged_by, judged_reading}
use Rattle.gw_judge.specs.Acceptable.{HasAddress, HasKnownCause, IsCauseOf, IsFor, object_for}
use Rattle.gw_judge.specs.Refusals.{HasKnownType, IsMalformed}
use Rattle.gw_judge.proofs.Accepted.{cause_is, first_refusal, is_cause, is_station, station_is}
use Rattle.gw_judge.proofs.Refusals.{malformed}
use Rattle.gw_answers.specs.Interrogations.{is_accepted_act, is_general}
use Rattle.gw_answers.specs.Answers.{places_for}
use Rattle.gw_answers.specs.Wanted.{IsActivation, IsNoSelect, IsToExecute, IsToInterrogate, SpellsExecute, SpellsInterrogation}

-- ---- by tests

-- the places that a command wants, by what is tested of it
abbrev wanted : Bool → Bool → Bool → Bool → Bool → ℕ
wanted cause station object act execute =
    if cause && station then (if object && act then 0 else if execute then 2 else 1) else 1

places_by : (pending : Bool) (c : Command) (cause station object : Bool)
    → places_for pending (judged_by (first_refusal cause station object) c)
    ≡ wanted cause station object (is_accepted_act pending c) (is_execute c)
places_by pending c true true true = refl
places_by pending c true true false = refl
places_by pending c true false object = refl
places_by pending c false station object = refl

-- none
wanted-none : (cause station object act execute : Bool) → wanted cause station object act execute ≡ 0
    → (cause ≡ true) × (station ≡ true) × (object ≡ true) × (act ≡ true)
wanted-none true true true true execute e = (refl, refl, refl, refl)
wanted-none _ _ _ _ true e = absurd cc
wanted-none _ _ _ _ false e = absurd cc

none-wanted : (cause station object act execute : Bool) → cause ≡ true → station ≡ true → object ≡ true → act ≡ true
    → wanted cause station object act execute ≡ 0
none-wanted cause station object act execute ec es eo ea = rw (ec, es, eo, ea)

-- two
wanted-two : (cause station object act execute : Bool) → wanted cause station object act execute ≡ 2
    → (cause ≡ true) × (station ≡ true) × (execute ≡ true)
wanted-two true true true false true e = (refl, refl, refl)
wanted-two true true false act true e = (refl, refl, refl)
wanted-two _ _ _ _ _ e = absurd cc

two-wanted : (cause station object act execute : Bool) → cause ≡ true → station ≡ true → act ≡ false
    → execute ≡ true → wanted cause station object act execute ≡ 2
two-wanted cause station true act execute ec es ea ee = rw (ec, es, ea, ee)
two-wanted cause station false act execute ec es ea ee = rw (ec, es, ee)

-- ---- bits

-- the cause octet
activation_in : (octet : ℕ) → octet % 64 ≡ 6 → is_set 6 octet ≡ false → is_set 7 octet ≡ false → octet % 256 ≡ 6
activation_in octet cause positive real =
    let six : octet / 64 % 2 ≡ 1 → ⊥ = eqb-false (octet / 64 % 2) 1 positive in
    let seven : octet / 128 % 2 ≡ 1 → ⊥ = eqb-false (octet / 128 % 2) 1 real in
    omega (arith, cause, six, seven)

in_activation : (octet : ℕ) → octet % 256 ≡ 6
    → (octet % 64 ≡ 6) × (is_set 6 octet ≡ false) × (is_set 7 octet ≡ false)
in_activation octet e = (
  omega (arith, e),
  ne_eqb (octet / 64 % 2) 1 (λ set. omega (arith, e, set)),
  ne_eqb (octet / 128 % 2) 1 (λ set. omega (arith, e, set)),
)

no_select : (octet : ℕ) → not (is_set 7 octet) ≡ true → IsNoSelect octet
no_select octet e =
    let clear : octet / 128 % 2 ≡ 1 → ⊥ = eqb-false (octet / 128 % 2) 1 (not-true (is_set 7 octet) e) in
    omega (arith, clear)

selects_not : (octet : ℕ) → IsNoSelect octet → not (is_set 7 octet) ≡ true
selects_not octet clear =
    not_from_false (is_set 7 octet) (ne_eqb (octet / 128 % 2) 1 (λ set. omega (arith, clear, set)))

-- ---- actions, by their types

module _ (octets : List ℕ) where
  abbrev action : ℕ → Action
  action type = action_of type (drop 9 octets)

  nine : slice_index (drop 9 octets) 0 ≡ slice_index octets 9
  nine = get_or-drop 9 octets 0 0

  eleven : slice_index (drop 9 octets) 2 ≡ slice_index octets 11
  eleven = get_or-drop 9 octets 2 0

  abbrev ToExecute : ℕ → Type 0
  ToExecute type =
      (((type ≡ 45) ⊎ (type ≡ 46)) × IsNoSelect (slice_index octets 9)) ⊎ ((type ≡ 49) × IsNoSelect (slice_index octets 11))

  abbrev ToInterrogate : ℕ → Type 0
  ToInterrogate type =
      ((type ≡ 100) × (slice_index octets 9 ≡ 20)) ⊎ ((type ≡ 101) × (slice_index octets 9 ≡ 5))

  executing : (type : ℕ) → executes (action type) ≡ true → ToExecute type
  executing type e = elim (cases_Bool (type == 45)) [
    | inl single ↦ inl (inl (eqb-true type 45 single), subst IsNoSelect nine (no_select _ (rw single at e)))
    | inr other ↦ elim (cases_Bool (type == 46)) [
      | inl double ↦ inl (inr (eqb-true type 46 double), subst IsNoSelect nine (no_select _ (rw (other, double) at e)))
      | inr other2 ↦ elim (cases_Bool (type == 49)) [
        | inl setpoint ↦
            inr (eqb-true type 49 setpoint, subst IsNoSelect eleven (no_select _ (rw (other, other2, setpoint) at e)))
        | inr other3 ↦ elim (cases_Bool (type == 100)) [
          | inl station ↦ absurd (true≢false (sym (rw (other, other2, other3, station) at e)))
          | inr other4 ↦ elim (cases_Bool (type == 101)) [
            | inl counters ↦ absurd (true≢false (sym (rw (other, other2, other3, other4, counters) at e)))
            | inr other5 ↦ absurd (true≢false (sym (rw (other, other2, other3, other4, other5) at e)))
          ]
        ]
      ]
    ]
  ]

  general : (type : ℕ) → is_general (action type) ≡ true → ToInterrogate type
  general type e = elim (cases_Bool (type == 45)) [
    | inl single ↦ absurd (true≢false (sym (rw single at e)))
    | inr other ↦ elim (cases_Bool (type == 46)) [
      | inl double ↦ absurd (true≢false (sym (rw (other, double) at e)))
      | inr other2 ↦ elim (cases_Bool (type == 49)) [
        | inl setpoint ↦ absurd (true≢false (sym (rw (other, other2, setpoint) at e)))
        | inr other3 ↦ elim (cases_Bool (type == 100)) [
          | inl station ↦
              inl (eqb-true type 100 station, sym nine ∙ eqb-true _ 20 (rw (other, other2, other3, station) at e))
          | inr other4 ↦ elim (cases_Bool (type == 101)) [
            | inl counters ↦
                inr (eqb-true type 101 counters, sym nine ∙ eqb-true _ 5 (rw (other, other2, other3, other4, counters) at e))
            | inr other5 ↦ absurd (true≢false (sym (rw (other, other2, other3, other4, other5) at e)))
          ]
        ]
      ]
    ]
  ]

  to_execute : (type : ℕ) → ToExecute type → executes (action type) ≡ true
  to_execute type h = elim h [
    | inl switch ↦ elim switch.0 [
      | inl single ↦ rw single (selects_not _ (subst IsNoSelect (sym nine) switch.1))
      | inr double ↦ rw double (selects_not _ (subst IsNoSelect (sym nine) switch.1))
    ]
    | inr setpoint ↦ rw setpoint.0 (selects_not _ (subst IsNoSelect (sym eleven) setpoint.1))
  ]

  to_interrogate : (type : ℕ) → ToInterrogate type → is_general (action type) ≡ true
  to_interrogate type h = elim h [
    | inl station ↦ rw station.0 (eq-eqb _ 20 (nine ∙ station.1))
    | inr counters ↦ rw counters.0 (eq-eqb _ 5 (nine ∙ counters.1))
  ]

  not_both : IsToInterrogate octets → IsToExecute octets → ⊥
  not_both asks executes = elim asks [
    | inl station ↦ apart 100 station.0 (omega arith) (omega arith) (omega arith)
    | inr counters ↦ apart 101 counters.0 (omega arith) (omega arith) (omega arith)
  ]
    where
      apart : (n : ℕ) → slice_index octets 0 ≡ n → (n ≡ 45 → ⊥) → (n ≡ 46 → ⊥) → (n ≡ 49 → ⊥) → ⊥
      apart n is not_45 not_46 not_49 = elim executes [
        | inl switch ↦ elim switch.0 [
          | inl single ↦ not_45 (sym is ∙ single)
          | inr double ↦ not_46 (sym is ∙ double)
        ]
        | inr setpoint ↦ not_49 (sym is ∙ setpoint.0)
      ]

-- ---- actions, by what they are for

module _ (setup : Setup) where
  executed_for : (action : Action) (common : ℕ) → executes action ≡ true → IsFor setup action common
      → HasAddress setup common
  executed_for (actions.Interrogation qualifier) common e h = absurd cc
  executed_for (actions.CounterInterrogation qualifier) common e h = absurd cc
  executed_for _ common e h = h

  for_executed : (action : Action) (common : ℕ) → executes action ≡ true → HasAddress setup common
      → IsFor setup action common
  for_executed (actions.Interrogation qualifier) common e h = absurd cc
  for_executed (actions.CounterInterrogation qualifier) common e h = absurd cc
  for_executed _ common e h = h

  asked_for : (action : Action) (common : ℕ) → is_general action ≡ true → IsFor setup action common
      → HasAddress setup common ⊎ (common ≡ 65535)
  asked_for (actions.Interrogation qualifier) common e h = h
  asked_for (actions.CounterInterrogation qualifier) common e h = h
  asked_for _ common e h = absurd cc

  for_asked : (action : Action) (common : ℕ) → is_general action ≡ true
      → HasAddress setup common ⊎ (common ≡ 65535) → IsFor setup action common
  for_asked (actions.Interrogation qualifier) common e h = h
  for_asked (actions.CounterInterrogation qualifier) common e h = h
  for_asked _ common e h = absurd cc

  object_of : (action : Action) (object : ObjectKey) → is_general action ≡ true
      → is_object_of setup action object ≡ true → object.address ≡ 0
  object_of (actions.Interrogation qualifier) object e h = eqb-true object.address 0 h
  object_of (actions.CounterInterrogation qualifier) object e h = eqb-true object.address 0 h
  object_of _ object e h = absurd cc

  of_object : (action : Action) (object : ObjectKey) → is_general action ≡ true → object.address ≡ 0
      → is_object_of setup action object ≡ true
  of_object (actions.Interrogation qualifier) object e h = eq-eqb object.address 0 h
  of_object (actions.CounterInterrogation qualifier) object e h = eq-eqb object.address 0 h
  of_object _ object e h = absurd cc

-- what executes and what asks for all is activated with cause 6
executed_by : (action : Action) (cause : ℕ) → executes action ≡ true → cause ≡ 6 → IsCauseOf action cause
executed_by actions.Read cause e is = absurd cc
executed_by _ cause e is = inl is

asked_by : (action : Action) (cause : ℕ) → is_general action ≡ true → cause ≡ 6 → IsCauseOf action cause
asked_by actions.Read cause e is = absurd cc
asked_by _ cause e is = inl is

-- ---- what octets spell

module _ (setup : Setup) (pending : Bool) (octets : List ℕ) where
  abbrev spelled : Command
  spelled = command_in octets

  abbrev places_of : Result Command CommandFault → ℕ
  places_of r = places_for pending (judged_reading setup r)

  spelled_in : (c : Command) → command_of octets ≡ Ok c → c ≡ spelled
  unfolding command_of
  spelled_in c e = by (first_of (faults octets)) e
    where
      by : (fault : Option CommandFault) → unless fault spelled ≡ Ok c → c ≡ spelled
      by None e = sym cc
      by (Some fault) e = absurd cc

  by_tests : places_of (Ok spelled)
      ≡ wanted (has_known_cause spelled) (is_addressed setup spelled) (has_object setup spelled)
      (is_accepted_act pending spelled) (is_execute spelled)
  by_tests = places_by pending spelled (has_known_cause spelled) (is_addressed setup spelled) (has_object setup spelled)

  activated : HasKnownCause spelled → spelled.cause ≡ 6 → IsActivation octets
  activated known is = activation_in (slice_index octets 2) is known.positive known.real

  known_cause : IsActivation octets → IsCauseOf spelled.action spelled.cause → has_known_cause spelled ≡ true
  known_cause h is =
      let bits = in_activation (slice_index octets 2) h in
      is_cause spelled (record { positive = bits.1; real = bits.2; cause = is })

  -- none
  none_spelled : places_of (Ok spelled) ≡ 0 → SpellsInterrogation setup pending octets
  none_spelled e =
      let t = wanted-none (has_known_cause spelled) (is_addressed setup spelled) (has_object setup spelled)
      (is_accepted_act pending spelled) (is_execute spelled) (sym by_tests ∙ e) in
      let act = and_parts (spelled.cause == 6 && is_general spelled.action) (not pending) t.3 in
      let front = and_parts (spelled.cause == 6) (is_general spelled.action) act.0 in
      record {
        interrogation = general octets (slice_index octets 0) front.1;
        activation = activated (cause_is spelled t.0) (eqb-true spelled.cause 6 front.0);
        station = asked_for setup spelled.action spelled.common_address front.1 (station_is setup spelled t.1);
        object = object_of setup spelled.action (object_for spelled) front.1 t.2;
        alone = not-true pending act.1;
      }

  spelled_none : SpellsInterrogation setup pending octets → places_of (Ok spelled) ≡ 0
  spelled_none h =
      let asks = to_interrogate octets (slice_index octets 0) h.interrogation in
      let is : spelled.cause ≡ 6 = (in_activation (slice_index octets 2) h.activation).0 in
      by_tests ∙ none-wanted (has_known_cause spelled) (is_addressed setup spelled) (has_object setup spelled)
      (is_accepted_act pending spelled) (is_execute spelled)
      (known_cause h.activation (asked_by spelled.action spelled.cause asks is))
      (is_station setup spelled (for_asked setup spelled.action spelled.common_address asks h.station))
      (of_object setup spelled.action (object_for spelled) asks h.object)
      (and_from (spelled.cause == 6 && is_general spelled.action) (not pending)
      (and_from (spelled.cause == 6) (is_general spelled.action) (eq-eqb spelled.cause 6 is) asks)
      (not_from_false pending h.alone))

  -- two
  two_spelled : places_of (Ok spelled) ≡ 2 → SpellsExecute setup octets
  two_spelled e =
      let t = wanted-two (has_known_cause spelled) (is_addressed setup spelled) (has_object setup spelled)
      (is_accepted_act pending spelled) (is_execute spelled) (sym by_tests ∙ e) in
      let parts = and_parts (spelled.cause == 6) (executes spelled.action) t.2 in
      record {
        execute = executing octets (slice_index octets 0) parts.1;
        activation = activated (cause_is spelled t.0) (eqb-true spelled.cause 6 parts.0);
        station = executed_for setup spelled.action spelled.common_address parts.1 (station_is setup spelled t.1);
      }

  spelled_two : SpellsExecute setup octets → places_of (Ok spelled) ≡ 2
  spelled_two h =
      let runs = to_execute octets (slice_index octets 0) h.execute in
      let is : spelled.cause ≡ 6 = (in_activation (slice_index octets 2) h.activation).0 in
      by_tests ∙ two-wanted (has_known_cause spelled) (is_addressed setup spelled) (has_object setup spelled)
      (is_accepted_act pending spelled) (is_execute spelled)
      (known_cause h.activation (executed_by spelled.action spelled.cause runs is))
      (is_station setup spelled (for_executed setup spelled.action spelled.common_address runs h.station))
      no_act
      (and_from (spelled.cause == 6) (executes spelled.action) (eq-eqb spelled.cause 6 is) runs)
    where
      no_act : is_accepted_act pending spelled ≡ false
      no_act = elim (cases_Bool (is_accepted_act pending spelled)) [
        | inl act ↦
            let front = (and_parts (spelled.cause == 6 && is_general spelled.action) (not pending) act).0 in
            let asks = (and_parts (spelled.cause == 6) (is_general spelled.action) front).1 in
            absurd (not_both octets (general octets (slice_index octets 0) asks) h.execute)
        | inr none ↦ none
      ]

  -- ---- what is wanted

  module _ (whole : IsMalformed octets → ⊥) where
    -- a known type then spells a command
    spells : HasKnownType octets → command_of octets ≡ Ok spelled
    spells known = by (command_of octets) refl
      where
        by : (r : Result Command CommandFault) → command_of octets ≡ r → command_of octets ≡ Ok spelled
        by (Ok c) is = is ∙ ap (λ (d : Command). Ok d) (spelled_in c is)
        by (Err fault) is = absurd (whole (inr (known, never)))
          where
            never : (c : Command) → command_of octets ≡ Ok c → ⊥
            never c e = err_not (sym is ∙ e)
              where
                err_not : Err fault ≡ Ok c → ⊥
                err_not e = cc

    wants_none : (r : Result Command CommandFault) → command_of octets ≡ r → places_of r ≡ 0
        → SpellsInterrogation setup pending octets
    wants_none (Ok c) is e = none_spelled (ap (λ (d : Command). places_of (Ok d)) (sym (spelled_in c is)) ∙ e)
    wants_none (Err UnknownType) is e = absurd (omega (arith, e))
    wants_none (Err Short) is e = absurd (whole ((malformed setup octets).0 (ap (judged_reading setup) is)))
    wants_none (Err Long) is e = absurd (whole ((malformed setup octets).0 (ap (judged_reading setup) is)))
    wants_none (Err Count) is e = absurd (whole ((malformed setup octets).0 (ap (judged_reading setup) is)))

    none_wants : SpellsInterrogation setup pending octets → places_for pending (judged setup octets) ≡ 0
    none_wants h = ap places_of (spells known) ∙ spelled_none h
      where
        known : HasKnownType octets
        known = elim h.interrogation [
          | inl station ↦ (actions.Interrogation 0, station.0)
          | inr counters ↦ (actions.CounterInterrogation 0, counters.0)
        ]

    wants_two : (r : Result Command CommandFault) → command_of octets ≡ r → places_of r ≡ 2
        → SpellsExecute setup octets
    wants_two (Ok c) is e = two_spelled (ap (λ (d : Command). places_of (Ok d)) (sym (spelled_in c is)) ∙ e)
    wants_two (Err UnknownType) is e = absurd (omega (arith, e))
    wants_two (Err Short) is e = absurd (omega (arith, e))
    wants_two (Err Long) is e = absurd (omega (arith, e))
    wants_two (Err Count) is e = absurd (omega (arith, e))

    two_wants : SpellsExecute setup octets → places_for pending (judged setup octets) ≡ 2
    two_wants h = ap places_of (spells known) ∙ spelled_two h
      where
        known : HasKnownType octets
        known = elim h.execute [
          | inl switch ↦ elim switch.0 [
            | inl single ↦ (actions.Single (single_of 0), single)
            | inr double ↦ (actions.Double (double_of 0), double)
          ]
          | inr setpoint ↦ (actions.Setpoint (setpoint_of []), setpoint.0)
        ]

-- none, one or two
abbrev IsFew : ℕ → Type 0
IsFew n = (n ≡ 0) ⊎ ((n ≡ 1) ⊎ (n ≡ 2))

few : (pending : Bool) (j : Judged) → IsFew (places_for pending j)
few pending Malformed = inl refl
few pending (Refuse cause true) = inr (inr refl)
few pending (Refuse cause false) = inr (inl refl)
few pending (Accepted c) = by (is_accepted_act pending c) (is_execute c)
  where
    by : (act execute : Bool) → IsFew (if act then 0 else if execute then 2 else 1)
    by true execute = inl refl
    by false true = inr (inr refl)
    by false false = inr (inl refl)

pub none_wanted : (setup : Setup) (pending : Bool) (octets : List ℕ) → (IsMalformed octets → ⊥)
    → (places_for pending (judged setup octets) ≡ 0) ↔ SpellsInterrogation setup pending octets
none_wanted setup pending octets whole = (
  wants_none setup pending octets whole (command_of octets) refl,
  none_wants setup pending octets whole,
)

pub two_wanted : (setup : Setup) (pending : Bool) (octets : List ℕ) → (IsMalformed octets → ⊥)
    → (places_for pending (judged setup octets) ≡ 2) ↔ SpellsExecute setup octets
two_wanted setup pending octets whole = (
  wants_two setup pending octets whole (command_of octets) refl,
  two_wants setup pending octets whole,
)

pub one_wanted : (setup : Setup) (pending : Bool) (octets : List ℕ) → (IsMalformed octets → ⊥)
    → (places_for pending (judged setup octets) ≡ 1)
    ↔ ((SpellsInterrogation setup pending octets → ⊥) × (SpellsExecute setup octets → ⊥))
one_wanted setup pending octets whole = (
  (λ one. (
    (λ h. omega (arith, one, (none_wanted setup pending octets whole).1 h)),
    (λ h. omega (arith, one, (two_wanted setup pending octets whole).1 h)),
  )),
  (λ neither. elim (few pending (judged setup octets)) [
    | inl none ↦ absurd (neither.0 ((none_wanted setup pending octets whole).0 none))
    | inr some ↦ elim some [
      | inl one ↦ one
      | inr two ↦ absurd (neither.1 ((two_wanted setup pending octets whole).0 two))
    ]
  ]),
)
