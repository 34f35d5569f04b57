-- What an ASDU gets at once is what the definitions apart from the code say.
use Rattle.std.proofs.Common.{◌≡◌, ◌↔◌, ℕ, ◌+◌, ◌==◌, Bool, true, false, not, ◌&&◌, ◌⊎◌, inl, inr, List}
use Rattle.std.proofs.Common.{[], ◌∷◌, map, slice_get, Option, Some, None, Ok, refl, sym, ap, subst, ◌∙◌, arith}
use Rattle.std.proofs.lemmas.Bool.{cases_Bool, eqb-true, eq-eqb, and_parts, and_from, not-true, not_from_false}
use Rattle.std.proofs.lemmas.Option.{same_Some}
use Rattle.std.specs.Prelude.{option_map}
use Rattle.gw_model.specs.declared.observation.Observation.{Observation}
use Rattle.gw_entries.specs.declared.row.Row.{Row}
use Rattle.gw_map.specs.Settings.{Setup, row_object, control_object, known_addresses, row_at_from, HasSingleAddresses}
use Rattle.gw_map.proofs.Known.{some_known}
use Rattle.iec_apci.specs.declared.apdu.Asdu.{Asdu}
use Rattle.iec_command.specs.declared.command.Command.{Command}
use Rattle.iec_command.specs.declared.command.Action.{Action}
use Rattle.iec_command.specs.declared.command.Action.TheVariants as actions
use Rattle.iec_command.specs.Commands.{command_of}
use Rattle.gw_judge.specs.declared.judging.Judged.{Judged}
use Rattle.gw_judge.specs.declared.judging.Judged.TheVariants.{Malformed, Refuse, Accepted}
use Rattle.gw_judge.specs.Judging.{judged}
use Rattle.gw_judge.specs.Acceptable.{IsCauseOf, IsAcceptable, object_for}
use Rattle.gw_judge.proofs.Accepted.{accepted_exactly}
use Rattle.gw_judge.proofs.Found.{first-at, place-first}
use Rattle.gw_judge.proofs.Refusals.{back_comes, comes_back, not_so, so_not}
use Rattle.gw_answers.specs.declared.outgoing.AsduAnswer.{AsduAnswer}
use Rattle.gw_answers.specs.declared.outgoing.AsduAnswer.TheVariants.{Returned, Made}
use Rattle.gw_answers.specs.declared.outgoing.OwnAsdu.TheVariants as outgoing
use Rattle.gw_answers.specs.Outgoing.{confirmation_cause, confirmed, under}
use Rattle.gw_answers.specs.Interrogations.{asked_addresses, is_general, is_accepted_act}
use Rattle.gw_answers.specs.Answers.{shown_by, first_asked, refused_act, answered_action, answered}
use Rattle.gw_answers.specs.Octets.{octets_in}
use Rattle.gw_answers.specs.AtOnce.{IsInterrogation, IsGeneral, BeginsAnswer, IsConfirmedWith}
use Rattle.gw_answers.specs.AtOnce.{IsRefusedBy, IsRefusedAct, IsShownAt, IsRead, Gets}

-- ---- interrogations

general_is : (action : Action) → is_general action ≡ true → IsGeneral action
general_is (actions.Interrogation qualifier) e = eqb-true qualifier 20 e
general_is (actions.CounterInterrogation qualifier) e = eqb-true qualifier 5 e
general_is _ e = absurd cc

is_so_general : (action : Action) → IsGeneral action → is_general action ≡ true
is_so_general (actions.Interrogation qualifier) h = eq-eqb qualifier 20 h
is_so_general (actions.CounterInterrogation qualifier) h = eq-eqb qualifier 5 h
is_so_general _ h = elim h [ ]

pub begins_answer : (pending : Bool) (c : Command) → is_accepted_act pending c ≡ true → BeginsAnswer pending c
begins_answer pending c e =
    let parts = and_parts (c.cause == 6 && is_general c.action) (not pending) e in
    let front = and_parts (c.cause == 6) (is_general c.action) parts.0 in
    record {
      activation = eqb-true c.cause 6 front.0;
      general = general_is c.action front.1;
      alone = not-true pending parts.1;
    }

pub answer_begins : (pending : Bool) (c : Command) → BeginsAnswer pending c → is_accepted_act pending c ≡ true
answer_begins pending c h =
    and_from (c.cause == 6 && is_general c.action) (not pending)
    (and_from (c.cause == 6) (is_general c.action) (eq-eqb c.cause 6 h.activation) (is_so_general c.action h.general))
    (not_from_false pending h.alone)

-- the causes of interrogations
acts : (action : Action) (cause : ℕ) → IsInterrogation action → IsCauseOf action cause → (cause ≡ 6) ⊎ (cause ≡ 8)
acts (actions.Interrogation qualifier) cause is h = h
acts (actions.CounterInterrogation qualifier) cause is h = h
acts _ cause is h = elim is [ ]

confirmed_with : (cause : ℕ) → (cause ≡ 6) ⊎ (cause ≡ 8) → IsConfirmedWith cause (confirmation_cause cause)
confirmed_with cause h = elim h [
  | inl on ↦ rw on (inl (refl, refl))
  | inr off ↦ rw off (inr (refl, refl))
]

with_cause : (cause confirmation : ℕ) → IsConfirmedWith cause confirmation → confirmation ≡ confirmation_cause cause
with_cause cause confirmation h = elim h [
  | inl on ↦ rw on.0 on.1
  | inr off ↦ rw off.0 off.1
]

-- ---- by which common address what is refused is answered

first_is : (asked : List ℕ) (common : ℕ) → (asked ≡ [] → ⊥)
    → (more : List ℕ) × (asked ≡ first_asked asked common ∷ more)
first_is [] common some = absurd (some refl)
first_is (first ∷ more) common some = (more, refl)

refused_by : (setup : Setup) (common : ℕ)
    → IsRefusedBy setup common (first_asked (asked_addresses setup common) common)
refused_by setup common = elim (cases_Bool (common == 65535)) [
  | inl all ↦ rw all (inr (eqb-true common 65535 all, first_is (known_addresses setup) common (some_known setup)))
  | inr one ↦ rw one (inl ((λ e. so_not _ one (eq-eqb common 65535 e)), refl))
]

by_refused : (setup : Setup) (common by : ℕ) → IsRefusedBy setup common by
    → by ≡ first_asked (asked_addresses setup common) common
by_refused setup common by h = elim h [
  | inl one ↦ rw (not_so (common == 65535) (λ e. one.0 (eqb-true common 65535 e))) one.1
  | inr all ↦
      rw (eq-eqb common 65535 all.0)
      (ap (λ (known : List ℕ). first_asked known common) (sym all.1.1))
]

-- ---- what is given, by what is spelled

module _ (setup : Setup) (picture : List Observation) (pending : Bool) (asdu : Asdu) (c : Command)
    (spelled : command_of (octets_in asdu) ≡ Ok c) (acceptable : IsAcceptable setup c) where
  refused_gets : (answer : AsduAnswer) → IsInterrogation c.action → refused_act setup pending c ≡ Some answer
      → Gets setup picture pending asdu answer
  refused_gets answer is e = elim (cases_Bool (is_accepted_act pending c)) [
    | inl accepted ↦ absurd (none_is (rw accepted at e))
    | inr refused ↦
        let first : ℕ = first_asked (asked_addresses setup c.common_address) c.common_address in
        let answer_is : Some (Made (confirmed true (under first c))) ≡ Some answer = rw refused at e in
        subst (Gets setup picture pending asdu) (same_Some _ _ answer_is) (record {
          act = c;
          spelled = spelled;
          acceptable = acceptable;
          interrogation = is;
          refused = λ begins. so_not _ refused (answer_begins pending c begins);
          cause = confirmed_with c.cause (acts c.action c.cause is acceptable.cause.cause);
          by = refused_by setup c.common_address;
          else_as_it_came = refl;
        })
  ]
    where
      none_is : None ≡ Some answer → ⊥
      none_is e = cc

  shown_gets : (answer : AsduAnswer) (found : Option (ℕ × Row)) → c.action ≡ actions.Read
      → row_at_from 0 c.common_address c.address setup.rows ≡ found
      → option_map (λ x. Made (outgoing.Observation 5 c.originator x)) (shown_by picture found) ≡ Some answer
      → Gets setup picture pending asdu answer
  shown_gets answer None is e h = absurd cc
  shown_gets answer (Some found) is e h = by_shown (slice_get picture found.0) refl h
    where
      by_shown : (shown : Option Observation) → slice_get picture found.0 ≡ shown
          → option_map (λ x. Made (outgoing.Observation 5 c.originator x)) shown ≡ Some answer
          → Gets setup picture pending asdu answer
      by_shown None there h = absurd cc
      by_shown (Some x) there h =
          let at = first-at row_object (λ _. Unit {0}) (object_for c) 0 setup.rows found e in
          let place : found.0 ≡ at.0 = omega (arith, at.1) in
          subst (Gets setup picture pending asdu) (same_Some _ _ h) (record {
            read = c;
            spelled = spelled;
            acceptable = acceptable;
            is_read = is;
            requested = refl;
            answered = refl;
            shown = record {
              place = at.0;
              row = found.1;
              there = at.2;
              has_object = at.3;
              shown = ap (λ (n : ℕ). slice_get picture n) (sym place) ∙ there;
            };
          })

  action_gets : (action : Action) (answer : AsduAnswer) → c.action ≡ action
      → answered_action setup picture pending c action ≡ Some answer → Gets setup picture pending asdu answer
  action_gets (actions.Interrogation qualifier) answer is e =
      refused_gets answer (subst IsInterrogation (sym is) tt) e
  action_gets (actions.CounterInterrogation qualifier) answer is e =
      refused_gets answer (subst IsInterrogation (sym is) tt) e
  action_gets actions.Read answer is e = shown_gets answer (row_at_from 0 c.common_address c.address setup.rows) is refl e
  action_gets (actions.Single x) answer is e = absurd cc
  action_gets (actions.Double x) answer is e = absurd cc
  action_gets (actions.Setpoint x) answer is e = absurd cc

-- ---- an ASDU that was judged

abbrev given : Setup → List Observation → Bool → Asdu → Option AsduAnswer
given setup picture pending asdu = answered setup picture pending asdu (judged setup (octets_in asdu))

judged_gets : (setup : Setup) (picture : List Observation) (pending : Bool) (asdu : Asdu) (answer : AsduAnswer)
    (j : Judged) → HasSingleAddresses setup.rows setup.controls → judged setup (octets_in asdu) ≡ j
    → answered setup picture pending asdu j ≡ Some answer → Gets setup picture pending asdu answer
judged_gets setup picture pending asdu answer Malformed single is e = absurd cc
judged_gets setup picture pending asdu answer (Refuse cause execute) single is e =
    subst (Gets setup picture pending asdu) (same_Some _ _ e)
    (refl, comes_back setup (octets_in asdu) cause execute single is)
judged_gets setup picture pending asdu answer (Accepted c) single is e =
    let spelled = (accepted_exactly setup (octets_in asdu) c single).0 is in
    action_gets setup picture pending asdu c spelled.0 spelled.1 c.action answer refl e

-- ---- the other way round

by_judgement : (setup : Setup) (picture : List Observation) (pending : Bool) (asdu : Asdu) (j : Judged)
    (answer : AsduAnswer) → judged setup (octets_in asdu) ≡ j → answered setup picture pending asdu j ≡ Some answer
    → given setup picture pending asdu ≡ Some answer
by_judgement setup picture pending asdu j answer is e = ap (answered setup picture pending asdu) is ∙ e

refusing : (setup : Setup) (picture : List Observation) (pending : Bool) (c : Command) (action : Action)
    → IsInterrogation action → (BeginsAnswer pending c → ⊥)
    → answered_action setup picture pending c action
    ≡ Some (Made (confirmed true (under (first_asked (asked_addresses setup c.common_address) c.common_address) c)))
refusing setup picture pending c (actions.Interrogation qualifier) is refused =
    rw (not_so (is_accepted_act pending c) (λ accepted. refused (begins_answer pending c accepted)))
refusing setup picture pending c (actions.CounterInterrogation qualifier) is refused =
    rw (not_so (is_accepted_act pending c) (λ accepted. refused (begins_answer pending c accepted)))
refusing setup picture pending c actions.Read is refused = elim is [ ]
refusing setup picture pending c (actions.Single x) is refused = elim is [ ]
refusing setup picture pending c (actions.Double x) is refused = elim is [ ]
refusing setup picture pending c (actions.Setpoint x) is refused = elim is [ ]

gets_refused : (setup : Setup) (picture : List Observation) (pending : Bool) (asdu : Asdu) (told : Command)
    → HasSingleAddresses setup.rows setup.controls → IsRefusedAct setup pending (octets_in asdu) told
    → given setup picture pending asdu ≡ Some (Made (outgoing.Command told))
gets_refused setup picture pending asdu told single h =
    let is = (accepted_exactly setup (octets_in asdu) h.act single).1 (h.spelled, h.acceptable) in
    let cause = with_cause h.act.cause told.cause h.cause in
    let by : told.common_address ≡ first_asked (asked_addresses setup h.act.common_address) h.act.common_address =
    by_refused setup h.act.common_address told.common_address h.by in
    let same : told ≡ record h.act {
      cause = confirmation_cause h.act.cause;
      negative = true;
      common_address = first_asked (asked_addresses setup h.act.common_address) h.act.common_address;
    } = h.else_as_it_came ∙ λ i. record h.act { cause = cause i; negative = true; common_address = by i } in
    by_judgement setup picture pending asdu (Accepted h.act) (Made (outgoing.Command told)) is
    (refusing setup picture pending h.act h.act.action h.interrogation h.refused
    ∙ ap (λ (d : Command). Some (Made (outgoing.Command d))) (sym same))

reading : (setup : Setup) (picture : List Observation) (pending : Bool) (c : Command) (x : Observation)
    (action : Action) → c.action ≡ action → action ≡ actions.Read → HasSingleAddresses setup.rows setup.controls
    → IsShownAt setup picture (object_for c) x
    → answered_action setup picture pending c action ≡ Some (Made (outgoing.Observation 5 c.originator x))
reading setup picture pending c x actions.Read is _ single h =
    let rest = map control_object setup.controls in
    let found : row_at_from 0 c.common_address c.address setup.rows ≡ Some (0 + h.place, h.row) =
    place-first row_object (λ _. Unit {0}) (object_for c) 0 0 h.place [] setup.rows rest h.row single
    h.there h.has_object tt in
    let at : 0 + h.place ≡ h.place = omega arith in
    ap (λ (f : Option (ℕ × Row)). option_map (λ y. Made (outgoing.Observation 5 c.originator y)) (shown_by picture f))
    found
    ∙ ap (λ (o : Option Observation). option_map (λ y. Made (outgoing.Observation 5 c.originator y)) o)
    (ap (λ (n : ℕ). slice_get picture n) at ∙ h.shown)
reading setup picture pending c x (actions.Interrogation qualifier) is e single h = absurd cc
reading setup picture pending c x (actions.CounterInterrogation qualifier) is e single h = absurd cc
reading setup picture pending c x (actions.Single y) is e single h = absurd cc
reading setup picture pending c x (actions.Double y) is e single h = absurd cc
reading setup picture pending c x (actions.Setpoint y) is e single h = absurd cc

gets_read : (setup : Setup) (picture : List Observation) (pending : Bool) (asdu : Asdu) (cause originator : ℕ)
    (x : Observation) → HasSingleAddresses setup.rows setup.controls
    → IsRead setup picture (octets_in asdu) cause originator x
    → given setup picture pending asdu ≡ Some (Made (outgoing.Observation cause originator x))
gets_read setup picture pending asdu cause originator x single h =
    let is = (accepted_exactly setup (octets_in asdu) h.read single).1 (h.spelled, h.acceptable) in
    by_judgement setup picture pending asdu (Accepted h.read) (Made (outgoing.Observation cause originator x)) is
    (reading setup picture pending h.read x h.read.action refl h.is_read single h.shown
    ∙ (ap (λ (n : ℕ). Some (Made (outgoing.Observation n h.read.originator x))) (sym h.requested)
    ∙ ap (λ (n : ℕ). Some (Made (outgoing.Observation cause n x))) (sym h.answered)))

gets_given : (setup : Setup) (picture : List Observation) (pending : Bool) (asdu : Asdu) (answer : AsduAnswer)
    → HasSingleAddresses setup.rows setup.controls → Gets setup picture pending asdu answer
    → given setup picture pending asdu ≡ Some answer
gets_given setup picture pending asdu (Returned back cause) single h =
    let is = back_comes setup (octets_in asdu) cause single h.1 in
    by_judgement setup picture pending asdu (Refuse cause is.0) (Returned back cause) is.1
    (ap (λ (a : Asdu). Some (Returned a cause)) (sym h.0))
gets_given setup picture pending asdu (Made (outgoing.Command told)) single h =
    gets_refused setup picture pending asdu told single h
gets_given setup picture pending asdu (Made (outgoing.Observation cause originator x)) single h =
    gets_read setup picture pending asdu cause originator x single h

pub gets_exactly : (setup : Setup) (picture : List Observation) (pending : Bool) (asdu : Asdu) (answer : AsduAnswer)
    → HasSingleAddresses setup.rows setup.controls
    → (answered setup picture pending asdu (judged setup (octets_in asdu)) ≡ Some answer)
    ↔ Gets setup picture pending asdu answer
gets_exactly setup picture pending asdu answer single = (
  (λ e. judged_gets setup picture pending asdu answer (judged setup (octets_in asdu)) single refl e),
  (λ h. gets_given setup picture pending asdu answer single h),
)
