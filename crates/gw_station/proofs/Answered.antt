-- After an ASDU a client's answers can be spelled, and sent where they could before, the picture's observations can, and
-- the known common addresses have 16 bits.
use Rattle.std.proofs.Common.{◌≡◌, ℕ, Bool, true, false, List, [], ◌∷◌, ◌++◌, Option}
use Rattle.std.proofs.Common.{Some, None, map, inl, inr, sym, ap, subst, ◌∙◌, arith}
use Rattle.std.specs.Prelude.{option_map, IfSome}
use Rattle.std.specs.List.{AllByRecursion}
use Rattle.std.proofs.lemmas.Bool.{cases_Bool}
use Rattle.std.proofs.lemmas.List.Folds.{flat_map-map}
use Rattle.gw_model.specs.declared.observation.Observation.{Observation}
use Rattle.gw_model.specs.Clocks.{Clocks}
use Rattle.gw_entries.specs.Ranges.{IsWithin}
use Rattle.gw_map.specs.Settings.{Setup, AreShort, HasShortAddresses}
use Rattle.iec_apci.specs.declared.apdu.Asdu.{Asdu}
use Rattle.iec_command.specs.declared.command.Command.{Command}
use Rattle.iec_command.specs.declared.command.Action.{Action}
use Rattle.iec_command.specs.declared.command.Action.TheVariants as actions
use Rattle.gw_judge.specs.Acceptable.{object_for}
use Rattle.gw_judge.specs.declared.judging.Judged.{Judged}
use Rattle.gw_judge.specs.declared.judging.Judged.TheVariants.{Malformed, Refuse, Accepted}
use Rattle.gw_judge.specs.Judging.{IsWholeJudged}
use Rattle.gw_judge.proofs.Refused.{header_whole, cause_within}
use Rattle.gw_answers.specs.declared.outgoing.AsduAnswer.{AsduAnswer}
use Rattle.gw_answers.specs.declared.outgoing.AsduAnswer.TheVariants.{Made}
use Rattle.gw_answers.specs.declared.outgoing.OwnAsdu.{OwnAsdu}
use Rattle.gw_answers.specs.declared.outgoing.OwnAsdu.TheVariants as outgoing
use Rattle.gw_answers.specs.Interrogations.{answer_to, answer_under, asked_addresses, is_accepted_act}
use Rattle.gw_answers.specs.Sections.{joined}
use Rattle.gw_answers.specs.Answers.{shown_at, refused_act, answered_action, answered}
use Rattle.gw_answers.specs.Octets.{octets_in, IsReturnable}
use Rattle.gw_answers.specs.Meaning.{IsSendable, CanSendAnswer, CanSendOutgoing}
use Rattle.gw_answers.proofs.Sendable.{asked_short, answered_can, answer_to_can}
use Rattle.gw_station.specs.Answers.{is_pending, answers_with, is_asking, rest_with, client_judging}
use Rattle.gw_station.specs.Client.{Client}
use Rattle.gw_station.specs.Frames.{judged_asdu}
use Rattle.gw_station.specs.Sound.{CanAnswer}
use Rattle.gw_station.proofs.All.{all-append}

-- one more of a kind, where there is one
one_more : (P : AsduAnswer → Type 0) (answer : Option AsduAnswer) (waiting : List AsduAnswer) → IfSome answer P
    → AllByRecursion P waiting → AllByRecursion P (answers_with answer waiting)
one_more P None waiting is all = all
one_more P (Some answer) waiting is all = all-append P waiting (answer ∷ []) all (is, tt)

rest_can : (clocks : Clocks) (setup : Setup) (picture : List Observation) (j : Judged) (asking : Bool) (c : Client)
    → HasShortAddresses setup → IsWholeJudged j → AllByRecursion (IsSendable clocks) picture
    → AllByRecursion (CanSendOutgoing clocks) c.rest
    → AllByRecursion (CanSendOutgoing clocks) (rest_with setup picture j asking c)
rest_can clocks setup picture (Accepted command) true c known whole shown all =
    let common : ℕ = command.common_address in
    answer_to_can clocks (asked_addresses setup common) command picture
    (asked_short setup common known whole.common_address) whole shown
rest_can clocks setup picture (Accepted command) false c known whole shown all = all
rest_can clocks setup picture Malformed asking c known whole shown all = all
rest_can clocks setup picture (Refuse cause execute) asking c known whole shown all = all

-- an ASDU that was judged so
pub judging_can : (clocks : Clocks) (setup : Setup) (picture : List Observation) (asdu : Asdu) (j : Judged) (c : Client)
    → judged_asdu setup asdu ≡ j → HasShortAddresses setup → IsWholeJudged j
    → AllByRecursion (IsSendable clocks) picture → CanAnswer clocks c
    → CanAnswer clocks (client_judging setup picture asdu j c)
judging_can clocks setup picture asdu j c e known whole shown can =
    let pending : Bool = is_pending c.rest in
    let answer = answered_can clocks setup picture pending asdu j e known whole shown in (
      one_more (CanSendAnswer clocks) (answered setup picture pending asdu j) c.answers answer can.0,
      rest_can clocks setup picture j (is_asking j c) c known whole shown can.1,
    )

-- addresses in their range have 16 bits
pub short_within : (addresses : List ℕ) → AllByRecursion (IsWithin 1 65534) addresses → AreShort addresses
short_within [] all = tt
short_within (n ∷ more) all = (omega (arith, all.0.1), short_within more all.1)

-- the sections of an answer, one behind the other, are the answer
pub answer_joined : (asked : List ℕ) (c : Command) (picture : List Observation) (sections : List (List OwnAsdu))
    → sections ≡ map (answer_under c picture) asked → joined sections ≡ answer_to asked c picture
answer_joined asked c picture sections e = ap joined e ∙ flat_map-map (λ parts. parts) (answer_under c picture) asked

-- ---- what comes back can be spelled

read_returnable : (originator : ℕ) (shown : Option Observation)
    → IfSome (option_map (λ x. Made (outgoing.Observation 5 originator x)) shown) IsReturnable
read_returnable originator None = tt
read_returnable originator (Some x) = tt

refused_returnable : (setup : Setup) (pending : Bool) (command : Command)
    → IfSome (refused_act setup pending command) IsReturnable
refused_returnable setup pending command = elim (cases_Bool (is_accepted_act pending command)) [
  | inl accepted ↦ rw accepted tt
  | inr refused ↦ rw refused tt
]

action_returnable : (setup : Setup) (picture : List Observation) (pending : Bool) (command : Command) (action : Action)
    → IfSome (answered_action setup picture pending command action) IsReturnable
action_returnable setup picture pending command (actions.Interrogation qualifier) =
    refused_returnable setup pending command
action_returnable setup picture pending command (actions.CounterInterrogation qualifier) =
    refused_returnable setup pending command
action_returnable setup picture pending command actions.Read =
    read_returnable command.originator (shown_at setup picture (object_for command))
action_returnable setup picture pending command (actions.Single x) = tt
action_returnable setup picture pending command (actions.Double x) = tt
action_returnable setup picture pending command (actions.Setpoint x) = tt

answered_returnable : (setup : Setup) (picture : List Observation) (pending : Bool) (asdu : Asdu) (j : Judged)
    → judged_asdu setup asdu ≡ j → IfSome (answered setup picture pending asdu j) IsReturnable
answered_returnable setup picture pending asdu Malformed e = tt
answered_returnable setup picture pending asdu (Refuse cause execute) e =
    let within = cause_within setup (octets_in asdu) cause execute e in
    (header_whole setup (octets_in asdu) cause execute e, within.0, within.1)
answered_returnable setup picture pending asdu (Accepted command) e =
    action_returnable setup picture pending command command.action

-- the answers that wait, and that to an ASDU that was judged so
pub returnable_more : (setup : Setup) (picture : List Observation) (pending : Bool) (asdu : Asdu) (j : Judged)
    (answer : AsduAnswer) (waiting more : List AsduAnswer) → judged_asdu setup asdu ≡ j
    → answered setup picture pending asdu j ≡ Some answer → more ≡ waiting ++ answer ∷ []
    → AllByRecursion IsReturnable waiting → AllByRecursion IsReturnable more
returnable_more setup picture pending asdu j answer waiting more judged gets is all =
    let one = subst (λ (x : Option AsduAnswer). IfSome x IsReturnable) gets
    (answered_returnable setup picture pending asdu j judged) in
    subst (AllByRecursion IsReturnable) (sym is) (all-append IsReturnable waiting (answer ∷ []) all (one, tt))
