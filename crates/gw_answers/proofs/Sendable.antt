-- Answers can be sent, where the picture's observations can, and a command has the bits of its places.
use Rattle.std.proofs.Common.{◌≡◌, ℕ, zero, suc, ◌<◌, Bool, true, false, ◌==◌, ◌&&◌, List, []}
use Rattle.std.proofs.Common.{◌∷◌, ◌++◌, map, filter, Option, Some, None, refl, arith, inl, inr}
use Rattle.std.specs.Prelude.{option_map, slice_get, IfSome, IsTrue}
use Rattle.std.specs.List.{AllByRecursion}
use Rattle.std.proofs.lemmas.Bool.{cases_Bool}
use Rattle.gw_model.specs.declared.observation.Observation.{Observation}
use Rattle.gw_model.specs.Clocks.{Clocks}
use Rattle.gw_entries.specs.declared.row.Row.{Row as AnyRow}
use Rattle.gw_map.specs.Settings.{Setup, row_at_from, AreShort, HasShortAddresses}
use Rattle.iec_apci.specs.declared.apdu.Asdu.{Asdu}
use Rattle.iec_command.specs.declared.command.Command.{Command}
use Rattle.iec_command.specs.declared.command.Action.{Action}
use Rattle.iec_command.specs.declared.command.Action.TheVariants as actions
use Rattle.iec_command.specs.Commands.{IsWhole}
use Rattle.gw_judge.specs.declared.judging.Judged.{Judged}
use Rattle.gw_judge.specs.declared.judging.Judged.TheVariants.{Malformed, Refuse, Accepted}
use Rattle.gw_judge.specs.Judging.{judged, IsWholeJudged}
use Rattle.gw_judge.proofs.Refused.{header_whole, cause_within}
use Rattle.gw_answers.specs.declared.outgoing.AsduAnswer.TheVariants.{Made}
use Rattle.gw_answers.specs.declared.outgoing.OwnAsdu.TheVariants as outgoing
use Rattle.gw_answers.specs.Outgoing.{command_with, confirmed, under}
use Rattle.gw_answers.specs.Interrogations.{asked_addresses, is_accepted_act, is_asked_by, rows_under, answer_under, answer_to, cause_for}
use Rattle.gw_answers.specs.Answers.{shown_by, first_asked, refused_act, answered_action, answered}
use Rattle.gw_answers.specs.Octets.{octets_in}
use Rattle.gw_answers.specs.Meaning.{IsSendable, is_answering, CanSendOutgoing, CanSendAnswer}

-- ---- commands

-- a command goes out with one of the causes of answers
answering_can : (clocks : Clocks) (cause : ℕ) (negative : Bool) (c : Command) → cause < 64
    → IsTrue (is_answering cause) → IsWhole c
    → CanSendOutgoing clocks (command_with cause negative c)
answering_can clocks cause negative c few is whole = (
  is,
  record {
    cause = few;
    originator = whole.originator;
    common_address = whole.common_address;
    address = whole.address;
    action = whole.action;
  },
)

pub confirmed_can : (clocks : Clocks) (negative : Bool) (c : Command) → IsWhole c
    → CanSendOutgoing clocks (confirmed negative c)
confirmed_can clocks negative c whole = elim (cases_Bool (c.cause == 8)) [
  | inl off ↦ rw off (answering_can clocks 9 negative c (omega arith) refl whole)
  | inr on ↦ rw on (answering_can clocks 7 negative c (omega arith) refl whole)
]

-- ---- an answer at once

-- what stands in a list of what can be sent can be sent
found_can : (clocks : Clocks) (picture : List Observation) (k : ℕ) → AllByRecursion (IsSendable clocks) picture
    → IfSome (slice_get picture k) (IsSendable clocks)
found_can clocks [] k all = tt
found_can clocks (x ∷ xs) zero all = all.0
found_can clocks (x ∷ xs) (suc k) all = found_can clocks xs k all.1

shown_can : (clocks : Clocks) (originator : ℕ) (picture : List Observation) (row : Option (ℕ × AnyRow))
    → AllByRecursion (IsSendable clocks) picture
    → IfSome (option_map (λ x. Made (outgoing.Observation 5 originator x)) (shown_by picture row))
    (CanSendAnswer clocks)
shown_can clocks originator picture None all = tt
shown_can clocks originator picture (Some found) all =
    go (slice_get picture found.0) (found_can clocks picture found.0 all)
  where
    go : (shown : Option Observation) → IfSome shown (IsSendable clocks)
        → IfSome (option_map (λ x. Made (outgoing.Observation 5 originator x)) shown) (CanSendAnswer clocks)
    go None can = tt
    go (Some x) can = (refl, can)

-- a common address of 16 bits, as those are that are asked
pub asked_short : (setup : Setup) (common : ℕ) → HasShortAddresses setup → common < 65536
    → AreShort (asked_addresses setup common)
asked_short setup common known short = elim (cases_Bool (common == 65535)) [
  | inl all ↦ rw all known
  | inr one ↦ rw one (short, tt)
]

first_short : (asked : List ℕ) (common : ℕ) → AreShort asked → common < 65536 → first_asked asked common < 65536
first_short [] common all short = short
first_short (first ∷ more) common all short = all.0

under_whole : (common : ℕ) (c : Command) → common < 65536 → IsWhole c → IsWhole (under common c)
under_whole common c short whole = record {
  cause = whole.cause;
  originator = whole.originator;
  common_address = short;
  address = whole.address;
  action = whole.action;
}

refused_can : (clocks : Clocks) (setup : Setup) (pending : Bool) (c : Command) → HasShortAddresses setup → IsWhole c
    → IfSome (refused_act setup pending c) (CanSendAnswer clocks)
refused_can clocks setup pending c known whole = elim (cases_Bool (is_accepted_act pending c)) [
  | inl accepted ↦ rw accepted tt
  | inr refused ↦
      let asked : List ℕ = asked_addresses setup c.common_address in
      let short = first_short asked c.common_address (asked_short setup c.common_address known whole.common_address)
      whole.common_address in
      let by : Command = under (first_asked asked c.common_address) c in
      rw refused (confirmed_can clocks true by (under_whole (first_asked asked c.common_address) c short whole))
]

action_can : (clocks : Clocks) (setup : Setup) (picture : List Observation) (pending : Bool) (c : Command) (action : Action)
    → HasShortAddresses setup → IsWhole c → AllByRecursion (IsSendable clocks) picture
    → IfSome (answered_action setup picture pending c action) (CanSendAnswer clocks)
action_can clocks setup picture pending c (actions.Interrogation qualifier) known whole all =
    refused_can clocks setup pending c known whole
action_can clocks setup picture pending c (actions.CounterInterrogation qualifier) known whole all =
    refused_can clocks setup pending c known whole
action_can clocks setup picture pending c actions.Read known whole all =
    shown_can clocks c.originator picture (row_at_from 0 c.common_address c.address setup.rows) all
action_can clocks setup picture pending c (actions.Single x) known whole all = tt
action_can clocks setup picture pending c (actions.Double x) known whole all = tt
action_can clocks setup picture pending c (actions.Setpoint x) known whole all = tt

-- what an ASDU that was judged so gets for an answer
pub answered_can : (clocks : Clocks) (setup : Setup) (picture : List Observation) (pending : Bool) (asdu : Asdu) (j : Judged)
    → judged setup (octets_in asdu) ≡ j → HasShortAddresses setup → IsWholeJudged j
    → AllByRecursion (IsSendable clocks) picture
    → IfSome (answered setup picture pending asdu j) (CanSendAnswer clocks)
answered_can clocks setup picture pending asdu Malformed e known whole all = tt
answered_can clocks setup picture pending asdu (Refuse cause execute) e known whole all =
    let within = cause_within setup (octets_in asdu) cause execute e in
    (header_whole setup (octets_in asdu) cause execute e, within.0, within.1)
answered_can clocks setup picture pending asdu (Accepted c) e known whole all =
    action_can clocks setup picture pending c c.action known whole all

-- ---- the answer to an interrogation

rows_can : (clocks : Clocks) (c : Command) (cause : ℕ) (rows : List Observation) → IsWhole c
    → AllByRecursion (IsSendable clocks) rows
    → AllByRecursion (CanSendOutgoing clocks) (map (outgoing.Observation cause 0) rows ++ command_with 10 false c ∷ [])
rows_can clocks c cause [] whole all = (answering_can clocks 10 false c (omega arith) refl whole, tt)
rows_can clocks c cause (x ∷ xs) whole all = (all.0, rows_can clocks c cause xs whole all.1)

-- so can what is left of it
filter_can : (clocks : Clocks) (p : Observation → Bool) (xs : List Observation) → AllByRecursion (IsSendable clocks) xs
    → AllByRecursion (IsSendable clocks) (filter p xs)
filter_can clocks p [] all = tt
filter_can clocks p (x ∷ xs) all = elim (cases_Bool (p x)) [
  | inl is ↦ rw is (all.0, filter_can clocks p xs all.1)
  | inr other ↦ rw other (filter_can clocks p xs all.1)
]

answer_under_can : (clocks : Clocks) (c : Command) (picture : List Observation) (common : ℕ) → common < 65536 → IsWhole c
    → AllByRecursion (IsSendable clocks) picture
    → AllByRecursion (CanSendOutgoing clocks) (answer_under c picture common)
answer_under_can clocks c picture common short whole all =
    let here = under_whole common c short whole in (
      answering_can clocks 7 false (under common c) (omega arith) refl here,
      rows_can clocks (under common c) (cause_for c.action) (rows_under c.action picture common) here
          (filter_can clocks (λ x. x.common == common && is_asked_by c.action x) picture all),
    )

all_joined : {A : Type 0} (P : A → Type 0) (xs ys : List A) → AllByRecursion P xs → AllByRecursion P ys
    → AllByRecursion P (xs ++ ys)
all_joined P [] ys all more = more
all_joined P (x ∷ xs) ys all more = (all.0, all_joined P xs ys all.1 more)

pub answer_to_can : (clocks : Clocks) (asked : List ℕ) (c : Command) (picture : List Observation) → AreShort asked
    → IsWhole c → AllByRecursion (IsSendable clocks) picture
    → AllByRecursion (CanSendOutgoing clocks) (answer_to asked c picture)
answer_to_can clocks [] c picture short whole all = tt
answer_to_can clocks (common ∷ asked) c picture short whole all =
    all_joined (CanSendOutgoing clocks) (answer_under c picture common) (answer_to asked c picture)
    (answer_under_can clocks c picture common short.0 whole all)
    (answer_to_can clocks asked c picture short.1 whole all)
