-- A confirmation is given only in the reply of the step that put a fragment's news into the log, or for a fragment
-- that is the last accepted one again; and only where the fragment asks for one.
use Rattle.std.specs.Prelude.{◌≡◌, ℕ, ◌+◌, ◌%◌, false, ◌||◌, nat_le, List, []}
use Rattle.std.specs.Prelude.{◌∷◌, Option, Some, None, Result, Ok, Err, if◌then◌else◌}
use Rattle.gw_map.specs.Settings.{Setup}
use Rattle.dnp_app.specs.Response.{Fragment, is_unsolicited}
use Rattle.dnp_master.specs.declared.verdict.Verdict.{Verdict}
use Rattle.dnp_master.specs.declared.verdict.Verdict.TheVariants as verdicts
use Rattle.dnp_master.specs.declared.verdict.Ignored.TheVariants.{NoRequest, WrongSequence, WrongFirst}
use Rattle.dnp_master.specs.Fragments.{control_in}
use Rattle.gw_steps.specs.declared.step.Step.{Step}
use Rattle.gw_steps.specs.declared.step.Step.TheVariants as steps
use Rattle.gw_steps.specs.declared.step.Reply.{Reply}
use Rattle.gw_steps.specs.declared.step.Reply.TheVariants as replies
use Rattle.gw_steps.specs.declared.step.StepFault.{StepFault}
use Rattle.gw_steps.specs.Runs.{Entry}
use Rattle.law_history.specs.Accepted.{AskedRequest, is_in_sequence, is_in_place, asked_of, is_accepted, is_repeated}

-- the confirmation that octets ask for, whatever else they say: where bit 5 (CON, 20 hex) of the first is set, C0 hex with
-- its bits 0 to 3 (sequence number) and 4 (UNS, 10 hex), and function 0
abbrev pub asked_confirmation : List ℕ → Option (List ℕ)
asked_confirmation [] = None
asked_confirmation (octet ∷ octets) = if nat_le 32 (octet % 64) then Some ((192 + octet % 32) ∷ 0 ∷ []) else None

-- a verdict, but for the order that ends with the fragment
abbrev pub without_order : Verdict → Verdict
without_order (verdicts.Accepted confirm end control) = verdicts.Accepted confirm end None
without_order (verdicts.Repeated confirm) = verdicts.Repeated confirm
without_order (verdicts.Ignored why) = verdicts.Ignored why

-- what a reply says of a fragment
abbrev pub verdict_in : Reply → Option Verdict
verdict_in replies.Done = None
verdict_in (replies.Verdict verdict) = Some (without_order verdict)
verdict_in (replies.Request request) = None
verdict_in (replies.Apdu apdu) = None
verdict_in replies.Taken = None
verdict_in (replies.Closed why) = None
verdict_in replies.Nothing = None
verdict_in (replies.Ticked closed) = None

-- the confirmation in it
abbrev pub confirmation_in : Option Verdict → Option (List ℕ)
confirmation_in None = None
confirmation_in (Some (verdicts.Accepted confirmation end control)) = confirmation
confirmation_in (Some (verdicts.Repeated confirmation)) = confirmation
confirmation_in (Some (verdicts.Ignored why)) = None

-- what is to be said of an answer to the request that awaits one
abbrev pub verdict_due_to_answer : Option AskedRequest → Fragment → Verdict
verdict_due_to_answer None f = verdicts.Ignored NoRequest
verdict_due_to_answer (Some a) f =
    if is_in_sequence a f then
    (if is_in_place a f then verdicts.Accepted (asked_confirmation f.octets) (control_in f).fin None
    else verdicts.Ignored WrongFirst)
    else verdicts.Ignored WrongSequence

-- what is to be said of a fragment after a history
abbrev pub verdict_due : Setup → List Entry → Fragment → Verdict
verdict_due setup past f =
    if is_unsolicited f then
    (if is_repeated past f then verdicts.Repeated (asked_confirmation f.octets)
    else verdicts.Accepted (asked_confirmation f.octets) false None)
    else verdict_due_to_answer (asked_of setup f.outstation past) f

-- of other steps nothing is said
abbrev pub verdict_after : Setup → List Entry → Step → Option Verdict
verdict_after setup past (steps.Fragment f moment) = Some (verdict_due setup past f)
verdict_after setup past _ = None

-- the confirmation that a step is due: that of an accepted or repeated fragment which asks for one
abbrev pub confirmation_due : Setup → List Entry → Step → Option (List ℕ)
confirmation_due setup past (steps.Fragment f moment) =
    if is_accepted setup past f || is_repeated past f then asked_confirmation f.octets else None
confirmation_due setup past _ = None

-- a reply says of a fragment what is to be said, and gives the confirmation that is due, and no other
pub record Confirms (setup : Setup) (past : List Entry) (step : Step) (reply : Reply) : Type 0 where
  pub verdict : verdict_in reply ≡ verdict_after setup past step
  pub confirmation : confirmation_in (verdict_in reply) ≡ confirmation_due setup past step

-- a fault confirms nothing
abbrev pub ConfirmsBy : Setup → List Entry → Step → Result Reply StepFault → Type 0
ConfirmsBy setup past step (Ok reply) = Confirms setup past step reply
ConfirmsBy setup past step (Err fault) = Unit {0}

-- what the last reply confirms
abbrev pub Confirmations : Setup → List Entry → Type 0
Confirmations setup [] = Unit {0}
Confirmations setup (e ∷ past) = ConfirmsBy setup past e.step e.reply
