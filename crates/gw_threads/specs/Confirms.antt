-- What the reader of an outstation steps, and confirms.
use Rattle.std.specs.Prelude.{◌≡◌, ℕ, Bool, List, [], ◌∷◌, ◌++◌, Option, Some, None, Result, Ok}
use Rattle.std.specs.List.{AllByRecursion}
use Rattle.gw_map.specs.Settings.{Setup}
use Rattle.gw_steps.specs.declared.step.Step.{Step}
use Rattle.gw_steps.specs.declared.step.Step.TheVariants as steps
use Rattle.gw_steps.specs.declared.step.Reply.{Reply}
use Rattle.gw_steps.specs.declared.step.Reply.TheVariants as replies
use Rattle.gw_steps.specs.declared.step.StepFault.{StepFault}
use Rattle.dnp_master.specs.declared.verdict.Verdict.TheVariants as verdicts
use Rattle.run_shared.specs.Turn.{Pass}
use Rattle.run_ends.specs.declared.sent.Sent.{Sent}
use Rattle.run_ends.specs.declared.sent.Sent.TheVariants as sents
use Rattle.run_ends.specs.declared.sent.Sending.{Sending}
use Rattle.run_ends.specs.Sent.{IsNew, is_cut_off}
use Rattle.run_log.specs.Follows.{Known}
use Rattle.gw_threads.specs.Calls.{AreCalls, Call, given_by}
use Rattle.gw_threads.specs.declared.outstation_reading.OutstationReader.{OutstationReader}
use Rattle.gw_threads.specs.Sends.{AreSent}

-- a step is of a fragment of an outstation, or tells that it is lost
abbrev pub IsRead : ℕ → Step → Type 0
IsRead outstation (steps.Fragment f moment) = f.outstation ≡ outstation
IsRead outstation (steps.OutstationDown o moment) = o ≡ outstation
IsRead outstation _ = ⊥

abbrev pub octets_of : Option (List ℕ) → List (List ℕ)
octets_of None = []
octets_of (Some octets) = octets ∷ []

-- the confirmation that an answer owes, if it owes one
abbrev pub confirmation_in : Result Reply StepFault → List (List ℕ)
confirmation_in (Ok (replies.Verdict (verdicts.Accepted confirm more ended))) = octets_of confirm
confirmation_in (Ok (replies.Verdict (verdicts.Repeated confirm))) = octets_of confirm
confirmation_in _ = []

abbrev pub confirmation_given : Step → Result Reply StepFault → List (List ℕ)
confirmation_given (steps.Fragment f moment) reply = confirmation_in reply
confirmation_given _ reply = []

-- the confirmations among what was sent
abbrev pub confirmation_sent : Sent → List (List ℕ)
confirmation_sent (sents.Confirm octets) = octets ∷ []
confirmation_sent _ = []

abbrev pub confirmations_sent : List Sending → List (List ℕ)
confirmations_sent [] = []
confirmations_sent (s ∷ sends) = confirmation_sent s.what ++ confirmations_sent sends

-- a reader sends no request
abbrev pub IsReaders : Sent → Type 0
IsReaders (sents.Reply frame) = Unit {0}
IsReaders sents.Status = Unit {0}
IsReaders (sents.Confirm octets) = Unit {0}
IsReaders (sents.Request request) = ⊥

-- all calls of the pass in that time were of fragments of the outstation, or told that it is lost; it sent no request; and the
-- confirmations that the worker sent on the line, in its history, are just those that its fragments were answered with, each once, in
-- this order; something that it sent wasn't taken whole, or all was
pub record ReadsAll (setup : Setup) (outstation : ℕ) (mine after : Pass) (old new : Known Sending) (cut : Bool)
    : Type 0 where
  pub calls : List Call
  pub made : AreCalls setup mine calls after
  pub own : AllByRecursion (λ (c : Call). IsRead outstation c.step) calls
  pub sends : List Sending
  pub sent : AreSent old sends new
  pub only : AllByRecursion (λ (s : Sending). IsReaders s.what) sends
  pub same : confirmations_sent sends ≡ given_by confirmation_given calls
  pub cut_is : is_cut_off sends ≡ cut

-- a reader went on so, from what it was to what it is
abbrev pub ReadsFurther : {L N S R W C G K : Type 0} → Setup → OutstationReader L N S R W C G K
    → OutstationReader L N S R W C G K → Bool → Type 0
ReadsFurther setup old new cut = ReadsAll setup old.outstation old.worker.pass new.worker.pass old.front new.front cut

-- and that is all that the worker sent since it joined the line
abbrev pub ReadsOn : Setup → ℕ → Pass → Pass → Known Sending → Bool → Type 0
ReadsOn setup outstation mine after front cut =
    (joined : Known Sending) × (IsNew joined × ReadsAll setup outstation mine after joined front cut)

-- what an answer owes was sent, but wasn't taken whole, or was
pub record Confirms (reply : Result Reply StepFault) (old new : Known Sending) (cut : Bool) : Type 0 where
  pub sends : List Sending
  pub sent : AreSent old sends new
  pub only : AllByRecursion (λ (s : Sending). IsReaders s.what) sends
  pub same : confirmations_sent sends ≡ confirmation_in reply
  pub cut_is : is_cut_off sends ≡ cut
