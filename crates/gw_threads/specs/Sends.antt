-- What the writer towards an outstation sends.
use Rattle.std.specs.Prelude.{◌≡◌, ℕ, Bool, true, false, ◌==◌, List, [], ◌∷◌, ◌++◌, map, Result, Ok}
use Rattle.std.specs.List.{AllByRecursion}
use Rattle.dnp_app.specs.declared.request.Request.{Request}
use Rattle.gw_map.specs.Settings.{Setup}
use Rattle.gw_steps.specs.declared.step.Step.{Step}
use Rattle.gw_steps.specs.declared.step.Step.TheVariants as steps
use Rattle.gw_steps.specs.declared.step.Reply.{Reply}
use Rattle.gw_steps.specs.declared.step.Reply.TheVariants as replies
use Rattle.gw_steps.specs.declared.step.StepFault.{StepFault}
use Rattle.run_shared.specs.Reached.{entries_of}
use Rattle.run_shared.specs.Turn.{Answers, Pass}
use Rattle.run_ends.specs.declared.sent.Sent.TheVariants as sents
use Rattle.run_ends.specs.declared.sent.Sending.{Sending}
use Rattle.run_ends.specs.Sent.{IsNew, IsSent, is_cut_off}
use Rattle.run_log.specs.Follows.{Known}
use Rattle.gw_threads.specs.Calls.{AreCalls, Call, all_given, given_by}

-- a step polls an outstation, or tells that it is lost
abbrev pub IsTowards : ℕ → Step → Type 0
IsTowards outstation (steps.Poll o moment wall) = o ≡ outstation
IsTowards outstation (steps.OutstationDown o moment) = o ≡ outstation
IsTowards outstation _ = ⊥

abbrev pub is_request : Result Reply StepFault → Bool
is_request (Ok (replies.Request request)) = true
is_request _ = false

-- the request that a poll was answered with, if it was
abbrev pub request_given : Step → Result Reply StepFault → List Request
request_given (steps.Poll o moment wall) (Ok (replies.Request request)) = request ∷ []
request_given _ _ = []

-- one after another these were sent, each the newest of the line's history then; others may have sent between
abbrev pub AreSent : Known Sending → List Sending → Known Sending → Type 0
AreSent old [] new = old ≡ new
AreSent old (s ∷ more) new = (mid : Known Sending) × (IsSent old mid s.what s.whole × AreSent mid more new)

-- all calls of the pass in that time were towards the outstation; and what the worker sent on the line, in its history, is
-- just the requests that its polls were answered with, each once, in this order; one of them wasn't taken whole, or all were
pub record SentAll (setup : Setup) (outstation : ℕ) (mine after : Pass) (old new : Known Sending) (cut : Bool)
    : Type 0 where
  pub calls : List Call
  pub made : AreCalls setup mine calls after
  pub own : AllByRecursion (λ (c : Call). IsTowards outstation c.step) calls
  pub sends : List Sending
  pub sent : AreSent old sends new
  pub same : map (λ (s : Sending). s.what) sends ≡ map sents.Request (given_by request_given calls)
  pub cut_is : is_cut_off sends ≡ cut

-- and that is all that the worker sent since it joined the line
abbrev pub SendsAll : Setup → ℕ → Pass → Pass → Known Sending → Bool → Type 0
SendsAll setup outstation mine after front cut =
    (joined : Known Sending) × (IsNew joined × SentAll setup outstation mine after joined front cut)

-- a step polls an outstation
abbrev pub is_poll : ℕ → Step → Bool
is_poll outstation (steps.Poll o moment wall) = outstation == o
is_poll outstation _ = false

-- since a pass knew a beginning of the one history, all polls of the outstation, whoever made them, were answered with just
-- the requests that the worker sent since it joined the line, in this order
pub record SendsAllGiven (outstation : ℕ) (mine after : Pass) (front : Known Sending) : Type 0 where
  pub joined : Known Sending
  pub is_new : IsNew joined
  pub sends : List Sending
  pub sent : AreSent joined sends front
  pub requests : List Request
  pub same : map (λ (s : Sending). s.what) sends ≡ map sents.Request requests
  pub all : all_given (is_poll outstation) request_given (entries_of after.seen)
      ≡ all_given (is_poll outstation) request_given (entries_of mine.seen) ++ requests

-- a call that polls the outstation was answered so; its moment and its wall time are what the worker's clock showed, which no
-- contract sees
abbrev pub PollsOnce : Setup → ℕ → Pass → Pass → Result Reply StepFault → Type 0
PollsOnce setup outstation mine after reply =
    (moment : ℕ) × ((wall : ℕ) × ((number : ℕ) × Answers setup mine after (steps.Poll outstation moment wall) (number, reply)))

-- a call told that the outstation is lost
abbrev pub TellsOutstationLoss : Setup → ℕ → Pass → Pass → Type 0
TellsOutstationLoss setup outstation mine after =
    (moment : ℕ) × ((number : ℕ) × ((reply : Result Reply StepFault)
    × Answers setup mine after (steps.OutstationDown outstation moment) (number, reply)))
