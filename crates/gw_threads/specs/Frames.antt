-- What the reader of a client steps of the octets that it takes.
use Rattle.std.specs.Prelude.{◌≡◌, ℕ, List, [], ◌∷◌, Option, Some, None, Result, Ok, Err}
use Rattle.std.specs.List.{AllByRecursion}
use Rattle.std.specs.Io.KnownBytes.{Appends}
use Rattle.iec_apci.specs.declared.apdu.Apdu.{Apdu}
use Rattle.iec_apci.specs.declared.fault.ApciFault.{ApciFault}
use Rattle.iec_apci.specs.Apdu.{ApduContent}
use Rattle.iec_apci.specs.ApduContent.{content}
use Rattle.iec_apci.specs.Calls.{ending_after_piece, reading_of_ending}
use Rattle.iec_apci.specs.Laws.{reading_with_all_first}
use Rattle.iec_apci.specs.Stream.{Ending, Faulty, Reading, reading}
use Rattle.gw_map.specs.Settings.{Setup}
use Rattle.gw_steps.specs.declared.step.Step.{Step}
use Rattle.gw_steps.specs.declared.step.Step.TheVariants as steps
use Rattle.gw_steps.specs.declared.step.Reply.{Reply}
use Rattle.gw_steps.specs.declared.step.Reply.TheVariants as replies
use Rattle.gw_steps.specs.declared.step.StepFault.{StepFault}
use Rattle.gw_steps.specs.declared.step.StepFault.TheVariants as faults
use Rattle.run_shared.specs.Turn.{Answers, Pass}
use Rattle.run_ends.specs.declared.worker_end.WorkerEnd.{WorkerEnd}
use Rattle.run_ends.specs.declared.worker_end.WorkerEnd.TheVariants as ends
use Rattle.gw_threads.specs.Calls.{AreCalls, Call, given_by}
use Rattle.gw_threads.specs.Written.{TellsLoss}

-- a step is of an APDU of a client, or tells that the client is lost
abbrev pub IsOf : ℕ → Step → Type 0
IsOf client (steps.Frame c apdu moment) = c ≡ client
IsOf client (steps.ClientDown c moment) = c ≡ client
IsOf client _ = ⊥

-- what the APDU carries that a call stepped; none where no further step could be counted, since that leaves no trace in the one
-- history
abbrev pub apdu_in : Step → Result Reply StepFault → List ApduContent
apdu_in (steps.Frame c apdu moment) (Err faults.Spent) = []
apdu_in (steps.Frame c apdu moment) _ = content apdu ∷ []
apdu_in _ _ = []

-- what wasn't stepped of a stream where its reader ends so: nothing, where the octets end, or a fault is met; where the core
-- ends the connection, or memory runs out, anything
abbrev pub MayLeave : WorkerEnd → Reading → Type 0
MayLeave ends.EndOfInput rest = rest.apdus ≡ []
MayLeave ends.ReadFault rest = rest.apdus ≡ []
MayLeave (ends.Malformed fault) rest = (rest.apdus ≡ []) × (rest.ending ≡ Faulty fault)
MayLeave _ rest = Unit {0}

-- all calls of the pass in that time were of APDUs of the client, or told that it is lost; and the octets that the reader
-- took say just its APDUs, in this order, and what it left
pub record Frames (setup : Setup) (client : ℕ) (mine after : Pass) (before now : Option (List ℕ)) (end : WorkerEnd)
    : Type 0 where
  pub calls : List Call
  pub made : AreCalls setup mine calls after
  pub own : AllByRecursion (λ (c : Call). IsOf client c.step) calls
  pub octets : List ℕ
  pub took : Appends before now octets
  pub rest : Reading
  pub says : reading octets ≡ reading_with_all_first (given_by apdu_in calls) rest
  pub left : MayLeave end rest

-- behind an end by which the core closed the connection no call is made; behind any other one the client is lost
abbrev pub Loses : Setup → ℕ → Pass → Pass → WorkerEnd → Type 0
Loses setup client mine after (ends.Closed why) = after ≡ mine
Loses setup client mine after _ = TellsLoss setup client mine after

-- ---- piece by piece

-- what a feed held back said the APDUs of such calls, and then what it holds back now
pub record Stepped (setup : Setup) (client : ℕ) (mine after : Pass) (held next : Ending) : Type 0 where
  pub calls : List Call
  pub made : AreCalls setup mine calls after
  pub own : AllByRecursion (λ (c : Call). IsOf client c.step) calls
  pub says : reading_of_ending held ≡ reading_with_all_first (given_by apdu_in calls) (reading_of_ending next)

-- and where the reader ended, what it left
abbrev pub Takes : Setup → ℕ → Pass → Pass → Ending → Ending → Option WorkerEnd → Type 0
Takes setup client mine after held next None = Stepped setup client mine after held next
Takes setup client mine after held next (Some end) =
    (left : Ending) × (Stepped setup client mine after held left × MayLeave end (reading_of_ending left))

-- the octets that came were fed, and taken so
pub record Reads (setup : Setup) (client : ℕ) (mine after : Pass) (before now : Option (List ℕ)) (held next : Ending)
    (result : Option WorkerEnd) : Type 0 where
  pub octets : List ℕ
  pub took : Appends before now octets
  pub takes : Takes setup client mine after (ending_after_piece held octets) next result

-- how a reader ends by what the core answers, if it does
abbrev pub end_by : Result Reply StepFault → Option WorkerEnd
end_by (Ok (replies.Closed why)) = Some (ends.Closed why)
end_by (Ok _) = None
end_by (Err faults.Memory) = Some ends.Memory
end_by (Err _) = Some ends.Stopping

-- the step of an APDU of the client was asked for, and answered so
abbrev pub Asks : Setup → ℕ → Pass → Pass → Apdu → Result Reply StepFault → Type 0
Asks setup client mine after apdu reply =
    (moment : ℕ) × ((number : ℕ) × Answers setup mine after (steps.Frame client apdu moment) (number, reply))

-- an APDU is stepped, and the reader ends by the answer; a fault ends it too
abbrev pub TakesAnswer : Setup → ℕ → Pass → Pass → Result Apdu ApciFault → Option WorkerEnd → Type 0
TakesAnswer setup client mine after (Ok apdu) result =
    (reply : Result Reply StepFault) × (Asks setup client mine after apdu reply × (result ≡ end_by reply))
TakesAnswer setup client mine after (Err fault) result = (after ≡ mine) × (result ≡ Some (ends.Malformed fault))
