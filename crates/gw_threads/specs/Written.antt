-- What a client's writer hands over.
use Rattle.std.specs.Prelude.{◌≡◌, ℕ, Bool, false, ◌==◌, List, [], ◌∷◌}
use Rattle.std.specs.Prelude.{◌++◌, take, Option, Some, None, Result, Ok, Err}
use Rattle.std.specs.List.{AllByRecursion}
use Rattle.std.specs.Io.KnownBytes.{Appends}
use Rattle.gw_map.specs.Settings.{Setup, station_clocks}
use Rattle.iec_apci.specs.declared.buffer.ApduBuf.{ApduBuf}
use Rattle.gw_steps.specs.declared.step.Step.{Step}
use Rattle.gw_steps.specs.declared.step.Step.TheVariants as steps
use Rattle.gw_steps.specs.declared.step.Reply.{Reply}
use Rattle.gw_steps.specs.declared.step.Reply.TheVariants.{Apdu}
use Rattle.gw_steps.specs.declared.step.StepFault.{StepFault}
pub use Rattle.run_shared.specs.Pumping.{IsPumped}
use Rattle.run_shared.specs.Pumping.{PumpsOnce}
use Rattle.run_shared.specs.Reached.{entries_of}
use Rattle.run_shared.specs.Turn.{Answers, Pass}
use Rattle.run_shared.specs.declared.pumped.Pumped.{Pumped}
use Rattle.run_shared.specs.declared.pumped.Pumped.TheVariants as pumps
use Rattle.gw_threads.specs.Calls.{AreCalls, Call, all_given, given_by}
use Rattle.gw_threads.specs.Carries.{CarriesFit}
use Rattle.run_ends.specs.PutOut.{Given, joined}
use Rattle.run_ends.specs.declared.putting.Gathered.{Gathered}
use Rattle.run_ends.specs.declared.putting.Gathered.TheVariants as gathering
use Rattle.run_ends.specs.declared.putting.Put.{Put}
use Rattle.run_ends.specs.declared.putting.Put.TheVariants as puts
use Rattle.run_ends.specs.declared.worker_end.WorkerEnd.{WorkerEnd}
use Rattle.run_ends.specs.declared.worker_end.WorkerEnd.TheVariants as ends

-- a worker that asks for one client, with its pass
pub record Asking : Type 0 where
  pub client : ℕ
  pub pass : Pass

-- what the writer of a client is given of the shared core: nothing where it is asked to end; the answer to a call that pumps
abbrev pub GivesTo : Setup → Asking → Given → Asking → Type 0
GivesTo setup old None new = new ≡ old
GivesTo setup old (Some reply) new =
    (new.client ≡ old.client) × PumpsOnce setup old.client old.pass new.pass reply

-- how gathering ended, by how a run of pumps did
abbrev pub gathered_by : Pumped → Gathered
gathered_by (pumps.Ended reply) = gathering.Ended (Some reply)
gathered_by pumps.More = gathering.More

-- an APDU that a pump of the client is answered with in some sound state; it tells of fit observations, by the settings
-- there
pub record IsPutOut (client : ℕ) (apdu : ApduBuf) : Type 0 where
  pub pumped : IsPumped client (Ok (Apdu apdu))
  pub fit : CarriesFit (station_clocks pumped.setup.station) apdu

-- a step pumps for a client, or tells that it is lost
abbrev pub IsFor : ℕ → Step → Type 0
IsFor client (steps.Pump c moment) = c ≡ client
IsFor client (steps.ClientDown c moment) = c ≡ client
IsFor client _ = ⊥

-- the APDU that a pump was answered with, if it was
abbrev pub apdu_given : Step → Result Reply StepFault → List ApduBuf
apdu_given (steps.Pump c moment) (Ok (Apdu apdu)) = apdu ∷ []
apdu_given _ _ = []

-- all calls of the pass in that time were for the client, and their pumps were answered with just these APDUs, in this
-- order
pub record Asked (setup : Setup) (client : ℕ) (mine after : Pass) (apdus : List ApduBuf) : Type 0 where
  pub calls : List Call
  pub made : AreCalls setup mine calls after
  pub own : AllByRecursion (λ (c : Call). IsFor client c.step) calls
  pub given : given_by apdu_given calls ≡ apdus
  pub each : AllByRecursion (IsPutOut client) apdus

-- a step pumps for a client
abbrev pub is_pump : ℕ → Step → Bool
is_pump client (steps.Pump c moment) = client == c
is_pump client _ = false

-- since a pass knew a beginning of the one history, all pumps for the client, whoever made them, were answered with just
-- these APDUs, in this order
abbrev pub AreAll : ℕ → Pass → Pass → List ApduBuf → Type 0
AreAll client mine after apdus =
    all_given (is_pump client) apdu_given (entries_of after.seen)
    ≡ all_given (is_pump client) apdu_given (entries_of mine.seen) ++ apdus

-- the writer took the octets of APDUs, which meet a condition
pub record Wrote (are : List ApduBuf → Type 0) (before octets : Option (List ℕ)) : Type 0 where
  pub apdus : List ApduBuf
  pub asked : are apdus
  pub taken : Appends before octets (joined apdus)

-- it took the front of them
pub record WroteFront (are : List ApduBuf → Type 0) (before octets : Option (List ℕ)) : Type 0 where
  pub apdus : List ApduBuf
  pub asked : are apdus
  pub count : ℕ
  pub taken : Appends before octets (take count (joined apdus))

-- what it took until it ended so
abbrev pub Writes : (List ApduBuf → Type 0) → Option (List ℕ) → Option (List ℕ) → WorkerEnd → Type 0
Writes are before octets ends.WriteFault = WroteFront are before octets
Writes are before octets _ = Wrote are before octets

-- what it took in one run
abbrev pub WritesPut : (List ApduBuf → Type 0) → Option (List ℕ) → Option (List ℕ) → Put → Type 0
WritesPut are before octets puts.Unwritten = WroteFront are before octets
WritesPut are before octets (puts.Ended last) = Wrote are before octets
WritesPut are before octets puts.More = Wrote are before octets

abbrev pub WritesIfEnded : (List ApduBuf → Type 0) → Option (List ℕ) → Option (List ℕ) → Option WorkerEnd → Type 0
WritesIfEnded are before octets None = Wrote are before octets
WritesIfEnded are before octets (Some end) = Writes are before octets end

-- a call told that the client is lost
abbrev pub TellsLoss : Setup → ℕ → Pass → Pass → Type 0
TellsLoss setup client mine after =
    (moment : ℕ) × ((number : ℕ) × ((reply : Result Reply StepFault)
    × Answers setup mine after (steps.ClientDown client moment) (number, reply)))

-- behind a run that ended by a fault, or wasn't taken, the client is lost; behind another one no call is made
abbrev pub Settles : Setup → ℕ → Pass → Pass → Put → Type 0
Settles setup client mine after (puts.Ended (Some (Err fault))) = TellsLoss setup client mine after
Settles setup client mine after puts.Unwritten = TellsLoss setup client mine after
Settles setup client mine after _ = after ≡ mine
