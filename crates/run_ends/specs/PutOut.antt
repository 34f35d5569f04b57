-- One run of APDUs that a source of replies gives, and what of it a writer took.
use Rattle.std.specs.Prelude.{◌≡◌, ◌⊎◌, ℕ, Bool, true, false, List, [], ◌∷◌}
use Rattle.std.specs.Prelude.{◌++◌, take, Option, Some, None, Result, Ok, Err}
use Rattle.std.specs.Io.KnownBytes.{Appends}
use Rattle.iec_apci.specs.declared.buffer.ApduBuf.{ApduBuf}
use Rattle.gw_steps.specs.declared.step.Reply.{Reply}
use Rattle.gw_steps.specs.declared.step.Reply.TheVariants.{Apdu}
use Rattle.gw_steps.specs.declared.step.StepFault.{StepFault}
pub use Rattle.iec_apci.specs.Joined.{joined, octets_in}
use Rattle.gw_steps.specs.Answers.{is_apdu as is_apdu_reply}
use Rattle.run_ends.specs.declared.putting.Gathered.{Gathered}
use Rattle.run_ends.specs.declared.putting.Gathered.TheVariants as gathering
use Rattle.run_ends.specs.declared.putting.Put.{Put}
use Rattle.run_ends.specs.declared.putting.Put.TheVariants.{Ended, Unwritten, More}
use Rattle.run_ends.specs.declared.worker_end.WorkerEnd.{WorkerEnd}
use Rattle.run_ends.specs.declared.worker_end.WorkerEnd.TheVariants as ends

-- what a source is asked for: a reply, or nothing any more
abbrev pub Given : Type 0
Given = Option (Result Reply StepFault)

-- an APDU was given
abbrev pub is_apdu : Given → Bool
is_apdu None = false
is_apdu (Some reply) = is_apdu_reply reply

-- a source goes from one of its states to another by giving these APDUs, one after another
abbrev pub GivesAll : {S : Type 0} → (S → Given → S → Type 0) → S → List ApduBuf → S → Type 0
GivesAll gives old [] new = old ≡ new
GivesAll {S} gives old (apdu ∷ more) new =
    (mid : S) × (gives old (Some (Ok (Apdu apdu))) mid × GivesAll gives mid more new)

-- the source gave these APDUs, whose octets came behind others
pub record Gave {S : Type 0} (gives : S → Given → S → Type 0) (old new : S) (before after : List ℕ) : Type 0 where
  pub apdus : List ApduBuf
  pub given : GivesAll gives old apdus new
  pub octets : after ≡ before ++ joined apdus

-- and then the first that is no APDU, unless there may be more
abbrev pub IsGathered : {S : Type 0} → (S → Given → S → Type 0) → S → S → List ℕ → List ℕ → Gathered → Type 0
IsGathered {S} gives old new before after (gathering.Ended last) =
    (mid : S) × (Gave gives old mid before after × gives mid last new × (is_apdu last ≡ false))
IsGathered gives old new before after gathering.More = Gave gives old new before after

-- the source gave these APDUs, and the writer took their octets
pub record Handed {S : Type 0} (gives : S → Given → S → Type 0) (old new : S)
    (before after : Option (List ℕ)) : Type 0 where
  pub apdus : List ApduBuf
  pub given : GivesAll gives old apdus new
  pub taken : Appends before after (joined apdus)

-- nothing more was given, or one that is no APDU
abbrev pub MayHaveEnded : {S : Type 0} → (S → Given → S → Type 0) → S → S → Type 0
MayHaveEnded gives mid new = (mid ≡ new) ⊎ ((last : Given) × (gives mid last new × (is_apdu last ≡ false)))

-- the source gave these APDUs, and the writer took the front of their octets
pub record HandedFront {S : Type 0} (gives : S → Given → S → Type 0) (old new : S)
    (before after : Option (List ℕ)) : Type 0 where
  pub apdus : List ApduBuf
  pub mid : S
  pub given : GivesAll gives old apdus mid
  pub ended : MayHaveEnded gives mid new
  pub count : ℕ
  pub taken : Appends before after (take count (joined apdus))

-- the run ended with the first that is no APDU; or writing failed; or there may be more
abbrev pub IsPut : {S : Type 0} → (S → Given → S → Type 0) → S → S → Option (List ℕ) → Option (List ℕ)
    → Put → Type 0
IsPut {S} gives old new before after (Ended last) =
    (mid : S) × (Handed gives old mid before after × gives mid last new × (is_apdu last ≡ false))
IsPut gives old new before after Unwritten = HandedFront gives old new before after
IsPut gives old new before after More = Handed gives old new before after

-- how a writer ends by how a run ended, if it does: it is to stop where there is nothing more to give, or no answer
abbrev pub writing_end : Put → Option WorkerEnd
writing_end (Ended None) = Some ends.Stopping
writing_end (Ended (Some (Ok reply))) = None
writing_end (Ended (Some (Err fault))) = Some ends.Stopping
writing_end Unwritten = Some ends.WriteFault
writing_end More = None

-- a failed write ended the run
abbrev pub is_unwritten : Option Put → Bool
is_unwritten (Some Unwritten) = true
is_unwritten _ = false

-- where nothing ended the run, the APDUs that were given were taken
abbrev pub IsPutNext : {S : Type 0} → (S → Given → S → Type 0) → S → S → Option (List ℕ) → Option (List ℕ)
    → Option Put → Type 0
IsPutNext gives old new before after (Some put) = IsPut gives old new before after put
IsPutNext gives old new before after None = Handed gives old new before after
