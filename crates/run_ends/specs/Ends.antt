-- What is read of a peer, and how workers end.
use Rattle.std.specs.Prelude.{◌≡◌, ℕ, ◌≤◌, Bool, true, false, List, take, Option, Some, None}
use Rattle.std.specs.Io.KnownBytes.{Appends}
use Rattle.run_ends.specs.declared.worker_end.WorkerEnd.{WorkerEnd}
use Rattle.run_ends.specs.declared.worker_end.WorkerEnd.TheVariants as ends
use Rattle.run_ends.specs.declared.ends.Arrival.{Arrival}
use Rattle.run_ends.specs.declared.ends.Arrival.TheVariants.{Octets, Later, End, Fault}

-- no more octets came than there is room for
abbrev pub IsWithin : Arrival → ℕ → Type 0
IsWithin (Octets n) room = n ≤ room
IsWithin _ room = Unit {0}

-- behind the octets that were given before come those at the front of a buffer, or none
abbrev pub Gives : Arrival → Option (List ℕ) → Option (List ℕ) → List ℕ → Type 0
Gives (Octets n) before now buffer = Appends before now (take n buffer)
Gives _ before now buffer = now ≡ before

-- how a reader ends by what came, if it does
abbrev pub reading_end : Arrival → Option WorkerEnd
reading_end (Octets n) = None
reading_end Later = None
reading_end End = Some ends.EndOfInput
reading_end Fault = Some ends.ReadFault

-- reading failed
abbrev pub is_fault : Arrival → Bool
is_fault Fault = true
is_fault _ = false

-- a worker ended by a failed read
abbrev pub is_read_fault : Option WorkerEnd → Bool
is_read_fault (Some ends.ReadFault) = true
is_read_fault _ = false

-- by a failed write
abbrev pub is_write_fault : Option WorkerEnd → Bool
is_write_fault (Some ends.WriteFault) = true
is_write_fault _ = false

-- a reader may end so: never by a write, nor since nothing answers
abbrev pub MayEnd : WorkerEnd → Type 0
MayEnd ends.WriteFault = ⊥
MayEnd ends.Unanswered = ⊥
MayEnd ends.LinkUnanswered = ⊥
MayEnd _ = Unit {0}

-- what steps, and what is decoded, end a reader by
abbrev pub IsOfSteps : WorkerEnd → Type 0
IsOfSteps ends.EndOfInput = ⊥
IsOfSteps ends.ReadFault = ⊥
IsOfSteps ends.WriteFault = ⊥
IsOfSteps ends.Unanswered = ⊥
IsOfSteps ends.LinkUnanswered = ⊥
IsOfSteps _ = Unit {0}

-- a reader that also writes may end so: never by what ends a client alone
abbrev pub MayEndBetween : WorkerEnd → Type 0
MayEndBetween (ends.Closed why) = ⊥
MayEndBetween (ends.Malformed fault) = ⊥
MayEndBetween _ = Unit {0}

-- what frames, and the steps that they bring, end such a reader by
abbrev pub IsOfFrames : WorkerEnd → Type 0
IsOfFrames ends.WriteFault = Unit {0}
IsOfFrames ends.Memory = Unit {0}
IsOfFrames ends.Stopping = Unit {0}
IsOfFrames _ = ⊥

-- what it ends by where nothing came
abbrev pub IsOfSilence : WorkerEnd → Type 0
IsOfSilence ends.WriteFault = Unit {0}
IsOfSilence ends.LinkUnanswered = Unit {0}
IsOfSilence _ = ⊥

-- a writer may end so: by a failed write, or since it is to stop
abbrev pub MayEndWriting : WorkerEnd → Type 0
MayEndWriting ends.WriteFault = Unit {0}
MayEndWriting ends.Stopping = Unit {0}
MayEndWriting _ = ⊥
