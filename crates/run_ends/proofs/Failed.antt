-- What failed, by how workers end.
use Rattle.std.proofs.Common.{◌≡◌, false, Option, Some, None, Ok, Err, refl}
use Rattle.std.specs.Prelude.{IfSome}
use Rattle.run_ends.specs.Ends.{is_fault, is_read_fault, is_write_fault, reading_end, IsOfFrames, IsOfSilence, IsOfSteps}
use Rattle.run_ends.specs.PutOut.{is_unwritten, writing_end}
use Rattle.run_ends.specs.declared.ends.Arrival.{Arrival}
use Rattle.run_ends.specs.declared.ends.Arrival.TheVariants.{Octets, Later, End, Fault}
use Rattle.run_ends.specs.declared.putting.Put.{Put}
use Rattle.run_ends.specs.declared.putting.Put.TheVariants.{Ended, Unwritten, More}
use Rattle.run_ends.specs.declared.worker_end.WorkerEnd.{WorkerEnd}
use Rattle.run_ends.specs.declared.worker_end.WorkerEnd.TheVariants as ends

-- what came ends a reader by a failed read where reading failed
pub reading_fails : (arrival : Arrival) → is_read_fault (reading_end arrival) ≡ is_fault arrival
reading_fails (Octets n) = refl
reading_fails Later = refl
reading_fails End = refl
reading_fails Fault = refl

-- a run ends a writer by a failed write where one ended the run
pub writing_fails : (put : Put) → is_write_fault (writing_end put) ≡ is_unwritten (Some put)
writing_fails (Ended None) = refl
writing_fails (Ended (Some (Ok reply))) = refl
writing_fails (Ended (Some (Err fault))) = refl
writing_fails Unwritten = refl
writing_fails More = refl

-- no step fails to read
pub steps_read : (end : Option WorkerEnd) → IfSome end IsOfSteps → is_read_fault end ≡ false
steps_read None steps = refl
steps_read (Some (ends.Closed why)) steps = refl
steps_read (Some ends.EndOfInput) steps = refl
steps_read (Some ends.ReadFault) steps = absurd steps
steps_read (Some ends.Unanswered) steps = refl
steps_read (Some ends.LinkUnanswered) steps = refl
steps_read (Some ends.WriteFault) steps = refl
steps_read (Some (ends.Malformed fault)) steps = refl
steps_read (Some ends.Memory) steps = refl
steps_read (Some ends.Stopping) steps = refl

-- nor does a frame
pub frames_read : (end : Option WorkerEnd) → IfSome end IsOfFrames → is_read_fault end ≡ false
frames_read None frames = refl
frames_read (Some (ends.Closed why)) frames = refl
frames_read (Some ends.EndOfInput) frames = refl
frames_read (Some ends.ReadFault) frames = absurd frames
frames_read (Some ends.Unanswered) frames = refl
frames_read (Some ends.LinkUnanswered) frames = refl
frames_read (Some ends.WriteFault) frames = refl
frames_read (Some (ends.Malformed fault)) frames = refl
frames_read (Some ends.Memory) frames = refl
frames_read (Some ends.Stopping) frames = refl

-- nor does silence
pub silence_reads : (end : Option WorkerEnd) → IfSome end IsOfSilence → is_read_fault end ≡ false
silence_reads None silence = refl
silence_reads (Some (ends.Closed why)) silence = refl
silence_reads (Some ends.EndOfInput) silence = refl
silence_reads (Some ends.ReadFault) silence = absurd silence
silence_reads (Some ends.Unanswered) silence = refl
silence_reads (Some ends.LinkUnanswered) silence = refl
silence_reads (Some ends.WriteFault) silence = refl
silence_reads (Some (ends.Malformed fault)) silence = refl
silence_reads (Some ends.Memory) silence = refl
silence_reads (Some ends.Stopping) silence = refl

-- how a reader that also writes may have failed
pub ruleset reader_ends = (reading_fails, frames_read, silence_reads)
