-- The recorder, as its contracts see it.
use Rattle.std.specs.Prelude.{◌≡◌, ℕ, ◌+◌, ◌<◌, ◌≤◌, Bool, false, ◌==◌, List, [], ◌∷◌}
use Rattle.std.specs.Prelude.{◌++◌, length, slice_index, slice_set, Option, Some, None, option_map, Result}
use Rattle.gw_steps.specs.declared.step.Step.{Step}
use Rattle.gw_steps.specs.declared.step.Reply.{Reply}
use Rattle.gw_steps.specs.declared.step.StepFault.{StepFault}
use Rattle.gw_steps.specs.State.{Hub}
use Rattle.run_shared.specs.declared.entry.Entry.{Entry}
use Rattle.run_shared.specs.Recorded.{counts_after, replayed, AreMeant, IsNumbered, IsReplay}

-- a hub as it was, how many calls each actor had made then, and the calls since, the oldest first, at most so many
pub record Tape : Type 0 where
  pub capacity : ℕ
  pub base : Hub
  pub before : List ℕ
  pub entries : List Entry

-- how many calls each actor has made, and the tape, none where the recorder is off
pub record Recording : Type 0 where
  pub counts : List ℕ
  pub tape : Option Tape

-- what every recorder keeps of its tape
pub record IsTaped (counts : List ℕ) (tape : Tape) : Type 0 where
  pub numbered : IsNumbered tape.before tape.entries
  pub counted : counts ≡ counts_after tape.before tape.entries
  pub some_room : 0 < tape.capacity
  pub room : length tape.entries ≤ tape.capacity
  pub meant : AreMeant tape.entries

abbrev pub IsTapedIfOn : List ℕ → Option Tape → Type 0
IsTapedIfOn counts None = Unit {0}
IsTapedIfOn counts (Some tape) = IsTaped counts tape

-- nothing was recorded yet on a hub
abbrev pub tape_on : Hub → List ℕ → ℕ → Tape
tape_on hub counts capacity = record { capacity = capacity; base = hub; before = counts; entries = [] }

-- a call of an actor
abbrev pub call_of : List ℕ → ℕ → Step → Result Reply StepFault → Entry
call_of counts actor step reply =
    record { actor = actor; ordinal = slice_index counts actor + 1; step = step; reply = reply }

-- the tape with one more call
abbrev pub tape_with : Entry → Tape → Tape
tape_with e tape = record tape { entries = tape.entries ++ e ∷ [] }

-- a call was noted: it is counted, and kept where the recorder is on
abbrev pub noted : Recording → ℕ → Step → Result Reply StepFault → Recording
noted r actor step reply = record {
  counts = slice_set r.counts actor (slice_index r.counts actor + 1);
  tape = option_map (tape_with (call_of r.counts actor step reply)) r.tape;
}

-- the base is the hub as it is now, and no call is kept
abbrev pub rolled : Recording → Hub → Recording
rolled r hub = record r { tape = option_map (λ (tape : Tape). tape_on hub r.counts tape.capacity) r.tape }

-- nothing is kept any more but the counts
abbrev pub recording_off : Recording → Recording
recording_off r = record r { tape = None }

-- no further call can be kept
abbrev pub is_tape_full : Option Tape → Bool
is_tape_full None = false
is_tape_full (Some tape) = length tape.entries == tape.capacity

-- a further call can be kept, where any is
abbrev pub HasRoom : Option Tape → Type 0
HasRoom None = Unit {0}
HasRoom (Some tape) = length tape.entries < tape.capacity

-- the hub is what the tape replays to, and each reply on it was allowed; where the recorder is off nothing is said
abbrev pub Replays : Option Tape → Hub → Type 0
Replays None hub = Unit {0}
Replays (Some tape) hub =
    (tape.base.setup ≡ hub.setup) × IsReplay tape.base.setup tape.base.state tape.entries
    × (hub.state ≡ replayed tape.base.setup tape.base.state tape.entries)
