-- What the recorder has of the one history.
use Rattle.std.specs.Prelude.{◌≡◌, ℕ, List, ◌++◌, length, map, reverse, slice_index, Option, Some, None}
use Rattle.run_log.specs.Follows.{of_lane}
use Rattle.run_shared.specs.declared.entry.Entry.{Entry}
use Rattle.run_shared.specs.Recording.{Recording, Tape}
use Rattle.run_shared.specs.Reached.{Deed, entry}

-- a call on the tape, as the history has it
abbrev pub deed_of : Entry → Deed
deed_of e = (e.actor, entry e.step e.reply)

-- the calls on the tape are the newest of the history, in their order, each of the actor that made it
abbrev pub HasNewest : Option Tape → List Deed → Type 0
HasNewest None past = Unit {0}
HasNewest (Some tape) past = (older : List Deed) × (past ≡ reverse (map deed_of tape.entries) ++ older)

-- of each actor as many calls are counted as the history has
abbrev pub CountsEach : List ℕ → List Deed → Type 0
CountsEach counts past = (actor : ℕ) → slice_index counts actor ≡ length (of_lane actor past)

-- what the recorder keeps is of this history
pub record IsOfHistory (recording : Recording) (past : List Deed) : Type 0 where
  pub newest : HasNewest recording.tape past
  pub counted : CountsEach recording.counts past
