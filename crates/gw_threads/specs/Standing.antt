-- What of a history is an actor's own: the calls that were made with its pass, and no other; what a worker sent on a line,
-- and nothing else.
use Rattle.std.specs.Prelude.{◌≡◌, ◌⊎◌, List, [], ◌∷◌, ◌++◌, reverse, Err}
use Rattle.run_log.specs.Follows.{Known, of_lane}
use Rattle.gw_steps.specs.declared.step.StepFault.TheVariants.{Spent}
use Rattle.gw_steps.specs.Runs.{Entry}
use Rattle.run_shared.specs.Reached.{entry}
use Rattle.run_shared.specs.Turn.{Pass}
use Rattle.run_ends.specs.declared.sent.Sending.{Sending}
use Rattle.gw_threads.specs.Calls.{Call}

-- a call is the oldest of these entries; or it was refused, since no further call could be counted
abbrev pub IsOldest : Call → List Entry → List Entry → Type 0
IsOldest c later entries = (entries ≡ later ++ entry c.step c.reply ∷ []) ⊎ ((c.reply ≡ Err Spent) × (entries ≡ later))

-- calls, one after another, are these entries, newest first
abbrev pub Stand : List Call → List Entry → Type 0
Stand [] entries = entries ≡ []
Stand (c ∷ calls) entries = (later : List Entry) × (Stand calls later × IsOldest c later entries)

-- since a pass knew a beginning of the one history, its actor has just these calls in it
pub record StandAlone (mine after : Pass) (calls : List Call) : Type 0 where
  pub entries : List Entry
  pub stand : Stand calls entries
  pub all : of_lane mine.actor after.seen ≡ entries ++ of_lane mine.actor mine.seen

-- since a worker knew a beginning of a line's history, it has just this in it
pub record SentAlone (old new : Known Sending) (sends : List Sending) : Type 0 where
  pub lane : new.lane ≡ old.lane
  pub all : of_lane old.lane new.log ≡ reverse sends ++ of_lane old.lane old.log

-- all that a line's history has of this worker, the oldest first
abbrev pub all_sent : Known Sending → List Sending
all_sent front = reverse (of_lane front.lane front.log)
