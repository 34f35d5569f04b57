-- Recorded histories: calls of actors on a base state, the oldest first.
use Rattle.std.specs.Prelude.{◌≡◌, ℕ, ◌+◌, ◌<◌, List, [], ◌∷◌, length, slice_index, slice_set, Result}
use Rattle.std.specs.List.{AllByRecursion}
use Rattle.gw_map.specs.Settings.{Setup}
use Rattle.gw_steps.specs.declared.step.Step.{Step}
use Rattle.gw_steps.specs.declared.step.Reply.{Reply}
use Rattle.gw_steps.specs.declared.step.StepFault.{StepFault}
use Rattle.gw_steps.specs.State.{State}
use Rattle.gw_steps.specs.Steps.{Allowed, after}
use Rattle.gw_steps.specs.Runs.{unless_fault}
use Rattle.gw_steps.specs.Carried.{IsMeant}
use Rattle.run_shared.specs.declared.entry.Entry.{Entry}

-- the state after a step that was answered so: a fault changes nothing
abbrev pub state_following : Setup → State → Step → Result Reply StepFault → State
state_following setup s step reply = unless_fault s (λ r. after setup s step) reply

-- the state after these calls, one after the other
abbrev pub replayed : Setup → State → List Entry → State
replayed setup s [] = s
replayed setup s (e ∷ es) = replayed setup (state_following setup s e.step e.reply) es

-- each reply is one that the step relation allows there, and leads to the state after it
abbrev pub IsReplay : Setup → State → List Entry → Type 0
IsReplay setup s [] = Unit {0}
IsReplay setup s (e ∷ es) =
    Allowed setup s e.step e.reply (state_following setup s e.step e.reply)
    × IsReplay setup (state_following setup s e.step e.reply) es

-- how many calls each actor has made after these, where it had made so many before
abbrev pub counts_after : List ℕ → List Entry → List ℕ
counts_after counts [] = counts
counts_after counts (e ∷ es) = counts_after (slice_set counts e.actor e.ordinal) es

-- each call has the number that follows its actor's count: none is left out
abbrev pub IsNumbered : List ℕ → List Entry → Type 0
IsNumbered counts [] = Unit {0}
IsNumbered counts (e ∷ es) =
    (e.actor < length counts) × (e.ordinal ≡ slice_index counts e.actor + 1)
    × IsNumbered (slice_set counts e.actor e.ordinal) es

-- the fragments in calls are what their octets mean
abbrev pub AreMeant : List Entry → Type 0
AreMeant es = AllByRecursion (λ (e : Entry). IsMeant e.step) es
