-- What a step under the lock does to the core, and to the pass of whoever asked for it.
use Rattle.std.specs.Prelude.{◌≡◌, ℕ, ◌+◌, ◌-◌, ◌^◌, ◌<◌, ◌⊎◌, true}
use Rattle.std.specs.Prelude.{false, List, [], ◌∷◌, length, Result, Err}
use Rattle.gw_steps.specs.declared.step.Step.{Step}
use Rattle.gw_steps.specs.declared.step.Reply.{Reply}
use Rattle.gw_steps.specs.declared.step.StepFault.{StepFault}
use Rattle.gw_steps.specs.declared.step.StepFault.TheVariants.{Spent}
use Rattle.gw_steps.specs.State.{Hub}
use Rattle.gw_steps.specs.Steps.{Allowed}
use Rattle.gw_steps.specs.Sound.{IsSoundState}
use Rattle.gw_map.specs.Settings.{Setup}
use Rattle.run_log.specs.Follows.{Follows}
use Rattle.run_shared.specs.Reached.{Deed, IsCourse, IsReached, entries_of, entry}
use Rattle.run_shared.specs.Recording.{Recording, is_tape_full, noted, recording_off, rolled}

-- the hub under the lock, what is recorded of it, the one history of its calls, newest first, each with its actor, and how
-- many were made
pub record Core : Type 0 where
  pub hub : Hub
  pub recording : Recording
  pub past : List Deed
  pub made : ℕ

-- who makes calls, how many it has made, and what of the one history it has seen, newest first
pub record Pass : Type 0 where
  pub actor : ℕ
  pub made : ℕ
  pub seen : List Deed

-- the pass of an actor that has made no call, and has seen nothing
abbrev pub unused : ℕ → Pass
unused actor = record { actor = actor; made = 0; seen = [] }

-- the number of the last call that can be counted
abbrev pub last_call : ℕ
last_call = 2 ^ 64 - 1

-- before a call a full recorder begins anew at the hub, or goes off; any other stays as it is
abbrev pub IsMadeReady : Hub → Recording → Recording → Type 0
IsMadeReady hub old ready =
    (is_tape_full old.tape ≡ false → ready ≡ old)
    × (is_tape_full old.tape ≡ true → (ready ≡ rolled old hub) ⊎ (ready ≡ recording_off old))

-- the call was noted, with its reply, on a recorder that was made ready for it
pub record IsNoted (hub : Hub) (old new : Recording) (actor : ℕ) (step : Step)
    (reply : Result Reply StepFault) : Type 0 where
  pub ready : Recording
  pub made_ready : IsMadeReady hub old ready
  pub noted_so : new ≡ noted ready actor step reply

-- a pass that has made one call more, the newest of this history
abbrev pub pass_behind : Pass → List Deed → Pass
pass_behind mine seen = record { actor = mine.actor; made = mine.made + 1; seen = seen }

-- a pass that has seen this history, and has made no call more
abbrev pub pass_at : Pass → List Deed → Pass
pass_at mine seen = record { actor = mine.actor; made = mine.made; seen = seen }

-- one call: the step that was asked was made on a sound state, and answered as the step relation allows; call, reply
-- and actor were noted; the call was counted under the lock and on the pass; its number is the count, which no earlier
-- call of the pass had. The history goes on by the call, and the pass knows it then; it had known a beginning of it, behind
-- which its actor made no other call. The hub is the state after that history, which is a run from the first state
pub record IsTurn (setup : Setup) (old new : Core) (mine after : Pass) (step : Step) (number : ℕ)
    (reply : Result Reply StepFault) : Type 0 where
  pub sound : IsSoundState old.hub.setup old.hub.state
  pub allowed : Allowed old.hub.setup old.hub.state step reply new.hub.state
  pub setup_is : new.hub.setup ≡ old.hub.setup
  pub recorded : IsNoted old.hub old.recording new.recording mine.actor step reply
  pub counted : new.made ≡ old.made + 1
  pub number_is : number ≡ new.made
  pub above : mine.made < number
  pub past : new.past ≡ (mine.actor, entry step reply) ∷ old.past
  pub follows : Follows mine.actor mine.seen old.past
  pub reached : IsReached setup new.hub new.past new.made
  pub pass : after ≡ pass_behind mine new.past

-- no further call can be counted: none was made. The pass knows the whole history then; it had known a beginning of it, behind
-- which its actor made no other call
pub record IsLast (setup : Setup) (old new : Core) (mine after : Pass) (number : ℕ) (reply : Result Reply StepFault)
    : Type 0 where
  pub same : new ≡ old
  pub follows : Follows mine.actor mine.seen old.past
  pub reached : IsReached setup old.hub old.past old.made
  pub pass : after ≡ pass_at mine old.past
  pub number_is : number ≡ last_call
  pub refused : reply ≡ Err Spent

-- a call on a core: where its count can rise it is made, otherwise refused
abbrev pub Steps : Setup → Core → Core → Pass → Pass → Step → ℕ × Result Reply StepFault → Type 0
Steps setup old new mine after step answer =
    (old.made < last_call → IsTurn setup old new mine after step answer.0 answer.1)
    × (old.made ≡ last_call → IsLast setup old new mine after answer.0 answer.1)

-- what a caller of the lock knows of a call that was made: in the one history it comes behind so many others as its number
-- says, with its step and its reply; that history is a run from the first state. The caller had seen a beginning of it,
-- behind which its actor made no other call. The number is above its earlier calls, and it was counted on its pass, which
-- knows the history then
pub record IsAnswered (setup : Setup) (mine after : Pass) (step : Step) (number : ℕ) (reply : Result Reply StepFault)
    : Type 0 where
  pub before : List Deed
  pub follows : Follows mine.actor mine.seen before
  pub course : IsCourse setup (entry step reply ∷ entries_of before)
  pub number_is : number ≡ length before + 1
  pub above : mine.made < number
  pub pass : after ≡ pass_behind mine ((mine.actor, entry step reply) ∷ before)

-- the call was refused, since no further one can be counted: the one history has as many calls as ever can be. The caller had
-- seen a beginning of it, behind which its actor made no other call, and knows the whole of it then
pub record IsRefused (setup : Setup) (mine after : Pass) (number : ℕ) (reply : Result Reply StepFault) : Type 0 where
  pub whole : List Deed
  pub follows : Follows mine.actor mine.seen whole
  pub course : IsCourse setup (entries_of whole)
  pub count : length whole ≡ last_call
  pub pass : after ≡ pass_at mine whole
  pub number_is : number ≡ last_call
  pub refused : reply ≡ Err Spent

abbrev pub Answers : Setup → Pass → Pass → Step → ℕ × Result Reply StepFault → Type 0
Answers setup mine after step answer =
    IsAnswered setup mine after step answer.0 answer.1 ⊎ IsRefused setup mine after answer.0 answer.1
