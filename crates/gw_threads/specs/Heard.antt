-- What the reader of an outstation steps of the octets that it takes.
use Rattle.std.specs.Prelude.{◌≡◌, ℕ, List, [], ◌∷◌, ◌++◌, Option, Some, Result, Err, IfNone, filter_map}
use Rattle.std.specs.Io.KnownBytes.{Appends}
use Rattle.dnp_link.specs.Frame.{FrameContent}
use Rattle.dnp_link.specs.Stream.{reading}
use Rattle.dnp_app.specs.Response.{Fragment}
use Rattle.dnp_receive.specs.Completion.{fragments_completed}
use Rattle.dnp_receive.specs.Delivery.{frames_of, response_at, stream_responses}
use Rattle.dnp_receive.specs.Receiver.{HasTaken, Reception}
use Rattle.gw_map.specs.Settings.{Setup}
use Rattle.gw_steps.specs.declared.step.Step.{Step}
use Rattle.gw_steps.specs.declared.step.Step.TheVariants as steps
use Rattle.gw_steps.specs.declared.step.Reply.{Reply}
use Rattle.gw_steps.specs.declared.step.StepFault.{StepFault}
use Rattle.gw_steps.specs.declared.step.StepFault.TheVariants as faults
use Rattle.run_shared.specs.Turn.{Pass}
use Rattle.run_ends.specs.declared.worker_end.WorkerEnd.{WorkerEnd}
use Rattle.run_ends.specs.declared.worker_end.WorkerEnd.TheVariants as ends
use Rattle.gw_threads.specs.Calls.{AreCalls, Call, given_by}

-- the response that a call stepped; none where no further step could be counted, since that leaves no trace in the one history
abbrev pub response_in : Step → Result Reply StepFault → List Fragment
response_in (steps.Fragment f moment) (Err faults.Spent) = []
response_in (steps.Fragment f moment) _ = f ∷ []
response_in _ _ = []

-- what may be left of the responses that were said where their reader ends so, or goes on: anything, where a write failed, memory
-- ran out or it was to stop; otherwise nothing
abbrev pub MayLeave : Option WorkerEnd → List Fragment → Type 0
MayLeave (Some ends.WriteFault) left = Unit {0}
MayLeave (Some ends.Memory) left = Unit {0}
MayLeave (Some ends.Stopping) left = Unit {0}
MayLeave _ left = left ≡ []

-- the responses that were heard are the first of all that were said, and the others may be left
pub record IsSaid (all heard : List Fragment) (result : Option WorkerEnd) : Type 0 where
  pub left : List Fragment
  pub same : all ≡ heard ++ left
  pub may : MayLeave result left

-- the responses that the calls of the pass in that time stepped are, in this order, the first of those that the octets say which
-- the reader took, and all of them, unless it ended before; its receiver had taken no frame
pub record Hears (setup : Setup) (outstation : ℕ) (receiver : Reception) (mine after : Pass)
    (before now : Option (List ℕ)) (end : WorkerEnd) : Type 0 where
  pub calls : List Call
  pub made : AreCalls setup mine calls after
  pub octets : List ℕ
  pub took : Appends before now octets
  pub said :
      (own peer : ℕ) → HasTaken own peer [] receiver
      → IsSaid (stream_responses outstation own peer octets) (given_by response_in calls) (Some end)

-- ---- fragment by fragment, and piece by piece

-- calls stepped the first of these responses
pub record HearsOf (setup : Setup) (mine after : Pass) (all : List Fragment) (result : Option WorkerEnd) : Type 0 where
  pub calls : List Call
  pub made : AreCalls setup mine calls after
  pub said : IsSaid all (given_by response_in calls) result

-- the responses of an outstation among the fragments that frames complete, behind those before them
abbrev pub responses_completed : ℕ → ℕ → ℕ → List FrameContent → List FrameContent → List Fragment
responses_completed outstation own peer before frames =
    filter_map (response_at outstation) (fragments_completed own peer before frames)

-- of the responses that frames complete, whichever the receiver had taken before them, calls stepped the first; and where the
-- reader goes on, the receiver has taken these frames
pub record HearsFrames (setup : Setup) (outstation : ℕ) (mine after : Pass) (old new : Reception)
    (frames : List FrameContent) (result : Option WorkerEnd) : Type 0 where
  pub calls : List Call
  pub made : AreCalls setup mine calls after
  pub said :
      (own peer : ℕ) (before : List FrameContent) → HasTaken own peer before old
      → IsSaid (responses_completed outstation own peer before frames) (given_by response_in calls) result
  pub taken :
      (own peer : ℕ) (before : List FrameContent) → HasTaken own peer before old
      → IfNone result (HasTaken own peer (before ++ frames) new)

-- the frames of what a feed was given were taken so; and where the reader goes on, the feed holds back what is no event yet
pub record HearsPiece (setup : Setup) (outstation : ℕ) (mine after : Pass) (old new : Reception) (fed next : List ℕ)
    (result : Option WorkerEnd) : Type 0 where
  pub heard : HearsFrames setup outstation mine after old new (frames_of (reading fed).events) result
  pub rest : IfNone result (next ≡ (reading fed).rest)

-- what a feed holds back shows no event yet
abbrev pub IsDrained : List ℕ → Type 0
IsDrained held = reading held ≡ record { events = []; rest = held }

-- the octets that came were fed, and taken so
pub record HearsOctets (setup : Setup) (outstation : ℕ) (mine after : Pass) (old new : Reception) (held next : List ℕ)
    (before now : Option (List ℕ)) (result : Option WorkerEnd) : Type 0 where
  pub octets : List ℕ
  pub took : Appends before now octets
  pub piece : HearsPiece setup outstation mine after old new (held ++ octets) next result
