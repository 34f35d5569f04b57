-- What the hub under the lock came from: a run from the first state, of as many steps as calls were made.
use Rattle.std.specs.Prelude.{◌≡◌, ℕ, ◌^◌, ◌<◌, List, map, length, Result}
use Rattle.std.specs.List.{AllByRecursion}
use Rattle.gw_entries.specs.declared.control.Control.{Control}
use Rattle.gw_map.specs.Settings.{Setup}
use Rattle.gw_steps.specs.declared.step.Step.{Step}
use Rattle.gw_steps.specs.declared.step.Reply.{Reply}
use Rattle.gw_steps.specs.declared.step.StepFault.{StepFault}
use Rattle.gw_steps.specs.State.{Hub, at_first}
use Rattle.gw_steps.specs.Runs.{Entry, state_after}
use Rattle.gw_steps.specs.Premises.{IsSoundRun, IsSoundSetup}

-- a step, and what it was answered
abbrev pub entry : Step → Result Reply StepFault → Entry
entry step reply = record { step = step; reply = reply }

-- who made a call, and that call
abbrev pub Deed : Type 0
Deed = ℕ × Entry

-- the calls alone
abbrev pub entries_of : List Deed → List Entry
entries_of past = map (λ (deed : Deed). deed.1) past

-- an index of a control has 16 bits
abbrev pub HasShortIndices : Setup → Type 0
HasShortIndices setup = AllByRecursion (λ (control : Control). control.index < 2 ^ 16) setup.controls

-- the hub runs with these settings, which are what the laws of runs suppose, and no step was made on it
pub record IsFirst (setup : Setup) (hub : Hub) : Type 0 where
  pub setup_is : hub.setup ≡ setup
  pub settings : IsSoundSetup setup
  pub indices : HasShortIndices setup
  pub state : hub.state ≡ at_first setup

-- a history is a run with these settings
pub record IsCourse (setup : Setup) (past : List Entry) : Type 0 where
  pub run : IsSoundRun setup past
  pub indices : HasShortIndices setup

-- there is one of so many calls
abbrev pub CourseOf : Setup → ℕ → Type 0
CourseOf setup made = (past : List Deed) × (IsCourse setup (entries_of past) × (length past ≡ made))

-- this history, of so many calls, led to the hub
pub record IsReached (setup : Setup) (hub : Hub) (past : List Deed) (made : ℕ) : Type 0 where
  pub setup_is : hub.setup ≡ setup
  pub course : IsCourse setup (entries_of past)
  pub state : hub.state ≡ state_after setup (entries_of past)
  pub count : length past ≡ made
