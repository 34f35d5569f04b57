-- The steps so far are a run, the hub is the state after it, and their fragments are what their octets mean.
use Rattle.std.proofs.Common.{◌≡◌, [], length, take}
use Rattle.std.specs.List.{AllByRecursion}
use Rattle.gw_steps.specs.Carried.{IsMeant}
use Rattle.gw_steps.specs.Runs.{history}
use Rattle.gw_steps.proofs.Running.{Ran}
use Rattle.gw_hub.proofs.hub.Hub.make.Given as goal

abbrev pub invariant-loop-step : goal.invariant-loop-step
invariant-loop-step l =
    (length l.replies.items ≡ l.step-index) × (l.self.setup ≡ l.fn.self.setup)
    × Ran l.fn.self.setup (history [] (take l.step-index l.steps) l.replies.items) l.self.state
    × AllByRecursion IsMeant (take l.step-index l.steps)
