-- What steps carry: a fragment in a step is what its octets mean, which the type of responses keeps.
use Rattle.std.specs.Prelude.{List}
use Rattle.std.specs.List.{AllByRecursion}
use Rattle.dnp_app.specs.Response.{IsResponse}
use Rattle.gw_steps.specs.declared.step.Step.{Step}
use Rattle.gw_steps.specs.declared.step.Step.TheVariants as steps
use Rattle.gw_steps.specs.Runs.{Entry}

-- a fragment that the step carries is a response, and reports what its octets mean
abbrev pub IsMeant : Step → Type 0
IsMeant (steps.Fragment f moment) = IsResponse f
IsMeant _ = Unit {0}

-- so is that of each step of a history
abbrev pub AreMeant : List Entry → Type 0
AreMeant past = AllByRecursion (λ (e : Entry). IsMeant e.step) past
