-- Who makes which calls.
use Rattle.std.specs.Prelude.{◌≡◌, ℕ, List, Option, None, IfSome}
use Rattle.std.specs.List.{AllByRecursion}
use Rattle.gw_steps.specs.declared.step.Step.{Step}
use Rattle.gw_steps.specs.declared.step.Step.TheVariants as steps
use Rattle.run_shared.specs.Reached.{Deed}

-- the one actor that pumps for a client, and the one that polls an outstation, where that is left to one
pub record Roles : Type 0 where
  pub pumper : ℕ → Option ℕ
  pub poller : ℕ → Option ℕ

-- nothing is left to one
abbrev pub anybody : Roles
anybody = record { pumper = λ (client : ℕ). None; poller = λ (outstation : ℕ). None }

-- an actor is the one to whom it is left, if it is
abbrev pub IsOne : Option ℕ → ℕ → Type 0
IsOne one actor = IfSome one (λ (a : ℕ). a ≡ actor)

-- an actor may make a call
abbrev pub MayMake : Roles → ℕ → Step → Type 0
MayMake roles actor (steps.Pump client moment) = IsOne (roles.pumper client) actor
MayMake roles actor (steps.Poll outstation moment wall) = IsOne (roles.poller outstation) actor
MayMake roles actor _ = Unit {0}

-- each call of a history was made by an actor that may
abbrev pub KeepsRoles : Roles → List Deed → Type 0
KeepsRoles roles past = AllByRecursion (λ (deed : Deed). MayMake roles deed.0 deed.1.step) past
