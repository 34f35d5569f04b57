-- Where nothing is left to one actor, anybody may make any call.
use Rattle.std.proofs.Common.{◌≡◌, ℕ, sym, subst}
use Rattle.gw_steps.specs.declared.step.Step.{Step}
use Rattle.gw_steps.specs.declared.step.Step.TheVariants as steps
use Rattle.run_shared.specs.Roles.{IsOne, MayMake, Roles, anybody}

any_call : (actor : ℕ) (step : Step) → MayMake anybody actor step
any_call actor (steps.Pump c m) = tt
any_call actor (steps.Poll o m w) = tt
any_call actor (steps.OutstationUp o m) = tt
any_call actor (steps.OutstationDown o m) = tt
any_call actor (steps.Fragment f m) = tt
any_call actor (steps.ClientUp c m) = tt
any_call actor (steps.ClientDown c m) = tt
any_call actor (steps.Frame c a m) = tt
any_call actor (steps.Tick m) = tt

pub anybody_may : (roles : Roles) (actor : ℕ) (step : Step) → roles ≡ anybody → MayMake roles actor step
anybody_may roles actor step is =
    subst (λ (r : Roles). MayMake r actor step) (sym is) (any_call actor step)

pub anybody_pumps : (roles : Roles) (actor client : ℕ) → roles ≡ anybody → IsOne (roles.pumper client) actor
anybody_pumps roles actor client is = subst (λ (r : Roles). IsOne (r.pumper client) actor) (sym is) tt

pub anybody_polls : (roles : Roles) (actor outstation : ℕ) → roles ≡ anybody → IsOne (roles.poller outstation) actor
anybody_polls roles actor outstation is = subst (λ (r : Roles). IsOne (r.poller outstation) actor) (sym is) tt
