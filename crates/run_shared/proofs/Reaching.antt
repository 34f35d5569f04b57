-- One more call on a hub that a history led to.
use Rattle.std.proofs.Common.{◌≡◌, ℕ, ◌+◌, [], ◌∷◌, List, Result, refl, sym, subst, ◌∙◌, arith}
use Rattle.gw_map.specs.Settings.{Setup}
use Rattle.gw_steps.specs.declared.step.Step.{Step}
use Rattle.gw_steps.specs.declared.step.Reply.{Reply}
use Rattle.gw_steps.specs.declared.step.StepFault.{StepFault}
use Rattle.gw_steps.specs.State.{Hub}
use Rattle.gw_steps.specs.Steps.{Allowed}
use Rattle.gw_steps.specs.Sound.{IsSoundState}
use Rattle.gw_steps.specs.Carried.{IsMeant}
use Rattle.gw_steps.proofs.Running.{ran_first, ran_step}
use Rattle.run_shared.specs.Reached.{Deed, IsFirst, IsReached, entries_of, entry}

-- the empty history leads to a hub on which no step was made
pub reached_first : (setup : Setup) (hub : Hub) (past : List Deed) → IsFirst setup hub → past ≡ []
    → IsReached setup hub past 0
reached_first setup hub past first none = subst (λ (l : List Deed). IsReached setup hub l 0) (sym none) (record {
  setup_is = first.setup_is;
  course = record {
    run = record {
      settings = first.settings;
      run = (ran_first setup).run;
      sound = (ran_first setup).sound;
      meant = tt;
    };
    indices = first.indices;
  };
  state = first.state;
  count = refl;
})

-- and it goes on by a step
pub reached_then : (setup : Setup) (old new : Hub) (before now : List Deed) (made actor : ℕ) (step : Step)
    (reply : Result Reply StepFault)
    → IsReached setup old before made → Allowed old.setup old.state step reply new.state
    → IsSoundState new.setup new.state → IsMeant step → new.setup ≡ old.setup → now ≡ (actor, entry step reply) ∷ before
    → IsReached setup new now (made + 1)
reached_then setup old new before now made actor step reply reached allowed sound meant same is =
    let here : new.setup ≡ setup = same ∙ reached.setup_is in
    let ran =
    ran_step setup (entries_of before) old.state new.state step reply
    (subst (λ (s : Setup). Allowed s old.state step reply new.state) reached.setup_is allowed)
    (subst (λ (s : Setup). IsSoundState s new.state) here sound)
    (record { run = reached.course.run.run; state = reached.state; sound = reached.course.run.sound }) in
    subst (λ (l : List Deed). IsReached setup new l (made + 1)) (sym is) (record {
      setup_is = here;
      course = record {
        run = record {
          settings = reached.course.run.settings;
          run = ran.run;
          sound = ran.sound;
          meant = (meant, reached.course.run.meant);
        };
        indices = reached.course.indices;
      };
      state = ran.state;
      count = omega (arith, reached.count);
    })
