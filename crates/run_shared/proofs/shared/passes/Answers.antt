use Rattle.std.proofs.Common.{◌∙◌, ◌+◌, refl, ap, arith}
use Rattle.gw_steps.specs.Runs.{Entry}
use Rattle.run_log.specs.Follows.{Known, Whole}
use Rattle.run_shared.proofs.Passes.{one-more}
use Rattle.run_shared.proofs.shared.passes.Goals as goal

pub loop-actor-preserved : goal.loop-actor-preserved
loop-actor-preserved g c =
    let nothing = ap (λ (w : Whole Entry). w.log) c.loop-actor.invariant.head in
    record {
      parts = omega (arith, c.split_off.ensures.parts_left, c.loop-actor.invariant.parts);
      amount = omega (arith, c.split_off.ensures.amount_left, c.loop-actor.invariant.amount);
      head =
          c.lane.ensures.begun
          ∙ ap (λ (w : Whole Entry). record { lanes = w.lanes + 1; log = w.log }) c.loop-actor.invariant.head;
      cut =
          one-more _ _ c.loop-actor.actor _ _ _ _ c.loop-actor.invariant.cut c.in_ok-push.ensures.items
          c.split_off.ensures.amount (ap (λ (k : Known Entry). k.log) c.lane.ensures.lane ∙ nothing) refl refl;
    }

pub returns-clause-passes : goal.returns-clause-passes
returns-clause-passes g c =
    let nothing = ap (λ (w : Whole Entry). w.log) c.loop-actor.invariant.head in
    one-more _ _ c.loop-actor.actor _ _ _ _ c.loop-actor.invariant.cut c.in_ok-push-2.ensures.items
    c.loop-actor.invariant.amount (ap (λ (k : Known Entry). k.log) c.lane-2.ensures.lane ∙ nothing) (omega arith)
    (omega arith)
