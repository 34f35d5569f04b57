use Rattle.std.proofs.Common.{ap, arith, rules}
use Rattle.gw_steps.specs.State.{Counts}
use Rattle.gw_station.proofs.Sounds.{all_later}
use Rattle.gw_hub.proofs.Taking.{can_rise_step}
use Rattle.gw_hub.proofs.hub.Hub.count.Goals as goal

pub returns-clause-counted : goal.returns-clause-counted
returns-clause-counted c = record {
  before = c.self.inside.counts.steps;
  counted = ap (λ (counts : Counts). counts.steps) c.raise.ensures;
  few = can_rise_step c.self.inside.counts 0 0 (search (rules, c.can_rise.ensures, c.if-not-can_rise.false));
  sound = all_later _ _ _ _ _ _ (omega arith)
      (omega (arith, ap (λ (counts : Counts). counts.news) c.raise.ensures)) c.self.invariant.sound.clients;
}
