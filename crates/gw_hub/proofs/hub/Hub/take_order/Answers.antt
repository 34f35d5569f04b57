use Rattle.std.proofs.Common.{ap, rules}
use Rattle.gw_steps.specs.State.{Hub}
use Rattle.gw_hub.proofs.Holding.{orderly, polled_state, sound_of, taking_orderly}
use Rattle.gw_hub.proofs.hub.Hub.take_order.Goals as goal

pub invariant_of-self : goal.invariant_of-self
invariant_of-self c =
    let before = c.self.invariant.sound in
    let orders = taking_orderly _ _ _ _ c.args.outstation _ _ (orderly _ _ before) in
    rw c.take_order.ensures.after (record {
      sound = sound_of _ _ before.picture before.rows before.masters orders;
      sessions = c.self.invariant.sessions;
      news = c.self.invariant.news;
    })

pub returns-then-ready-clause-state : goal.returns-then-ready-clause-state
returns-then-ready-clause-state c =
    polled_state c.args.self.now.state _ c.args.outstation c.in_ok-get.field-0.now _
    (ap (λ (h : Hub). h.state) c.self.view_is) (search (rules, c.in_ok-get.ensures))
    (search (rules, c.ready.ensures, c.if-ready.true)) c.take_order.ensures.after
