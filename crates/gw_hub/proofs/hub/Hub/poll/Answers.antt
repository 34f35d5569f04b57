use Rattle.std.proofs.Common.{◌≡◌, None, length, ap, ◌∙◌, rules}
use Rattle.gw_steps.specs.declared.step.Step.TheVariants as steps
use Rattle.gw_steps.specs.State.{Hub, State}
use Rattle.gw_steps.specs.Steps.{fault_of}
use Rattle.gw_hub.proofs.Holding.{due_ready, orderly, poll_answer, poll_state, sound_of}
use Rattle.gw_picture.proofs.Lists.{change-length}
use Rattle.gw_hub.proofs.hub.Hub.poll.Goals as goal

pub invariant_of-self : goal.invariant_of-self
invariant_of-self c =
    let before = c.self.invariant.sound in
    record {
      sound = sound_of _ _ before.picture before.rows
          (ap length c.poll.ensures.masters ∙ (change-length c.args.outstation _ _ ∙ before.masters))
          (orderly _ _ before);
      sessions = c.self.invariant.sessions;
      news = c.self.invariant.news;
    }

pub poll-requires : goal.poll-requires
poll-requires c =
    let taken = ap (λ (h : Hub). h.state) c.self.view_is ∙ c.take_order-order.ensures.state in
    let due = due_ready c.count.new.self.state c.args.outstation c.take_order-order.result
    c.take_order-order.ensures.order in
    let same : c.self.inside.outstations ≡ c.count.new.self.state.outstations =
    ap (λ (s : State). s.outstations) taken in
    rw same due

pub returns-clause-step : goal.returns-clause-step
returns-clause-step c =
    let old : Hub = c.args.self.now in
    let counted = c.in_ok-count.ensures.ok.1 in
    let taken = ap (λ (h : Hub). h.state) c.self.view_is ∙ c.take_order-order.ensures.state in
    let fault : fault_of old.state (steps.Poll c.args.outstation c.args.moment c.args.wall) ≡ None =
    search (rules, c.in_ok-check_outstation.ensures) in (
      poll_answer old.setup old.state c.count.new.self.state _ c.args.outstation c.args.moment c.args.wall
          c.take_order-order.result c.poll.result counted c.take_order-order.ensures.order taken fault
          c.in_ok-count.ensures.ok.0 c.poll.ensures.reply,
      poll_state old.setup old.state c.count.new.self.state _ c.args.outstation c.args.moment c.args.wall
          c.take_order-order.result _ counted c.take_order-order.ensures.order taken c.poll.ensures.masters,
    )
