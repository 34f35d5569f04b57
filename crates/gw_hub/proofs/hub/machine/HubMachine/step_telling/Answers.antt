use Rattle.std.proofs.Common.{◌≡◌, ap, subst, ◌∙◌}
use Rattle.gw_steps.specs.State.{Hub}
use Rattle.gw_hub.proofs.Told.{told_either}
use Rattle.gw_hub.proofs.hub.machine.HubMachine.step_telling.Goals as goal

pub returns-clause-effects : goal.returns-clause-effects
returns-clause-effects c =
    let h : Hub = c.args.self.now in
    let news = subst (λ (x : Hub). c.news-news.result ≡ x.state.counts.news) c.self.view_is c.news-news.ensures in
    c.tell_behind.ensures.told
    ∙ told_either h.setup h.state c.args.step.now c.make_step-reply.result c.make_step-reply.new.self.state c.tell.new.effects.told
    c.news-news.result c.waiting_for-waiting.result c.make_step-reply.ensures.step c.tell.ensures.told news
    c.waiting_for-waiting.ensures
