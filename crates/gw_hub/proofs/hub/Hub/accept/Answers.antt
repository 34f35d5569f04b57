use Rattle.std.proofs.Common.{ℕ, length, sym, ap, subst, ◌∙◌, arith, rules}
use Rattle.gw_picture.specs.Shown.{ShowsRows}
use Rattle.gw_picture.proofs.ByType.{reports_rows}
use Rattle.gw_picture.proofs.Lists.{change-length}
use Rattle.gw_steps.specs.State.{Counts}
use Rattle.std.specs.Option.{option_to_list}
use Rattle.gw_map.specs.Settings.{station_clocks}
use Rattle.gw_steps.specs.Controls.{outcome_ended}
use Rattle.gw_hub.specs.Hub.{KeepsToSession, news_of_all}
use Rattle.gw_hub.proofs.Each.{all_mapped}
use Rattle.gw_hub.proofs.Holding.{left_by_end, left_by_news, news_holds, orderly, sound_of}
use Rattle.gw_hub.proofs.Taking.{can_rise_news, sound_came, sound_within}
use Rattle.gw_hub.proofs.Sessions.{kept_outcomes, kept_with_news}
use Rattle.gw_hub.proofs.hub.Hub.accept.Goals as goal

pub take_reports-news-requires-clause-count : goal.take_reports-news-requires-clause-count
take_reports-news-requires-clause-count c =
    let news : ℕ =
    length (news_of_all c.get.result.now c.self.inside.picture c.reports-reports.result.now) in
    let few = can_rise_news c.self.inside.counts news 0
    (search (rules, c.can_rise.ensures, c.if-not-can_rise.false, c.get.ensures)) in
    omega (arith, few, c.self.invariant.news)

pub take_reports-news-requires-clause-few : goal.take_reports-news-requires-clause-few
take_reports-news-requires-clause-few c = sound_within _ _ _ _ c.self.invariant.sound.clients

pub invariant_of-self : goal.invariant_of-self
invariant_of-self c =
    let before = rw (← c.get.ensures) at c.self.invariant.sound in
    let clients =
    sound_came _ c.self.inside.counts.steps _ c.self.inside.counts.news _ _ _ _
    c.take_reports-news.ensures.clients c.take_reports-news.ensures.sendable
    (omega (arith, ap (λ (counts : Counts). counts.steps) c.raise.ensures))
    (omega (arith, c.take_reports-news.ensures.count, ap (λ (counts : Counts). counts.news) c.raise.ensures))
    before.clients in
    let told = left_by_news _ _ _ _ _ _ _ _ _ _ c.take_reports-news.ensures.clients clients (orderly _ _ before) in
    let orders = left_by_end _ _ _ _ _ _ _ _ _ _ c.end_order.ensures.clients c.end_order.ensures.controls told in
    rw (← c.get.ensures)
    (record {
      sound = sound_of _ _ c.rows-shown.ensures.sendable
          (subst (ShowsRows _) (sym c.take_reports-news.ensures.picture)
          (reports_rows (station_clocks c.get.result.now.station) _ _ c.reports-reports.result.now before.rows))
          (ap length c.accept.ensures ∙ (change-length _ _ _ ∙ before.masters)) orders;
      sessions = kept_outcomes (option_to_list (outcome_ended _ c.args.ended c.self.inside.controls)) _ _
          c.end_order.ensures.clients
          (all_mapped KeepsToSession KeepsToSession _ _ _ c.take_reports-news.ensures.clients (kept_with_news _)
          c.self.invariant.sessions);
      news = omega (
        arith,
        c.end_order.ensures.news,
        c.take_reports-news.ensures.news,
        c.take_reports-news.ensures.count,
        ap (λ (counts : Counts). counts.news) c.raise.ensures,
        c.self.invariant.news,
      );
    })

pub end_order-requires : goal.end_order-requires
end_order-requires c =
    let before = rw (← c.get.ensures) at c.self.invariant.sound in
    news_holds _ _ _ _ _ _ _ _ c.take_reports-news.ensures.clients c.take_reports-news.ensures.sendable
    (orderly _ _ before)
