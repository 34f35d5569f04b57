use Rattle.std.proofs.Common.{length, sym, ap, subst, ◌∙◌, arith, rules}
use Rattle.std.specs.List.{AllByRecursion}
use Rattle.gw_map.specs.Settings.{Setup}
use Rattle.gw_picture.specs.Loss.{losses_of}
use Rattle.gw_picture.specs.Shown.{IsShown, ShowsRows}
use Rattle.gw_picture.proofs.ByType.{loss_rows}
use Rattle.gw_picture.proofs.Lists.{change-length}
use Rattle.gw_picture.proofs.Shows.{loss_shown}
use Rattle.gw_steps.specs.State.{Counts}
use Rattle.std.specs.Option.{option_to_list}
use Rattle.gw_control.specs.Orders.{places}
use Rattle.gw_steps.specs.Controls.{outcome_ended, outcomes_lost}
use Rattle.gw_hub.specs.Hub.{KeepsToSession}
use Rattle.gw_hub.proofs.Each.{all_mapped}
use Rattle.gw_hub.proofs.Holding.{end_holds, left_by_end, left_by_loss, left_by_news, news_holds, orderly, sound_of}
use Rattle.gw_hub.proofs.Taking.{can_rise_news, sound_came, sound_within}
use Rattle.gw_hub.proofs.Sessions.{kept_outcomes, kept_with_news}
use Rattle.gw_hub.proofs.hub.Hub.outstation_down.Goals as goal

pub lose_rows-requires-clause-count : goal.lose_rows-requires-clause-count
lose_rows-requires-clause-count c =
    let few = can_rise_news c.self.inside.counts c.losses-news.result 0
    (search (rules, c.can_rise.ensures, c.if-not-can_rise.false)) in
    let same = ap (λ (s : Setup). length (losses_of c.args.outstation s.rows c.self.inside.picture))
    (c.get.ensures ∙ sym c.get-2.ensures) in
    omega (arith, few, c.losses-news.ensures, same, c.self.invariant.news)

pub lose_rows-requires-clause-few : goal.lose_rows-requires-clause-few
lose_rows-requires-clause-few c = sound_within _ _ _ _ c.self.invariant.sound.clients

pub invariant_of-self : goal.invariant_of-self
invariant_of-self c =
    let same = ap (λ (s : Setup). length (losses_of c.args.outstation s.rows c.self.inside.picture))
    (c.get.ensures ∙ sym c.get-2.ensures) in
    let before = rw (← c.get-2.ensures) at c.self.invariant.sound in
    let clients =
    sound_came _ c.self.inside.counts.steps _ c.self.inside.counts.news _ _ _ _ c.lose_rows.ensures.clients
    c.lose_rows.ensures.sendable
    (omega (arith, ap (λ (counts : Counts). counts.steps) c.raise.ensures))
    (omega (arith, c.losses-news.ensures, same, ap (λ (counts : Counts). counts.news) c.raise.ensures))
    before.clients in
    let told = left_by_news _ _ _ _ _ _ _ _ _ _ c.lose_rows.ensures.clients clients (orderly _ _ before) in
    let ended = c.go_down-ended.result in
    let first =
    left_by_end _ _ _ _ _ ended _ _ _ _ c.end_order.ensures.clients c.end_order.ensures.controls told in
    let orders =
    left_by_loss _ _ _ _ places c.args.outstation _ _ _ _ c.lose_orders.ensures.clients c.lose_orders.ensures.controls
    first in
    rw (← c.get-2.ensures)
    (record {
      sound = sound_of _ _
          (subst (AllByRecursion IsShown) (sym c.lose_rows.ensures.picture) (loss_shown _ _ _ before.picture))
          (subst (ShowsRows _) (sym c.lose_rows.ensures.picture) (loss_rows _ _ _ before.rows))
          (ap length c.go_down-ended.ensures.masters ∙ (change-length c.args.outstation _ _ ∙ before.masters)) orders;
      sessions = kept_outcomes (outcomes_lost places c.args.outstation c.end_order.new.controls) _ _
          c.lose_orders.ensures.clients
          (kept_outcomes (option_to_list (outcome_ended _ ended c.self.inside.controls)) _ _ c.end_order.ensures.clients
          (all_mapped KeepsToSession KeepsToSession _ _ _ c.lose_rows.ensures.clients (kept_with_news _)
          c.self.invariant.sessions));
      news = omega (
        arith,
        c.lose_orders.ensures.news,
        c.end_order.ensures.news,
        c.lose_rows.ensures.news,
        c.losses-news.ensures,
        same,
        ap (λ (counts : Counts). counts.news) c.raise.ensures,
        c.self.invariant.news,
      );
    })

pub end_order-requires : goal.end_order-requires
end_order-requires c =
    let before = rw (← c.get-2.ensures) at c.self.invariant.sound in
    news_holds _ _ _ _ _ _ _ _ c.lose_rows.ensures.clients c.lose_rows.ensures.sendable (orderly _ _ before)

pub lose_orders-requires : goal.lose_orders-requires
lose_orders-requires c =
    let before = rw (← c.get-2.ensures) at c.self.invariant.sound in
    end_holds _ c.go_down-ended.result _ _ _ _ c.end_order.ensures.clients c.end_order.ensures.controls
    (news_holds _ _ _ _ _ _ _ _ c.lose_rows.ensures.clients c.lose_rows.ensures.sendable (orderly _ _ before))
