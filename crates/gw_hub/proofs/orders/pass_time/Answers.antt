use Rattle.std.specs.Option.{option_to_list}
use Rattle.std.proofs.Common.{◌<◌, ◌≤◌, List, length, refl, sym, ap, ◌∙◌, arith}
use Rattle.gw_picture.proofs.Lists.{change-length}
use Rattle.dnp_master.specs.Master.{ended_by_tick, master_after_tick}
use Rattle.gw_control.specs.Controls.{Controls}
use Rattle.gw_control.specs.declared.answer.Outcome.{Outcome}
use Rattle.gw_station.specs.Client.{Client}
use Rattle.gw_steps.specs.Controls.{clients_told, controls_with_ended, outcome_ended}
use Rattle.gw_hub.proofs.Holding.{holds_ended, told_more}
use Rattle.gw_hub.proofs.Time.{ends_next, ends_past, masters_end, masters_next, outcomes_next}
use Rattle.gw_hub.proofs.orders.pass_time.Goals as goal

pub tick-ended-requires : goal.tick-ended-requires
tick-ended-requires c =
    omega (arith, c.loop-position-test.true, c.len-position-end.ensures, c.loop-position.invariant.1)

pub end_order-requires : goal.end_order-requires
end_order-requires c = c.loop-position.invariant.4

pub loop-position-init : goal.loop-position-init
loop-position-init c = (refl, refl, refl, refl, c.requires, refl)

pub loop-position-preserved : goal.loop-position-preserved
loop-position-preserved c =
    let n = c.loop-position.position in
    let after = master_after_tick c.args.moment in
    let ends = ended_by_tick c.args.moment in
    let ms = c.loop-position.outstations in
    let v = c.loop-position.controls in
    let ks = c.loop-position.clients.each in
    let ended = c.tick-ended.result in
    let inside : n < length ms =
    omega (arith, c.loop-position-test.true, c.len-position-end.ensures, c.loop-position.invariant.1) in
    let masters = c.tick-ended.ensures.masters in
    let is = c.tick-ended.ensures.ended in
    let next : Controls = controls_with_ended n ended v in
    let told : List Client = clients_told (option_to_list (outcome_ended n ended v)) ks in
    rw (masters, c.end_order.ensures.controls, c.end_order.ensures.clients) (
      masters_next n after ms inside ∙ c.loop-position.invariant.0,
      change-length n after ms ∙ c.loop-position.invariant.1,
      ends_next n after ends ms ended v inside is ∙ c.loop-position.invariant.2,
      sym (told_more (option_to_list (outcome_ended n ended v)) _ ks)
          ∙ (ap (λ (xs : List Outcome). clients_told xs ks) (outcomes_next n after ends ms ended v inside is)
          ∙ c.loop-position.invariant.3),
      holds_ended n ended ks v c.loop-position.invariant.4,
      c.end_order.ensures.news ∙ c.loop-position.invariant.5,
    )

pub returns : goal.returns
returns c =
    let n = c.loop-position.position in
    let ms = c.loop-position.outstations in
    let past : length ms ≤ n =
    omega (arith, c.loop-position-test.false, c.len-position-end.ensures, c.loop-position.invariant.1) in
    let none = ends_past n (ended_by_tick c.args.moment) ms past in
    record {
      outstations = sym (masters_end n (master_after_tick c.args.moment) ms past) ∙ c.loop-position.invariant.0;
      controls = rw none at c.loop-position.invariant.2;
      clients = rw none at c.loop-position.invariant.3;
      news = c.loop-position.invariant.5;
    }
