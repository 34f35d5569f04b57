use Rattle.std.specs.Prelude.{slice_get}
use Rattle.std.proofs.Common.{◌≡◌, ◌<◌, ◌+◌, List, length, get_or, take, Some, refl, ap, subst, ◌∙◌, arith}
use Rattle.std.proofs.lemmas.Option.{slice_get_read}
use Rattle.dnp_master.specs.Master.{Master}
use Rattle.gw_steps.specs.Effects.{due_from, one_where}
use Rattle.gw_steps.specs.Queries.{is_poll_due_of}
use Rattle.gw_parts.proofs.Dueness.{due_next, more_roused, one_at_most}
use Rattle.gw_parts.proofs.outstations.Outstations.tell_due.Goals as goal

pub loop-position-preserved : goal.loop-position-preserved
loop-position-preserved c =
    let moment = c.args.moment in
    let n = c.loop-position.position in
    let ms = c.args.self.now in
    let qs = c.args.outgoing.now in
    let m = c.master-item.result in
    let same : c.deref-master-items.result.now ≡ ms = c.deref-master-items.ensures.value ∙ c.self.view_is in
    let inside : n < length ms = omega (arith, c.loop-position-test.true, ap length same) in
    let item = subst (λ (xs : List Master). m ≡ get_or xs n m) same c.master-item.is in
    let there : slice_get ms n ≡ Some m = slice_get_read ms (length ms) n m refl inside item in
    let is = is_poll_due_of moment (slice_get qs n) (Some m) in
    more_roused (one_where is n) (due_from moment qs 0 (take (n + 1) ms)) c.tell_due_at.new.effects
    c.loop-position.invariant c.tell_due_at.ensures (one_at_most is n) (due_next moment n ms qs m there)
