use Rattle.std.specs.Prelude.{slice_get}
use Rattle.std.proofs.Common.{◌≡◌, ◌<◌, ◌+◌, [], ◌∷◌, List, length, get_or}
use Rattle.std.proofs.Common.{map, take, Some, refl, ap, subst, ◌∙◌, arith}
use Rattle.std.proofs.lemmas.Option.{slice_get_read}
use Rattle.dnp_master.specs.Answers.{is_unanswered}
use Rattle.dnp_master.specs.Master.{Master, ended_by_tick}
use Rattle.gw_steps.specs.Effects.{late, where_so}
use Rattle.gw_parts.specs.Late.{late_at}
use Rattle.gw_parts.proofs.Lateness.{late_next, more_told, one_at, one_where, where_next}
use Rattle.gw_parts.proofs.outstations.Outstations.tell_late.Goals as goal

pub loop-position-preserved : goal.loop-position-preserved
loop-position-preserved c =
    let moment = c.args.moment in
    let n = c.loop-position.position in
    let ms = c.args.self.now in
    let qs = c.args.outgoing.now in
    let m = c.master-item.result in
    let more : List Master = take (n + 1) ms in
    let same : c.deref-master-items.result.now ≡ ms = c.deref-master-items.ensures.value ∙ c.self.view_is in
    let inside : n < length ms = omega (arith, c.loop-position-test.true, ap length same) in
    let item = subst (λ (xs : List Master). m ≡ get_or xs n m) same c.master-item.is in
    let there : slice_get ms n ≡ Some m = slice_get_read ms (length ms) n m refl inside item in
    more_told (late_at moment n m (slice_get qs n)) (late 0 more (map (ended_by_tick moment) more) qs)
    (where_so n (is_unanswered moment m ∷ [])) (where_so 0 (map (is_unanswered moment) more)) c.tell_late_at.new.effects
    c.loop-position.invariant c.tell_late_at.ensures (one_at n _ _ (slice_get qs n)) (one_where n (is_unanswered moment m))
    (late_next moment n ms qs m there) (where_next moment n ms m there)
