use Rattle.std.proofs.Common.{subst}
use Rattle.run_ends.specs.PutOut.{IsGathered}
use Rattle.gw_threads.specs.Written.{Asking, GivesTo}
use Rattle.gw_threads.proofs.Gathering.{asking, gathered-by}
use Rattle.gw_threads.proofs.client_writing.ClientWriterSource.gather.Goals as goal

pub returns : goal.returns
returns g c =
    let client = c.self.inside.client in
    let mine = c.self.inside.worker.pass in
    let after = c.pump-run.new.pass in
    subst (λ (w : Asking). IsGathered (GivesTo g.L.Course.setup) w (asking client after) c.args.batch.now
    c.pump-run.new.batch c.gathered_by.result)
    c.self.view_is
    (gathered-by g.L.Course.setup client mine after _ _ c.pump-run.result.ended c.gathered_by.result c.gathered_by.ensures
    c.pump-run.ensures.run)
