use Rattle.std.proofs.Common.{subst}
use Rattle.gw_threads.specs.Written.{Asking, TellsLoss}
use Rattle.gw_threads.proofs.client_writing.ClientWriter.lose.Goals as goal

pub returns-clause-told : goal.returns-clause-told
returns-clause-told g c =
    subst (λ (a : Asking). TellsLoss g.L.Course.setup a.client a.pass c.lose_client.new.self.pass) c.self.view_is
    c.lose_client.ensures.told
