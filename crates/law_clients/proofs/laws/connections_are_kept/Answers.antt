use Rattle.law_clients.proofs.Kept.{keeps_connections}
use Rattle.law_clients.proofs.laws.connections_are_kept.Goals as goal

pub returns : goal.returns
returns c = λ setup past run. keeps_connections setup past run
