use Rattle.law_clients.proofs.Promised.{keeps_promises}
use Rattle.law_clients.proofs.laws.runs_keep_promises.Goals as goal

pub returns : goal.returns
returns c = λ setup past run. keeps_promises setup past run
