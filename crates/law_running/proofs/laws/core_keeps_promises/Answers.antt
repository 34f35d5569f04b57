use Rattle.law_running.proofs.Keeping.{promised}
use Rattle.law_running.proofs.laws.core_keeps_promises.Goals as goal

pub returns : goal.returns
returns g c = promised _ _ _ _ c.attest.ensures.reached
