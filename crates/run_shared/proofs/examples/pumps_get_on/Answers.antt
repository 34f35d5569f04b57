use Rattle.run_shared.proofs.Worked.{gets_on}
use Rattle.run_shared.proofs.examples.pumps_get_on.Goals as goal

pub returns : goal.returns
returns c = λ p may. gets_on p may
