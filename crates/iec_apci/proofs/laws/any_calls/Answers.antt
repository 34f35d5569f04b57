use Rattle.iec_apci.proofs.Runs.{told_all}
use Rattle.iec_apci.proofs.laws.any_calls.Goals as goal

pub returns : goal.returns
returns c = told_all
