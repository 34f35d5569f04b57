use Rattle.dnp_app.proofs.Operated.{controls_apart}
use Rattle.dnp_app.proofs.law.controls_apart.Goals as goal

pub returns : goal.returns
returns c = controls_apart
