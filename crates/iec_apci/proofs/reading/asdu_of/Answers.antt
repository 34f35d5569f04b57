use Rattle.std.proofs.Common.{refl}
use Rattle.iec_apci.proofs.Padding.{zeros_behind}
use Rattle.iec_apci.proofs.reading.asdu_of.Goals as goal

pub returns-clause-padded : goal.returns-clause-padded
returns-clause-padded c = zeros_behind _ _ _ c.copy_from_slice.ensures.after refl
