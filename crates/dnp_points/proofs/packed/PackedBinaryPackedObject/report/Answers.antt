use Rattle.std.proofs.Common.{[], ◌∷◌, refl, sym, ap}
use Rattle.gw_model.specs.declared.point.Report.{Report}
use Rattle.dnp_points.proofs.packed.PackedBinaryPackedObject.report.Goals as goal

pub returns : goal.returns
returns c = ap (λ (r : Report). r ∷ []) (sym (c.online.ensures refl))
