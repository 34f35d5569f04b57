use Rattle.std.proofs.Common.{[], ◌∷◌, sym, ap}
use Rattle.gw_model.specs.declared.point.Report.{Report}
use Rattle.dnp_points.specs.Values.{below_4}
use Rattle.dnp_points.proofs.packed.PackedDoublePackedObject.report.Goals as goal

pub returns : goal.returns
returns c = ap (λ (r : Report). r ∷ []) (sym (c.online.ensures (below_4 c.args.state)))
