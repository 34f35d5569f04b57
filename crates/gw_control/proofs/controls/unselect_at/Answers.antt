use Rattle.std.proofs.Common.{None, refl, arith}
use Rattle.gw_control.specs.Selections.{unselected_by}
use Rattle.gw_control.proofs.Places.{changed_at, changed_past}
use Rattle.gw_control.proofs.controls.unselect_at.Goals as goal

pub returns-then-position-selections : goal.returns-then-position-selections
returns-then-position-selections c =
    changed_at c.args.position c.args.position (unselected_by c.args.client) c.args.selections.now None
    c.unselected_by.result refl (omega (arith, c.if-position-selections.true)) c.unselected_by.ensures

pub returns-else-position-selections : goal.returns-else-position-selections
returns-else-position-selections c =
    changed_past c.args.position (unselected_by c.args.client) c.args.selections.now
    (omega (arith, c.if-position-selections.false))
