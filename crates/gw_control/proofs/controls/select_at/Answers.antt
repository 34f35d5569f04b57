use Rattle.std.proofs.Common.{Some, refl, arith}
use Rattle.gw_control.proofs.Places.{changed_at, changed_past}
use Rattle.gw_control.proofs.controls.select_at.Goals as goal

pub returns-then-position-selections : goal.returns-then-position-selections
returns-then-position-selections c =
    changed_at c.args.position c.args.position (λ _. Some c.args.selection) c.args.selections.now
    (Some c.args.selection) (Some c.args.selection) refl (omega (arith, c.if-position-selections.true)) refl

pub returns-else-position-selections : goal.returns-else-position-selections
returns-else-position-selections c =
    changed_past c.args.position (λ _. Some c.args.selection) c.args.selections.now
    (omega (arith, c.if-position-selections.false))
