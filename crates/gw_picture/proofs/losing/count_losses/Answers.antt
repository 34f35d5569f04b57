use Rattle.std.proofs.Common.{rules, ◌+◌, ◌≤◌, length, ap, arith}
use Rattle.gw_picture.proofs.Losses.{count_next, losses_few, losses_end}
use Rattle.gw_picture.proofs.losing.count_losses.Goals as goal

pub overflow_add-losses : goal.overflow_add-losses
overflow_add-losses c =
    let few = losses_few c.args.outstation c.args.rows.now c.args.shown.now in
    let next = count_next c.args.outstation c.args.rows.now c.args.shown.now c.loop-position.position
    (omega (arith, c.loop-position-test.true)) in
    let within : c.loop-position.losses + c.count_at-losses.result ≤ length c.args.shown.now =
    omega (arith, c.loop-position.invariant, c.count_at-losses.ensures, few, next) in
    search (rules, within)

pub loop-position-preserved : goal.loop-position-preserved
loop-position-preserved c =
    let next = count_next c.args.outstation c.args.rows.now c.args.shown.now c.loop-position.position
    (omega (arith, c.loop-position-test.true)) in
    omega (arith, c.loop-position.invariant, c.count_at-losses.ensures, next)

pub returns : goal.returns
returns c =
    let all : length c.args.shown.now ≤ c.loop-position.position = omega (arith, c.loop-position-test.false) in
    omega (
      arith,
      c.loop-position.invariant,
      ap length (losses_end c.args.outstation c.args.rows.now c.args.shown.now c.loop-position.position all),
    )
