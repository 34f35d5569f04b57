use Rattle.std.proofs.Common.{sym, ap, rules}
use Rattle.dnp_points.specs.Meaning.{last_or}
use Rattle.dnp_points.proofs.Table.{no_times}
use Rattle.dnp_points.proofs.Steps.{no_objects, time_inside, synchronized_last, other_last}
use Rattle.dnp_points.proofs.time.common_after.Goals as goal
use Rattle.dnp_points.proofs.time.common_after.Goals.{then-header-ne-COMMON_TIME-via-then-header-ne-COMMON_TIME}
use Rattle.dnp_points.proofs.time.common_after.Goals.{then-header-ne-COMMON_TIME-via-else-header-ne-COMMON_TIME+then-header-eq0}

pub returns-then-header-ne-COMMON_TIME-clause-last : goal.returns-then-header-ne-COMMON_TIME-clause-last
returns-then-header-ne-COMMON_TIME-clause-last c =
    elim c.then-header-ne-COMMON_TIME.branch [
      | then-header-ne-COMMON_TIME-via-then-header-ne-COMMON_TIME w ↦ ap (last_or c.args.common)
          (sym (no_times c.args.part.now c.args.header.now c.requires.within w.if-header-ne-COMMON_TIME.true))
      | then-header-ne-COMMON_TIME-via-else-header-ne-COMMON_TIME+then-header-eq0 w ↦ ap (last_or c.args.common)
          (sym (no_objects c.args.part.now c.args.header.now c.requires.within w.if-header-eq0.true))
    ]

pub slice_bounds-number-end : goal.slice_bounds-number-end
slice_bounds-number-end c =
    let inside = time_inside c.args.part.now c.args.header.now c.requires.within c.if-header-ne-COMMON_TIME.false
    c.if-header-eq0.false in
    search (rules, inside)

pub returns-then-header-eq1-clause-last : goal.returns-then-header-eq1-clause-last
returns-then-header-eq1-clause-last c =
    synchronized_last c.args.part.now c.args.header.now c.args.common c.number-milliseconds.result c.requires.within
    c.if-header-ne-COMMON_TIME.false c.if-header-eq0.false c.if-header-eq1.true c.number-milliseconds.ensures.value

pub returns-else-header-eq1-clause-last : goal.returns-else-header-eq1-clause-last
returns-else-header-eq1-clause-last c =
    other_last c.args.part.now c.args.header.now c.args.common c.number-milliseconds.result c.requires.within
    c.if-header-ne-COMMON_TIME.false c.if-header-eq0.false c.if-header-eq1.false c.number-milliseconds.ensures.value
