use Rattle.std.proofs.Common.{sym, ◌∙◌}
use Rattle.dnp_link.proofs.Blocks.{wrong_block, right_block}
use Rattle.dnp_link.proofs.reading.read_blocks.Goals as goal

pub returns-then-not-is_sealed-clause-right : goal.returns-then-not-is_sealed-clause-right
returns-then-not-is_sealed-clause-right c =
    wrong_block _ _ _ _ _ _ _ c.loop-at.invariant c.loop-at-test.true c.min-size.ensures c.split_at.ensures.front
    (sym c.is_sealed.ensures ∙ c.if-not-is_sealed.true)

pub loop-at-preserved : goal.loop-at-preserved
loop-at-preserved c =
    right_block _ _ _ _ _ _ _ _ _ c.loop-at.invariant c.loop-at-test.true c.min-size.ensures c.split_at.ensures.front
    c.split_at.ensures.back (sym c.is_sealed.ensures ∙ c.if-not-is_sealed.false) c.copy_from_slice.ensures.after
