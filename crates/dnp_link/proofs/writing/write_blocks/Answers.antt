use Rattle.std.proofs.Common.{arith}
use Rattle.std.proofs.lemmas.Bool.Decides.{nat_tests}
use Rattle.dnp_link.proofs.Blocks.{next_written}
use Rattle.dnp_link.proofs.writing.write_blocks.Goals as goal

pub loop-rest-preserved : goal.loop-rest-preserved
loop-rest-preserved c =
    next_written _ _ _ _ _ _ _ _ _ c.loop-rest.invariant c.requires
    (let h = c.is_empty.ensures in let t = c.loop-rest-test.true in grind (arith, nat_tests, h, t)) c.min.ensures
    c.split_at.ensures.front c.split_at.ensures.back c.write_block.ensures
