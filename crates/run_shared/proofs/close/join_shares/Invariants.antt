-- What is joined and what is left are all the passes.
use Rattle.std.proofs.Common.{◌≡◌, ◌+◌, vec_len}
use Rattle.run_shared.specs.Totals.{total_of}
use Rattle.run_shared.proofs.close.join_shares.Given as goal

abbrev pub invariant-loop-pass : goal.invariant-loop-pass
invariant-loop-pass g l = record {
  parts : l.all.parts + vec_len l.passes ≡ vec_len l.fn.passes;
  amount : l.all.amount + total_of l.passes.items ≡ total_of l.fn.passes.items;
}

abbrev pub decreases-loop-pass : goal.decreases-loop-pass
decreases-loop-pass g l = vec_len l.passes
