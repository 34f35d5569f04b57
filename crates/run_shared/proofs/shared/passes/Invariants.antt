-- The actors so far have their passes, and lanes of the history; the share has the parts of the others.
use Rattle.std.proofs.Common.{◌≡◌, ◌+◌, [], map}
use Rattle.std.specs.List.{range_with_len}
use Rattle.run_shared.specs.Turn.{unused}
use Rattle.run_shared.proofs.shared.passes.Given as goal

abbrev pub invariant-loop-actor : goal.invariant-loop-actor
invariant-loop-actor g l = record {
  parts : l.share.parts + l.actor ≡ l.actors;
  amount : l.share.amount ≡ 0;
  head : l.head ≡ record { lanes = l.actor; log = [] };
  cut : l.passes.items ≡ map unused (range_with_len 0 l.actor);
}
