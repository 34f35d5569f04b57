use Rattle.std.proofs.Common.{◌≡◌, ◌++◌}
use Rattle.std.specs.Prelude.{map}
use Rattle.iec_apci.specs.ApduContent.{content}
use Rattle.iec_apci.specs.Calls.{reading_of_ending}
use Rattle.iec_apci.proofs.Streams.{size_held}
use Rattle.iec_apci.proofs.laws.drain.Given as goal

-- the APDUs so far, and those that are held back, are all
abbrev pub invariant-loop-answer : goal.invariant-loop-answer
invariant-loop-answer l = record {
  apdus : map content l.apdus.items ++ (reading_of_ending l.feed).apdus
      ≡ map content l.initial.apdus.items ++ (reading_of_ending l.initial.feed).apdus;
  rest : (reading_of_ending l.feed).ending ≡ (reading_of_ending l.initial.feed).ending;
}

abbrev pub decreases-loop-answer : goal.decreases-loop-answer
decreases-loop-answer l = size_held l.feed
