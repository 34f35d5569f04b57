-- What the octets from one on give.
use Rattle.std.proofs.Common.{◌≡◌, ◌-◌, ◌^◌, ◌<◌, length, drop}
use Rattle.dnp_objects.specs.Headers.{number}
use Rattle.dnp_objects.proofs.numbers.number.Given as goal

abbrev pub invariant-loop-i : goal.invariant-loop-i
invariant-loop-i l = record {
  value : l.value ≡ number (drop l.i l.octets);
  small : l.value < 256 ^ (length l.octets - l.i);
}
