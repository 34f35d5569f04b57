-- The octets read so far, and those of the rest, are those of the text.
use Rattle.std.proofs.Common.{◌≡◌, ◌+◌, ◌*◌, ◌≤◌, length, vec_len, vec_capacity}
use Rattle.cmd_text.specs.Hex.{octets_of}
use Rattle.cmd_text.proofs.HexLaws.{with_front}
use Rattle.cmd_text.proofs.hex.fill.Given as goal

abbrev pub invariant-loop-rest : goal.invariant-loop-rest
invariant-loop-rest l = record {
  read : with_front l.octets.items (octets_of l.rest) ≡ octets_of l.text;
  room : 3 * vec_len l.octets + length l.rest ≤ 3 * vec_capacity l.octets;
}

abbrev pub decreases-loop-rest : goal.decreases-loop-rest
decreases-loop-rest l = length l.rest
