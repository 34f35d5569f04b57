-- The octets before this one are written.
use Rattle.std.proofs.Common.{◌≡◌, ◌++◌, drop}
use Rattle.cmd_text.specs.Hex.{spaced_digits}
use Rattle.cmd_text.proofs.hex.push_spaced.Given as goal

abbrev pub invariant-loop-octet : goal.invariant-loop-octet
invariant-loop-octet l =
    l.text.items ++ spaced_digits (drop l.octet-index l.octets) ≡ l.initial.text.items ++ spaced_digits l.octets
