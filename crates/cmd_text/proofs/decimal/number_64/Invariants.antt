-- The number so far, with the digits from this one on, is the number of the text.
use Rattle.std.proofs.Common.{◌≡◌, ◌^◌, ◌<◌, drop}
use Rattle.cmd_text.specs.Decimal.{if_below, decimal_after}
use Rattle.cmd_text.proofs.decimal.number_64.Given as goal

abbrev pub invariant-loop-character : goal.invariant-loop-character
invariant-loop-character l =
    (if_below (2 ^ 64) (decimal_after l.value (drop l.character-index l.text))
    ≡ if_below (2 ^ 64) (decimal_after 0 l.text)) × (l.value < 2 ^ 64)
