-- The text is none of the words so far.
use Rattle.std.proofs.Common.{◌≡◌, map, drop, bytes_eq}
use Rattle.std.specs.List.{position_from}
use Rattle.gw_entries.proofs.entry.place_of.Given as goal

abbrev pub invariant-loop-place : goal.invariant-loop-place
invariant-loop-place l =
    position_from (λ word. bytes_eq l.text word.now) 0 l.words
    ≡ position_from (λ word. bytes_eq l.text word.now) l.place (map (λ word. word) (drop l.place l.words))
