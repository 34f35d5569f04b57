-- None of the addresses before this one is it.
use Rattle.std.proofs.Common.{◌≡◌, ◌==◌, false, take}
use Rattle.std.specs.List.{list_any}
use Rattle.gw_answers.proofs.interrogation.place_of.Given as goal

abbrev pub invariant-loop-place : goal.invariant-loop-place
invariant-loop-place l = list_any (λ address. address == l.common_address) (take l.place l.addresses) ≡ false
