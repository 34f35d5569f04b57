-- The fragments that are left are short, and their responses follow those that were read.
use Rattle.std.proofs.Common.{◌≡◌, ◌++◌, map}
use Rattle.std.specs.Prelude.{filter_map}
use Rattle.dnp_receive.specs.Delivery.{response_at}
use Rattle.dnp_receive.proofs.Lengths.{AreShort}
use Rattle.dnp_receive.proofs.delivery.responses_of.Given as goal

abbrev pub invariant-loop-fragment : goal.invariant-loop-fragment
invariant-loop-fragment l =
    AreShort (map (λ f. f.items) l.fragment-iterator.rest.items)
    × (l.responses.items ++ filter_map (response_at l.outstation) (map (λ f. f.items) l.fragment-iterator.rest.items)
    ≡ filter_map (response_at l.outstation) (map (λ f. f.items) l.initial.fragment-iterator.rest.items))
