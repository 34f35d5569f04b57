use Rattle.std.proofs.Common.{◌≡◌, ℕ, List, map, Bor, Vec, Global, refl, sym, ap, subst, ◌∙◌}
use Rattle.std.specs.List.{flat_map}
use Rattle.dnp_receive.specs.Delivery.{stream_fragments}
use Rattle.dnp_receive.proofs.Lengths.{AreShort, stream_short}
use Rattle.dnp_receive.proofs.delivery.responses_of.Goals as goal

pub loop-fragment-init : goal.loop-fragment-init
loop-fragment-init c =
    let octets = flat_map (λ (piece : Bor (List ℕ)). piece.now) c.args.pieces.now in
    let same : map (λ (f : Vec ℕ Global). f.items) c.into_iter-fragment-iterator.result.rest.items
    ≡ stream_fragments c.args.own c.args.peer octets =
    ap (map (λ (f : Vec ℕ Global). f.items)) c.into_iter-fragment-iterator.ensures.into_iter_gives.0
    ∙ c.in_ok-fragments.ensures in
    (subst AreShort (sym same) (stream_short c.args.own c.args.peer octets), rw c.new-responses.ensures.items refl)
