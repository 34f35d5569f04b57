use Rattle.std.proofs.Common.{◌<◌, false, length, get_or, refl, ap, ◌∙◌, arith}
use Rattle.std.proofs.Math.ListN.{length-set}
use Rattle.std.proofs.lemmas.List.{length-map}
use Rattle.gw_station.specs.Ring.{seen}
use Rattle.gw_parts.specs.Clients.{Clients}
use Rattle.gw_parts.proofs.Ends.{dropped_next}
use Rattle.gw_parts.proofs.clients.Clients.dropped_of.Goals as goal

pub loop-client-preserved : goal.loop-client-preserved
loop-client-preserved c =
    let n = c.loop-client.client in
    let ends = c.args.ends.now in
    let ds = c.loop-client.dropped in
    let d = c.dropped_if.result in
    let ks = c.args.self.now.each in
    let size = ap (λ (k : Clients). length k.each) c.self.view_is in
    let sizes = length-map c.self.inside.stations.items (seen c.self.inside.news) in
    let inside : n < length ds = omega (arith, c.loop-client-test.true, c.loop-client.invariant.0) in
    let told : n < length ends = omega (arith, c.loop-client-test.true, c.told-ends) in
    let there : n < length ks = omega (arith, c.loop-client-test.true, size, sizes, c.self.invariant.0) in
    let dropped = rw c.from-position.ensures at c.dropped_if.ensures in
    rw c.from-position.ensures (
      length-set ds n d ∙ c.loop-client.invariant.0,
      dropped_next n ends ks ds (get_or ends n false) d inside told there c.loop-client.invariant.1 refl dropped,
    )
