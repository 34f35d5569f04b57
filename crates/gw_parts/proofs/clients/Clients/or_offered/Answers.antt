use Rattle.std.proofs.Common.{◌<◌, false, length, get_or, refl, ap, ◌∙◌, arith}
use Rattle.std.proofs.Math.ListN.{length-set}
use Rattle.std.proofs.lemmas.List.{length-map}
use Rattle.gw_station.specs.Ring.{seen}
use Rattle.gw_parts.specs.Clients.{Clients}
use Rattle.gw_parts.proofs.Ends.{offered_next}
use Rattle.gw_parts.proofs.clients.Clients.or_offered.Goals as goal

pub loop-client-preserved : goal.loop-client-preserved
loop-client-preserved c =
    let n = c.loop-client.client in
    let so = c.args.so.now in
    let bs = c.loop-client.offered in
    let b = c.is_so_or_offered.result in
    let ks = c.args.self.now.each in
    let size = ap (λ (k : Clients). length k.each) c.self.view_is in
    let sizes = length-map c.self.inside.stations.items (seen c.self.inside.news) in
    let inside : n < length bs = omega (arith, c.loop-client-test.true, c.loop-client.invariant.0) in
    let told : n < length so = omega (arith, c.loop-client-test.true, c.told-so) in
    let there : n < length ks = omega (arith, c.loop-client-test.true, size, sizes, c.self.invariant.0) in
    let offered = rw c.from-position.ensures at c.is_so_or_offered.ensures in
    rw c.from-position.ensures (
      length-set bs n b ∙ c.loop-client.invariant.0,
      offered_next c.args.moment n so ks bs (get_or so n false) b inside told there c.loop-client.invariant.1 refl offered,
    )
