use Rattle.std.proofs.Common.{◌<◌, length, ap, ◌∙◌, arith}
use Rattle.std.proofs.Math.ListN.{length-set}
use Rattle.std.proofs.lemmas.List.{length-map}
use Rattle.gw_station.specs.Ring.{seen}
use Rattle.gw_parts.specs.Clients.{Clients}
use Rattle.gw_parts.proofs.Ends.{timed_next}
use Rattle.gw_parts.proofs.clients.Clients.leaving.Goals as goal

pub loop-client-preserved : goal.loop-client-preserved
loop-client-preserved c =
    let n = c.loop-client.client in
    let bs = c.loop-client.leaving in
    let b = c.is_timed_out.result in
    let ks = c.args.self.now.each in
    let size = ap (λ (k : Clients). length k.each) c.self.view_is in
    let sizes = length-map c.self.inside.stations.items (seen c.self.inside.news) in
    let inside : n < length bs = omega (arith, c.loop-client-test.true, c.loop-client.invariant.0) in
    let there : n < length ks = omega (arith, c.loop-client-test.true, size, sizes, c.self.invariant.0) in
    rw c.from-position.ensures (
      length-set bs n b ∙ c.loop-client.invariant.0,
      timed_next c.args.moment n ks bs b inside there c.loop-client.invariant.1 c.is_timed_out.ensures,
    )
