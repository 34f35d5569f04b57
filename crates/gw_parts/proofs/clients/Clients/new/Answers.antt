use Rattle.std.proofs.Common.{◌≡◌, ℕ, ◌+◌, length, map, refl, sym, ap, subst, ◌∙◌, arith}
use Rattle.std.specs.List.{AllByRecursion}
use Rattle.std.specs.Prelude.{replicate}
use Rattle.std.proofs.lemmas.List.{length-replicate}
use Rattle.gw_station.specs.Ring.{Ring, seat_down, seen, Stands}
use Rattle.gw_control.proofs.Places.{one_more}
use Rattle.gw_parts.proofs.Seats.{seen_alike, stand_alike}
use Rattle.gw_parts.proofs.clients.Clients.new.Goals as goal

pub loop-preserved : goal.loop-preserved
loop-preserved c =
    one_more c.loop.counter (c.loop.counter + 1) (seat_down c.args.limits.now) c.in_ok-new.field-0
    c.loop.stations.items c.push.new.self.items (omega arith) c.in_ok-push.ensures.items c.in_ok-new.ensures
    c.loop.invariant

pub returns-clause-clients : goal.returns-clause-clients
returns-clause-clients c =
    let seat = seat_down c.args.limits.now in
    let all : c.loop.counter ≡ 8 = omega (arith, c.loop.auto, c.loop-test.false) in
    let r : Ring = c.in_ok-news.news in
    ap (map (seen r)) c.loop.invariant
    ∙ (seen_alike r c.loop.counter seat
    ∙ (ap (λ (n : ℕ). replicate n (seen r seat)) all
    ∙ ap (λ (ring : Ring). replicate 8 (seen ring seat)) c.in_ok-news.ensures))

pub invariant_of-result : goal.invariant_of-result
invariant_of-result c =
    let seat = seat_down c.args.limits.now in
    let r : Ring = c.in_ok-news.news in
    let all : c.loop.counter ≡ 8 = omega (arith, c.loop.auto, c.loop-test.false) in (
      omega (arith, ap length c.loop.invariant, length-replicate c.loop.counter seat, all),
      subst (AllByRecursion (Stands r)) (sym c.loop.invariant) (stand_alike r c.loop.counter seat (refl, tt)),
    )
