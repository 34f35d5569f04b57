use Rattle.std.proofs.Common.{◌≡◌, ◌<◌, List, length, get_or, map, refl, sym, ap, ◌∙◌, arith, rules}
use Rattle.std.specs.Prelude.{is_some}
use Rattle.std.proofs.lemmas.List.{length-map}
use Rattle.gw_station.specs.Client.{Client, client_after_tick, is_timed_out}
use Rattle.gw_station.specs.Ring.{seen}
use Rattle.gw_station.proofs.Opens.{closed_late}
use Rattle.gw_parts.specs.Clients.{Clients}
use Rattle.gw_parts.proofs.Bits.{shifted, bits_next, bits_fit, get_over}
use Rattle.gw_parts.proofs.Closes.{closes_end, closes_next}
use Rattle.gw_parts.proofs.Seats.{seen_get, seen_set, stand_at, stand_set}
use Rattle.gw_parts.proofs.Walks.{length_walked, next_changed}
use Rattle.gw_parts.proofs.clients.Clients.tick.Goals.{then-is_closed, else-is_closed}
use Rattle.gw_parts.proofs.clients.Clients.tick.Goals as goal

pub loop-position-init : goal.loop-position-init
loop-position-init c = (
  ap (λ (k : Clients). k.each) c.self.view_is,
  refl,
  refl,
  c.self.invariant.1,
  ap (λ (k : Clients). k.news) c.self.view_is,
)

pub overflow_add-closed : goal.overflow_add-closed
overflow_add-closed c =
    let n = c.loop-position.position in
    let old = c.args.self.now.each in
    let size = ap (λ (k : Clients). length k.each) c.self.view_is in
    let sizes = length-map c.self.inside.stations.items (seen c.self.inside.news) in
    let within : n < length old =
    omega (arith, c.len-position-end.ensures, c.self.inside.stations.ok.0, size, sizes, c.loop-position-test.true) in
    let fits = bits_fit (is_timed_out c.args.moment) old n c.is_some-is_closed.result
    (omega (arith, within, size, sizes, c.self.invariant.0)) (omega (arith, within)) in
    search (rules, fits, c.from.ensures, c.loop-position.invariant.1)

pub loop-position-preserved : goal.loop-position-preserved
loop-position-preserved c =
    let n = c.loop-position.position in
    let old = c.args.self.now.each in
    let r = c.loop-position.self-inside.news in
    let before = c.loop-position.self-inside.stations.items in
    let clients : List Client = map (seen r) before in
    let x = c.index_mut.result.now in
    let size = ap (λ (k : Clients). length k.each) c.self.view_is in
    let sizes = length-map c.self.inside.stations.items (seen c.self.inside.news) in
    let there : x ≡ get_or before n x = c.index_mut.ensures.value in
    let seen_there : seen r x ≡ get_or clients n (seen r x) = ap (seen r) there ∙ seen_get r n before x in
    let within : n < length old =
    omega (arith, c.len-position-end.ensures, c.self.inside.stations.ok.0, size, sizes, c.loop-position-test.true) in
    let client : get_or clients n (seen r x) ≡ get_or old n (seen r x) =
    get_over (client_after_tick c.args.moment) old clients n (seen r x) within c.loop-position.invariant.0 in
    let late : c.is_some-is_closed.result ≡ is_timed_out c.args.moment (get_or old n (seen r x)) =
    c.is_some-is_closed.ensures ∙ (ap is_some c.tick.ensures.closed
    ∙ (closed_late c.args.moment (seen r x) ∙ ap (is_timed_out c.args.moment) (seen_there ∙ client))) in
    let shift = shifted c.is_some-is_closed.result n (omega (arith, within, size, sizes, c.self.invariant.0)) in
    let walked = length_walked n (client_after_tick c.args.moment) old clients c.loop-position.invariant.0 in
    let stands = stand_at r n before x (omega (arith, within, walked, length-map before (seen r))) there
    c.loop-position.invariant.3 in (
      seen_set r n before c.tick.new.self
          ∙ next_changed n (client_after_tick c.args.moment) old clients (seen r x) (seen r c.tick.new.self) within
          c.loop-position.invariant.0 seen_there (c.tick.ensures.client r),
      search (
        rules,
        c.from.ensures,
        shift,
        c.loop-position.invariant.1,
        late,
        bits_next (is_timed_out c.args.moment) old n (seen r x) within,
      ),
      closes_next n (is_timed_out c.args.moment) old (seen r x) c.loop-position.controls c.if-is_closed.controls _ within
          (elim c.if-is_closed.branch [
            | then-is_closed w ↦ rw (sym late, w.if-is_closed.true) (w.controls-is ∙ w.end.ensures)
            | else-is_closed w ↦ rw (sym late, w.if-is_closed.false) w.controls-is
          ]) c.loop-position.invariant.2,
      stand_set r n before c.tick.new.self (c.tick.ensures.stands r stands) c.loop-position.invariant.3,
      c.loop-position.invariant.4,
    )

pub returns-clause-controls : goal.returns-clause-controls
returns-clause-controls c =
    let size = ap (λ (k : Clients). length k.each) c.self.view_is in
    let sizes = length-map c.self.inside.stations.items (seen c.self.inside.news) in
    closes_end c.loop-position.position c.loop-position.position (is_timed_out c.args.moment) c.args.self.now.each
    c.loop-position.controls _
    (omega (
      arith,
      c.len-position-end.ensures,
      c.self.inside.stations.ok.0,
      size,
      sizes,
      c.loop-position-test.false,
    )) c.loop-position.invariant.2
