use Rattle.std.proofs.Common.{◌+◌, List, sym, ap, subst, ◌∙◌, arith}
use Rattle.std.specs.List.{AllByRecursion}
use Rattle.std.proofs.Math.ListN.{set}
use Rattle.std.proofs.lemmas.Result.{err_from_is_err_and}
use Rattle.gw_map.specs.Settings.{station_clocks}
use Rattle.gw_station.specs.Client.{Client}
use Rattle.gw_station.specs.Frames.{client_after_apdu, HasPlace}
use Rattle.gw_station.specs.Ring.{seen}
use Rattle.gw_station.specs.Sound.{CanAnswer, IsSoundClient}
use Rattle.gw_station.proofs.Sounds.{all_later, sound_after_apdu}
use Rattle.gw_steps.specs.Steps.{wanted_by}
use Rattle.gw_parts.specs.Clients.{Clients, event_at, CanCount}
use Rattle.gw_parts.proofs.Places.{has_too}
use Rattle.gw_parts.proofs.Seats.{clients_changed, clients_unchanged, place_of, seen_has, seen_set}
use Rattle.gw_parts.proofs.Sounds.{sound_set}
use Rattle.gw_parts.proofs.clients.Clients.frame.Goals as goal

pub returns-in_default-clause-clients : goal.returns-in_default-clause-clients
returns-in_default-clause-clients c =
    clients_unchanged c.self.inside.news c.from.result c.args.client
    (client_after_apdu c.args.settings.now c.args.picture.now c.args.moment c.args.apdu.now) _ _ c.from.ensures
    (ap (λ (k : Clients). k.each) c.self.view_is) c.in_default.ensures.item.3

pub returns-in_default-clause-sound : goal.returns-in_default-clause-sound
returns-in_default-clause-sound c = λ any n i shown all.
    subst (AllByRecursion (IsSoundClient any.station (n + 1) i))
    (sym (ap (λ (k : Clients). k.each) c.self.view_is))
    (all_later any.station n (n + 1) i i c.args.self.now.each (omega arith) (omega arith) all)

pub frame-requires-clause-received : goal.frame-requires-clause-received
frame-requires-clause-received c =
    let place = place_of c.self.inside.news c.from.result c.args.client _ _ c.in-Some.station.now c.from.ensures
    (ap (λ (k : Clients). k.each) c.self.view_is) c.in-Some.ensures.item.3.0 c.in-Some.ensures.value in
    (has_too CanCount c.args.client c.args.self.now.each _ place c.requires).received

pub returns-in_err-event-clause-memory : goal.returns-in_err-event-clause-memory
returns-in_err-event-clause-memory c =
    let place = place_of c.self.inside.news c.from.result c.args.client _ _ c.in-Some.station.now c.from.ensures
    (ap (λ (k : Clients). k.each) c.self.view_is) c.in-Some.ensures.item.3.0 c.in-Some.ensures.value in
    let p = err_from_is_err_and c.from_residual.result c.from_residual.ensures.1 in
    rw p.1 (ap (wanted_by c.args.settings.now c.args.apdu.now) (sym place) ∙ c.in_err-event.ensures.memory)

pub returns-clause-event : goal.returns-clause-event
returns-clause-event c =
    let place = place_of c.self.inside.news c.from.result c.args.client _ _ c.in-Some.station.now c.from.ensures
    (ap (λ (k : Clients). k.each) c.self.view_is) c.in-Some.ensures.item.3.0 c.in-Some.ensures.value in
    c.in_ok-event.ensures.event ∙ ap (event_at c.args.settings.now c.args.apdu.now) place

pub returns-clause-clients : goal.returns-clause-clients
returns-clause-clients c =
    clients_changed c.self.inside.news c.from.result c.args.client
    (client_after_apdu c.args.settings.now c.args.picture.now c.args.moment c.args.apdu.now) _ _ _ _ c.from.ensures
    (ap (λ (k : Clients). k.each) c.self.view_is) c.in-Some.ensures.value c.in_ok-event.ensures.client

pub returns-clause-place : goal.returns-clause-place
returns-clause-place c =
    rw (← c.from.ensures) (seen_has (HasPlace c.in_ok-event.event) c.self.inside.news c.from.result
    c.self.inside.stations.items c.frame.new.self c.in_ok-event.ensures.place)

pub returns-clause-sound : goal.returns-clause-sound
returns-clause-sound c = λ any n i shown all.
    let setup = c.args.settings.now in
    let picture = c.args.picture.now in
    let moment = c.args.moment in
    let apdu = c.args.apdu.now in
    let r = c.self.inside.news in
    let view = ap (λ (k : Clients). k.each) c.self.view_is in
    let old = seen r c.in-Some.station.now in
    let new = seen r c.frame.new.self in
    let place = place_of r c.from.result c.args.client _ _ c.in-Some.station.now c.from.ensures view
    c.in-Some.ensures.item.3.0 c.in-Some.ensures.value in
    let taken = c.in_ok-event.ensures in
    let sound = has_too (IsSoundClient any.station n i) c.args.client c.args.self.now.each old place all in
    let answers = taken.sendable (station_clocks any.station) shown (sound.answers, sound.rest) in
    let here = sound_after_apdu any.station n i setup picture moment apdu old
    (subst (CanAnswer (station_clocks any.station)) taken.client answers) sound in
    subst (AllByRecursion (IsSoundClient any.station (n + 1) i))
    (sym (seen_set r c.from.result c.self.inside.stations.items c.frame.new.self
    ∙ ap (λ (ks : List Client). set ks c.from.result new) view))
    (sound_set any n i c.from.result c.args.self.now.each new
    (subst (IsSoundClient any.station (n + 1) i) (sym taken.client) here) all)
