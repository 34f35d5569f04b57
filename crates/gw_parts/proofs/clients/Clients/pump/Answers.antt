use Rattle.std.proofs.Common.{◌≡◌, Option, Some, None, sym, ap, ◌∙◌}
use Rattle.std.specs.Prelude.{option_map}
use Rattle.gw_map.specs.Settings.{station_clocks}
use Rattle.iec_apci.specs.declared.buffer.ApduBuf.{ApduBuf}
use Rattle.iec_apci.specs.Apdu.{ApduContent}
use Rattle.iec_apci.specs.Buffer.{buffer_of}
use Rattle.gw_picture.proofs.Lists.{some_is}
use Rattle.gw_station.specs.Pump.{client_after_pump, given}
use Rattle.gw_station.specs.Ring.{seen}
use Rattle.gw_steps.specs.declared.step.Reply.TheVariants.{Apdu, Nothing}
use Rattle.gw_steps.specs.Steps.{reply_giving}
use Rattle.gw_parts.specs.Clients.{Clients, reply_to_pump, CanPump}
use Rattle.gw_parts.proofs.Places.{has_too}
use Rattle.gw_parts.proofs.Seats.{clients_changed, clients_unchanged, place_of}
use Rattle.gw_parts.proofs.clients.Clients.pump.Goals.{in-Some-pump, in-None}
use Rattle.gw_parts.proofs.clients.Clients.pump.Goals as goal

pub returns-in_default-clause-clients : goal.returns-in_default-clause-clients
returns-in_default-clause-clients c =
    clients_unchanged c.self.inside.news c.from.result c.args.client
    (client_after_pump (station_clocks c.args.settings.now.station) c.args.moment) _ _ c.from.ensures
    (ap (λ (k : Clients). k.each) c.self.view_is) c.in_default.ensures.item.3

pub pump-requires-clause-count : goal.pump-requires-clause-count
pump-requires-clause-count c =
    let place = place_of c.self.inside.news c.from.result c.args.client _ _ c.in-Some.station.now c.from.ensures
    (ap (λ (k : Clients). k.each) c.self.view_is) c.in-Some.ensures.item.3.0 c.in-Some.ensures.value in
    (has_too CanPump c.args.client c.args.self.now.each _ place c.requires).sent

given_some : (g : Option ApduContent) (a : ApduBuf) → Some a ≡ option_map buffer_of g → Apdu a ≡ reply_giving g
given_some None a e = absurd cc
given_some (Some x) a e = ap Apdu (some_is a (buffer_of x) e)

given_none : (g : Option ApduContent) → None ≡ option_map buffer_of g → Nothing ≡ reply_giving g
given_none None e = cc
given_none (Some x) e = absurd cc

pub returns-clause-reply : goal.returns-clause-reply
returns-clause-reply c =
    let station = c.args.settings.now.station in
    let k = seen c.self.inside.news c.in-Some.station.now in
    let given_so = given (station_clocks station) c.args.moment k in
    let place = place_of c.self.inside.news c.from.result c.args.client _ _ c.in-Some.station.now c.from.ensures
    (ap (λ (k : Clients). k.each) c.self.view_is) c.in-Some.ensures.item.3.0 c.in-Some.ensures.value in
    let one : c.match-pump.result ≡ reply_giving given_so = elim c.match-pump.branch [
      | in-Some-pump w ↦
          w.result-is ∙ given_some given_so w.in-Some-pump.apdu (sym w.in-Some-pump.is ∙ c.pump.ensures.apdu)
      | in-None w ↦ w.result-is ∙ given_none given_so (sym w.in-None.is ∙ c.pump.ensures.apdu)
    ] in
    one ∙ ap (reply_to_pump c.args.settings.now c.args.moment) place

pub returns-clause-clients : goal.returns-clause-clients
returns-clause-clients c =
    clients_changed c.self.inside.news c.from.result c.args.client
    (client_after_pump (station_clocks c.args.settings.now.station) c.args.moment) _ _ _ _ c.from.ensures
    (ap (λ (k : Clients). k.each) c.self.view_is) c.in-Some.ensures.value c.pump.ensures.client
