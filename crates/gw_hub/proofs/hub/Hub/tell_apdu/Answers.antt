use Rattle.std.specs.Prelude.{slice_get, slice_index}
use Rattle.std.proofs.Common.{◌≡◌, refl, sym, subst, ◌∙◌}
use Rattle.gw_map.specs.Settings.{Setup}
use Rattle.gw_station.specs.declared.event.Event.TheVariants as events
use Rattle.gw_steps.specs.State.{Hub}
use Rattle.gw_parts.specs.Clients.{event_at}
use Rattle.gw_hub.specs.declared.orders.Sender.{Sender}
use Rattle.gw_hub.proofs.Answered.{number_left}
use Rattle.gw_hub.proofs.hub.Hub.tell_apdu.Goals as goal

pub tell_command-requires : goal.tell_command-requires
tell_command-requires c =
    let h : Hub = c.args.self.now in
    let client = c.args.client in
    let apdu = c.args.apdu.now in
    let sender : Sender =
    record { client = client; session = slice_index h.state.sessions client; moment = c.args.moment } in
    let there = subst (λ (s : Setup). c.event-event.result ≡ event_at s apdu (slice_get c.self.inside.clients.each client))
    c.get.ensures c.event-event.ensures in
    let event = subst (λ (x : Hub). c.event-event.result ≡ event_at x.setup apdu (slice_get x.state.clients client))
    c.self.view_is there in
    number_left h.setup h.state sender apdu (slice_get h.state.clients client) (events.Command c.in-Command.command)
    (sym c.in-Command.is ∙ event) refl c.requires.order
