use Rattle.std.proofs.Common.{ap}
use Rattle.gw_station.specs.Client.{client_after_up}
use Rattle.gw_station.specs.Ring.{seen}
use Rattle.gw_parts.specs.Clients.{Clients}
use Rattle.gw_parts.proofs.Seats.{clients_changed, clients_unchanged}
use Rattle.gw_parts.proofs.clients.Clients.come_up.Goals as goal

pub returns-in_default-clause-clients : goal.returns-in_default-clause-clients
returns-in_default-clause-clients c =
    clients_unchanged c.self.inside.news c.from.result c.args.client (client_after_up c.args.moment) _ _ c.from.ensures
    (ap (λ (k : Clients). k.each) c.self.view_is) c.in_default.ensures.item.3

pub returns-clause-clients : goal.returns-clause-clients
returns-clause-clients c =
    let r = c.self.inside.news in
    clients_changed r c.from.result c.args.client (client_after_up c.args.moment) _ _ _ _ c.from.ensures
    (ap (λ (k : Clients). k.each) c.self.view_is) c.in-Some.ensures.value (ap (seen r) c.up.ensures)
