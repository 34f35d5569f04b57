use Rattle.std.proofs.Common.{[], ◌∷◌, map, ap, ◌∙◌}
use Rattle.gw_station.specs.Client.{client_with_news}
use Rattle.gw_station.specs.Ring.{Ring, seen}
use Rattle.gw_parts.specs.Clients.{Clients}
use Rattle.gw_parts.proofs.Seats.{all_came}
use Rattle.gw_parts.proofs.clients.Clients.put.Goals as goal

pub returns-clause-clients : goal.returns-clause-clients
returns-clause-clients c =
    let ss = c.self.inside.stations.items in
    let kept = c.push.ensures.kept in
    ap (λ (r : Ring). map (seen r) ss) c.push.ensures.ring
    ∙ (all_came c.args.news c.self.inside.news ss kept.0 kept.1 c.self.invariant.1
    ∙ ap (λ (k : Clients). map (client_with_news (c.args.news ∷ [])) k.each) c.self.view_is)
