use Rattle.std.proofs.Common.{◌≡◌, false, Some, ◌∙◌, rules}
use Rattle.std.specs.Prelude.{option_map, slice_get}
use Rattle.gw_station.specs.Client.{Client, is_up}
use Rattle.gw_station.proofs.Sounds.{sound_after_up}
use Rattle.gw_station.specs.Sound.{IsSoundClient}
use Rattle.gw_hub.specs.Hub.{KeepsToSession}
use Rattle.gw_hub.proofs.Each.{all_kept}
use Rattle.gw_hub.proofs.Holding.{up_held}
use Rattle.gw_hub.proofs.Sessions.{kept_after_up}
use Rattle.gw_hub.proofs.hub.Hub.client_up.Goals as goal

pub invariant_of-self : goal.invariant_of-self
invariant_of-self c =
    let before = c.self-2.invariant.sound in
    let down : option_map (λ (k : Client). is_up k.stage) (slice_get c.self-2.inside.clients.each c.args.client)
    ≡ Some false = search (rules, c.presence.ensures, c.in-Some-false.is, c.in_ok-count.ensures.ok) in
    record {
      sound = record {
        picture = before.picture;
        rows = before.rows;
        masters = before.masters;
        clients = all_kept (IsSoundClient _ _ _) c.args.client _ _ _ c.come_up.ensures.clients
            (sound_after_up _ _ _ c.self-2.inside.moment) before.clients;
        controls = before.controls;
        commands = before.commands;
        held = rw c.come_up.ensures.clients (up_held _ _ _ c.args.client c.self-2.inside.moment _ c.self-2.inside.controls
            down before.clients before.held);
      };
      sessions = all_kept KeepsToSession c.args.client _ _ _ c.come_up.ensures.clients
          (λ k _. kept_after_up c.self-2.inside.moment k) c.self-2.invariant.sessions;
      news = c.come_up.ensures.news ∙ c.self-2.invariant.news;
    }
