use Rattle.std.proofs.Common.{refl, ◌∙◌}
use Rattle.gw_station.specs.Client.{client_after_close}
use Rattle.gw_station.proofs.Sounds.{sound_after_close}
use Rattle.gw_station.specs.Sound.{IsSoundClient}
use Rattle.gw_hub.specs.Hub.{KeepsToSession}
use Rattle.gw_hub.proofs.Each.{all_kept}
use Rattle.gw_hub.proofs.Holding.{left_by_close, orderly, sound_of}
use Rattle.gw_hub.proofs.Sessions.{kept_after_close}
use Rattle.gw_hub.proofs.hub.Hub.client_down.Goals as goal

pub invariant_of-self : goal.invariant_of-self
invariant_of-self c =
    let before = c.self.invariant.sound in
    let clients =
    all_kept (IsSoundClient _ _ _) c.args.client _ _ _ c.go_down.ensures.clients (sound_after_close _ _ _) before.clients in
    let orders = left_by_close _ _ _ _ c.args.client client_after_close _ _ _ _ c.go_down.ensures.clients c.end.ensures
    (λ k. refl) clients (orderly _ _ before) in
    record {
      sound = sound_of _ _ before.picture before.rows before.masters orders;
      sessions = all_kept KeepsToSession c.args.client _ _ _ c.go_down.ensures.clients (λ k _. kept_after_close k)
          c.self.invariant.sessions;
      news = c.go_down.ensures.news ∙ c.self.invariant.news;
    }
