use Rattle.std.proofs.Common.{length, ap, ◌∙◌}
use Rattle.gw_picture.proofs.Lists.{change-length}
use Rattle.gw_hub.proofs.Holding.{orderly, sound_of}
use Rattle.gw_hub.proofs.hub.Hub.outstation_up.Goals as goal

pub invariant_of-self : goal.invariant_of-self
invariant_of-self c =
    let before = c.self-2.invariant.sound in
    record {
      sound = sound_of _ _ before.picture before.rows
          (ap length c.come_up.ensures ∙ (change-length c.args.outstation _ _ ∙ before.masters)) (orderly _ _ before);
      sessions = c.self-2.invariant.sessions;
      news = c.self-2.invariant.news;
    }
