use Rattle.gw_hub.proofs.Holding.{can_tell_lost}
use Rattle.gw_hub.proofs.orders.lose_order.Goals as goal

pub tell-requires : goal.tell-requires
tell-requires c =
    can_tell_lost c.args.outstation c.args.clients.now.each c.args.controls.now c.lost-outcome.result
    c.lost-outcome.ensures.outcome c.requires
