use Rattle.gw_hub.proofs.Holding.{can_tell_ended}
use Rattle.gw_hub.proofs.orders.end_order.Goals as goal

pub tell-requires : goal.tell-requires
tell-requires c =
    can_tell_ended c.args.position _ c.args.clients.now.each c.args.controls.now c.outcome-outcome.result
    c.outcome-outcome.ensures.outcome c.requires
