use Rattle.std.proofs.Common.{ap}
use Rattle.gw_model.specs.Queue.{Queue}
use Rattle.iec_apci.proofs.Held.{shown_left, taken_left, held_behind}
use Rattle.iec_apci.proofs.feed.ApduFeed.next.Goals as goal

pub use_up-requires : goal.use_up-requires
use_up-requires c =
    let shown = shown_left _ _ _ _ c.in-Ok.is c.rest.ensures c.in_ok-answer.ensures.shown in
    taken_left _ _ _ shown c.size_of.ensures

pub returns-in-Ok-clause-rest : goal.returns-in-Ok-clause-rest
returns-in-Ok-clause-rest c =
    let shown = shown_left _ _ _ _ c.in-Ok.is c.rest.ensures c.in_ok-answer.ensures.shown in
    held_behind _ _ _ _ _ _ c.in_default.is c.self.view_is shown c.size_of.ensures
    (ap (λ (q : Queue). q.left) c.use_up.ensures)
