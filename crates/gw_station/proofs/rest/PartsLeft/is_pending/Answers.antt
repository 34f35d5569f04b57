use Rattle.std.proofs.Common.{sym, ap, ◌∙◌}
use Rattle.std.specs.Arc.{arc_slice_items}
use Rattle.gw_station.specs.Answers.{is_pending}
use Rattle.gw_station.proofs.Rests.{pending_of}
use Rattle.gw_station.proofs.rest.PartsLeft.is_pending.Goals as goal

pub returns : goal.returns
returns c =
    c.is_some.ensures
    ∙ (sym (pending_of arc_slice_items c.self.inside.section c.self.inside.done c.self.inside.answer c.self.invariant)
    ∙ ap is_pending c.self.view_is)
