-- What this place shows at last.
use Rattle.std.proofs.Common.{◌≡◌, Some, drop}
use Rattle.std.specs.Prelude.{slice_get}
use Rattle.gw_time.specs.Rule.{clocks_of}
use Rattle.gw_picture.specs.Picture.{observation_after, picture_after}
use Rattle.gw_picture.proofs.counting.shown_once_taken.Given as goal

abbrev pub invariant-loop-report : goal.invariant-loop-report
invariant-loop-report l =
    slice_get (picture_after (clocks_of l.zone) l.settings.rows l.shown l.reports) l.position
    ≡ Some (observation_after (clocks_of l.zone) l.settings.rows l.position l.last (drop l.report-index l.reports))
