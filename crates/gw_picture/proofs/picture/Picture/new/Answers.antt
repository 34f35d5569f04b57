use Rattle.gw_picture.proofs.Shows.{opening_shown}
use Rattle.gw_picture.proofs.picture.Picture.new.Goals as goal

pub invariant_of-result : goal.invariant_of-result
invariant_of-result c = opening_shown c.rows.result.now c.in_ok-shown.shown.items c.in_ok-shown.ensures
