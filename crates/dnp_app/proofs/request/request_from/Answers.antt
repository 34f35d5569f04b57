use Rattle.std.proofs.Common.{refl}
use Rattle.dnp_app.proofs.Written.{request_is}
use Rattle.dnp_app.proofs.request.request_from.Goals as goal

pub returns : goal.returns
returns c = request_is _ _ _ c.copy_from_slice.ensures.after refl
