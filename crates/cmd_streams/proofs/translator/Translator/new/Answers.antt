use Rattle.std.proofs.Common.{refl}
use Rattle.cmd_streams.proofs.translator.Translator.new.Goals as goal

pub returns : goal.returns
returns c = rw c.in_ok-new.ensures.shown refl
