use Rattle.cmd_text.proofs.HexLaws.{kept_line}
use Rattle.cmd_text.proofs.hex.kept_is_enough.Goals as goal

pub returns : goal.returns
returns c = kept_line
