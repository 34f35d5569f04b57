use Rattle.dnp_receive.proofs.Receiving.{replies_owed_in_turn, fragments_completed_in_turn}
use Rattle.dnp_receive.proofs.laws.frame_by_frame.Goals as goal

pub returns : goal.returns
returns c = record { replies = replies_owed_in_turn; fragments = fragments_completed_in_turn }
