use Rattle.gw_control.proofs.Sounds.{none_sound, stays_sound}
use Rattle.gw_control.proofs.laws.controls_stay_sound.Goals as goal

pub returns : goal.returns
returns c = record { first = none_sound; kept = stays_sound }
