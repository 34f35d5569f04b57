-- The days since 1970 are not counted out: the tag of a stamp means it.
use Rattle.std.proofs.Common.{negsuc, refl}
use Rattle.gw_model.specs.declared.point.Stamp.TheVariants.{At, Doubtful}
use Rattle.gw_model.specs.Clocks.{always_ahead}
use Rattle.gw_time.specs.Tag.{tag_meaning}
use Rattle.gw_time.specs.Spelling.{tag_showing, date_after}
use Rattle.gw_time.proofs.Spelled.{tag_means}
use Rattle.iec_asdu.specs.Asdu.{asdu_meaning, objects_of, objects_apart, objects_in_sequence}
use Rattle.iec_asdu.proofs.examples.timed_examples.Goals as goal

pub returns-clause-event : goal.returns-clause-event
unfolding tag_showing date_after
returns-clause-event c = refl

pub returns-clause-doubtful : goal.returns-clause-doubtful
unfolding tag_showing date_after
returns-clause-doubtful c = refl

pub returns-clause-last : goal.returns-clause-last
unfolding tag_showing date_after
returns-clause-last c = refl

pub returns-clause-later : goal.returns-clause-later
unfolding tag_showing
returns-clause-later c = refl

pub returns-clause-untimed : goal.returns-clause-untimed
returns-clause-untimed c = refl

pub returns-clause-in_sequence : goal.returns-clause-in_sequence
unfolding asdu_meaning objects_of objects_in_sequence tag_showing date_after
returns-clause-in_sequence c =
    rw (tag_means (always_ahead (negsuc 89)) (At 1700000000000), tag_means (always_ahead (negsuc 89)) (Doubtful 1700000000000)) refl

pub returns-clause-no_millisecond : goal.returns-clause-no_millisecond
unfolding asdu_meaning objects_of objects_apart tag_meaning
returns-clause-no_millisecond c = refl

pub returns-clause-no_day : goal.returns-clause-no_day
unfolding asdu_meaning objects_of objects_apart tag_meaning
returns-clause-no_day c = refl
