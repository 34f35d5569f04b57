-- The days since 1970 are not counted out: the tag of a stamp means it.
use Rattle.std.proofs.Common.{pos, negsuc, refl}
use Rattle.gw_model.specs.declared.point.Stamp.TheVariants.{At, Doubtful}
use Rattle.gw_model.specs.Clocks.{always_ahead, utc}
use Rattle.gw_time.specs.Tag.{tag_meaning}
use Rattle.gw_time.specs.Spelling.{tag_showing, date_after}
use Rattle.gw_time.proofs.Spelled.{tag_means}
use Rattle.gw_time.proofs.examples.tag_examples.Goals as goal

pub returns : goal.returns
unfolding tag_meaning tag_showing date_after
returns c = record {
  at = tag_means utc (At 1700000000000);
  doubtful = tag_means utc (Doubtful 1700000000000);
  unused = tag_means utc (At 1700000000000);
  plain = refl;
  east = tag_means (always_ahead (pos 60)) (At 1700000000000);
  west = tag_means (always_ahead (negsuc 89)) (At 1700000000000);
  leap_2000 = tag_means utc (At 951782400000);
  leap_2024 = tag_means utc (At 1709210096789);
  leap_2096 = tag_means utc (At 3981398399999);
  no_leap_2099 = refl;
  no_leap_2023 = refl;
  february_30 = refl;
  april_31 = refl;
  day_0 = refl;
  milliseconds = refl;
  minute = refl;
  hour = refl;
  month_0 = refl;
  month_13 = refl;
  year = refl;
  field_first = refl;
}
