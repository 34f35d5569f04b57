use Rattle.std.proofs.Common.{◌≡◌, pos, ◌*◌}
use Rattle.jiff_core.specs.Date.{IsYmd}
use Rattle.jiff_core.specs.Time.{time_nanos}
use Rattle.gw_time.specs.Tag.{civil_year, time_of_day}
use Rattle.gw_time.proofs.Clocks.{civil_is}
use Rattle.gw_time.proofs.binary_time.civil_time.Goals as goal

pub returns-clause-value : goal.returns-clause-value
returns-clause-value c =
    let x = c.args.tag in
    let date : IsYmd (civil_year x) (pos x.month) (pos x.day) c.to_datetime.result.date =
    rw c.to_datetime.ensures.date c.in_ok-date.ensures.value in
    let time : time_nanos c.to_datetime.result.time ≡ time_of_day x * 1_000_000 =
    rw c.to_datetime.ensures.time c.time_of.ensures in
    civil_is x c.to_datetime.result date time
