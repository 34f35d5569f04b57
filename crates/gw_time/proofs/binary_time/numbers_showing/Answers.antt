use Rattle.gw_time.specs.declared.binary_time.BinaryTime.{BinaryTime}
use Rattle.gw_time.proofs.Clocks.{HasNumbers, numbers_shown}
use Rattle.gw_time.proofs.binary_time.numbers_showing.Goals as goal

pub returns-clause-numbers : goal.returns-clause-numbers
returns-clause-numbers c n e =
    let time = c.numbers_of_time-milliseconds.result in
    let date = c.numbers_of_date-day.result in
    let x : BinaryTime = record {
      milliseconds = time.0;
      minute = time.1;
      invalid = c.args.invalid;
      summer = c.args.summer;
      hour = time.2;
      day = date.0;
      month = date.1;
      year = date.2;
    } in
    let has : HasNumbers c.args.shown x = record {
      milliseconds = rw (← c.time.ensures) c.numbers_of_time-milliseconds.ensures.milliseconds;
      minute = rw (← c.time.ensures) c.numbers_of_time-milliseconds.ensures.minute;
      hour = rw (← c.time.ensures) c.numbers_of_time-milliseconds.ensures.hour;
      day = rw (← c.date.ensures) c.numbers_of_date-day.ensures.day;
      month = rw (← c.date.ensures) c.numbers_of_date-day.ensures.month;
      year = rw (← c.date.ensures) c.numbers_of_date-day.ensures.year;
      low = c.requires.low;
      high = c.requires.high;
    } in
    numbers_shown c.args.shown x n has e
