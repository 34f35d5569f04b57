-- What one end of a connection counts and remembers (IEC 60870-5-104, 5.1 and 5.2). The counts have no modulus.
use Rattle.std.specs.Prelude.{ℕ, ◌+◌, List, length, Option}
use Rattle.iec_window.specs.declared.limits.Limits.{Limits}

-- acknowledged: how many of the I formats that were sent are acknowledged
-- waiting: when each of the others was sent, the oldest first
-- received: how many I formats were received
-- owed: how many of these are not yet acknowledged, and owed_since: when the oldest of them came
-- last_heard: when the connection began, or the last frame came
-- test: when the TESTFR act that is not yet confirmed was sent
pub record WindowCounts : Type 0 where
  pub limits : Limits
  pub acknowledged : ℕ
  pub waiting : List ℕ
  pub received : ℕ
  pub owed : ℕ
  pub owed_since : Option ℕ
  pub last_heard : ℕ
  pub test : Option ℕ

-- how many I formats were sent
abbrev pub sent_in_all : WindowCounts → ℕ
sent_in_all c = c.acknowledged + length c.waiting
