-- What a contract sees of a window, and what each window keeps.
use Rattle.std.specs.Prelude.{◌≡◌, ◌+◌, ◌^◌, ◌<◌, ◌≤◌, nat_lt, is_some, length}
use Rattle.iec_window.specs.declared.window.Window.TheInside.{Inside}
use Rattle.iec_window.specs.Counts.{WindowCounts}

abbrev pub counts_in : Inside → WindowCounts
counts_in s = record {
  limits = s.limits;
  acknowledged = s.acknowledged;
  waiting = s.waiting.items;
  received = s.received;
  owed = s.owed;
  owed_since = s.owed_since;
  last_heard = s.last_heard;
  test = s.test;
}

-- Sequence numbers name the counts within the window; there is room for k moments; the counts fit 64 bits.
pub record IsWindow (s : Inside) : Type 0 where
  pub numbered : s.limits.k < 32768
  pub bounded : length s.waiting.items ≤ s.limits.k
  pub roomy : s.limits.k ≤ s.waiting.capacity
  pub counted : s.acknowledged + length s.waiting.items < 2 ^ 64
  pub received : s.owed ≤ s.received
  pub since : is_some s.owed_since ≡ nat_lt 0 s.owed
