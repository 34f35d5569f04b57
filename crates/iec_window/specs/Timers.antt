-- The timers t1, t2 and t3 (IEC 60870-5-104, 5.1 and 5.2), and the window w (5.5).
use Rattle.std.specs.Prelude.{ℕ, ◌+◌, Bool, false, ◌||◌, ◌&&◌, nat_lt, nat_le}
use Rattle.std.specs.Prelude.{is_none, Option, Some, None, slice_get, if◌then◌else◌}
use Rattle.iec_window.specs.Counts.{WindowCounts}
use Rattle.iec_window.specs.declared.due.Due.{Due}
use Rattle.iec_window.specs.declared.due.Due.TheVariants as due

-- as many milliseconds as the limit, or more, have passed since that moment, if there is one
abbrev pub has_passed : ℕ → Option ℕ → ℕ → Bool
has_passed limit None moment = false
has_passed limit (Some since) moment = nat_le (since + limit) moment

-- t1 has passed since the oldest I format sent that is not acknowledged, or the TESTFR act that is not confirmed
abbrev pub t1_passed : ℕ → WindowCounts → Bool
t1_passed moment c = has_passed c.limits.t1 (slice_get c.waiting 0) moment || has_passed c.limits.t1 c.test moment

-- I formats received are not acknowledged: w or more of them, or since t2 or longer
abbrev pub owes_ack : ℕ → WindowCounts → Bool
owes_ack moment c = nat_lt 0 c.owed && (nat_le c.limits.w c.owed || has_passed c.limits.t2 c.owed_since moment)

-- t3 has passed since the last frame came, and no TESTFR act waits for its confirmation
abbrev pub owes_test : ℕ → WindowCounts → Bool
owes_test moment c = is_none c.test && has_passed c.limits.t3 (Some c.last_heard) moment

-- what is due at that moment: the end of the connection comes before a test
abbrev pub due_at : ℕ → WindowCounts → Due
due_at moment c = if t1_passed moment c then due.Close else (if owes_test moment c then due.Test else due.None)
