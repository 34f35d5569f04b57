-- Counts to compute worked examples with.
use Rattle.std.specs.Prelude.{ℕ, List, Some}
use Rattle.iec_window.specs.declared.limits.Limits.{Limits}
use Rattle.iec_window.specs.Counts.{WindowCounts}
use Rattle.iec_window.specs.Steps.{counts_at_start}

-- the usual parameters (IEC 60870-5-104, clause 9), the times in milliseconds
abbrev pub usual : Limits
usual = record { k = 12; w = 8; t1 = 15000; t2 = 10000; t3 = 20000 }

-- so many I formats are acknowledged, and those sent at these moments are not
abbrev pub sender_counts : ℕ → List ℕ → WindowCounts
sender_counts acknowledged waiting =
    record (counts_at_start usual 0) { acknowledged = acknowledged; waiting = waiting }

-- so many I formats came, and so many of them are owed, the oldest since that moment
abbrev pub receiver_counts : ℕ → ℕ → ℕ → WindowCounts
receiver_counts received owed since =
    record (counts_at_start usual 0) { received = received; owed = owed; owed_since = Some since }
