-- The ranges in which the numbers of settings are.
use Rattle.std.specs.Prelude.{ℕ, pos, negsuc, ◌≤◌, ◌<◌, ◌≤ℤ◌}
use Rattle.gw_model.specs.Rule.{IsRuleOrNone}
use Rattle.gw_entries.specs.Setup.{StationSetup, OutstationSetup}

-- from the first to the second
abbrev pub IsWithin : ℕ → ℕ → ℕ → Type 0
IsWithin first last n = (first ≤ n) × (n ≤ last)

pub record IsStation (s : StationSetup) : Type 0 where
  pub common_address : IsWithin 1 65534 s.common_address
  pub master_address : s.master_address ≤ 65519
  pub offset_from : negsuc 839 ≤ℤ s.offset_minutes
  pub offset_to : s.offset_minutes ≤ℤ pos 840
  pub rule : IsRuleOrNone s.rule
  pub k : IsWithin 1 32767 s.k
  pub w : IsWithin 1 s.k s.w
  pub t1_ms : IsWithin 1 255000 s.t1_ms
  pub t2_ms : (1 ≤ s.t2_ms) × (s.t2_ms < s.t1_ms)
  pub t3_ms : IsWithin 1 255000 s.t3_ms
  pub queue : IsWithin 1 65536 s.queue
  pub select_ms : IsWithin 1 600000 s.select_ms
  pub recorder : IsWithin 1 65536 s.recorder

pub record IsOutstation (s : OutstationSetup) : Type 0 where
  pub address : s.address ≤ 65519
  pub poll_ms : IsWithin 1 86400000 s.poll.poll_ms
  pub integrity_ms : s.poll.integrity_ms ≤ 86400000
  pub response_ms : IsWithin 1 600000 s.poll.response_ms
  pub common_address : IsWithin 1 65534 s.common_address
