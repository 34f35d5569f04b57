-- What each frame that is received or sent changes (IEC 60870-5-104, 5.1 and 5.2).
use Rattle.std.specs.Prelude.{ℕ, ◌+◌, [], ◌∷◌, ◌++◌, drop, Option, Some, None, Result, Ok, Err, if◌then◌else◌}
use Rattle.iec_window.specs.declared.limits.Limits.{Limits}
use Rattle.iec_window.specs.declared.fault.WindowFault.{WindowFault}
use Rattle.iec_window.specs.declared.fault.WindowFault.TheVariants.{WrongSend, WrongReceive}
use Rattle.iec_window.specs.Counts.{WindowCounts}
use Rattle.iec_window.specs.Sequence.{is_right_send, is_right_receive, new_acknowledgements}

-- a connection that begins at that moment
abbrev pub counts_at_start : Limits → ℕ → WindowCounts
counts_at_start limits moment = record {
  limits = limits;
  acknowledged = 0;
  waiting = [];
  received = 0;
  owed = 0;
  owed_since = None;
  last_heard = moment;
  test = None;
}

-- the moment that is kept where there is one, else the new one
abbrev pub first_of : Option ℕ → ℕ → ℕ
first_of None moment = moment
first_of (Some since) moment = since

-- a frame came
abbrev pub counts_after_frame : ℕ → WindowCounts → WindowCounts
counts_after_frame moment c = record c { last_heard = moment }

-- a frame came whose N(R) is right, and acknowledges
abbrev pub counts_after_right_s : ℕ → ℕ → WindowCounts → WindowCounts
counts_after_right_s nr moment c = record c {
  acknowledged = c.acknowledged + new_acknowledgements nr c;
  waiting = drop (new_acknowledgements nr c) c.waiting;
  last_heard = moment;
}

-- an I format came, and both its numbers are right
abbrev pub counts_after_right_i : ℕ → ℕ → WindowCounts → WindowCounts
counts_after_right_i nr moment c = record (counts_after_right_s nr moment c) {
  received = c.received + 1;
  owed = c.owed + 1;
  owed_since = Some (first_of c.owed_since moment);
}

-- the answer to an S format that came with this N(R)
abbrev pub answer_to_s : ℕ → WindowCounts → Result (Unit {0}) WindowFault
answer_to_s nr c = if is_right_receive nr c then Ok tt else Err WrongReceive

-- what that S format leaves
abbrev pub counts_after_s : ℕ → ℕ → WindowCounts → WindowCounts
counts_after_s nr moment c = if is_right_receive nr c then counts_after_right_s nr moment c else c

-- the answer to an I format that came with these numbers: N(S) is judged first
abbrev pub answer_to_i : ℕ → ℕ → WindowCounts → Result (Unit {0}) WindowFault
answer_to_i ns nr c = if is_right_send ns c then answer_to_s nr c else Err WrongSend

-- what that I format leaves
abbrev pub counts_after_i : ℕ → ℕ → ℕ → WindowCounts → WindowCounts
counts_after_i ns nr moment c =
    if is_right_send ns c then (if is_right_receive nr c then counts_after_right_i nr moment c else c) else c

-- a frame with N(R) was sent: nothing is owed
abbrev pub counts_after_sending_s : WindowCounts → WindowCounts
counts_after_sending_s c = record c { owed = 0; owed_since = None }

-- an I format was sent
abbrev pub counts_after_sending_i : ℕ → WindowCounts → WindowCounts
counts_after_sending_i moment c = record (counts_after_sending_s c) { waiting = c.waiting ++ moment ∷ [] }

-- a TESTFR act was sent: where one waits already, that one counts
abbrev pub counts_after_sending_test : ℕ → WindowCounts → WindowCounts
counts_after_sending_test moment c = record c { test = Some (first_of c.test moment) }

-- a TESTFR con came
abbrev pub counts_after_confirmation : ℕ → WindowCounts → WindowCounts
counts_after_confirmation moment c = record c { test = None; last_heard = moment }
