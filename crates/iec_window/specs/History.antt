-- A connection as the list of what was sent and received, the newest first (IEC 60870-5-104, 5.1 and 5.2); what of it
-- is legal; and what that comes to, read off the whole list.
use Rattle.std.specs.Prelude.{ℕ, ◌+◌, ◌-◌, ◌%◌, ◌==◌, ◌&&◌, Bool, true, nat_lt, nat_le, List, []}
use Rattle.std.specs.Prelude.{◌∷◌, ◌++◌, length, drop, Option, Some, None, slice_get, if◌then◌else◌}
use Rattle.iec_window.specs.declared.limits.Limits.{Limits}
use Rattle.iec_window.specs.Counts.{WindowCounts}
use Rattle.iec_window.specs.Sequence.{numbers}
use Rattle.iec_window.specs.Steps.{counts_at_start, first_of, counts_after_frame, counts_after_s}
use Rattle.iec_window.specs.Steps.{counts_after_i, counts_after_sending_s, counts_after_sending_i}
use Rattle.iec_window.specs.Steps.{counts_after_sending_test, counts_after_confirmation}

-- SentI: an I format was sent, at that moment; SentS: an S format; SentTest: a TESTFR act, at that moment
-- GotI: an I format came with this N(S) and N(R), at that moment; GotS: an S format with this N(R)
-- GotConfirmation: a TESTFR con came, at that moment; GotOther: another U format
pub data Transmission : Type 0 where
  SentI : ℕ → Transmission
  SentS : Transmission
  SentTest : ℕ → Transmission
  GotI : ℕ → ℕ → ℕ → Transmission
  GotS : ℕ → ℕ → Transmission
  GotConfirmation : ℕ → Transmission
  GotOther : ℕ → Transmission

-- when each I format was sent, the oldest first
abbrev pub sent_at : List Transmission → List ℕ
sent_at [] = []
sent_at (SentI moment ∷ older) = sent_at older ++ moment ∷ []
sent_at (_ ∷ older) = sent_at older

-- when each I format came, the oldest first
abbrev pub got_at : List Transmission → List ℕ
got_at [] = []
got_at (GotI ns nr moment ∷ older) = got_at older ++ moment ∷ []
got_at (_ ∷ older) = got_at older

-- how many I formats that were sent lie beyond those that N(R) acknowledges
abbrev pub beyond : ℕ → List Transmission → ℕ
beyond nr frames = (length (sent_at frames) + numbers - nr) % numbers

-- how many I formats are acknowledged: all but those beyond the newest N(R) that came
abbrev pub acknowledged_by : List Transmission → ℕ
acknowledged_by [] = 0
acknowledged_by (GotI ns nr moment ∷ older) = length (sent_at older) - beyond nr older
acknowledged_by (GotS nr moment ∷ older) = length (sent_at older) - beyond nr older
acknowledged_by (_ ∷ older) = acknowledged_by older

-- how many I formats had come when the newest frame with N(R) was sent
abbrev pub receipted_by : List Transmission → ℕ
receipted_by [] = 0
receipted_by (SentI moment ∷ older) = length (got_at older)
receipted_by (SentS ∷ older) = length (got_at older)
receipted_by (_ ∷ older) = receipted_by older

-- when the I formats were sent that are not acknowledged
abbrev pub waiting_at : List Transmission → List ℕ
waiting_at frames = drop (acknowledged_by frames) (sent_at frames)

-- when the I formats came that are not acknowledged
abbrev pub owed_at : List Transmission → List ℕ
owed_at frames = drop (receipted_by frames) (got_at frames)

-- when the newest frame came, or else the connection began
abbrev pub heard_at : ℕ → List Transmission → ℕ
heard_at start [] = start
heard_at start (GotI ns nr moment ∷ older) = moment
heard_at start (GotS nr moment ∷ older) = moment
heard_at start (GotConfirmation moment ∷ older) = moment
heard_at start (GotOther moment ∷ older) = moment
heard_at start (_ ∷ older) = heard_at start older

-- when the first TESTFR act was sent since the newest TESTFR con
abbrev pub test_at : List Transmission → Option ℕ
test_at [] = None
test_at (SentTest moment ∷ older) = Some (first_of (test_at older) moment)
test_at (GotConfirmation moment ∷ older) = None
test_at (_ ∷ older) = test_at older

-- the counts of a connection that began at that moment and had these frames
abbrev pub counts_of : Limits → ℕ → List Transmission → WindowCounts
counts_of limits start frames = record {
  limits = limits;
  acknowledged = acknowledged_by frames;
  waiting = waiting_at frames;
  received = length (got_at frames);
  owed = length (owed_at frames);
  owed_since = slice_get (owed_at frames) 0;
  last_heard = heard_at start frames;
  test = test_at frames;
}

-- N(R) is right: it has 15 bits, and no more lie beyond it than aren't acknowledged
abbrev pub is_right : ℕ → List Transmission → Bool
is_right nr frames = nat_lt nr numbers && nat_le (beyond nr frames) (length (waiting_at frames))

-- behind these an I format is sent with fewer than k others not acknowledged, or comes with the next N(S) and a right
-- N(R); an S format comes with a right N(R); or it is another frame
abbrev pub is_legal : Limits → Transmission → List Transmission → Bool
is_legal limits (SentI moment) older = nat_lt (length (waiting_at older)) limits.k
is_legal limits (GotI ns nr moment) older = (ns == length (got_at older) % numbers) && is_right nr older
is_legal limits (GotS nr moment) older = is_right nr older
is_legal limits _ older = true

-- those that are legal behind the legal ones before them
abbrev pub legal : Limits → List Transmission → List Transmission
legal limits [] = []
legal limits (frame ∷ older) =
    let before = legal limits older in if is_legal limits frame before then frame ∷ before else before

-- what a window makes of a frame: nothing, where it may not send it, or where a number isn't right
abbrev pub step : Transmission → WindowCounts → WindowCounts
step (SentI moment) c = if nat_lt (length c.waiting) c.limits.k then counts_after_sending_i moment c else c
step SentS c = counts_after_sending_s c
step (SentTest moment) c = counts_after_sending_test moment c
step (GotI ns nr moment) c = counts_after_i ns nr moment c
step (GotS nr moment) c = counts_after_s nr moment c
step (GotConfirmation moment) c = counts_after_confirmation moment c
step (GotOther moment) c = counts_after_frame moment c

-- what a window makes of these frames, one after another
abbrev pub window_counts : Limits → ℕ → List Transmission → WindowCounts
window_counts limits start [] = counts_at_start limits start
window_counts limits start (frame ∷ older) = step frame (window_counts limits start older)
