-- Times (IEC 60870-5-104, 5.1 to 5.3 and 5.5). A tick closes a connection exactly where the oldest I format that isn't
-- acknowledged, or the TESTFR act that isn't confirmed, was put out t1 or longer ago. A pump gives the first of this
-- that is due, and nothing exactly where none is: the confirmation that has waited longest; TESTFR act, where nothing
-- came for t3 or longer and none is unconfirmed; an I format, where a session stands, something is in line and fewer
-- than k are not acknowledged; an S format, where w or more I formats that came are not acknowledged, or the oldest
-- since t2 or longer.
use Rattle.std.specs.Prelude.{◌≡◌, ℕ, ◌+◌, Bool, false, ◌&&◌, ◌||◌, is_none, is_some, nat_le, nat_lt, List, []}
use Rattle.std.specs.Prelude.{◌∷◌, ◌++◌, drop, length, map, slice_get, Option, Some, None, option_map, Result, Ok}
use Rattle.gw_model.specs.First.{when, first_of}
use Rattle.gw_entries.specs.Setup.{StationSetup}
use Rattle.gw_map.specs.Settings.{Setup, station_clocks}
use Rattle.iec_apci.specs.declared.apdu.Apdu.TheVariants.{I, U}
use Rattle.iec_apci.specs.declared.apdu.Signal.{Signal}
use Rattle.iec_apci.specs.declared.apdu.Signal.TheVariants.{TestAct, TestCon}
use Rattle.gw_steps.specs.declared.step.Step.{Step}
use Rattle.gw_steps.specs.declared.step.Step.TheVariants as steps
use Rattle.gw_steps.specs.declared.step.Reply.{Reply}
use Rattle.gw_steps.specs.declared.step.Reply.TheVariants as replies
use Rattle.gw_steps.specs.declared.step.StepFault.{StepFault}
use Rattle.gw_steps.specs.Runs.{Entry}
use Rattle.gw_steps.specs.Said.{ApduMeaning, IFormat, SFormat, UFormat, said}
use Rattle.gw_steps.specs.State.{later}
use Rattle.law_history.specs.Accepted.{moment_after}
use Rattle.law_history.specs.Life.{Takes, PutsOut, has_bit, session, turns_in}
use Rattle.law_clients.specs.Closes.{acknowledged}
use Rattle.law_clients.specs.Line.{line}
use Rattle.law_clients.specs.Connection.{At, Connection, OfStanding, TimedTurn, connection, is_so, turn_in, turns}
use Rattle.law_clients.specs.Signals.{waiting}

-- ---- since when

-- when each I format was put out, the oldest first
abbrev pub sent_at : List TimedTurn → List ℕ
sent_at [] = []
sent_at (At moment (PutsOut (IFormat ns nr meant)) ∷ ts) = sent_at ts ++ moment ∷ []
sent_at (_ ∷ ts) = sent_at ts

-- those that the client hasn't acknowledged
abbrev pub unacknowledged : List TimedTurn → List ℕ
unacknowledged ts = drop (acknowledged (map turn_in ts)) (sent_at ts)

-- when each I format came that nothing put out since acknowledges, the oldest first
abbrev pub unreceipted : List TimedTurn → List ℕ
unreceipted [] = []
unreceipted (At moment (Takes (I ns nr asdu) taking) ∷ ts) = unreceipted ts ++ moment ∷ []
unreceipted (At moment (PutsOut (IFormat ns nr meant)) ∷ ts) = []
unreceipted (At moment (PutsOut (SFormat nr)) ∷ ts) = []
unreceipted (_ ∷ ts) = unreceipted ts

-- when the TESTFR act was put out that isn't confirmed
abbrev pub tested_at : List TimedTurn → Option ℕ
tested_at [] = None
tested_at (At moment (PutsOut (UFormat TestAct)) ∷ ts) = Some moment
tested_at (At moment (Takes (U TestCon) taking) ∷ ts) = None
tested_at (_ ∷ ts) = tested_at ts

-- when the last APDU was taken, of whatever format, or else the connection began
abbrev pub heard_at : ℕ → List TimedTurn → ℕ
heard_at began [] = began
heard_at began (At moment (Takes apdu taking) ∷ ts) = moment
heard_at began (_ ∷ ts) = heard_at began ts

-- ---- what is due at a moment

-- since then so many milliseconds have passed, or more
abbrev pub has_passed : ℕ → ℕ → Option ℕ → Bool
has_passed limit now None = false
has_passed limit now (Some since) = nat_le (since + limit) now

abbrev pub is_late : StationSetup → ℕ → Connection → Bool
is_late station now x =
    has_passed station.t1_ms now (slice_get (unacknowledged x.timed) 0)
    || has_passed station.t1_ms now (tested_at x.timed)

abbrev pub is_test_due : StationSetup → ℕ → Connection → Bool
is_test_due station now x =
    is_none (tested_at x.timed) && has_passed station.t3_ms now (Some (heard_at x.began x.timed))

-- of I formats that came then
abbrev pub is_receipt_due : StationSetup → ℕ → List ℕ → Bool
is_receipt_due station now [] = false
is_receipt_due station now (oldest ∷ others) =
    nat_le station.w (length (oldest ∷ others)) || has_passed station.t2_ms now (Some oldest)

-- a session stands, fewer than k I formats are not acknowledged, and something is in line
abbrev pub is_information_due : Setup → Connection → Bool
is_information_due setup x =
    is_some (session (turns x))
    && nat_lt (length (unacknowledged x.timed)) setup.station.k
    && is_some (slice_get (line setup (turns_in (session (turns x)))) 0)

-- what a pump may owe
pub data Due : Type 0 where
  -- a U format with this control function
  ToSignal : Signal → Due
  -- an I format
  ToInform : Due
  -- an S format
  ToAcknowledge : Due

-- the first that is due
abbrev pub due : Setup → ℕ → Connection → Option Due
due setup now x = first_of
    (option_map ToSignal (slice_get (waiting (turns x)) 0)
    ∷ when (is_test_due setup.station now x) (ToSignal TestAct)
    ∷ when (is_information_due setup x) ToInform
    ∷ when (is_receipt_due setup.station now (unreceipted x.timed)) ToAcknowledge
    ∷ [])

-- ---- the law

-- what was due where this is put out
abbrev pub was_due : ApduMeaning → Due
was_due (UFormat signal) = ToSignal signal
was_due (IFormat ns nr meant) = ToInform
was_due (SFormat nr) = ToAcknowledge

-- what a pump gives says
abbrev pub says : Setup → Reply → Option ApduMeaning
says setup (replies.Apdu apdu) = said (station_clocks setup.station) apdu
says setup _ = None

-- a pump gives what is due, and nothing where nothing is
abbrev pub GivesDue : Setup → Option Due → Reply → Type 0
GivesDue setup None reply = reply ≡ replies.Nothing
GivesDue setup (Some first) reply = option_map was_due (says setup reply) ≡ Some first

-- of what a tick tells, bit c is set exactly where the connection of client c stands and is late; it is closed
abbrev pub ClosesLate : Setup → ℕ → List Entry → Reply → Type 0
ClosesLate setup now past (replies.Ticked closed) =
    (c : ℕ) → has_bit c closed ≡ is_so (is_late setup.station now) (connection setup c past)
ClosesLate setup now past _ = ⊥

abbrev pub TimesBy : Setup → List Entry → Step → Result Reply StepFault → Type 0
TimesBy setup past (steps.Tick moment) (Ok reply) = ClosesLate setup (later (moment_after past) moment) past reply
TimesBy setup past (steps.Pump c moment) (Ok reply) =
    OfStanding (λ x. GivesDue setup (due setup (later (moment_after past) moment) x) reply) (connection setup c past)
TimesBy setup past _ _ = Unit {0}

abbrev pub Times : Setup → List Entry → Type 0
Times setup [] = Unit {0}
Times setup (e ∷ past) = TimesBy setup past e.step e.reply
