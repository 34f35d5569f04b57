-- What each request of the master is due by, told by the talk with its outstation (IEEE Std 1815, clause 5; periods,
-- ranks and what is given up: own).
use Rattle.std.specs.Prelude.{ℕ, ◌+◌, ◌-◌, ◌/◌, ◌%◌, ◌^◌, Bool, true, false, not}
use Rattle.std.specs.Prelude.{◌&&◌, ◌||◌, ◌==◌, nat_le, List, [], ◌∷◌, bytes_eq}
use Rattle.std.specs.Prelude.{slice_index, Option, Some, None, option_map, if◌then◌else◌}
use Rattle.gw_model.specs.declared.poll.Poll.{Poll}
use Rattle.dnp_app.specs.Asking.{Asks, Read, EnableUnsolicited, DisableUnsolicited, WriteIndication, RecordTime, WriteTime}
use Rattle.dnp_app.specs.Response.{Fragment, is_unsolicited}
use Rattle.dnp_master.specs.Fragments.{control_in}
use Rattle.law_orders.specs.Talk.{Turn, Up, Sends, Accepts, GivesUp, asked_by, last_asked, last_sent}

-- ---- what may be asked

-- IIN1.7 is set to 0
abbrev pub clear_restart : Asks
clear_restart = WriteIndication 7 false

-- events of all classes, and with them the static values
abbrev pub event_poll : Asks
event_poll = Read (1 ∷ 2 ∷ 3 ∷ [])

abbrev pub integrity_poll : Asks
integrity_poll = Read (1 ∷ 2 ∷ 3 ∷ 0 ∷ [])

abbrev pub enable : Asks
enable = EnableUnsolicited (1 ∷ 2 ∷ 3 ∷ [])

abbrev pub disable : Asks
disable = DisableUnsolicited (1 ∷ 2 ∷ 3 ∷ [])

abbrev pub is_same_bit : Bool → Bool → Bool
is_same_bit true b = b
is_same_bit false b = not b

abbrev pub is_same : Asks → Asks → Bool
is_same (Read xs) (Read ys) = bytes_eq xs ys
is_same (EnableUnsolicited xs) (EnableUnsolicited ys) = bytes_eq xs ys
is_same (DisableUnsolicited xs) (DisableUnsolicited ys) = bytes_eq xs ys
is_same (WriteIndication m x) (WriteIndication n y) = (m == n) && is_same_bit x y
is_same RecordTime RecordTime = true
is_same (WriteTime s) (WriteTime t) = s == t
is_same _ _ = false

abbrev pub is_for : Asks → Option Asks → Bool
is_for what None = false
is_for what (Some asks) = is_same what asks

abbrev pub is_writing : Option Asks → Bool
is_writing (Some (WriteTime time)) = true
is_writing _ = false

-- ---- turns

abbrev pub begins : Turn → Bool
begins (Up moment) = true
begins _ = false

-- a request for this is given
abbrev pub asks : Asks → Turn → Bool
asks what (Sends r moment wall) = is_for what (asked_by r)
asks what _ = false

abbrev pub writes : Turn → Bool
writes (Sends r moment wall) = is_writing (asked_by r)
writes _ = false

-- a fragment of the answer to a request for this is accepted; it is the last one of an answer
abbrev pub answers : Asks → Turn → List Turn → Bool
answers what (Accepts f) before = not (is_unsolicited f) && is_for what (last_asked before)
answers what _ before = false

abbrev pub ends : Turn → Bool
ends (Accepts f) = (control_in f).fin
ends _ = false

-- a request for this is given up
abbrev pub fails : Asks → Turn → List Turn → Bool
fails what GivesUp before = is_for what (last_asked before)
fails what _ before = false

-- ---- internal indications

-- a bit of IIN1 or IIN2 in a fragment
abbrev pub iin : ℕ → ℕ → Fragment → Bool
iin octet bit f = (slice_index f.octets (octet + 1) / 2 ^ bit) % 2 == 1

-- events of class 1, 2 or 3
abbrev pub tells_of_events : Fragment → Bool
tells_of_events f = iin 1 1 f || iin 1 2 f || iin 1 3 f

-- a fragment that has it is accepted
abbrev pub shows : (Fragment → Bool) → Turn → Bool
shows has (Accepts f) = has f
shows has _ = false

-- the last accepted one had it
abbrev pub had : (Fragment → Bool) → List Turn → Bool
had has [] = false
had has (Accepts f ∷ ts) = has f
had has (_ ∷ ts) = had has ts

-- a fragment that has it is accepted, and the one before hadn't
abbrev pub rises : (Fragment → Bool) → Turn → List Turn → Bool
rises has t before = shows has t && not (had has before)

-- ---- what stands

-- a turn brings it about, and no later one takes it back
abbrev pub stands : (Turn → List Turn → Bool) → (Turn → List Turn → Bool) → List Turn → Bool
stands brings takes [] = false
stands brings takes (t ∷ ts) = brings t ts || (not (takes t ts) && stands brings takes ts)

-- the moment of the last request for this, or else that of coming up
abbrev pub since : Asks → List Turn → ℕ
since what [] = 0
since what (Up moment ∷ ts) = moment
since what (Sends r moment wall ∷ ts) = if is_for what (asked_by r) then moment else since what ts
since what (_ ∷ ts) = since what ts

-- ---- what is due

-- Clear restart: by IIN1.7 of a fragment that doesn't answer it, until it is asked
abbrev pub restart_due : List Turn → Bool
restart_due ts =
    stands (λ t before. shows (iin 1 7) t && not (answers clear_restart t before)) (λ t before. asks clear_restart t) ts

-- Write time: the time that is to be written is the wall time at which its recording was asked for. Due once the answer
-- to that ended, until it is written or a recording is given up
abbrev pub time_due : List Turn → Option ℕ
time_due [] = None
time_due (t ∷ ts) =
    if answers RecordTime t ts && ends t then option_map (λ sent. sent.1) (last_sent ts)
    else if writes t || fails RecordTime t ts then None
    else time_due ts

-- Record time: by IIN1.4 of a fragment that doesn't answer it, where the clock is set, until it is asked or given up
abbrev pub recording_due : Poll → List Turn → Bool
recording_due poll ts =
    stands (λ t before. shows (iin 1 4) t && not (answers RecordTime t before) && poll.lan_time)
    (λ t before. asks RecordTime t || fails RecordTime t before) ts

-- Disable and Enable unsolicited: since the outstation came up, where the settings use these, until they are asked
abbrev pub disabling_due : Poll → List Turn → Bool
disabling_due poll ts = stands (λ t before. begins t && poll.unsolicited) (λ t before. asks disable t) ts

abbrev pub enabling_due : Poll → List Turn → Bool
enabling_due poll ts = stands (λ t before. begins t && poll.unsolicited) (λ t before. asks enable t) ts

-- an integrity poll is wanted: since the outstation came up, once one is given up, and where IIN1.7 or IIN2.3 rises,
-- until it is asked
abbrev pub integrity_wanted : List Turn → Bool
integrity_wanted ts =
    stands (λ t before.
    begins t || fails integrity_poll t before || rises (iin 1 7) t before || rises (iin 2 3) t before)
    (λ t before. asks integrity_poll t) ts

-- it is due where it is wanted, and by its period, of which 0 is none
abbrev pub integrity_due : Poll → ℕ → List Turn → Bool
integrity_due poll moment ts =
    integrity_wanted ts
    || (not (poll.integrity_ms == 0) && nat_le poll.integrity_ms (moment - since integrity_poll ts))

-- an event poll is wanted by IIN1.1, 1.2 or 1.3, until it is asked
abbrev pub events_wanted : List Turn → Bool
events_wanted ts = stands (λ t before. shows tells_of_events t) (λ t before. asks event_poll t) ts

-- it is due where it is wanted, and by its period
abbrev pub events_due : Poll → ℕ → List Turn → Bool
events_due poll moment ts = events_wanted ts || nat_le poll.poll_ms (moment - since event_poll ts)
