-- What ties the timers of a client's window to the moments of its turns.
use Rattle.std.proofs.Common.{◌≡◌, ℕ, ◌+◌, ◌-◌, ◌<◌, ◌≤◌, Bool, true, List, [], ◌∷◌, ◌++◌}
use Rattle.std.proofs.Common.{drop, map, length, Option, Some, None, refl, sym, ap, subst, ◌∙◌, arith}
use Rattle.std.specs.Prelude.{◌&&◌, is_none, slice_get, IfSome}
use Rattle.std.specs.List.{AllByRecursion}
use Rattle.std.proofs.lemmas.List.{drop-append-le, drop-drop, length_push}
use Rattle.gw_map.specs.Settings.{Setup, station_clocks}
use Rattle.iec_apci.specs.declared.apdu.Apdu.{Apdu}
use Rattle.iec_apci.specs.declared.apdu.Apdu.TheVariants.{I, S, U}
use Rattle.iec_apci.specs.declared.apdu.Signal.{Signal}
use Rattle.iec_apci.specs.declared.apdu.Signal.TheVariants.{StartAct, StartCon, StopAct, StopCon, TestAct, TestCon}
use Rattle.iec_window.specs.Counts.{WindowCounts}
use Rattle.iec_window.specs.Sequence.{new_acknowledgements, is_right_receive}
use Rattle.iec_window.specs.Steps.{first_of, counts_after_sending_i}
use Rattle.iec_window.specs.Timers.{owes_test, has_passed}
use Rattle.gw_station.specs.declared.sending.Sending.{Sending}
use Rattle.gw_station.specs.declared.sending.Sending.TheVariants as sendings
use Rattle.gw_station.specs.Client.{Client}
use Rattle.gw_station.specs.Frames.{judged_asdu, window_with_signal}
use Rattle.gw_station.specs.Pump.{client_with_sent}
use Rattle.gw_station.proofs.All.{all-first}
use Rattle.gw_station.proofs.Opens.{open_s, open_i}
use Rattle.gw_steps.specs.Said.{ApduMeaning, IFormat, SFormat, UFormat}
use Rattle.law_history.specs.Life.{Taking, Turn, Idle, Takes, PutsOut, Ends}
use Rattle.law_clients.specs.Numbers.{sent}
use Rattle.law_clients.proofs.Numbers.{WindowTied, says}
use Rattle.law_clients.specs.Closes.{acknowledged, beyond}
use Rattle.law_clients.specs.Connection.{At, TimedTurn, turn_in}
use Rattle.law_clients.specs.Times.{heard_at, sent_at, tested_at, unacknowledged, unreceipted}
use Rattle.law_clients.proofs.Links.{BecomesAt, IsNew, Linked, TakesAt, linked_all}
use Rattle.law_clients.proofs.Acknowledged.{AcknowledgedTied, acknowledged_tied, right_leaves}
use Rattle.law_clients.proofs.Offers.{IsOffer, offer_told}
use Rattle.law_clients.proofs.Signals.{IsCon, signals_tied}

-- ---- the tie

-- the timers of a window run since then
pub record RunsSince (sent came : List ℕ) (last : ℕ) (asked : Option ℕ) (w : WindowCounts) : Type 0 where
  pub waiting : w.waiting ≡ sent
  pub owed : w.owed ≡ length came
  pub since : w.owed_since ≡ slice_get came 0
  pub heard : w.last_heard ≡ last
  pub test : w.test ≡ asked

abbrev pub TimersTied : ℕ → List TimedTurn → Client → Type 0
TimersTied began ts k =
    RunsSince (unacknowledged ts) (unreceipted ts) (heard_at began ts) (tested_at ts) k.window

-- ---- lists

-- the oldest stays the oldest
first_stays : (xs : List ℕ) (x : ℕ) → Some (first_of (slice_get xs 0) x) ≡ slice_get (xs ++ x ∷ []) 0
first_stays [] x = refl
first_stays (y ∷ xs) x = refl

sent_length : (ts : List TimedTurn) → length (sent_at ts) ≡ sent (map turn_in ts)
sent_length [] = refl
sent_length (At moment (Idle brought) ∷ ts) = sent_length ts
sent_length (At moment (Takes a taking) ∷ ts) = sent_length ts
sent_length (At moment (PutsOut (IFormat ns nr meant)) ∷ ts) =
    length_push (sent_at ts) moment ∙ ap (λ (n : ℕ). n + 1) (sent_length ts)
sent_length (At moment (PutsOut (SFormat nr)) ∷ ts) = sent_length ts
sent_length (At moment (PutsOut (UFormat signal)) ∷ ts) = sent_length ts
sent_length (At moment Ends ∷ ts) = sent_length ts

-- ---- an APDU is taken

-- a right N(R) leaves those beyond it
left_beyond : (nr a : ℕ) (ts : List TimedTurn) (w : WindowCounts) → w.waiting ≡ drop a (sent_at ts) → w.acknowledged ≡ a
    → w.acknowledged + new_acknowledgements nr w ≡ sent (map turn_in ts) - beyond nr (sent (map turn_in ts))
    → drop (new_acknowledgements nr w) w.waiting
    ≡ drop (sent (map turn_in ts) - beyond nr (sent (map turn_in ts))) (sent_at ts)
left_beyond nr a ts w all same leaves =
    let n : ℕ = new_acknowledgements nr w in
    ap (drop n) all ∙ (drop-drop n a (sent_at ts) ∙ ap (λ (i : ℕ). drop i (sent_at ts))
    (ap (λ (i : ℕ). i + n) (sym same) ∙ leaves))

signal_taken : (moment : ℕ) (signal : Signal) (taking : Taking) (ts : List TimedTurn) (w : WindowCounts) (heard : ℕ)
    → RunsSince (unacknowledged ts) (unreceipted ts) heard (tested_at ts) w
    → RunsSince (unacknowledged ts) (unreceipted ts) moment (tested_at (At moment (Takes (U signal) taking) ∷ ts))
    (window_with_signal moment signal w)
signal_taken moment StartAct taking ts w heard tied =
    record { waiting = tied.waiting; owed = tied.owed; since = tied.since; heard = refl; test = tied.test }
signal_taken moment StartCon taking ts w heard tied =
    record { waiting = tied.waiting; owed = tied.owed; since = tied.since; heard = refl; test = tied.test }
signal_taken moment StopAct taking ts w heard tied =
    record { waiting = tied.waiting; owed = tied.owed; since = tied.since; heard = refl; test = tied.test }
signal_taken moment StopCon taking ts w heard tied =
    record { waiting = tied.waiting; owed = tied.owed; since = tied.since; heard = refl; test = tied.test }
signal_taken moment TestAct taking ts w heard tied =
    record { waiting = tied.waiting; owed = tied.owed; since = tied.since; heard = refl; test = tied.test }
signal_taken moment TestCon taking ts w heard tied =
    record { waiting = tied.waiting; owed = tied.owed; since = tied.since; heard = refl; test = refl }

took : (setup : Setup) (began moment : ℕ) (a : Apdu) (taking : Taking) (ts : List TimedTurn) (k new : Client)
    → setup.station.k < 32768 → WindowTied setup (map turn_in ts) k.window → AcknowledgedTied ts k
    → TakesAt setup moment a k new → TimersTied began ts k → TimersTied began (At moment (Takes a taking) ∷ ts) new
took setup began moment (I ns nr asdu) taking ts k new small tied same takes so_far =
    let w : WindowCounts = k.window in
    let told = open_i ns nr (judged_asdu setup asdu) k takes.opens in
    subst (RunsSince (unacknowledged (At moment (Takes (I ns nr asdu) taking) ∷ ts)) (unreceipted ts ++ moment ∷ [])
    moment (tested_at ts)) (sym takes.window)
    (rw (told.send, told.receive) (record {
      waiting = left_beyond nr (acknowledged (map turn_in ts)) ts w so_far.waiting same
          (right_leaves setup nr (map turn_in ts) w small tied told.receive);
      owed = ap (λ (n : ℕ). n + 1) so_far.owed ∙ sym (length_push (unreceipted ts) moment);
      since = ap (λ (x : Option ℕ). Some (first_of x moment)) so_far.since ∙ first_stays (unreceipted ts) moment;
      heard = refl;
      test = so_far.test;
    }))
took setup began moment (S nr) taking ts k new small tied same takes so_far =
    let w : WindowCounts = k.window in
    let right : is_right_receive nr w ≡ true = open_s setup nr k takes.opens in
    subst (RunsSince (unacknowledged (At moment (Takes (S nr) taking) ∷ ts)) (unreceipted ts) moment (tested_at ts))
    (sym takes.window)
    (rw right (record {
      waiting = left_beyond nr (acknowledged (map turn_in ts)) ts w so_far.waiting same
          (right_leaves setup nr (map turn_in ts) w small tied right);
      owed = so_far.owed;
      since = so_far.since;
      heard = refl;
      test = so_far.test;
    }))
took setup began moment (U signal) taking ts k new small tied same takes so_far =
    subst (RunsSince (unacknowledged ts) (unreceipted ts) moment
    (tested_at (At moment (Takes (U signal) taking) ∷ ts))) (sym takes.window)
    (signal_taken moment signal taking ts k.window (heard_at began ts) so_far)

-- ---- something is put out

-- a con is no test
con_untested : (moment : ℕ) (signal : Signal) (ts : List TimedTurn) → IsCon signal
    → tested_at (At moment (PutsOut (UFormat signal)) ∷ ts) ≡ tested_at ts
con_untested moment StartAct ts is = absurd is
con_untested moment StartCon ts is = refl
con_untested moment StopAct ts is = absurd is
con_untested moment StopCon ts is = refl
con_untested moment TestAct ts is = absurd is
con_untested moment TestCon ts is = refl

-- a test is due only where none is unconfirmed
untested : (moment : ℕ) (w : WindowCounts) → owes_test moment w ≡ true → w.test ≡ None
untested moment w = by w.test (has_passed w.limits.t3 (Some w.last_heard) moment)
  where
    by : (test : Option ℕ) (passed : Bool) → is_none test && passed ≡ true → test ≡ None
    by None passed e = refl
    by (Some since) passed e = absurd cc

-- an I format is
sent_one : (moment : ℕ) (ts : List TimedTurn) (w : WindowCounts) (heard : ℕ)
    → acknowledged (map turn_in ts) ≤ length (sent_at ts)
    → RunsSince (unacknowledged ts) (unreceipted ts) heard (tested_at ts) w
    → RunsSince (drop (acknowledged (map turn_in ts)) (sent_at ts ++ moment ∷ [])) [] heard (tested_at ts)
    (counts_after_sending_i moment w)
sent_one moment ts w heard within tied = record {
  waiting = ap (λ (xs : List ℕ). xs ++ moment ∷ []) tied.waiting
      ∙ sym (drop-append-le (acknowledged (map turn_in ts)) (sent_at ts) (moment ∷ []) within);
  owed = refl;
  since = refl;
  heard = tied.heard;
  test = tied.test;
}

gave : (setup : Setup) (began moment : ℕ) (s : Sending) (ts : List TimedTurn) (k : Client)
    → acknowledged (map turn_in ts) ≤ length (sent_at ts) → AllByRecursion IsCon k.confirmations
    → IsOffer moment k (Some s) → TimersTied began ts k
    → TimersTied began (At moment (PutsOut (says setup k s)) ∷ ts) (client_with_sent (station_clocks setup.station) moment s k)
gave setup began moment (sendings.Confirm signal) ts k within cons offer tied =
    let con : IsCon signal = subst (λ (x : Option Signal). IfSome x IsCon) offer
    (all-first IsCon k.confirmations cons) in
    record {
      waiting = tied.waiting;
      owed = tied.owed;
      since = tied.since;
      heard = tied.heard;
      test = tied.test ∙ sym (con_untested moment signal ts con);
    }
gave setup began moment sendings.Test ts k within cons offer tied = record {
  waiting = tied.waiting;
  owed = tied.owed;
  since = tied.since;
  heard = tied.heard;
  test = ap (λ (x : Option ℕ). Some (first_of x moment)) (untested moment k.window offer.1);
}
gave setup began moment (sendings.Answer answer) ts k within cons offer tied =
    sent_one moment ts k.window (heard_at began ts) within tied
gave setup began moment (sendings.News x) ts k within cons offer tied =
    sent_one moment ts k.window (heard_at began ts) within tied
gave setup began moment (sendings.Part part) ts k within cons offer tied =
    sent_one moment ts k.window (heard_at began ts) within tied
gave setup began moment sendings.SFormat ts k within cons offer tied =
    record { waiting = tied.waiting; owed = refl; since = refl; heard = tied.heard; test = tied.test }

-- ---- each connection

no_more_than_sent : (setup : Setup) (ts : List TimedTurn) (k : Client) → WindowTied setup (map turn_in ts) k.window
    → AcknowledgedTied ts k → acknowledged (map turn_in ts) ≤ length (sent_at ts)
no_more_than_sent setup ts k tied same = omega (arith, tied.sent, same, sent_length ts)

timers_more : (setup : Setup) (began : ℕ) → setup.station.k < 32768 → (moment : ℕ) (turn : Turn)
    (ts : List TimedTurn) (k new : Client) → Linked setup began ts k → WindowTied setup (map turn_in ts) k.window
    → BecomesAt setup moment turn k new → TimersTied began ts k → TimersTied began (At moment turn ∷ ts) new
timers_more setup began small moment (Idle brought) ts k new linked tied is so_far =
    subst (RunsSince (unacknowledged ts) (unreceipted ts) (heard_at began ts) (tested_at ts)) (sym is.window) so_far
timers_more setup began small moment (Takes a taking) ts k new linked tied is so_far =
    took setup began moment a taking ts k new small tied (acknowledged_tied setup began small ts k linked) is so_far
timers_more setup began small moment (PutsOut said) ts k new linked tied is so_far =
    let same = acknowledged_tied setup began small ts k linked in
    subst (TimersTied began (At moment (PutsOut said) ∷ ts)) (sym is.becomes)
    (subst (λ (x : ApduMeaning). TimersTied began (At moment (PutsOut x) ∷ ts) (client_with_sent (station_clocks setup.station) moment is.sending k))
    (sym is.says)
    (gave setup began moment is.sending ts k (no_more_than_sent setup ts k tied same)
    (signals_tied setup began ts k linked).cons (offer_told moment k (Some is.sending) is.first) so_far))
timers_more setup began small moment Ends ts k new linked tied is so_far = absurd is

new_timers : (setup : Setup) (began : ℕ) (k : Client) → IsNew setup began k → TimersTied began [] k
new_timers setup began k is = subst (RunsSince [] [] began None) (sym is.window)
    (record { waiting = refl; owed = refl; since = refl; heard = refl; test = refl })

pub timers_tied : (setup : Setup) (began : ℕ) → setup.station.k < 32768 → (ts : List TimedTurn) (k : Client)
    → Linked setup began ts k → TimersTied began ts k
timers_tied setup began small = linked_all setup began (TimersTied began) (new_timers setup began)
    (timers_more setup began small)
