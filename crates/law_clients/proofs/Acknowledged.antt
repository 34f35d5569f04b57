-- What ties the I formats that a client has acknowledged to its turns.
use Rattle.std.proofs.Common.{◌≡◌, ℕ, ◌+◌, ◌-◌, ◌<◌, ◌≤◌, true, ltb, List}
use Rattle.std.proofs.Common.{◌∷◌, map, length, refl, ap, ◌∙◌, arith, inl, inr}
use Rattle.std.proofs.lemmas.Bool.{cases_Bool, ltb-true}
use Rattle.gw_model.specs.Clocks.{Clocks}
use Rattle.gw_map.specs.Settings.{Setup, station_clocks}
use Rattle.iec_apci.specs.declared.apdu.Apdu.{Apdu}
use Rattle.iec_apci.specs.declared.apdu.Apdu.TheVariants.{I, S, U}
use Rattle.iec_apci.specs.declared.apdu.Signal.{Signal}
use Rattle.iec_apci.specs.declared.apdu.Signal.TheVariants.{StartAct, StartCon, StopAct, StopCon, TestAct, TestCon}
use Rattle.iec_window.specs.Counts.{WindowCounts}
use Rattle.iec_window.specs.Sequence.{new_acknowledgements, is_right_receive}
use Rattle.iec_window.proofs.Right.{right_split}
use Rattle.iec_window.proofs.WholeConnection.{same_test}
use Rattle.iec_window.proofs.Numbers.{ahead_leaves, ahead_within, within_ahead}
use Rattle.gw_station.specs.declared.sending.Sending.{Sending}
use Rattle.gw_station.specs.declared.sending.Sending.TheVariants as sendings
use Rattle.gw_station.specs.Client.{Client}
use Rattle.gw_station.specs.Frames.{judged_asdu, window_with_signal}
use Rattle.gw_station.specs.Pump.{client_with_sent}
use Rattle.gw_station.proofs.Opens.{open_s, open_i}
use Rattle.law_history.specs.Life.{Taking, Turn, Idle, Takes, PutsOut, Ends}
use Rattle.law_clients.specs.Numbers.{sent}
use Rattle.law_clients.proofs.Numbers.{WindowTied}
use Rattle.law_clients.specs.Closes.{acknowledged, beyond, is_right_receive as is_right}
use Rattle.law_clients.specs.Connection.{At, TimedTurn, turn_in}
use Rattle.law_clients.proofs.Links.{BecomesAt, Linked, TakesAt, linked_all}

-- ---- N(R)

abbrev pub AcknowledgedTied : List TimedTurn → Client → Type 0
AcknowledgedTied ts k = k.window.acknowledged ≡ acknowledged (map turn_in ts)

-- N(R) is right for the window where it is by the turns
pub same_right : (setup : Setup) (nr : ℕ) (ts : List Turn) (w : WindowCounts) → setup.station.k < 32768
    → WindowTied setup ts w → w.acknowledged ≡ acknowledged ts → is_right_receive nr w ≡ is_right nr ts
same_right setup nr ts w small tied same = elim (cases_Bool (ltb nr 32768)) [
  | inl is ↦ rw is (
      let bits : nr < 32768 = ltb-true nr 32768 is in
      let few : length w.waiting < 32768 = omega (arith, tied.few, small) in
      let all : w.acknowledged + length w.waiting ≡ sent ts = tied.sent in
      same_test (new_acknowledgements nr w) (length w.waiting) (beyond nr (sent ts)) (sent ts - acknowledged ts)
      (λ within. omega (arith, ahead_within nr w.acknowledged (length w.waiting) bits few within, all, same))
      (λ within. within_ahead nr w.acknowledged (length w.waiting) bits few (omega (arith, within, all, same))))
  | inr out ↦ rw out refl
]

-- what a right one leaves
pub right_leaves : (setup : Setup) (nr : ℕ) (ts : List Turn) (w : WindowCounts) → setup.station.k < 32768
    → WindowTied setup ts w → is_right_receive nr w ≡ true
    → w.acknowledged + new_acknowledgements nr w ≡ sent ts - beyond nr (sent ts)
right_leaves setup nr ts w small tied right =
    let parts = right_split nr w right in
    let all : w.acknowledged + length w.waiting ≡ sent ts = tied.sent in
    ahead_leaves nr w.acknowledged (length w.waiting) parts.0 (omega (arith, tied.few, small)) parts.1
    ∙ ap (λ (n : ℕ). n - beyond nr n) all

-- ---- one turn more

signal_keeps : (moment : ℕ) (signal : Signal) (w : WindowCounts)
    → (window_with_signal moment signal w).acknowledged ≡ w.acknowledged
signal_keeps moment StartAct w = refl
signal_keeps moment StartCon w = refl
signal_keeps moment StopAct w = refl
signal_keeps moment StopCon w = refl
signal_keeps moment TestAct w = refl
signal_keeps moment TestCon w = refl

took : (setup : Setup) (moment : ℕ) (a : Apdu) (taking : Taking) (ts : List TimedTurn) (k new : Client)
    → setup.station.k < 32768 → WindowTied setup (map turn_in ts) k.window → TakesAt setup moment a k new
    → AcknowledgedTied ts k → AcknowledgedTied (At moment (Takes a taking) ∷ ts) new
took setup moment (I ns nr asdu) taking ts k new small tied takes so_far =
    let open_now = open_i ns nr (judged_asdu setup asdu) k takes.opens in
    ap (λ (w : WindowCounts). w.acknowledged) takes.window
    ∙ rw (open_now.send, open_now.receive) (right_leaves setup nr (map turn_in ts) k.window small tied open_now.receive)
took setup moment (S nr) taking ts k new small tied takes so_far =
    let right = open_s setup nr k takes.opens in
    ap (λ (w : WindowCounts). w.acknowledged) takes.window
    ∙ rw right (right_leaves setup nr (map turn_in ts) k.window small tied right)
took setup moment (U signal) taking ts k new small tied takes so_far =
    ap (λ (w : WindowCounts). w.acknowledged) takes.window ∙ (signal_keeps moment signal k.window ∙ so_far)

sent_keeps : (clocks : Clocks) (moment : ℕ) (s : Sending) (k : Client)
    → (client_with_sent clocks moment s k).window.acknowledged ≡ k.window.acknowledged
sent_keeps clocks moment (sendings.Confirm signal) k = refl
sent_keeps clocks moment sendings.Test k = refl
sent_keeps clocks moment (sendings.Answer answer) k = refl
sent_keeps clocks moment (sendings.News x) k = refl
sent_keeps clocks moment (sendings.Part part) k = refl
sent_keeps clocks moment sendings.SFormat k = refl

acknowledged_more : (setup : Setup) (began : ℕ) → setup.station.k < 32768 → (moment : ℕ) (turn : Turn)
    (ts : List TimedTurn) (k new : Client) → Linked setup began ts k → WindowTied setup (map turn_in ts) k.window
    → BecomesAt setup moment turn k new → AcknowledgedTied ts k → AcknowledgedTied (At moment turn ∷ ts) new
acknowledged_more setup began small moment (Idle brought) ts k new linked tied is so_far =
    ap (λ (w : WindowCounts). w.acknowledged) is.window ∙ so_far
acknowledged_more setup began small moment (Takes a taking) ts k new linked tied is so_far =
    took setup moment a taking ts k new small tied is so_far
acknowledged_more setup began small moment (PutsOut said) ts k new linked tied is so_far =
    ap (λ (x : Client). x.window.acknowledged) is.becomes ∙ (sent_keeps (station_clocks setup.station) moment is.sending k ∙ so_far)
acknowledged_more setup began small moment Ends ts k new linked tied is so_far = absurd is

pub acknowledged_tied : (setup : Setup) (began : ℕ) → setup.station.k < 32768 → (ts : List TimedTurn) (k : Client)
    → Linked setup began ts k → AcknowledgedTied ts k
acknowledged_tied setup began small =
    linked_all setup began AcknowledgedTied (λ k is. ap (λ (w : WindowCounts). w.acknowledged) is.window)
    (acknowledged_more setup began small)
