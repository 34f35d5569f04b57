-- What becomes of a client's window and of the confirmations that wait, turn by turn of its connection.
use Rattle.std.proofs.Common.{◌≡◌, ℕ, List, [], ◌∷◌, map, true, false, Option, Some, None, refl, ap, ◌∙◌}
use Rattle.gw_map.specs.Settings.{Setup, station_clocks}
use Rattle.iec_apci.specs.declared.apdu.Apdu.{Apdu}
use Rattle.iec_apci.specs.declared.apdu.Apdu.TheVariants.{I, S, U}
use Rattle.iec_apci.specs.declared.apdu.Signal.{Signal}
use Rattle.iec_apci.specs.Apdu.{confirmation_of}
use Rattle.iec_window.specs.Counts.{WindowCounts}
use Rattle.iec_window.specs.Steps.{counts_at_start, counts_after_s, counts_after_i}
use Rattle.gw_control.specs.declared.answer.Outcome.{Outcome}
use Rattle.gw_station.specs.declared.sending.Sending.{Sending}
use Rattle.gw_station.specs.Client.{Client, is_up, limits_of, client_with_news}
use Rattle.gw_station.specs.Frames.{close_of, confirmations_with, window_with_signal}
use Rattle.gw_station.specs.Pump.{offered, content_of, client_with_sent}
use Rattle.gw_steps.specs.Controls.{client_told_all, client_told_of}
use Rattle.gw_steps.specs.Said.{ApduMeaning, said_by}
use Rattle.gw_steps.specs.Runs.{Entry}
use Rattle.law_history.specs.Life.{Brought, Turn, Idle, Takes, PutsOut, Ends}
use Rattle.gw_steps.specs.Premises.{client_at}
use Rattle.law_history.proofs.Lives.{Came}
use Rattle.law_clients.proofs.Numbers.{WindowTied}
use Rattle.law_clients.proofs.Told.{same_beside}
use Rattle.law_clients.specs.Connection.{At, Connection, TimedTurn, connection, turn_in}

-- ---- what becomes of it in a turn

-- nothing
pub record Stays (k new : Client) : Type 0 where
  pub stage : new.stage ≡ k.stage
  pub window : new.window ≡ k.window
  pub confirmations : new.confirmations ≡ k.confirmations

abbrev pub window_taking : ℕ → Apdu → WindowCounts → WindowCounts
window_taking moment (I ns nr asdu) w = counts_after_i ns nr moment w
window_taking moment (S nr) w = counts_after_s nr moment w
window_taking moment (U signal) w = window_with_signal moment signal w

abbrev pub confirmations_taking : Apdu → List Signal → List Signal
confirmations_taking (I ns nr asdu) waiting = waiting
confirmations_taking (S nr) waiting = waiting
confirmations_taking (U signal) waiting = confirmations_with (confirmation_of signal) waiting

-- an APDU is taken at a moment
pub record TakesAt (setup : Setup) (moment : ℕ) (a : Apdu) (k new : Client) : Type 0 where
  pub opens : close_of setup a k ≡ None
  pub window : new.window ≡ window_taking moment a k.window
  pub confirmations : new.confirmations ≡ confirmations_taking a k.confirmations

-- what is offered at a moment is put out
pub record GivesAt (setup : Setup) (moment : ℕ) (said : ApduMeaning) (k new : Client) : Type 0 where
  pub sending : Sending
  pub first : offered moment k ≡ Some sending
  pub says : said ≡ said_by (station_clocks setup.station)
      (content_of (station_clocks setup.station) k sending)
  pub becomes : new ≡ client_with_sent (station_clocks setup.station) moment sending k

abbrev pub BecomesAt : Setup → ℕ → Turn → Client → Client → Type 0
BecomesAt setup moment (Idle brought) k new = Stays k new
BecomesAt setup moment (Takes a taking) k new = TakesAt setup moment a k new
BecomesAt setup moment (PutsOut said) k new = GivesAt setup moment said k new
BecomesAt setup moment Ends k new = ⊥

-- ---- connections

-- a client that came up at a moment
pub record IsNew (setup : Setup) (began : ℕ) (k : Client) : Type 0 where
  pub window : k.window ≡ counts_at_start (limits_of setup.station) began
  pub confirmations : k.confirmations ≡ []

-- from there on, turn by turn; and what the turns so far tell of the window's counts
abbrev pub Linked : Setup → ℕ → List TimedTurn → Client → Type 0
Linked setup began [] k = IsNew setup began k
Linked setup began (At moment turn ∷ ts) new =
    (k : Client) × Linked setup began ts k × WindowTied setup (map turn_in ts) k.window
    × BecomesAt setup moment turn k new

-- what holds of each connection, by one turn more
pub linked_all : (setup : Setup) (began : ℕ) (P : List TimedTurn → Client → Type 0)
    → ((k : Client) → IsNew setup began k → P [] k)
    → ((moment : ℕ) (turn : Turn) (ts : List TimedTurn) (k new : Client) → Linked setup began ts k
    → WindowTied setup (map turn_in ts) k.window → BecomesAt setup moment turn k new → P ts k
    → P (At moment turn ∷ ts) new)
    → (ts : List TimedTurn) (k : Client) → Linked setup began ts k → P ts k
linked_all setup began P first more [] k linked = first k linked
linked_all setup began P first more (At moment turn ∷ ts) new linked =
    more moment turn ts linked.0 new linked.1 linked.2 linked.3
    (linked_all setup began P first more ts linked.0 linked.1)

-- a client is down, or its connection led to it
abbrev pub ClientLinked : Setup → Option Connection → Client → Type 0
ClientLinked setup None k = is_up k.stage ≡ false
ClientLinked setup (Some x) k = (is_up k.stage ≡ true) × Linked setup x.began x.timed k

-- where there is no such client, no connection stands
abbrev pub SlotLinked : Setup → Option Connection → Option Client → Type 0
SlotLinked setup x None = x ≡ None
SlotLinked setup x (Some k) = ClientLinked setup x k

-- each client is, after a history
abbrev pub AllLinked : Setup → List Entry → Type 0
AllLinked setup past = (c : ℕ) → SlotLinked setup (connection setup c past) (client_at setup c past)

-- ---- what comes to all

told_confirmations : (xs : List Outcome) (k : Client) → (client_told_all xs k).confirmations ≡ k.confirmations
told_confirmations [] k = refl
told_confirmations (x ∷ xs) k = told_confirmations xs (client_told_of x k)

pub came_stays : (brought : Brought) (k new : Client) → Came brought k new → Stays k new
came_stays brought k new came =
    let told : Client = client_told_all brought.outcomes (client_with_news brought.news k) in
    let same = same_beside brought.outcomes (client_with_news brought.news k) in
    record {
      stage = ap (λ (x : Client). x.stage) came.becomes ∙ same.stage;
      window = ap (λ (x : Client). x.window) came.becomes ∙ same.window;
      confirmations = ap (λ (x : Client). x.confirmations) came.becomes
          ∙ told_confirmations brought.outcomes (client_with_news brought.news k);
    }
