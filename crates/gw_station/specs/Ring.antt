-- The last news, kept once for all clients, and where each of them stands in these.
use Rattle.std.specs.Prelude.{◌≡◌, ℕ, ◌+◌, ◌-◌, ◌≤◌, ◌⊎◌, List, [], ◌∷◌}
use Rattle.std.specs.Prelude.{◌++◌, drop, is_some, length, Option, Some, None, IfSome}
use Rattle.circular_buffer.specs.Buffer.{keep_last}
use Rattle.gw_model.specs.declared.observation.Observation.{Observation}
use Rattle.iec_apci.specs.declared.apdu.Signal.{Signal}
use Rattle.iec_window.specs.declared.limits.Limits.{Limits}
use Rattle.iec_window.specs.Counts.{WindowCounts}
use Rattle.iec_window.specs.Steps.{counts_at_start}
use Rattle.gw_answers.specs.declared.outgoing.AsduAnswer.{AsduAnswer}
use Rattle.gw_answers.specs.declared.outgoing.OwnAsdu.{OwnAsdu}
use Rattle.gw_station.specs.declared.client.Stage.{Stage}
use Rattle.gw_station.specs.declared.client.Stage.TheVariants.{Down, Stopped}
use Rattle.gw_station.specs.declared.cursor.Cursor.{Cursor}
use Rattle.gw_station.specs.Client.{Client, is_started}

-- ---- the news

pub record Ring : Type 0 where
  -- the last news, oldest first, and how many are kept
  pub items : List Observation
  pub limit : ℕ
  -- how many there were: the number of the next
  pub next : ℕ

-- none are kept, after so many
abbrev pub empty_ring_after : ℕ → ℕ → Ring
empty_ring_after next limit = record { items = []; limit = limit; next = next }

-- there were none yet
abbrev pub empty_ring : ℕ → Ring
empty_ring limit = empty_ring_after 0 limit

abbrev pub ring_with : Observation → Ring → Ring
ring_with x r = record r { items = keep_last r.limit (r.items ++ x ∷ []); next = r.next + 1 }

-- the number of the oldest that is kept
abbrev pub oldest : Ring → ℕ
oldest r = r.next - length r.items

-- those from a number on
abbrev pub news_from : ℕ → Ring → List Observation
news_from n r = drop (n - oldest r) r.items

-- ---- a client's place in them

-- the number of the first that waits: those before the oldest that is kept were dropped
abbrev pub first_waiting : Ring → Cursor → ℕ
first_waiting r c = c.first + (oldest r - c.first)

-- what waits, how many were dropped, and how many that wait are older than the interrogation which is pending; nothing
-- outside of a session
abbrev pub waiting_in : Ring → Option Cursor → List Observation
waiting_in r None = []
waiting_in r (Some c) = news_from c.first r

abbrev pub dropped_in : Ring → Option Cursor → ℕ
dropped_in r None = 0
dropped_in r (Some c) = c.dropped + (oldest r - c.first)

abbrev pub older_in : Ring → Option Cursor → ℕ
older_in r None = 0
older_in r (Some c) = c.mark - first_waiting r c

-- a cursor is among the news that there were, and more than are kept lie behind it only where the ring is full; what was
-- dropped lies before it
pub record IsWithin (r : Ring) (c : Cursor) : Type 0 where
  pub first : c.first ≤ r.next
  pub kept : (oldest r ≤ c.first) ⊎ (length r.items ≡ r.limit)
  pub dropped : c.dropped ≤ c.first

-- ---- a client

-- its part of the state, but for the news
pub record Seat : Type 0 where
  pub stage : Stage
  pub window : WindowCounts
  pub confirmations : List Signal
  pub answers : List AsduAnswer
  pub held : ℕ
  -- in a session
  pub cursor : Option Cursor
  pub rest : List OwnAsdu

-- down, with the parameters k, w, t1, t2 and t3
abbrev pub seat_down : Limits → Seat
seat_down limits = record {
  stage = Down;
  window = counts_at_start limits 0;
  confirmations = [];
  answers = [];
  held = 0;
  cursor = None;
  rest = [];
}

-- with the news
abbrev pub seen : Ring → Seat → Client
seen r s = record {
  stage = s.stage;
  window = s.window;
  confirmations = s.confirmations;
  limit = r.limit;
  answers = s.answers;
  held = s.held;
  queue = waiting_in r s.cursor;
  dropped = dropped_in r s.cursor;
  older = older_in r s.cursor;
  rest = s.rest;
}

-- without the news
abbrev pub alone : Seat → Client
alone s = seen (empty_ring 0) (record s { cursor = None })

-- at a stage, with nothing of a session
abbrev pub seat_anew : Stage → Seat → Seat
seat_anew stage s = record s { stage = stage; answers = []; held = 0; cursor = None; rest = [] }

-- the client connected at a moment
abbrev pub seat_after_up : ℕ → Seat → Seat
seat_after_up moment s =
    record (seat_anew Stopped s) { window = counts_at_start s.window.limits moment; confirmations = [] }

-- the connection is closed, or lost
abbrev pub seat_after_close : Seat → Seat
seat_after_close s = seat_anew Down s

-- there is a cursor in a session alone, and it is among the news
abbrev pub Stands : Ring → Seat → Type 0
Stands r s = (is_some s.cursor ≡ is_started s.stage) × IfSome s.cursor (IsWithin r)
