-- A client's part of the core's state, as its contracts see it.
use Rattle.std.specs.Prelude.{ℕ, ◌+◌, ◌-◌, Bool, true, false, ◌&&◌, List, [], ◌++◌, length, Option, if◌then◌else◌}
use Rattle.circular_buffer.specs.Buffer.{keep_last}
use Rattle.gw_model.specs.First.{when}
use Rattle.gw_model.specs.declared.observation.Observation.{Observation}
use Rattle.gw_entries.specs.Setup.{StationSetup}
use Rattle.iec_apci.specs.declared.apdu.Signal.{Signal}
use Rattle.iec_window.specs.declared.limits.Limits.{Limits}
use Rattle.iec_window.specs.Counts.{WindowCounts}
use Rattle.iec_window.specs.Steps.{counts_at_start}
use Rattle.iec_window.specs.Timers.{t1_passed}
use Rattle.gw_answers.specs.declared.outgoing.AsduAnswer.{AsduAnswer}
use Rattle.gw_answers.specs.declared.outgoing.OwnAsdu.{OwnAsdu}
use Rattle.gw_station.specs.declared.client.Stage.{Stage}
use Rattle.gw_station.specs.declared.client.Stage.TheVariants.{Down, Stopped, Started}
use Rattle.iec_apci.specs.declared.why.Why.{Why}
use Rattle.iec_apci.specs.declared.why.Why.TheVariants.{Timer}

pub record Client : Type 0 where
  pub stage : Stage
  -- what was sent and received, and since when the timers run
  pub window : WindowCounts
  -- confirmations of U formats that wait to be put out, oldest first
  pub confirmations : List Signal
  -- how many news may wait
  pub limit : ℕ
  -- of a started client: the answers to its ASDUs that wait, oldest first
  pub answers : List AsduAnswer
  -- the places that its orders hold until their outcomes
  pub held : ℕ
  -- the news that wait, oldest first, and how many were dropped
  pub queue : List Observation
  pub dropped : ℕ
  -- of the interrogation that is pending: how many of the queue came before it, and what is left of its answer; nothing
  -- is left where none is pending
  pub older : ℕ
  pub rest : List OwnAsdu

-- so many confirmations of U formats may wait
abbrev pub most_confirmations : ℕ
most_confirmations = 32

abbrev pub is_up : Stage → Bool
is_up Down = false
is_up Stopped = true
is_up Started = true

abbrev pub is_started : Stage → Bool
is_started Down = false
is_started Stopped = false
is_started Started = true

-- the parameters of a client's connection
abbrev pub limits_of : StationSetup → Limits
limits_of station =
    record { k = station.k; w = station.w; t1 = station.t1_ms; t2 = station.t2_ms; t3 = station.t3_ms }

-- as at first, with the parameters k, w, t1, t2 and t3, where so many news may wait
abbrev pub client_down : Limits → ℕ → Client
client_down limits limit = record {
  stage = Down;
  window = counts_at_start limits 0;
  confirmations = [];
  limit = limit;
  answers = [];
  held = 0;
  queue = [];
  dropped = 0;
  older = 0;
  rest = [];
}

-- at a stage, with nothing of a session
abbrev pub client_anew : Stage → Client → Client
client_anew stage c =
    record c { stage = stage; answers = []; held = 0; queue = []; dropped = 0; older = 0; rest = [] }

-- the client connected at a moment
abbrev pub client_after_up : ℕ → Client → Client
client_after_up moment c =
    record (client_anew Stopped c) { window = counts_at_start c.window.limits moment; confirmations = [] }

-- the connection is closed, or lost
abbrev pub client_after_close : Client → Client
client_after_close c = client_anew Down c

-- a queue to which news come keeps the last ones, and drops the others; there is one where the client is started
abbrev pub queue_with : List Observation → ℕ → Bool → List Observation → List Observation
queue_with xs limit started queue = if started then keep_last limit (queue ++ xs) else queue

abbrev pub overflow : List Observation → ℕ → Bool → List Observation → ℕ
overflow xs limit started queue = if started then length (queue ++ xs) - limit else 0

-- news that come: the oldest are dropped first
abbrev pub client_with_news : List Observation → Client → Client
client_with_news xs c = record c {
  queue = queue_with xs c.limit (is_started c.stage) c.queue;
  dropped = c.dropped + overflow xs c.limit (is_started c.stage) c.queue;
  older = c.older - overflow xs c.limit (is_started c.stage) c.queue;
}

-- t1 has passed for a client that is up
abbrev pub is_timed_out : ℕ → Client → Bool
is_timed_out moment c = is_up c.stage && t1_passed moment c.window

-- why time that has passed closes the connection, if it does
abbrev pub close_by_tick : ℕ → Client → Option Why
close_by_tick moment c = when (is_timed_out moment c) Timer

-- time has passed
abbrev pub client_after_tick : ℕ → Client → Client
client_after_tick moment c = if is_timed_out moment c then client_after_close c else c
