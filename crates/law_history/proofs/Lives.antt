-- What becomes of a client in each turn, and lives: from a fresh client, turn by turn.
use Rattle.std.proofs.Common.{◌≡◌, ℕ, List, [], ◌∷◌, true, false, refl, Some, None}
use Rattle.std.specs.List.{AllByRecursion}
use Rattle.gw_map.specs.Settings.{Setup, station_clocks}
use Rattle.iec_apci.specs.declared.apdu.Apdu.{Apdu}
use Rattle.gw_control.specs.declared.answer.Outcome.{Outcome}
use Rattle.gw_control.specs.Moves.{is_operating}
use Rattle.gw_station.specs.declared.sending.Sending.{Sending}
use Rattle.gw_station.specs.Client.{Client, is_started, limits_of, client_after_up, client_after_close, client_with_news}
use Rattle.gw_station.specs.Frames.{close_of, client_taking, command_in, event_taking}
use Rattle.gw_station.specs.Pump.{line, offered, content_of, client_with_sent}
use Rattle.gw_station.specs.Sound.{CanSend, IsSoundClient}
use Rattle.gw_steps.specs.Controls.{client_told_all}
use Rattle.gw_steps.specs.Steps.{client_answered}
use Rattle.gw_steps.specs.Said.{ApduMeaning, said_by}
use Rattle.law_history.specs.Life.{Brought, Taking, Turn, Idle, Takes, PutsOut, Ends}

-- an outcome is that of a command whose type operates controls
abbrev pub IsOperating : Outcome → Type 0
IsOperating x = is_operating x.command.action ≡ true

-- news came, and it was told what became of its orders
pub record Came (brought : Brought) (k new : Client) : Type 0 where
  pub becomes : new ≡ client_told_all brought.outcomes (client_with_news brought.news k)
  -- orders end in a session alone
  pub stopped : is_started k.stage ≡ false → brought.outcomes ≡ []
  pub operating : AllByRecursion IsOperating brought.outcomes

-- an APDU was taken at a moment, and a command in it answered
pub record Took (setup : Setup) (a : Apdu) (taking : Taking) (k new : Client) : Type 0 where
  pub moment : ℕ
  pub opens : close_of setup a k ≡ None
  pub becomes : new ≡ client_answered taking.said (event_taking (command_in setup a))
      (client_taking setup taking.picture moment a k)

-- what is offered at a moment was put out, and said this
pub record Gave (setup : Setup) (said : ApduMeaning) (k new : Client) : Type 0 where
  pub moment : ℕ
  pub sending : Sending
  pub first : offered moment k ≡ Some sending
  pub can : CanSend (station_clocks setup.station) sending
  pub all : AllByRecursion (CanSend (station_clocks setup.station)) (line k)
  pub says : said ≡ said_by (station_clocks setup.station)
      (content_of (station_clocks setup.station) k sending)
  pub becomes : new ≡ client_with_sent (station_clocks setup.station) moment sending k

abbrev pub Becomes : Setup → Turn → Client → Client → Type 0
Becomes setup (Idle brought) k new = Came brought k new
Becomes setup (Takes a taking) k new = Took setup a taking k new
Becomes setup (PutsOut said) k new = Gave setup said k new
Becomes setup Ends k new = new ≡ client_after_close k

-- a client that came up, or never was
pub record IsFresh (setup : Setup) (k : Client) : Type 0 where
  pub stage : is_started k.stage ≡ false
  pub limits : k.window.limits ≡ limits_of setup.station
  pub acknowledged : k.window.acknowledged ≡ 0
  pub waiting : k.window.waiting ≡ []
  pub received : k.window.received ≡ 0
  pub limit : k.limit ≡ setup.station.queue
  pub answers : k.answers ≡ []
  pub held : k.held ≡ 0
  pub queue : k.queue ≡ []
  pub dropped : k.dropped ≡ 0
  pub rest : k.rest ≡ []

-- a client that comes up, is so
pub fresh_up : (setup : Setup) (steps news moment : ℕ) (k : Client) → IsSoundClient setup.station steps news k
    → IsFresh setup (client_after_up moment k)
fresh_up setup steps news moment k sound = record {
  stage = refl;
  limits = sound.window.limits;
  acknowledged = refl;
  waiting = refl;
  received = refl;
  limit = sound.limit;
  answers = refl;
  held = refl;
  queue = refl;
  dropped = refl;
  rest = refl;
}

abbrev pub Lives : Setup → List Turn → Client → Type 0
Lives setup [] k = IsFresh setup k
Lives setup (t ∷ ts) new = (k : Client) × Lives setup ts k × Becomes setup t k new

-- what holds of each life, by one turn more
pub lives_all : (setup : Setup) (P : List Turn → Client → Type 0) → ((k : Client) → IsFresh setup k → P [] k)
    → ((t : Turn) (ts : List Turn) (k new : Client) → Lives setup ts k → Becomes setup t k new → P ts k
    → P (t ∷ ts) new)
    → (ts : List Turn) (k : Client) → Lives setup ts k → P ts k
lives_all setup P first more [] k lives = first k lives
lives_all setup P first more (t ∷ ts) new lives =
    more t ts lives.0 new lives.1 lives.2 (lives_all setup P first more ts lives.0 lives.1)
