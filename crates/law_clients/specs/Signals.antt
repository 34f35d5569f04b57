-- Signals (IEC 60870-5-104, 5.2 and 5.3): of the STARTDT, STOPDT and TESTFR acts that were taken each is confirmed at
-- most once, in order; no other U format is put out but TESTFR act; and no more than 32 confirmations wait. While one
-- waits each pump gives the one that has waited longest (Times).
use Rattle.std.specs.Prelude.{◌≡◌, ℕ, ◌≤◌, List, [], ◌∷◌, ◌++◌, drop, length, take}
use Rattle.std.specs.Option.{option_to_list}
use Rattle.gw_map.specs.Settings.{Setup}
use Rattle.iec_apci.specs.Apdu.{confirmation_of}
use Rattle.iec_apci.specs.declared.apdu.Apdu.TheVariants.{U}
use Rattle.iec_apci.specs.declared.apdu.Signal.{Signal}
use Rattle.iec_apci.specs.declared.apdu.Signal.TheVariants.{TestAct}
use Rattle.gw_steps.specs.Runs.{Entry}
use Rattle.gw_steps.specs.Said.{UFormat}
use Rattle.law_history.specs.Life.{Turn, Takes, PutsOut}
use Rattle.law_clients.specs.Connection.{Connection, OfEachConnection, turns}

-- so many confirmations may wait
abbrev pub most_waiting : ℕ
most_waiting = 32

-- the confirmations of the acts that were taken, the oldest first; a con has none
abbrev pub wanted : List Turn → List Signal
wanted [] = []
wanted (Takes (U signal) taking ∷ ts) = wanted ts ++ option_to_list (confirmation_of signal)
wanted (_ ∷ ts) = wanted ts

-- the U formats that were put out, TESTFR acts apart, the oldest first
abbrev pub given : List Turn → List Signal
given [] = []
given (PutsOut (UFormat TestAct) ∷ ts) = given ts
given (PutsOut (UFormat signal) ∷ ts) = given ts ++ signal ∷ []
given (_ ∷ ts) = given ts

-- the confirmations that wait
abbrev pub waiting : List Turn → List Signal
waiting ts = drop (length (given ts)) (wanted ts)

-- ---- the law

pub record ConfirmsInOrder (x : Connection) : Type 0 where
  -- what was put out is the front of what was wanted
  pub front : given (turns x) ≡ take (length (given (turns x))) (wanted (turns x))
  pub few : length (waiting (turns x)) ≤ most_waiting

abbrev pub Signals : Setup → List Entry → Type 0
Signals setup past = OfEachConnection ConfirmsInOrder setup past
