-- Numbers (IEC 60870-5-104, 5.1): the nth I format put out since a client came up, counted from 0, has N(S) n modulo
-- 32,768; each N(R) put out is the number of I formats taken, modulo 32,768; and at most k of those put out lie beyond
-- the client's last N(R).
use Rattle.std.specs.Prelude.{◌≡◌, ℕ, ◌+◌, ◌%◌, ◌<◌, ◌≤◌, List, [], ◌∷◌}
use Rattle.gw_map.specs.Settings.{Setup}
use Rattle.iec_apci.specs.declared.apdu.Apdu.TheVariants.{I, S}
use Rattle.iec_window.specs.Sequence.{numbers}
use Rattle.gw_steps.specs.Runs.{Entry}
use Rattle.gw_steps.specs.Said.{ApduMeaning, IFormat, SFormat, UFormat}
use Rattle.law_history.specs.Life.{Turn, Takes, PutsOut, OfEachLife}

-- ---- what was taken and put out

-- how many I formats were put out
abbrev pub sent : List Turn → ℕ
sent [] = 0
sent (PutsOut (IFormat ns nr meant) ∷ ts) = sent ts + 1
sent (_ ∷ ts) = sent ts

-- how many I formats were taken
abbrev pub taken : List Turn → ℕ
taken [] = 0
taken (Takes (I ns nr asdu) taking ∷ ts) = taken ts + 1
taken (_ ∷ ts) = taken ts

-- the last N(R) that was taken; 0 before any
abbrev pub last_receive_number : List Turn → ℕ
last_receive_number [] = 0
last_receive_number (Takes (I ns nr asdu) taking ∷ ts) = nr
last_receive_number (Takes (S nr) taking ∷ ts) = nr
last_receive_number (_ ∷ ts) = last_receive_number ts

-- ---- what N(R) names

-- of so many I formats that were sent, a number names n: the latest count that has it
pub record NamesCount (nr sent n : ℕ) : Type 0 where
  pub not_more : n ≤ sent
  pub latest : sent < n + numbers
  pub number : nr ≡ n % numbers

-- at most k of those put out lie beyond the client's last N(R)
pub record KeepsWindow (k : ℕ) (ts : List Turn) : Type 0 where
  pub acknowledged : ℕ
  pub named : NamesCount (last_receive_number ts) (sent ts) acknowledged
  pub within : sent ts ≤ acknowledged + k

-- a number names no fewer than the client's last N(R), and no more than were put out
pub record IsRightReceive (ts : List Turn) (nr : ℕ) : Type 0 where
  pub acknowledged : ℕ
  pub count : ℕ
  pub last : NamesCount (last_receive_number ts) (sent ts) acknowledged
  pub named : NamesCount nr (sent ts) count
  pub not_fewer : acknowledged ≤ count

-- ---- the law

-- what is put out behind so many I formats, where so many were taken
abbrev pub SaysNumbers : ℕ → ℕ → ApduMeaning → Type 0
SaysNumbers sent taken (IFormat ns nr meant) = (ns ≡ sent % numbers) × (nr ≡ taken % numbers)
SaysNumbers sent taken (SFormat nr) = nr ≡ taken % numbers
SaysNumbers sent taken (UFormat signal) = Unit {0}

-- what is put out last has the numbers that are due then
abbrev pub HasNumbers : List Turn → Type 0
HasNumbers [] = Unit {0}
HasNumbers (PutsOut said ∷ ts) = SaysNumbers (sent ts) (taken ts) said
HasNumbers (_ ∷ ts) = Unit {0}

pub record HasRightNumbers (k : ℕ) (ts : List Turn) : Type 0 where
  pub last : HasNumbers ts
  pub window : KeepsWindow k ts

abbrev pub Numbers : Setup → List Entry → Type 0
Numbers setup past = OfEachLife (HasRightNumbers setup.station.k) setup past
