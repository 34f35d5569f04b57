-- The fate of each observation that came in a session, where so many may wait, apart from any queue.
use Rattle.std.specs.Prelude.{ℕ, zero, suc, ◌+◌, ◌-◌, Bool, true, false, ◌==◌}
use Rattle.std.specs.Prelude.{List, [], ◌∷◌, ◌++◌, length, if◌then◌else◌}
use Rattle.gw_model.specs.declared.observation.Observation.{Observation}
use Rattle.gw_entries.specs.Setup.{StationSetup}
use Rattle.gw_answers.specs.Meaning.{Meant, Tells, Commands, Unread}
use Rattle.gw_steps.specs.Said.{ApduMeaning, IFormat, SFormat, UFormat}
use Rattle.law_history.specs.Life.{Turn, Idle, PutsOut}

-- ---- news that are put out

-- the observations of an ASDU of cause 3 (spontaneous)
abbrev pub spontaneous_of : Meant → List Observation
spontaneous_of (Tells asdu) = if asdu.cause == 3 then asdu.observations else []
spontaneous_of (Commands command) = []
spontaneous_of (Unread octets) = []

abbrev pub spontaneous_in : ApduMeaning → List Observation
spontaneous_in (IFormat ns nr meant) = spontaneous_of meant
spontaneous_in (SFormat nr) = []
spontaneous_in (UFormat signal) = []

-- ---- fates

pub data Fate : Type 0 where
  Queued : Fate
  PutOut : Fate
  Dropped : Fate

pub record Element : Type 0 where
  pub item : Observation
  pub fate : Fate

abbrev pub is_queued : Fate → Bool
is_queued Queued = true
is_queued PutOut = false
is_queued Dropped = false

abbrev pub is_put_out : Fate → Bool
is_put_out PutOut = true
is_put_out Queued = false
is_put_out Dropped = false

abbrev pub is_dropped : Fate → Bool
is_dropped Dropped = true
is_dropped Queued = false
is_dropped PutOut = false

abbrev pub is_kept : Fate → Bool
is_kept Dropped = false
is_kept Queued = true
is_kept PutOut = true

-- an element that wasn't put out is dropped
abbrev pub dropped_fate : Fate → Fate
dropped_fate PutOut = PutOut
dropped_fate Queued = Dropped
dropped_fate Dropped = Dropped

-- of the first n elements those that weren't put out are dropped
abbrev pub lapse_first : ℕ → List Element → List Element
lapse_first zero es = es
lapse_first (suc n) [] = []
lapse_first (suc n) (e ∷ es) = record e { fate = dropped_fate e.fate } ∷ lapse_first n es

-- element i is dropped unless it was put out when element i + limit comes
abbrev pub lapse : ℕ → List Element → List Element
lapse limit es = lapse_first (length es + 1 - limit) es

-- the oldest element that is queued is put out
abbrev pub use_up : List Element → List Element
use_up [] = []
use_up (e ∷ es) = if is_queued e.fate then record e { fate = PutOut } ∷ es else e ∷ use_up es

-- news came, of which so many may wait
abbrev pub fates_with_news : ℕ → List Element → List Observation → List Element
fates_with_news limit es [] = es
fates_with_news limit es (x ∷ xs) = fates_with_news limit (lapse limit es ++ record { item = x; fate = Queued } ∷ []) xs

-- as many as these were put out, the oldest first
abbrev pub fates_with_put_out : List Element → List Observation → List Element
fates_with_put_out es [] = es
fates_with_put_out es (x ∷ xs) = fates_with_put_out (use_up es) xs

-- the observations whose fate passes a test, in order
abbrev pub items_of : (Fate → Bool) → List Element → List Observation
items_of p [] = []
items_of p (e ∷ es) = if p e.fate then e.item ∷ items_of p es else items_of p es

-- ---- the news of a session

-- of those that came in its turns
abbrev pub fates : StationSetup → List Turn → List Element
fates station [] = []
fates station (Idle brought ∷ ts) = fates_with_news station.queue (fates station ts) brought.news
fates station (PutsOut said ∷ ts) = fates_with_put_out (fates station ts) (spontaneous_in said)
fates station (_ ∷ ts) = fates station ts

-- the observations that were put out, in order
abbrev pub gone : StationSetup → List Turn → List Observation
gone station [] = []
gone station (PutsOut said ∷ ts) = gone station ts ++ spontaneous_in said
gone station (_ ∷ ts) = gone station ts
