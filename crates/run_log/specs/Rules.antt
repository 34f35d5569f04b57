-- The rule of the log, and what its steps tell. A log is oldest first, and a past is a log newest first.
use Rattle.std.specs.Prelude.{ℕ, ◌≡◌, ◌≤◌, ◌+◌, ◌==◌, cond, true, false, List, []}
use Rattle.std.specs.Prelude.{◌∷◌, ◌++◌, length, reverse, Option, Some, None, filter_map}
use mathlib.Core.List.{IsPrefix}
use Rattle.logbook.specs.Pages.{Cell, cell, Step, View, Book, Named, may_make, may_write}
use Rattle.logbook.specs.declared.tokens.Pen.{Pen}
use Rattle.run_log.specs.declared.link.Link.{Link}
use Rattle.run_log.specs.declared.link.Link.TheVariants.{Begun, Turn, Visited}

abbrev pub entry_in : {E : Type 0} → Link E → Option (ℕ × E)
entry_in (Begun lane own next) = None
entry_in (Turn lane own) = None
entry_in (Visited lane None next) = None
entry_in (Visited lane (Some entry) next) = Some (lane, entry)

abbrev pub lane_in : {E : Type 0} → Link E → Option ℕ
lane_in (Begun lane own next) = Some lane
lane_in (Turn lane own) = None
lane_in (Visited lane entry next) = None

-- the cell that it names for the end
abbrev pub head_key : {E : Type 0} → Link E → Option ℕ
head_key (Begun lane own next) = Some next
head_key (Turn lane own) = None
head_key (Visited lane entry next) = Some next

-- the cell that it names for this lane
abbrev pub lane_key : {E : Type 0} → ℕ → Link E → Option ℕ
lane_key lane (Begun other own next) = cond (lane == other) (Some own) None
lane_key lane (Turn other own) = cond (lane == other) (Some own) None
lane_key lane (Visited other entry next) = None

-- the cell that it names for the end, where this lane visited it
abbrev pub visit_in : {E : Type 0} → ℕ → Link E → Option ℕ
visit_in lane (Begun other own next) = None
visit_in lane (Turn other own) = None
visit_in lane (Visited other entry next) = cond (lane == other) (Some next) None

-- the entries themselves, each with its lane
abbrev pub entries_in : {E : Type 0} → List (Link E) → List (ℕ × E)
entries_in past = filter_map entry_in past

-- what a visit adds goes first, if it adds an entry
abbrev pub with_entry : {E : Type 0} → ℕ → Option E → List (ℕ × E) → List (ℕ × E)
with_entry lane None log = log
with_entry lane (Some entry) log = (lane, entry) ∷ log

-- how many lanes were begun
abbrev pub lanes_in : {E : Type 0} → List (Link E) → ℕ
lanes_in past = length (filter_map lane_in past)

-- the cells that were named for the end, of which the first is 2
abbrev pub head_keys : {E : Type 0} → List (Link E) → List ℕ
head_keys past = filter_map head_key past ++ 2 ∷ []

-- the cells that were named for a lane
abbrev pub lane_keys : {E : Type 0} → ℕ → List (Link E) → List ℕ
lane_keys lane past = filter_map (lane_key lane) past

-- a lane's visits of the end, each by the cell that it named
abbrev pub visits : {E : Type 0} → ℕ → List (Link E) → List ℕ
visits lane past = filter_map (visit_in lane) past

abbrev pub newest : List ℕ → ℕ
newest [] = 0
newest (key ∷ keys) = key

abbrev pub older : List ℕ → List ℕ
older [] = []
older (key ∷ keys) = keys

abbrev pub AreHome : List Cell → List ℕ → Type 0
AreHome cells [] = Unit {0}
AreHome cells (key ∷ keys) = ((cell cells key).1 ≡ true) × AreHome cells keys

-- of a lane, the cells but the newest are at home, and there are no more visits than these; before it is begun it has
-- no cells
pub record IsKeptLane (cells : List Cell) (lanes lane : ℕ) (keys visited : List ℕ) : Type 0 where
  pub home : AreHome cells (older keys)
  pub turns : length visited ≤ length (older keys)
  pub begun : lanes ≤ lane → keys ≡ []

-- the cells that were named for the end, but the newest, are at home; and each lane is kept
pub record IsKeptPast {E : Type 0} (cells : List Cell) (past : List (Link E)) : Type 0 where
  pub home : AreHome cells (older (head_keys past))
  pub lanes : (lane : ℕ) → IsKeptLane cells (lanes_in past) lane (lane_keys lane past) (visits lane past)

-- the word is at home; while it is 0 nothing was added
pub record IsKept {E : Type 0} (cells : List Cell) (log : List (Link E)) : Type 0 where
  pub word : (cell cells 0).1 ≡ true
  pub fresh : (cell cells 0).0 ≡ 0 → (length cells ≡ 2) × (log ≡ [])
  pub past : IsKeptPast cells (reverse log)

abbrev pub head_of : Book → Named
head_of b = record { tracked = true; key = 0; book = b }

-- the pen of the cell with this key, which isn't at home
abbrev pub IsPenOf : Book → ℕ → Pen → Type 0
IsPenOf book key pen = (pen.book ≡ book) × (pen.nib.right ≡ may_write) × (pen.nib.key ≡ key)

-- the lane of the newest link
abbrev pub lane_of : {E : Type 0} → List (Link E) → ℕ
lane_of [] = 0
lane_of (Begun lane own next ∷ past) = lane
lane_of (Turn lane own ∷ past) = lane
lane_of (Visited lane entry next ∷ past) = lane

-- own is the past after the last turn of a lane, and seen what is known of the log: the pen is that of the newest cell
-- of the lane, which has one cell more than it has visits
pub record HasTurn {E : Type 0} (book : Book) (own seen : List (Link E)) (pen : Pen) : Type 0 where
  pub is_pen : IsPenOf book (newest (lane_keys (lane_of own) own)) pen
  pub turns : length (lane_keys (lane_of own) own) ≡ length (visits (lane_of own) seen) + 1

-- a cell was added; where nothing had been before, it is the first
abbrev pub Reserves : {E : Type 0} → Step (Link E) → View (Link E) ℕ → ℕ → View (Link E) ℕ → Type 0
Reserves s v found w = (w.1.0.right ≡ may_make) × (found ≡ 0 → (w.1.0.key ≡ 2) × (w.0 ≡ []))

-- the link was added to a log that was kept and begins with what had been seen, while the cell of the pen was away
pub record Adds {E : Type 0} (s : Step (Link E)) (v : View (Link E) ℕ) (found : ℕ) (w : View (Link E) ℕ) : Type 0 where
  pub cells : List Cell
  pub log : List (Link E)
  pub seen : IsPrefix v.0 log
  pub kept : IsKeptPast cells (reverse log)
  pub away : (cell cells v.1.0.key).1 ≡ false
  pub is : w.0 ≡ log ++ s.ask ∷ []
