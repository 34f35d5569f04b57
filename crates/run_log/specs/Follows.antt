-- What is known of a log, newest first. Each entry stands beside the lane that it was added to.
use Rattle.std.specs.Prelude.{ℕ, ◌≡◌, ◌==◌, cond, List, [], ◌++◌, Option, Some, None, filter_map}

-- all of it: how many lanes were begun, and what was added
pub record Whole (E : Type 0) : Type 0 where
  pub lanes : ℕ
  pub log : List (ℕ × E)

-- what a lane's holder knows: which lane it is, and a beginning of the log
pub record Known (E : Type 0) : Type 0 where
  pub lane : ℕ
  pub log : List (ℕ × E)

abbrev pub in_lane : {E : Type 0} → ℕ → ℕ × E → Option E
in_lane lane e = cond (lane == e.0) (Some e.1) None

-- the entries of one lane
abbrev pub of_lane : {E : Type 0} → ℕ → List (ℕ × E) → List E
of_lane lane log = filter_map (in_lane lane) log

-- the later one has the same oldest entries, and those that came after them are of other lanes
pub record Follows {E : Type 0} (lane : ℕ) (past later : List (ℕ × E)) : Type 0 where
  pub newer : List (ℕ × E)
  pub is : later ≡ newer ++ past
  pub apart : of_lane lane newer ≡ []
