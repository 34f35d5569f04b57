-- Cells that are at home.
use Rattle.std.proofs.Common.{◌≡◌, ℕ, zero, suc, ◌<◌, true, false, List}
use Rattle.std.proofs.Common.{[], ◌∷◌, ◌++◌, length, refl, sym, ◌∙◌, arith}
use Rattle.std.specs.Prelude.{slice_set}
use Rattle.std.proofs.lemmas.Bool.{true≢false}
use Rattle.logbook.specs.Pages.{Cell, cell}
use Rattle.run_log.specs.Rules.{AreHome, newest, older}

abbrev pub IsHome : List Cell → ℕ → Type 0
IsHome cs k = (cell cs k).1 ≡ true

-- what was at home still is
abbrev pub Still : List Cell → List Cell → Type 0
Still cs new = (j : ℕ) → IsHome cs j → IsHome new j

pub set_home : (cs : List Cell) (k n : ℕ) → Still cs (slice_set cs k (n, true))
set_home [] k n j h = absurd (true≢false (sym h))
set_home (c ∷ cs) zero n zero h = refl
set_home (c ∷ cs) zero n (suc j) h = h
set_home (c ∷ cs) (suc k) n zero h = h
set_home (c ∷ cs) (suc k) n (suc j) h = set_home cs k n j h

pub set_here : (cs : List Cell) (k n : ℕ) → k < length cs → IsHome (slice_set cs k (n, true)) k
set_here [] k n less = absurd (omega arith)
set_here (c ∷ cs) zero n less = refl
set_here (c ∷ cs) (suc k) n less = set_here cs k n (omega arith)

pub append_home : (cs more : List Cell) → Still cs (cs ++ more)
append_home [] more j h = absurd (true≢false (sym h))
append_home (c ∷ cs) more zero h = h
append_home (c ∷ cs) more (suc j) h = append_home cs more j h

pub still_home : (cs new : List Cell) → Still cs new → (keys : List ℕ) → AreHome cs keys → AreHome new keys
still_home cs new still [] all = tt
still_home cs new still (key ∷ keys) all = (still key all.0, still_home cs new still keys all.1)

-- the newest comes home, and one more is named
pub all_home : (cs new : List Cell) → Still cs new → (keys : List ℕ) → AreHome cs (older keys) → IsHome new (newest keys)
    → AreHome new keys
all_home cs new still [] all here = tt
all_home cs new still (key ∷ keys) all here = (here, still_home cs new still keys all)

home_at : (cs : List Cell) (more keys : List ℕ) (key : ℕ) → AreHome cs (more ++ key ∷ keys) → IsHome cs key
home_at cs [] keys key all = all.0
home_at cs (k ∷ more) keys key all = home_at cs more keys key all.1

-- who knows that a cell isn't at home, which was once the newest, knows that none was named since
pub whole : (cs : List Cell) (more keys : List ℕ) → 0 < length keys → AreHome cs (older (more ++ keys))
    → (cell cs (newest keys)).1 ≡ false → more ≡ []
whole cs [] keys some all away = refl
whole cs (k ∷ more) [] some all away = absurd (omega arith)
whole cs (k ∷ more) (key ∷ keys) some all away = absurd (true≢false (sym (home_at cs more keys key all) ∙ away))
