-- Short words for the worked examples.
use Rattle.std.specs.Prelude.{◌≡◌, ℕ, ◌-◌, ◌+◌, List, Ok}
use Rattle.gw_model.specs.Clocks.{Clocks}
use Rattle.gw_model.specs.declared.point.Stamp.TheVariants.{At}
use Rattle.gw_time.specs.Tag.{tag_meaning}
use Rattle.gw_time.specs.Window.{IsFrom2000To2099}

-- the first instant with a tag, which this tag means
abbrev pub IsFirst : Clocks → ℕ → List ℕ → Type 0
IsFirst clocks t tag =
    IsFrom2000To2099 clocks t × (¬ IsFrom2000To2099 clocks (t - 1)) × (tag_meaning clocks tag ≡ Ok (At t))

-- the last instant with a tag, which this tag means
abbrev pub IsLast : Clocks → ℕ → List ℕ → Type 0
IsLast clocks t tag =
    IsFrom2000To2099 clocks t × (¬ IsFrom2000To2099 clocks (t + 1)) × (tag_meaning clocks tag ≡ Ok (At t))
