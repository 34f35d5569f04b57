-- What is shown of an outstation's points once it is lost: what was shown last, not topical (NT).
-- A binary counter reading
-- has no NT (IEC 60870-5-101, 7.2.6.9): its IV says so.
use Rattle.std.specs.Prelude.{ℕ, ◌==◌, Bool, true, ◌&&◌, not, List, [], ◌∷◌}
use Rattle.std.specs.Prelude.{◌++◌, Option, Some, None, slice_get, if◌then◌else◌}
use Rattle.gw_model.specs.declared.point.Stamp.TheVariants.{Untimed}
use Rattle.gw_entries.specs.declared.row.Row.{Row}
use Rattle.gw_model.specs.declared.observation.Value.{Value}
use Rattle.gw_model.specs.declared.observation.Quality.{Quality}
use Rattle.gw_model.specs.declared.observation.Observation.{Observation}
use Rattle.gw_model.specs.Places.{change}
use Rattle.gw_model.specs.Values.{is_total}

abbrev pub quality_lost : Value → Quality → Quality
quality_lost value q = if is_total value then record q { iv = true } else record q { nt = true }

-- the quality says so already
abbrev pub tells_loss : Value → Quality → Bool
tells_loss value q = if is_total value then q.iv else q.nt

abbrev pub lost : Observation → Observation
lost x = record x { quality = quality_lost x.value x.quality; stamp = Untimed }

-- the row is of a lost outstation, and what is shown of it doesn't say so
abbrev pub is_lost_with : ℕ → Row → Observation → Bool
is_lost_with outstation row x = (row.key.outstation == outstation) && not (tells_loss x.value x.quality)

-- what a loss is for a row, and what is shown of it then
abbrev pub losses_of_row : ℕ → Row → Observation → List Observation
losses_of_row outstation row x = if is_lost_with outstation row x then lost x ∷ [] else []

abbrev pub shown_after_loss : ℕ → Row → Observation → Observation
shown_after_loss outstation row x = if is_lost_with outstation row x then lost x else x

-- the observations of a loss, in the order of the rows, and the picture after them
abbrev pub losses_of : ℕ → List Row → List Observation → List Observation
losses_of outstation [] picture = []
losses_of outstation (row ∷ rows) [] = []
losses_of outstation (row ∷ rows) (x ∷ picture) = losses_of_row outstation row x ++ losses_of outstation rows picture

abbrev pub picture_after_loss : ℕ → List Row → List Observation → List Observation
picture_after_loss outstation [] picture = picture
picture_after_loss outstation (row ∷ rows) [] = []
picture_after_loss outstation (row ∷ rows) (x ∷ picture) =
    shown_after_loss outstation row x ∷ picture_after_loss outstation rows picture

-- ---- one row's place

-- of a row and what is shown of it: no loss where there is no such row, or nothing is shown there
abbrev pub losses_of_both : ℕ → Option Row → Option Observation → List Observation
losses_of_both outstation None shown = []
losses_of_both outstation (Some row) None = []
losses_of_both outstation (Some row) (Some x) = losses_of_row outstation row x

-- what is shown at a place then, where a row has the place
abbrev pub shown_at_loss : ℕ → Option Row → Observation → Observation
shown_at_loss outstation None x = x
shown_at_loss outstation (Some row) x = shown_after_loss outstation row x

-- what a loss is for the row at a place alone, and the picture after that
abbrev pub losses_at : ℕ → List Row → List Observation → ℕ → List Observation
losses_at outstation rows picture n = losses_of_both outstation (slice_get rows n) (slice_get picture n)

abbrev pub picture_losing_at : ℕ → List Row → List Observation → ℕ → List Observation
picture_losing_at outstation rows picture n = change n (shown_at_loss outstation (slice_get rows n)) picture
