-- Pictures and the news of reports, by the picture as it is when each image comes. Clocks are clocks minutes ahead of
-- UTC.
use Rattle.std.specs.Prelude.{ℕ, List, [], ◌∷◌, ◌++◌, Option, Some, None, slice_get, ◌==◌, if◌then◌else◌}
use Rattle.gw_model.specs.declared.point.Report.{Report}
use Rattle.gw_model.specs.declared.point.Stamp.TheVariants.{Untimed}
use Rattle.gw_entries.specs.declared.row.Row.{Row}
use Rattle.gw_model.specs.declared.observation.Observation.{Observation}
use Rattle.gw_map.specs.Settings.{row_from}
use Rattle.gw_translate.specs.Image.{image_of, is_news_of}
use Rattle.gw_model.specs.Places.{change}
use Rattle.gw_model.specs.Clocks.{Clocks}

-- an observation without its time, as a picture shows it
abbrev pub without_time : Observation → Observation
without_time x = record x { stamp = Untimed }

-- the image of a report where it is news after what was shown before
abbrev pub news_after : Report → Option Observation → Observation → List Observation
news_after r None image = []
news_after r (Some before) image = if is_news_of r before image then image ∷ [] else []

-- a report's news by a picture; none for a point without a row
abbrev pub news_by_row : Clocks → List Observation → Report → Option (ℕ × Row) → List Observation
news_by_row clocks picture r None = []
news_by_row clocks picture r (Some found) = news_after r (slice_get picture found.0) (image_of clocks found.1 r)

abbrev pub news_of_report : Clocks → List Row → List Observation → Report → List Observation
news_of_report clocks rows picture r = news_by_row clocks picture r (row_from 0 r.key rows)

-- the picture after a report
abbrev pub picture_by_row : Clocks → List Observation → Report → Option (ℕ × Row) → List Observation
picture_by_row clocks picture r None = picture
picture_by_row clocks picture r (Some found) = change found.0 (λ _. without_time (image_of clocks found.1 r)) picture

abbrev pub picture_after_report : Clocks → List Row → List Observation → Report → List Observation
picture_after_report clocks rows picture r = picture_by_row clocks picture r (row_from 0 r.key rows)

-- of reports taken in turn: their news, and the picture after them
abbrev pub news_of : Clocks → List Row → List Observation → List Report → List Observation
news_of clocks rows picture [] = []
news_of clocks rows picture (r ∷ rs) =
    news_of_report clocks rows picture r ++ news_of clocks rows (picture_after_report clocks rows picture r) rs

abbrev pub picture_after : Clocks → List Row → List Observation → List Report → List Observation
picture_after clocks rows picture [] = picture
picture_after clocks rows picture (r ∷ rs) =
    picture_after clocks rows (picture_after_report clocks rows picture r) rs

-- what is shown at a place after a report, and after reports taken in turn
abbrev pub observation_after_report : Clocks → Report → ℕ → Observation → Option (ℕ × Row) → Observation
observation_after_report clocks r position shown None = shown
observation_after_report clocks r position shown (Some found) =
    if found.0 == position then without_time (image_of clocks found.1 r) else shown

abbrev pub observation_after : Clocks → List Row → ℕ → Observation → List Report → Observation
observation_after clocks rows position shown [] = shown
observation_after clocks rows position shown (r ∷ rs) =
    observation_after clocks rows position (observation_after_report clocks r position shown (row_from 0 r.key rows)) rs
