-- The image of a report by its row, and when it is news.
use Rattle.std.proofs.Common.{◌≡◌, ℕ, ◌<◌, true, false, not, List, [], ◌∷◌, length, get_or, refl}
use Rattle.std.specs.Prelude.{slice_get}
use Rattle.std.proofs.lemmas.Bool.{and_parts, or_parts, not-false}
use Rattle.gw_model.specs.declared.point.Raw.{Raw}
use Rattle.gw_model.specs.declared.point.Raw.TheVariants.{Bit, Two, Count, Number}
use Rattle.gw_model.specs.declared.point.Report.{Report}
use Rattle.gw_model.specs.declared.point.Stamp.{Stamp}
use Rattle.gw_model.specs.declared.point.Stamp.TheVariants.{Untimed}
use Rattle.gw_entries.specs.declared.row.Row.{Row}
use Rattle.gw_entries.specs.declared.row.Scale.{Scale}
use Rattle.gw_entries.specs.declared.row.Show.{Show}
use Rattle.gw_entries.specs.declared.row.Show.TheVariants as shows
use Rattle.gw_model.specs.declared.observation.Value.{Value}
use Rattle.gw_model.specs.declared.observation.Quality.{Quality}
use Rattle.gw_model.specs.declared.observation.Observation.{Observation}
use Rattle.gw_model.specs.declared.point.ObjectKey.{ObjectKey}
use Rattle.gw_model.specs.Keys.{object_of, same_value, same_quality, same_shown}
use Rattle.gw_map.specs.Settings.{row_object}
use Rattle.gw_model.proofs.Same.{same_value-true, same_quality-true}
use Rattle.gw_model.specs.Clocks.{Clocks}
use Rattle.gw_translate.specs.Quality.{quality_of}
use Rattle.gw_translate.specs.Image.{image_of, observation_of, raw_image, stamp_image, is_news_of}
use Rattle.gw_picture.specs.Picture.{news_after, without_time}
use Rattle.gw_picture.proofs.Lists.{get_some}

-- an image is of its row's object
raw_object : (show : Show) (scale : Scale) (raw : Raw) (q : Quality) (object : ObjectKey) (stamp : Stamp)
    → object_of (raw_image show scale raw q object stamp) ≡ object
raw_object show scale (Bit on) q object stamp = refl
raw_object show scale (Two state) q object stamp = refl
raw_object show scale (Count n) q object stamp = refl
raw_object shows.Word scale (Number z) q object stamp = refl
raw_object _ scale (Number z) q object stamp = refl

pub image_object : (clocks : Clocks) (row : Row) (r : Report) → object_of (image_of clocks row r) ≡ row_object row
image_object clocks row r =
    raw_object row.show row.scale r.raw (quality_of r.key.kind r.flags) (row_object row) (stamp_image clocks r.stamp)

observations_equal : (a b : ObjectKey) (v w : Value) (q p : Quality) (s t : Stamp) → a ≡ b → v ≡ w → q ≡ p → s ≡ t
    → observation_of a v q s ≡ observation_of b w p t
observations_equal a b v w q p s t ea ev eq es = cc

-- an image that is no news is what was shown before, but for its time
pub no_news : (r : Report) (before image : Observation) → is_news_of r before image ≡ false
    → object_of before ≡ object_of image → before.stamp ≡ Untimed → before ≡ without_time image
no_news r before image e ea es =
    let parts = or_parts r.event (not (same_shown before image)) e in
    let same = not-false (same_shown before image) parts.1 in
    let both = and_parts (same_value before.value image.value) (same_quality before.quality image.quality) same in
    observations_equal (object_of before) (object_of image) before.value image.value before.quality image.quality before.stamp
    Untimed ea (same_value-true _ _ both.0) (same_quality-true _ _ both.1) es

pub news_true : (r : Report) (xs : List Observation) (n : ℕ) (d image : Observation) → n < length xs
    → is_news_of r (get_or xs n d) image ≡ true
    → image ∷ [] ≡ news_after r (slice_get xs n) image
news_true r xs n d image lt e = rw (get_some xs n d lt, e) refl

pub news_false : (r : Report) (xs : List Observation) (n : ℕ) (d image : Observation) → n < length xs
    → is_news_of r (get_or xs n d) image ≡ false
    → [] ≡ news_after r (slice_get xs n) image
news_false r xs n d image lt e = rw (get_some xs n d lt, e) refl
