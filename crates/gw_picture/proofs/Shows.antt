-- What is shown can be sent: at first, and after a report and a loss.
use Rattle.std.proofs.Common.{◌≡◌, ℕ, zero, suc, Bool, true, false, cond, List, []}
use Rattle.std.proofs.Common.{◌∷◌, map, Option, Some, None, refl, sym, subst, arith}
use Rattle.std.specs.Prelude.{pos, slice_get, IsTrue, IfSome}
use Rattle.std.specs.List.{AllByRecursion}
use Rattle.std.specs.Option.{option_to_list}
use Rattle.gw_entries.specs.declared.row.Row.{Row}
use Rattle.gw_entries.specs.declared.row.Show.{Show}
use Rattle.gw_entries.specs.declared.row.Show.TheVariants as shows
use Rattle.gw_model.specs.declared.observation.Value.{Value}
use Rattle.gw_model.specs.declared.observation.Value.TheVariants.{Scaled, Total}
use Rattle.gw_model.specs.declared.observation.Quality.{Quality}
use Rattle.gw_model.specs.declared.observation.Observation.{Observation}
use Rattle.gw_model.specs.Fit.{is_of_element, HasWidth, IsFit, IsInWindow}
use Rattle.gw_model.specs.Places.{change}
use Rattle.gw_model.specs.Clocks.{Clocks}
use Rattle.gw_picture.specs.Opening.{opening, value_at_first, quality_at_first}
use Rattle.gw_picture.specs.Picture.{without_time}
use Rattle.gw_picture.specs.Loss.{quality_lost, lost, is_lost_with, losses_of_row, shown_after_loss}
use Rattle.gw_picture.specs.Loss.{losses_of_both, shown_at_loss, losses_at, picture_losing_at, picture_after_loss}
use Rattle.gw_picture.specs.Shown.{IsShown}
use Rattle.gw_picture.proofs.Rows.{all_get, all_change}

-- ---- at first

opening_element : (show : Show) → IsTrue (is_of_element (value_at_first show) (quality_at_first show))
opening_element shows.Total = refl
opening_element _ = refl

zero_fits : HasWidth (Scaled (pos 0))
zero_fits = omega arith

opening_width : (show : Show) → HasWidth (value_at_first show)
opening_width shows.Single = tt
opening_width shows.Double = tt
opening_width shows.Scaled = zero_fits
opening_width shows.Word = omega arith
opening_width shows.Total = omega arith

all_opening : (rows : List Row) → AllByRecursion IsShown (map opening rows)
all_opening [] = tt
all_opening (row ∷ rows) = (
  record {
    common = (row.common_from, row.common_to);
    address = (row.from, row.to);
    element = opening_element row.show;
    width = opening_width row.show;
    untimed = refl;
  },
  all_opening rows,
)

pub opening_shown : (rows : List Row) (picture : List Observation) → picture ≡ map opening rows
    → AllByRecursion IsShown picture
opening_shown rows picture e = subst (AllByRecursion IsShown) (sym e) (all_opening rows)

-- ---- after a report

pub image_shown : (clocks : Clocks) (n : ℕ) (image : Observation) (picture : List Observation) → IsFit clocks image
    → HasWidth image.value → AllByRecursion IsShown picture
    → AllByRecursion IsShown (change n (λ _. without_time image) picture)
image_shown clocks n image picture fit width all =
    all_change IsShown n (without_time image) picture
    (record { common = fit.common; address = fit.address; element = fit.element; width = width; untimed = refl }) all

-- ---- after a loss

lost_element : (value : Value) (q : Quality) → IsTrue (is_of_element value q)
    → IsTrue (is_of_element value (quality_lost value q))
lost_element (Total count) q e = e
lost_element _ q e = e

lost_shown : (x : Observation) → IsShown x → IsShown (lost x)
lost_shown x is = record {
  common = is.common;
  address = is.address;
  element = lost_element x.value x.quality is.element;
  width = is.width;
  untimed = refl;
}

row_shown : (outstation : ℕ) (row : Row) (x : Observation) → IsShown x → IsShown (shown_after_loss outstation row x)
row_shown outstation row x is = go (is_lost_with outstation row x)
  where
    go : (b : Bool) → IsShown (cond b (lost x) x)
    go true = lost_shown x is
    go false = is

-- all that is shown
pub loss_shown : (outstation : ℕ) (rows : List Row) (picture : List Observation) → AllByRecursion IsShown picture
    → AllByRecursion IsShown (picture_after_loss outstation rows picture)
loss_shown outstation [] picture all = all
loss_shown outstation (row ∷ rows) [] all = tt
loss_shown outstation (row ∷ rows) (x ∷ picture) all =
    (row_shown outstation row x all.0, loss_shown outstation rows picture all.1)

row_losses : (outstation : ℕ) (row : Row) (x : Observation) → IsShown x
    → AllByRecursion IsShown (losses_of_row outstation row x)
row_losses outstation row x is = go (is_lost_with outstation row x)
  where
    go : (b : Bool) → AllByRecursion IsShown (cond b (lost x ∷ []) [])
    go true = (lost_shown x is, tt)
    go false = tt

place_shown : (outstation : ℕ) (row : Option Row) (x : Observation) → IsShown x
    → IsShown (shown_at_loss outstation row x)
place_shown outstation None x is = is
place_shown outstation (Some row) x is = row_shown outstation row x is

changed_shown : (n : ℕ) (f : Observation → Observation) (picture : List Observation)
    → ((x : Observation) → IsShown x → IsShown (f x)) → AllByRecursion IsShown picture
    → AllByRecursion IsShown (change n f picture)
changed_shown n f [] keeps all = tt
changed_shown zero f (x ∷ picture) keeps all = (keeps x all.0, all.1)
changed_shown (suc n) f (x ∷ picture) keeps all = (all.0, changed_shown n f picture keeps all.1)

pub losing_shown : (outstation : ℕ) (rows : List Row) (picture new : List Observation) (n : ℕ)
    → new ≡ picture_losing_at outstation rows picture n
    → AllByRecursion IsShown picture → AllByRecursion IsShown new
losing_shown outstation rows picture new n e all =
    subst (AllByRecursion IsShown) (sym e) (changed_shown n (shown_at_loss outstation (slice_get rows n)) picture
    (place_shown outstation (slice_get rows n)) all)

both_losses : (outstation : ℕ) (row : Option Row) (shown : Option Observation)
    → ((x : Observation) → shown ≡ Some x → IsShown x)
    → AllByRecursion IsShown (losses_of_both outstation row shown)
both_losses outstation None shown is = tt
both_losses outstation (Some row) None is = tt
both_losses outstation (Some row) (Some x) is = row_losses outstation row x (is x refl)

losses_shown : (outstation : ℕ) (rows : List Row) (picture : List Observation) (n : ℕ) → AllByRecursion IsShown picture
    → AllByRecursion IsShown (losses_at outstation rows picture n)
losses_shown outstation rows picture n all = both_losses outstation (slice_get rows n) (slice_get picture n)
    (λ (x : Observation) at. all_get IsShown picture n x all at)

-- ---- what is shown can be sent, whatever the clocks

pub shown_fit : (clocks : Clocks) (x : Observation) → IsShown x → IsFit clocks x
shown_fit clocks x is =
    record { common = is.common; address = is.address; element = is.element; stamp = subst (IsInWindow clocks) (sym is.untimed) tt }

option_fit : (clocks : Clocks) (result : Option Observation) (xs : List Observation) → option_to_list result ≡ xs
    → AllByRecursion IsShown xs → IfSome result (IsFit clocks)
option_fit clocks None xs e all = tt
option_fit clocks (Some x) xs e all =
    let one : AllByRecursion IsShown (x ∷ []) = subst (AllByRecursion IsShown) (sym e) all in
    shown_fit clocks x one.0

pub loss_fit : (outstation : ℕ) (rows : List Row) (picture : List Observation) (n : ℕ) (result : Option Observation)
    → option_to_list result ≡ losses_at outstation rows picture n
    → AllByRecursion IsShown picture → (clocks : Clocks) → IfSome result (IsFit clocks)
loss_fit outstation rows picture n result e all clocks =
    option_fit clocks result (losses_at outstation rows picture n) e (losses_shown outstation rows picture n all)
