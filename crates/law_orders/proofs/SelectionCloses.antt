-- The sessions that a tick ends: those of the clients that it closes, as the bits of its reply tell.
use Rattle.std.proofs.Common.{◌≡◌, ℕ, zero, suc, Bool, true, false, ◌&&◌, List}
use Rattle.std.proofs.Common.{[], ◌∷◌, Option, Some, None, refl, ap, ◌∙◌}
use Rattle.std.specs.Prelude.{◌==◌, slice_get, if◌then◌else◌}
use Rattle.gw_model.specs.declared.control.Ended.{Ended}
use Rattle.gw_control.specs.Controls.{Controls, controls_after_end, controls_after_lost}
use Rattle.gw_control.specs.Held.{controls_after_losses}
use Rattle.gw_steps.specs.Controls.{controls_after_all_ended, controls_after_closes, controls_with_ended}
use Rattle.gw_steps.specs.Steps.{bits_of}
use Rattle.law_history.specs.Life.{has_bit}
use Rattle.law_history.proofs.Bits.{closing, closing_bit}
use Rattle.law_orders.proofs.Opened.{Leaves, both_leave, end_leaves, leaves_as, still_leaves}

-- ---- clients that are closed

one_leaves : (n : ℕ) (b : Bool) (v : Controls)
    → Leaves (λ c. b && (c == n)) v (if b then controls_after_end n v else v)
one_leaves n true v = end_leaves n v
one_leaves n false v = still_leaves v v refl refl

closes_leave : (n : ℕ) (bs : List Bool) (v : Controls) → Leaves (closing n bs) v (controls_after_closes n bs v)
closes_leave n [] v = still_leaves v v refl refl
closes_leave n (b ∷ more) v =
    both_leave (λ c. b && (c == n)) (closing (suc n) more) v (if b then controls_after_end n v else v)
    (controls_after_closes (suc n) more (if b then controls_after_end n v else v)) (one_leaves n b v)
    (closes_leave (suc n) more (if b then controls_after_end n v else v))

-- ---- orders that end leave sessions and selections alone

pub ended_sessions : (o : ℕ) (e : Option Ended) (v : Controls) → (controls_with_ended o e v).sessions ≡ v.sessions
ended_sessions o None v = refl
ended_sessions o (Some e) v = refl

pub ended_selections : (o : ℕ) (e : Option Ended) (v : Controls)
    → (controls_with_ended o e v).selections ≡ v.selections
ended_selections o None v = refl
ended_selections o (Some e) v = refl

all_ended_sessions : (o : ℕ) (es : List (Option Ended)) (v : Controls)
    → (controls_after_all_ended o es v).sessions ≡ v.sessions
all_ended_sessions o [] v = refl
all_ended_sessions o (e ∷ more) v =
    all_ended_sessions (suc o) more (controls_with_ended o e v) ∙ ended_sessions o e v

all_ended_selections : (o : ℕ) (es : List (Option Ended)) (v : Controls)
    → (controls_after_all_ended o es v).selections ≡ v.selections
all_ended_selections o [] v = refl
all_ended_selections o (e ∷ more) v =
    all_ended_selections (suc o) more (controls_with_ended o e v) ∙ ended_selections o e v

pub lost_sessions : (n o : ℕ) (v : Controls) → (controls_after_losses n o v).sessions ≡ v.sessions
lost_sessions zero o v = refl
lost_sessions (suc n) o v = lost_sessions n o (controls_after_lost o v)

pub lost_selections : (n o : ℕ) (v : Controls) → (controls_after_losses n o v).selections ≡ v.selections
lost_selections zero o v = refl
lost_selections (suc n) o v = lost_selections n o (controls_after_lost o v)

-- ---- a tick

pub tick_leaves : (bs : List Bool) (es : List (Option Ended)) (v : Controls)
    → Leaves (λ c. has_bit c (bits_of bs)) v (controls_after_all_ended 0 es (controls_after_closes 0 bs v))
tick_leaves bs es v =
    let w : Controls = controls_after_closes 0 bs v in
    let u : Controls = controls_after_all_ended 0 es w in
    let closes : Leaves (λ c. has_bit c (bits_of bs)) v w =
    leaves_as (closing 0 bs) (λ c. has_bit c (bits_of bs)) v w
    (closing_bit bs) (closes_leave 0 bs v) in
    record {
      sessions = λ c. ap (λ (xs : List (Option ℕ)). slice_get xs c) (all_ended_sessions 0 es w) ∙ closes.sessions c;
      selections = all_ended_selections 0 es w ∙ closes.selections;
    }
