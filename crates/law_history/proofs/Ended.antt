-- What stays where orders end: how many there were in all, and those of other outstations.
use Rattle.std.proofs.Common.{◌≡◌, ℕ, zero, suc, List, [], ◌∷◌, Option, Some, None, refl, ◌∙◌}
use Rattle.std.specs.Prelude.{slice_get}
use Rattle.gw_model.specs.declared.control.Ended.{Ended}
use Rattle.gw_picture.proofs.Lists.{change-there}
use Rattle.gw_control.specs.Controls.{Controls, controls_after_lost}
use Rattle.gw_control.specs.Held.{controls_after_losses}
use Rattle.gw_control.specs.Orders.{outgoing_after_ended, outgoing_after_lost}
use Rattle.gw_steps.specs.Controls.{controls_after_all_ended, controls_with_ended}

-- ---- how many there were

pub ended_count : (o : ℕ) (e : Option Ended) (v : Controls) → (controls_with_ended o e v).ordered ≡ v.ordered
ended_count o None v = refl
ended_count o (Some e) v = refl

pub all_ended_count : (o : ℕ) (es : List (Option Ended)) (v : Controls)
    → (controls_after_all_ended o es v).ordered ≡ v.ordered
all_ended_count o [] v = refl
all_ended_count o (e ∷ more) v = all_ended_count (suc o) more (controls_with_ended o e v) ∙ ended_count o e v

pub losses_count : (n o : ℕ) (v : Controls) → (controls_after_losses n o v).ordered ≡ v.ordered
losses_count zero o v = refl
losses_count (suc n) o v = losses_count n o (controls_after_lost o v)

-- ---- those of other outstations

pub ended_there : (o : ℕ) (e : Option Ended) (v : Controls) (p : ℕ) → (o ≡ p → ⊥)
    → slice_get (controls_with_ended o e v).outgoing p ≡ slice_get v.outgoing p
ended_there o None v p ne = refl
ended_there o (Some e) v p ne = change-there o p (outgoing_after_ended e) v.outgoing ne

pub losses_there : (n o : ℕ) (v : Controls) (p : ℕ) → (o ≡ p → ⊥)
    → slice_get (controls_after_losses n o v).outgoing p ≡ slice_get v.outgoing p
losses_there zero o v p ne = refl
losses_there (suc n) o v p ne =
    losses_there n o (controls_after_lost o v) p ne ∙ change-there o p outgoing_after_lost v.outgoing ne
