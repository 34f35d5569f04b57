-- Rows and controls, read part by part.
use Rattle.std.proofs.Common.{◌≡◌, ℕ, List, [], ◌∷◌, ◌++◌, codes, Option, Some, None, Bool, true, false, cond}
use Rattle.std.proofs.Common.{◌||◌, ◌&&◌, ◌==◌, is_some, IsTrue, if◌then◌else◌, unwrap_or, refl, ap, ◌∙◌}
use Rattle.toml.specs.Data.{Data, Members, get_member}
use Rattle.gw_model.specs.declared.point.Kind.{Kind}
use Rattle.gw_model.specs.declared.point.Kind.TheVariants.{Binary}
use Rattle.gw_entries.specs.declared.row.Show.{Show}
use Rattle.gw_entries.specs.declared.control.ControlShow.{ControlShow}
use Rattle.gw_entries.specs.declared.fault.Fault.TheVariants.{KindMismatch}
use Rattle.gw_entries.specs.Answers.{first}
use Rattle.gw_entries.specs.Fields.{operation_with}
use Rattle.gw_entries.specs.Setup.{single, double, setpoint}
use Rattle.gw_entries.specs.declared.control.ControlShow.TheVariants as shown
use Rattle.gw_entries.specs.declared.control.Mode.{Mode}
use Rattle.gw_entries.specs.declared.control.Mode.TheVariants.{Direct}
use Rattle.gw_entries.specs.declared.control.Pulses.{Pulses}
use Rattle.gw_entries.specs.declared.control.Rest.{Rest}
use Rattle.gw_entries.specs.declared.control.Rest.TheVariants.{Latch}
use Rattle.gw_entries.specs.declared.row.Scale.{Scale}
use Rattle.gw_entries.specs.Complaints.{wrong_at, present, mismatches_with, point_mismatches, mismatches_of, control_mismatches}
use Rattle.gw_entries.specs.Shown.{is_shown_by, is_scaled, usual_show}
use Rattle.gw_entries.specs.Tables.{point_keys, control_keys, kinds, shows, control_shows, modes, rests}
use Rattle.gw_entries.specs.Values.{value_or, value_at, as_word, kind_in, show_in, control_show_in, mode_in, rest_in, operation, number_in}
use Rattle.gw_entries.proofs.First.{told, first-None}

-- words, where the code reads them
pub kind_read : (ms : Members) (kind : Kind)
    → kind ≡ unwrap_or (as_word kinds (value_at point_keys (codes "kind") ms)) Binary → kind ≡ kind_in ms
unfolding kind_in
kind_read ms kind e = e

pub show_read : (ms : Members) (kind : Kind) (show other : Show)
    → show ≡ unwrap_or (as_word shows (value_at point_keys (codes "show") ms)) other
    → other ≡ usual_show kind → kind ≡ kind_in ms → show ≡ show_in ms
unfolding show_in
show_read ms kind show other e usual k =
    e ∙ ap (λ other. unwrap_or (as_word shows (value_at point_keys (codes "show") ms)) other) (usual ∙ ap usual_show k)

pub control_show_read : (ms : Members) (show : ControlShow)
    → show ≡ unwrap_or (as_word control_shows (value_at control_keys (codes "show") ms)) shown.Single
    → show ≡ control_show_in ms
unfolding control_show_in
control_show_read ms show e = e

pub mode_read : (ms : Members) (mode : Mode)
    → mode ≡ unwrap_or (as_word modes (value_at control_keys (codes "mode") ms)) Direct → mode ≡ mode_in ms
unfolding mode_in
mode_read ms mode e = e

pub rest_read : (ms : Members) (rest : Rest)
    → rest ≡ unwrap_or (as_word rests (value_at control_keys (codes "rest") ms)) Latch → rest ≡ rest_in ms
unfolding rest_in
rest_read ms rest e = e

-- ---- what doesn't fit together

pub point_mismatch : (ms : Members) (kind : Kind) (show : Show) (key : List ℕ) → kind ≡ kind_in ms → show ≡ show_in ms
    → first (mismatches_with kind show ms) ≡ Some key
    → first (wrong_at KindMismatch (point_mismatches ms)) ≡ Some (KindMismatch, key)
unfolding point_mismatches
point_mismatch ms kind show key k s h =
    told (λ key. (KindMismatch, key)) (mismatches_with (kind_in ms) (show_in ms) ms) key (rw (← k, ← s) h)

pub no_point_mismatch : (ms : Members) (kind : Kind) (show : Show) → kind ≡ kind_in ms → show ≡ show_in ms
    → first (mismatches_with kind show ms) ≡ None → point_mismatches ms ≡ []
unfolding point_mismatches
no_point_mismatch ms kind show k s h = rw (← k, ← s) (first-None (mismatches_with kind show ms) h)

pub control_mismatch : (ms : Members) (show : ControlShow) (key : List ℕ) → show ≡ control_show_in ms
    → first (mismatches_of show ms) ≡ Some key
    → first (wrong_at KindMismatch (control_mismatches ms)) ≡ Some (KindMismatch, key)
unfolding control_mismatches
control_mismatch ms show key s h =
    told (λ key. (KindMismatch, key)) (mismatches_of (control_show_in ms) ms) key (rw (← s) h)

pub no_control_mismatch : (ms : Members) (show : ControlShow) → show ≡ control_show_in ms
    → first (mismatches_of show ms) ≡ None → control_mismatches ms ≡ []
unfolding control_mismatches
no_control_mismatch ms show s h = rw (← s) (first-None (mismatches_of show ms) h)

-- what holds where nothing mismatches
shown_by : (shown : Bool) (more : List (List ℕ)) (key : List ℕ) → cond shown [] (key ∷ []) ++ more ≡ [] → shown ≡ true
shown_by true more key h = refl
shown_by false more key h = absurd cc

pub fits-from_none : (kind : Kind) (show : Show) (ms : Members) → first (mismatches_with kind show ms) ≡ None
    → is_shown_by kind show ≡ true
fits-from_none kind show ms h =
    shown_by (is_shown_by kind show) _ (codes "show") (first-None (mismatches_with kind show ms) h)

rest_of_none : (xs ys : List (List ℕ)) → xs ++ ys ≡ [] → ys ≡ []
rest_of_none [] ys h = h
rest_of_none (x ∷ xs) ys h = absurd cc

absent : (ms : Members) (a b : List ℕ) → present ms (a ∷ b ∷ []) ≡ []
    → (get_member a ms ≡ None) × (get_member b ms ≡ None)
absent ms a b h = by (get_member a ms) (get_member b ms) refl refl
  where
    by : (x y : Option Data) → get_member a ms ≡ x → get_member b ms ≡ y
        → (get_member a ms ≡ None) × (get_member b ms ≡ None)
    by None None p q = (p, q)
    by None (Some y) p q = absurd (not_none (rw (p, q) at h))
      where
        not_none : b ∷ [] ≡ [] → ⊥
        not_none e = cc
    by (Some x) o p q = absurd (not_none (cond (is_some o) (b ∷ []) []) (rw (p, q) at h))
      where
        not_none : (ks : List (List ℕ)) → a ∷ ks ≡ [] → ⊥
        not_none ks e = cc

one_each : (ms : Members) → (get_member (codes "num") ms ≡ None) × (get_member (codes "den") ms ≡ None)
    → (number_in point_keys "num" ms ≡ 1) × (number_in point_keys "den" ms ≡ 1)
unfolding value_or
one_each ms none = (rw none.0, rw none.1)

pub unscaled : (kind : Kind) (show : Show) (ms : Members) (num den : ℕ) → first (mismatches_with kind show ms) ≡ None
    → num ≡ number_in point_keys "num" ms → den ≡ number_in point_keys "den" ms
    → IsTrue (is_scaled show || (num == 1 && den == 1))
unscaled kind show ms num den h n d = by (is_scaled show) refl
  where
    nothing : mismatches_with kind show ms ≡ []
    nothing = first-None (mismatches_with kind show ms) h

    by : (b : Bool) → is_scaled show ≡ b → IsTrue (is_scaled show || (num == 1 && den == 1))
    by true e = rw e
    by false e =
        let ones = one_each ms (absent ms (codes "num") (codes "den")
        (rw e at (rest_of_none (if is_shown_by kind show then [] else codes "show" ∷ [])
        (if is_scaled show then [] else present ms (codes "num" ∷ codes "den" ∷ [])) nothing))) in
        rw (e, n ∙ ones.0, d ∙ ones.1)

-- what a control does, from its parts
pub operation_same : (ms : Members) (show : ControlShow) (pulses : Pulses) (scale : Scale) → show ≡ control_show_in ms
    → pulses.rest ≡ rest_in ms → pulses.short_ms ≡ number_in control_keys "short_ms" ms
    → pulses.long_ms ≡ number_in control_keys "long_ms" ms
    → scale.num ≡ number_in control_keys "num" ms → scale.den ≡ number_in control_keys "den" ms
    → operation_with show pulses scale ≡ operation (control_show_in ms) ms
operation_same ms show pulses scale e r s l n d = rw (← e) (by show)
  where
    by : (show : ControlShow) → operation_with show pulses scale ≡ operation show ms
    by shown.Single = λ i. single (r i) (s i) (l i)
    by shown.Double = λ i. double (r i) (s i) (l i)
    by shown.Setpoint = λ i. setpoint (n i) (d i)
