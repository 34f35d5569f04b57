-- What a lane's holder knows of a log.
use Rattle.std.proofs.Common.{◌≡◌, ℕ, Bool, cond, List, ◌∷◌, ◌++◌, Some, None, refl, ap, ◌∙◌}
use Rattle.std.specs.List.{cons_option}
use Rattle.std.proofs.lemmas.Bool.{eq-eqb}
use Rattle.std.proofs.lemmas.List.Elements.{filter_map-append}
use Rattle.run_log.specs.Follows.{Follows, in_lane, of_lane}

pub of_lane_append : {E : Type 0} (lane : ℕ) (newer past : List (ℕ × E))
    → of_lane lane (newer ++ past) ≡ of_lane lane newer ++ of_lane lane past
of_lane_append lane newer past = filter_map-append (in_lane lane) newer past

pub of_lane_then : {E : Type 0} (lane : ℕ) (entry : E) (past : List (ℕ × E))
    → of_lane lane ((lane, entry) ∷ past) ≡ entry ∷ of_lane lane past
of_lane_then lane entry past =
    ap (λ (b : Bool). cons_option (cond b (Some entry) None) (of_lane lane past)) (eq-eqb lane lane refl)

-- the lane has what it had
pub same_of_lane : {E : Type 0} (lane : ℕ) (past later : List (ℕ × E)) → Follows lane past later
    → of_lane lane later ≡ of_lane lane past
same_of_lane lane past later p =
    ap (of_lane lane) p.is ∙ (of_lane_append lane p.newer past ∙ ap (λ w. w ++ of_lane lane past) p.apart)

-- and what its holder then adds
pub of_lane_added : {E : Type 0} (lane : ℕ) (entry : E) (past later : List (ℕ × E)) → Follows lane past later
    → of_lane lane ((lane, entry) ∷ later) ≡ entry ∷ of_lane lane past
of_lane_added lane entry past later p =
    of_lane_then lane entry later ∙ ap (λ w. entry ∷ w) (same_of_lane lane past later p)
