use Rattle.std.proofs.Common.{◌≡◌, ℕ, zero, suc, List, [], ◌∷◌, take, refl, ap, ◌∙◌}
use Rattle.std.specs.Prelude.{slice_set}
use Rattle.gw_answers.proofs.octets.pack.Goals as goal

-- an octet that is changed, in the front of octets
front_changed : (n : ℕ) (xs : List ℕ) (i y : ℕ) → take n (slice_set xs i y) ≡ slice_set (take n xs) i y
front_changed zero xs i y = refl
front_changed (suc n) [] i y = refl
front_changed (suc n) (x ∷ xs) zero y = refl
front_changed (suc n) (x ∷ xs) (suc i) y = ap (λ (zs : List ℕ). x ∷ zs) (front_changed n xs i y)

pub returns-clause-octets : goal.returns-clause-octets
returns-clause-octets c =
    front_changed c.write_monitor-written.result.octets c.write_monitor-written.new.out 3 c.args.originator
    ∙ ap (λ (xs : List ℕ). slice_set xs 3 c.args.originator) c.write_monitor-written.ensures.spelled
