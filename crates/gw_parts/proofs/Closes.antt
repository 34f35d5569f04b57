-- The sessions of clients that are closed, one after the other.
use Rattle.std.proofs.Common.{◌≡◌, ℕ, zero, suc, ◌+◌, ◌<◌, ◌≤◌, Bool, List, []}
use Rattle.std.proofs.Common.{◌∷◌, map, drop, length, get_or, ap, subst, ◌∙◌, arith}
use Rattle.std.specs.Prelude.{if◌then◌else◌}
use Rattle.gw_control.specs.Controls.{Controls, controls_after_end}
use Rattle.gw_station.specs.Client.{Client}
use Rattle.gw_steps.specs.Controls.{controls_after_closes}

-- one more client was asked
behind : (c n : ℕ) (f : Client → Bool) (ks : List Client) (x : Client) (v new last : Controls) → n < length ks
    → new ≡ (if f (get_or ks n x) then controls_after_end c v else v)
    → controls_after_closes c (map f (drop n ks)) v ≡ last
    → controls_after_closes (suc c) (map f (drop (suc n) ks)) new ≡ last
behind c n f [] x v new last lt here so_far = absurd (omega arith)
behind c zero f (k ∷ ks) x v new last lt here so_far = ap (controls_after_closes (suc c) (map f ks)) here ∙ so_far
behind c (suc n) f (k ∷ ks) x v new last lt here so_far =
    behind c n f ks x v new last (omega arith) here so_far

pub closes_next : (n : ℕ) (f : Client → Bool) (ks : List Client) (x : Client) (v new last : Controls) → n < length ks
    → new ≡ (if f (get_or ks n x) then controls_after_end n v else v)
    → controls_after_closes n (map f (drop n ks)) v ≡ last
    → controls_after_closes (n + 1) (map f (drop (n + 1) ks)) new ≡ last
closes_next n f ks x v new last lt here so_far =
    let up : suc n ≡ n + 1 = omega arith in
    subst (λ (m : ℕ). controls_after_closes m (map f (drop m ks)) new ≡ last) up
    (behind n n f ks x v new last lt here so_far)

-- all were
pub closes_end : (c n : ℕ) (f : Client → Bool) (ks : List Client) (v last : Controls) → length ks ≤ n
    → controls_after_closes c (map f (drop n ks)) v ≡ last → v ≡ last
closes_end c zero f [] v last le so_far = so_far
closes_end c (suc n) f [] v last le so_far = so_far
closes_end c zero f (k ∷ ks) v last le so_far = absurd (omega arith)
closes_end c (suc n) f (k ∷ ks) v last le so_far = closes_end c n f ks v last (omega arith) so_far
