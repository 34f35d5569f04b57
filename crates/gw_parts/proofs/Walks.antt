-- A walk over all places of a list.
use Rattle.std.proofs.Common.{◌≡◌, ℕ, ◌+◌, ◌<◌, List, ◌++◌, map, take, drop, length, get_or, ap, ◌∙◌, arith}
use Rattle.std.proofs.Math.ListN.{set}
use Rattle.std.proofs.lemmas.List.{length-append, length-map, length-take, length-drop}
use Rattle.std.proofs.lemmas.List.Edits.{map_over_more}

-- every place changed, one after the other
pub next_changed : {A : Type 0} (n : ℕ) (f : A → A) (xs ys : List A) (x y : A) → n < length xs
    → ys ≡ map f (take n xs) ++ drop n xs → x ≡ get_or ys n x → y ≡ f x
    → set ys n y ≡ map f (take (n + 1) xs) ++ drop (n + 1) xs
next_changed n f xs ys x y lt so_far there e = ap (set ys n) e ∙ map_over_more f xs ys n x lt so_far there

pub length_walked : {A : Type 0} (n : ℕ) (f : A → A) (xs ys : List A) → ys ≡ map f (take n xs) ++ drop n xs
    → length ys ≡ length xs
length_walked n f xs ys e =
    omega (
      arith,
      ap length e,
      length-append (map f (take n xs)) (drop n xs),
      length-map (take n xs) f,
      length-take n xs,
      length-drop n xs,
    )
