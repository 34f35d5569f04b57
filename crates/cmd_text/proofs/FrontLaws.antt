-- What is kept of a line that goes on.
use Rattle.std.proofs.Common.{◌≡◌, ℕ, ◌+◌, ◌≤◌, List, ◌++◌, length, take, inl, inr, sym, ap, ◌∙◌, arith}
use Rattle.std.proofs.lemmas.Bool.{cases_lt}
use Rattle.std.proofs.lemmas.List.{length-take, length-append, take_all, take-append-le, take-take}
use Rattle.std.proofs.Math.Seq.{take-append-add}

-- where there is room for all of it, and where there isn't
pub all_kept : (most : ℕ) (xs ys : List ℕ) → length xs + length ys ≤ most → take most (xs ++ ys) ≡ xs ++ ys
all_kept most xs ys room = take_all most (xs ++ ys) (omega (arith, length-append xs ys))

pub front_kept : (most : ℕ) (xs ys : List ℕ) (n : ℕ) → length xs + n ≡ most → xs ++ take n ys ≡ take most (xs ++ ys)
front_kept most xs ys n e = sym (take-append-add xs ys n) ∙ ap (λ (k : ℕ). take k (xs ++ ys)) e

-- the front of a line whose front was kept is that of the whole line
pub take-kept : (most : ℕ) (xs ys : List ℕ) → take most (take most xs ++ ys) ≡ take most (xs ++ ys)
take-kept most xs ys =
    elim (cases_lt most (length xs)) [
      | inl longer ↦
          take-append-le most (take most xs) ys (omega (arith, length-take most xs))
          ∙ take-take most most xs (omega arith)
          ∙ sym (take-append-le most xs ys (omega arith))
      | inr short ↦ ap (λ (l : List ℕ). take most (l ++ ys)) (take_all most xs short)
    ]
