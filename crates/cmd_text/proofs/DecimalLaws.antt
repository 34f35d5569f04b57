-- One digit after the other.
use Rattle.std.proofs.Common.{◌≡◌, ℕ, ◌+◌, ◌-◌, ◌*◌, ◌<◌, ◌≤◌, Bool, true, false, cond, leb}
use Rattle.std.proofs.Common.{ltb, ◌&&◌, ◌==◌, List, [], ◌∷◌, length, Option, Some, None, refl, ap, arith}
use Rattle.std.proofs.lemmas.Bool.{ltb-false, ltb-true, le-ltb, lt-ltb}
use Rattle.cmd_text.specs.Decimal.{decimal_after, if_below, number}

-- a number only grows
grows : (limit n : ℕ) (cs : List ℕ) → limit ≤ n → if_below limit (decimal_after n cs) ≡ None
grows limit n [] le = rw (le-ltb n limit le) refl
grows limit n (c ∷ cs) le = go (grows limit (n * 10 + (c - 48)) cs (omega (arith, le))) (leb 48 c && leb c 57)
  where
    go : if_below limit (decimal_after (n * 10 + (c - 48)) cs) ≡ None → (b : Bool)
        → if_below limit (cond b (decimal_after (n * 10 + (c - 48)) cs) None) ≡ None
    go more true = more
    go more false = refl

limited : (limit n : ℕ) (b : Bool) → ltb n limit ≡ b → cond b (Some n) None ≡ None → limit ≤ n
limited limit n true e none = absurd cc
limited limit n false e none = ltb-false n limit e

pub digit_none : (limit n c : ℕ) (cs : List ℕ) → if_below limit (decimal_after n (c ∷ [])) ≡ None
    → if_below limit (decimal_after n (c ∷ cs)) ≡ None
digit_none limit n c cs none = go (leb 48 c && leb c 57) none
  where
    go : (b : Bool) → if_below limit (cond b (Some (n * 10 + (c - 48))) None) ≡ None
        → if_below limit (cond b (decimal_after (n * 10 + (c - 48)) cs) None) ≡ None
    go true e =
        grows limit (n * 10 + (c - 48)) cs (limited limit (n * 10 + (c - 48)) (ltb (n * 10 + (c - 48)) limit) refl e)
    go false e = refl

same_number : (m v : ℕ) (b : Bool) → cond b (Some m) None ≡ Some v → m ≡ v
same_number m v true e = cc
same_number m v false e = absurd cc

pub digit_some : (limit n c v : ℕ) (cs : List ℕ) → if_below limit (decimal_after n (c ∷ [])) ≡ Some v
    → decimal_after n (c ∷ cs) ≡ decimal_after v cs
digit_some limit n c v cs some = go (leb 48 c && leb c 57) some
  where
    go : (b : Bool) → if_below limit (cond b (Some (n * 10 + (c - 48))) None) ≡ Some v
        → cond b (decimal_after (n * 10 + (c - 48)) cs) None ≡ decimal_after v cs
    go true e = ap (λ (m : ℕ). decimal_after m cs) (same_number (n * 10 + (c - 48)) v (ltb (n * 10 + (c - 48)) limit) e)
    go false e = absurd cc

small : (limit v : ℕ) (m : ℕ) (b : Bool) → ltb m limit ≡ b → cond b (Some m) None ≡ Some v → v < limit
small limit v m true e some = let same : m ≡ v = cc in omega (arith, same, ltb-true m limit e)
small limit v m false e some = absurd cc

pub below_small : (limit v : ℕ) (n : Option ℕ) → if_below limit n ≡ Some v → v < limit
below_small limit v None e = absurd cc
below_small limit v (Some m) e = small limit v m (ltb m limit) refl e

pub number_is : (limit : ℕ) (cs : List ℕ) → 0 < length cs → number limit cs ≡ if_below limit (decimal_after 0 cs)
number_is limit [] lt = absurd (omega arith)
number_is limit (c ∷ cs) lt = refl

pub end_is : (limit n : ℕ) → n < limit → Some n ≡ if_below limit (decimal_after n [])
end_is limit n lt = rw (lt-ltb n limit lt) refl

pub not_empty : (cs : List ℕ) → (length cs == 0) ≡ false → 0 < length cs
not_empty [] e = absurd cc
not_empty (c ∷ cs) e = omega arith
