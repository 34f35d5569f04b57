-- What is told of the element at a place, where one element changes, or all do.
use Rattle.std.proofs.Common.{◌≡◌, ℕ, zero, suc, Bool, true, false, cond, List, [], ◌∷◌, map}
use Rattle.std.proofs.Common.{Option, Some, option_map, refl, sym, ap, subst, ◌∙◌, inl, inr}
use Rattle.std.specs.Prelude.{slice_get}
use Rattle.std.proofs.lemmas.Bool.{cases_eq}
use Rattle.gw_model.specs.Places.{change}
use Rattle.gw_picture.proofs.Lists.{change-here, change-there}

-- the change keeps it
pub told_kept : {A B : Type 0} (tell : Option A → B) (n : ℕ) (f : A → A) (xs : List A) (p : ℕ)
    → ((x : A) → tell (Some (f x)) ≡ tell (Some x))
    → tell (slice_get (change n f xs) p) ≡ tell (slice_get xs p)
told_kept tell n f [] p same = refl
told_kept tell zero f (x ∷ xs) zero same = same x
told_kept tell zero f (x ∷ xs) (suc p) same = refl
told_kept tell (suc n) f (x ∷ xs) zero same = refl
told_kept tell (suc n) f (x ∷ xs) (suc p) same = told_kept tell n f xs p same

pub all_told : {A B : Type 0} (tell : Option A → B) (f : A → A) (xs : List A) (p : ℕ)
    → ((x : A) → tell (Some (f x)) ≡ tell (Some x))
    → tell (slice_get (map f xs) p) ≡ tell (slice_get xs p)
all_told tell f [] p same = refl
all_told tell f (x ∷ xs) zero same = same x
all_told tell f (x ∷ xs) (suc p) same = all_told tell f xs p same

-- of an element that is there, it is b now
pub told_changed : {A B : Type 0} (tell : Option A → B) (n : ℕ) (f : A → A) (xs : List A) (p : ℕ) (x : A) (b : B)
    (here : Bool) → slice_get xs n ≡ Some x → tell (Some (f x)) ≡ b → (n ≡ p → here ≡ true)
    → ((n ≡ p → ⊥) → here ≡ false)
    → tell (slice_get (change n f xs) p) ≡ cond here b (tell (slice_get xs p))
told_changed tell n f xs p x b here at is so otherwise = elim (cases_eq n p) [
  | inl e ↦ subst (λ (q : ℕ). tell (slice_get (change n f xs) q) ≡ b) e
      (ap tell (change-here n f xs ∙ ap (option_map f) at) ∙ is)
      ∙ sym (ap (λ (y : Bool). cond y b (tell (slice_get xs p))) (so e))
  | inr ne ↦ ap tell (change-there n p f xs ne)
      ∙ sym (ap (λ (y : Bool). cond y b (tell (slice_get xs p))) (otherwise ne))
]
