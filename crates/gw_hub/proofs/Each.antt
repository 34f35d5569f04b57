-- What holds of each element of a list.
use Rattle.std.specs.Prelude.{slice_get, IfSome}
use Rattle.std.specs.List.{AllByRecursion}
use Rattle.std.proofs.Common.{◌≡◌, ℕ, zero, suc, ◌+◌, ◌<◌, ◌≤◌, List, [], ◌∷◌}
use Rattle.std.proofs.Common.{◌++◌, map, length, take, get_or, sym, ap, subst, ◌∙◌}
use Rattle.std.proofs.lemmas.List.{take_all, take_more}
use Rattle.gw_model.specs.Places.{change}
use Rattle.gw_station.proofs.All.{all-append, all-map}

-- of the one at a place
pub has_at : {A : Type 0} (P : A → Type 0) (xs : List A) (n : ℕ) → AllByRecursion P xs → IfSome (slice_get xs n) P
has_at P [] n all = tt
has_at P (x ∷ xs) zero all = all.0
has_at P (x ∷ xs) (suc n) all = has_at P xs n all.1

-- of each, where another fact holds of it
pub all_so : {A : Type 0} (P Q : A → Type 0) (xs : List A) → ((x : A) → P x → Q x)
    → AllByRecursion P xs → AllByRecursion Q xs
all_so P Q [] so all = tt
all_so P Q (x ∷ xs) so all = (so x all.0, all_so P Q xs so all.1)

-- every one changed
pub all_mapped : {A : Type 0} (P Q : A → Type 0) (f : A → A) (xs ys : List A) → ys ≡ map f xs
    → ((x : A) → P x → Q (f x)) → AllByRecursion P xs → AllByRecursion Q ys
all_mapped P Q f xs ys e keeps all =
    subst (AllByRecursion Q) (sym e) (all-map Q f xs (all_so P (λ x. Q (f x)) xs keeps all))

-- one changed, of which something more is known
pub all_changed : {A : Type 0} (P Q R : A → Type 0) (n : ℕ) (f : A → A) (xs : List A)
    → ((x : A) → P x → R x) → ((x : A) → Q x → P x → R (f x)) → IfSome (slice_get xs n) Q
    → AllByRecursion P xs → AllByRecursion R (change n f xs)
all_changed P Q R n f [] others here at all = tt
all_changed P Q R zero f (x ∷ xs) others here at all = (here x at all.0, all_so P R xs others all.1)
all_changed P Q R (suc n) f (x ∷ xs) others here at all =
    (others x all.0, all_changed P Q R n f xs others here at all.1)

-- one changed
pub all_kept : {A : Type 0} (P : A → Type 0) (n : ℕ) (f : A → A) (xs ys : List A) → ys ≡ change n f xs
    → ((x : A) → P x → P (f x)) → AllByRecursion P xs → AllByRecursion P ys
all_kept P n f xs ys e keeps all =
    subst (AllByRecursion P) (sym e)
    (all_changed P P P n f xs (λ x holds. holds) (λ x _ holds. keeps x holds) (has_at P xs n all) all)

-- ---- of those before a place

pub all_more : {A : Type 0} (P : A → Type 0) (xs : List A) (n : ℕ) (x : A) → n < length xs → x ≡ get_or xs n x
    → P x → AllByRecursion P (take n xs) → AllByRecursion P (take (n + 1) xs)
all_more P xs n x within is here so_far =
    let longer : take (n + 1) xs ≡ take n xs ++ x ∷ [] =
    take_more xs n x within ∙ ap (λ (y : _). take n xs ++ y ∷ []) (sym is) in
    subst (AllByRecursion P) (sym longer) (all-append P (take n xs) (x ∷ []) so_far (here, tt))

pub all_taken : {A : Type 0} (P : A → Type 0) (xs : List A) (n : ℕ) → length xs ≤ n
    → AllByRecursion P (take n xs) → AllByRecursion P xs
all_taken P xs n le so_far = subst (AllByRecursion P) (take_all n xs le) so_far
