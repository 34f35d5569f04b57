-- The places of a list: one that is written, and all in turn.
use Rattle.std.specs.Prelude.{replicate, slice_get}
use Rattle.std.specs.List.{AllByRecursion}
use Rattle.std.proofs.Common.{◌≡◌, ℕ, zero, suc, ◌+◌, ◌<◌, ◌≤◌, List, [], ◌∷◌, ◌++◌, map}
use Rattle.std.proofs.Common.{take, drop, length, get_or, Some, None, refl, sym, ap, subst, ◌∙◌, arith}
use Rattle.std.proofs.Math.ListN.{set}
use Rattle.std.proofs.lemmas.List.Edits.{map_over_more}
use Rattle.gw_model.specs.Places.{change}

-- ---- what stands at a place

found : {A : Type 0} (p : ℕ) (xs : List A) (d : A) → p < length xs → slice_get xs p ≡ Some (get_or xs p d)
found p [] d lt = absurd (omega arith)
found zero (x ∷ xs) d lt = refl
found (suc p) (x ∷ xs) d lt = found p xs d (omega arith)

pub found_at : {A : Type 0} (n p : ℕ) (xs : List A) (d : A) → p ≡ n → p < length xs
    → slice_get xs n ≡ Some (get_or xs p d)
found_at n p xs d same lt = subst (λ (m : ℕ). slice_get xs m ≡ Some (get_or xs p d)) same (found p xs d lt)

pub none_past : {A : Type 0} (n : ℕ) (xs : List A) → length xs ≤ n → slice_get xs n ≡ None
none_past n [] le = refl
none_past zero (x ∷ xs) le = absurd (omega arith)
none_past (suc n) (x ∷ xs) le = none_past n xs (omega arith)

-- ---- a write to a place

set_is_change : {A : Type 0} (n : ℕ) (f : A → A) (xs : List A) (d y : A) → n < length xs → y ≡ f (get_or xs n d)
    → set xs n y ≡ change n f xs
set_is_change n f [] d y lt e = absurd (omega arith)
set_is_change zero f (x ∷ xs) d y lt e = ap (λ (z : _). z ∷ xs) e
set_is_change (suc n) f (x ∷ xs) d y lt e = ap (λ (zs : List _). x ∷ zs) (set_is_change n f xs d y (omega arith) e)

-- the place is there
pub changed_at : {A : Type 0} (n p : ℕ) (f : A → A) (xs : List A) (d y : A) → p ≡ n → p < length xs
    → y ≡ f (get_or xs p d) → set xs p y ≡ change n f xs
changed_at n p f xs d y same lt e = set_is_change p f xs d y lt e ∙ ap (λ (m : ℕ). change m f xs) same

-- it is not
pub changed_past : {A : Type 0} (n : ℕ) (f : A → A) (xs : List A) → length xs ≤ n → xs ≡ change n f xs
changed_past n f [] le = refl
changed_past zero f (x ∷ xs) le = absurd (omega arith)
changed_past (suc n) f (x ∷ xs) le = ap (λ (zs : List _). x ∷ zs) (changed_past n f xs (omega arith))

-- every place changed, one after the other
pub next_changed : {A : Type 0} (n : ℕ) (f : A → A) (xs ys : List A) (d y : A) → n < length xs
    → ys ≡ map f (take n xs) ++ drop n xs → y ≡ f (get_or ys n d)
    → set ys n y ≡ map f (take (n + 1) xs) ++ drop (n + 1) xs
next_changed n f xs ys d y lt so_far e = ap (set ys n) e
    ∙ map_over_more f xs ys n (get_or ys n d) lt so_far (get_again n ys d)
  where
    get_again : {A : Type 0} (n : ℕ) (ys : List A) (d : A) → get_or ys n d ≡ get_or ys n (get_or ys n d)
    get_again n [] d = refl
    get_again zero (y ∷ ys) d = refl
    get_again (suc n) (y ∷ ys) d = get_again n ys d

-- ---- so many alike

replicate_suc : {A : Type 0} (n : ℕ) (x : A) → replicate (suc n) x ≡ replicate n x ++ x ∷ []
replicate_suc zero x = refl
replicate_suc (suc n) x = ap (λ (zs : List _). x ∷ zs) (replicate_suc n x)

-- one more of them at the end
pub one_more : {A : Type 0} (n m : ℕ) (x y : A) (ys more : List A) → m ≡ n + 1 → more ≡ ys ++ y ∷ [] → y ≡ x
    → ys ≡ replicate n x → more ≡ replicate m x
one_more n m x y ys more next push is so_far =
    let e : m ≡ suc n = omega (arith, next) in
    push ∙ (ap (λ (zs : List _). zs ++ y ∷ []) so_far ∙ (ap (λ (z : _). replicate n x ++ z ∷ []) is
    ∙ sym (ap (λ (k : ℕ). replicate k x) e ∙ replicate_suc n x)))

-- ---- what holds of every place

pub all_changed : {A : Type 0} (P : A → Type 0) (f : A → A) → ((x : A) → P x → P (f x)) → (n : ℕ) (xs : List A)
    → AllByRecursion P xs → AllByRecursion P (change n f xs)
all_changed P f keeps n [] all = tt
all_changed P f keeps zero (x ∷ xs) all = (keeps x all.0, all.1)
all_changed P f keeps (suc n) (x ∷ xs) all = (all.0, all_changed P f keeps n xs all.1)

pub all_mapped : {A : Type 0} (P : A → Type 0) (f : A → A) → ((x : A) → P x → P (f x)) → (xs : List A)
    → AllByRecursion P xs → AllByRecursion P (map f xs)
all_mapped P f keeps [] all = tt
all_mapped P f keeps (x ∷ xs) all = (keeps x all.0, all_mapped P f keeps xs all.1)

pub all_alike : {A : Type 0} (P : A → Type 0) (n : ℕ) (x : A) → P x → AllByRecursion P (replicate n x)
all_alike P zero x p = tt
all_alike P (suc n) x p = (p, all_alike P n x p)

-- a whole list that was written in the place of another
pub all_written : {A : Type 0} (P : A → Type 0) (n : ℕ) (new old : List A) → length new ≡ n → AllByRecursion P new
    → AllByRecursion P (take n (new ++ drop (length new) old))
all_written P n new old whole all = subst (λ (m : ℕ). AllByRecursion P (take m (new ++ drop (length new) old))) whole
    (front new (drop (length new) old) all)
  where
    front : (xs ys : List _) → AllByRecursion P xs → AllByRecursion P (take (length xs) (xs ++ ys))
    front [] ys all = tt
    front (x ∷ xs) ys all = (all.0, front xs ys all.1)
