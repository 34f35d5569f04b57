-- Orders that end, one after another.
use Rattle.std.specs.List.{filter}
use Rattle.std.specs.Option.{option_to_list}
use Rattle.std.specs.Prelude.{slice_get}
use Rattle.std.proofs.Common.{◌≡◌, ℕ, zero, suc, ◌+◌, ◌≤◌, ◌<◌, Bool, true, false, cond, List}
use Rattle.std.proofs.Common.{[], ◌∷◌, ◌++◌, length, map, take, Option, Some, None, slice_index_or}
use Rattle.std.proofs.Common.{refl, sym, ap, ◌∙◌, append_assoc, append-nil, length-append, arith}
use Rattle.gw_model.specs.declared.control.Ended.{Ended}
use Rattle.gw_control.specs.declared.accepted.Accepted.{Accepted}
use Rattle.gw_control.specs.Orders.{Outgoing}
use Rattle.dnp_master.specs.declared.fate.Fate.{Fate}
use Rattle.dnp_master.specs.declared.fate.Fate.TheVariants.{LetGo}
use Rattle.gw_steps.specs.declared.effects.OrderEnd.{OrderEnd}
use Rattle.gw_steps.specs.Effects.{end_at, end_of, is_of_leaving, let_go, order_end, with_ends, Telling}

-- ---- lists

behind : {A B : Type 0} (f : A → B) (y : A) (a c : List A) (r : List B) (b : Bool)
    → map f a ≡ map f c ++ r → map f (cond b (y ∷ a) a) ≡ map f (cond b (y ∷ c) c) ++ r
behind f y a c r true e = ap (λ l. f y ∷ l) e
behind f y a c r false e = e

one_behind : {A B : Type 0} (f : A → B) (p : A → Bool) (n : ℕ) (xs : List A) (x : A) → slice_get xs n ≡ Some x
    → map f (filter p (take (suc n) xs)) ≡ map f (filter p (take n xs)) ++ map f (filter p (x ∷ []))
one_behind f p n [] x e = absurd (let none : ⊥ = cc in none)
one_behind f p zero (y ∷ ys) x e = let same : y ≡ x = cc in ap (λ z. map f (filter p (z ∷ []))) same
one_behind f p (suc n) (y ∷ ys) x e =
    behind f y (filter p (take (suc n) ys)) (filter p (take n ys)) (map f (filter p (x ∷ []))) (p y)
    (one_behind f p n ys x e)

-- one more of those that are chosen
pub one_more : {A B : Type 0} (f : A → B) (p : A → Bool) (n : ℕ) (xs : List A) (x : A) → slice_get xs n ≡ Some x
    → map f (filter p (take (n + 1) xs)) ≡ map f (filter p (take n xs)) ++ map f (filter p (x ∷ []))
one_more f p n xs x e = let up : n + 1 ≡ suc n = omega arith in rw up (one_behind f p n xs x e)

next_behind : {A B : Type 0} (f : A → B) (n : ℕ) (xs : List A) (x : A) → slice_get xs n ≡ Some x
    → map f (take (suc n) xs) ≡ map f (take n xs) ++ f x ∷ []
next_behind f n [] x e = absurd (let none : ⊥ = cc in none)
next_behind f zero (y ∷ ys) x e = let same : y ≡ x = cc in ap (λ z. f z ∷ []) same
next_behind f (suc n) (y ∷ ys) x e = ap (λ l. f y ∷ l) (next_behind f n ys x e)

-- one more of all
pub next_of_all : {A B : Type 0} (f : A → B) (n : ℕ) (xs : List A) (x : A) → slice_get xs n ≡ Some x
    → map f (take (n + 1) xs) ≡ map f (take n xs) ++ f x ∷ []
next_of_all f n xs x e = let up : n + 1 ≡ suc n = omega arith in rw up (next_behind f n xs x e)

at_most_one : (f : Accepted → OrderEnd) (x : Accepted) (b : Bool) → length (map f (cond b (x ∷ []) [])) ≤ 1
at_most_one f x true = omega arith
at_most_one f x false = omega arith

-- one is chosen at most
pub one_chosen : (f : Accepted → OrderEnd) (p : Accepted → Bool) (x : Accepted) → length (map f (filter p (x ∷ []))) ≤ 1
one_chosen f p x = at_most_one f x (p x)

-- a place within a list has something
pub something_at : {A : Type 0} (xs : List A) (n : ℕ) → n < length xs → None ≡ slice_get xs n → ⊥
something_at [] n lt e = omega arith
something_at (x ∷ xs) zero lt e = cc
something_at (x ∷ xs) (suc n) lt e = something_at xs n (omega arith) e

-- ---- what is told

-- these orders ended, so many at most
pub record HasEnded (t u : Telling) (ends : List OrderEnd) (most : ℕ) : Type 0 where
  pub told : u ≡ with_ends ends t
  pub few : length u.told.ended ≤ length t.told.ended + most

with_both : (a b : List OrderEnd) (t : Telling) → with_ends b (with_ends a t) ≡ with_ends (a ++ b) t
with_both a b t =
    ap (λ (l : List OrderEnd). record t { told = record t.told { ended = l } }) (append_assoc t.told.ended a b)

pub none_ended : (t : Telling) → HasEnded t t [] 0
none_ended t = record {
  told = ap (λ (l : List OrderEnd). record t { told = record t.told { ended = l } }) (sym (append-nil t.told.ended));
  few = omega arith;
}

-- nothing
pub none_told : (ends : List OrderEnd) (t : Telling) → ends ≡ [] → t ≡ with_ends ends t
none_told ends t e = (none_ended t).told ∙ ap (λ (l : List OrderEnd). with_ends l t) (sym e)

-- at most so many others end
pub more_ended : {t u : Telling} {a : List OrderEnd} {n : ℕ} (m : ℕ) (b c : List OrderEnd) (v : Telling)
    → HasEnded t u a n → v ≡ with_ends b u → length b ≤ m → c ≡ a ++ b → HasEnded t v c (n + m)
more_ended {t} {u} {a} {n} m b c v h e few both = record {
  told = e ∙ (ap (with_ends b) h.told ∙ (with_both a b t ∙ ap (λ (l : List OrderEnd). with_ends l t) (sym both)));
  few =
      let longer : length v.told.ended ≡ length u.told.ended + length b =
      ap (λ (w : Telling). length w.told.ended) e ∙ length-append u.told.ended b in
      omega (arith, longer, h.few);
}

pub same_room : {t u : Telling} {a : List OrderEnd} {n : ℕ} → HasEnded t u a n → u.room ≡ t.room
same_room h = ap (λ (v : Telling). v.room) h.told

-- ---- the sessions of clients end

go_behind : (leaving : List Bool) (o n : ℕ) (qs : List Outgoing) (q : Outgoing) → n < length qs
    → q ≡ slice_index_or qs n q
    → let_go leaving o (take (suc n) qs)
    ≡ let_go leaving o (take n qs) ++ map (order_end (o + n) LetGo) (filter (is_of_leaving leaving) q.waiting)
go_behind leaving o n [] q lt e = absurd (omega arith)
go_behind leaving o zero (r ∷ rs) q lt e =
    let there : o + 0 ≡ o = omega arith in
    rw (there, append-nil) (
    ap (λ (s : Outgoing). map (order_end o LetGo) (filter (is_of_leaving leaving) s.waiting)) (sym e))
go_behind leaving o (suc n) (r ∷ rs) q lt e =
    let there : o + suc n ≡ suc o + n = omega arith in
    let here = map (order_end o LetGo) (filter (is_of_leaving leaving) r.waiting) in
    rw there (
    ap (λ (l : List OrderEnd). here ++ l) (go_behind leaving (suc o) n rs q (omega arith) e)
    ∙ sym (append_assoc here (let_go leaving (suc o) (take n rs))
    (map (order_end (suc o + n) LetGo) (filter (is_of_leaving leaving) q.waiting))))

-- for one outstation more
pub go_next : (leaving : List Bool) (n : ℕ) (qs : List Outgoing) (q : Outgoing) → n < length qs
    → q ≡ slice_index_or qs n q
    → let_go leaving 0 (take (n + 1) qs)
    ≡ let_go leaving 0 (take n qs) ++ map (order_end n LetGo) (filter (is_of_leaving leaving) q.waiting)
go_next leaving n qs q lt e =
    let up : n + 1 ≡ suc n = omega arith in
    let there : 0 + n ≡ n = omega arith in
    rw up (rw there at (go_behind leaving 0 n qs q lt e))

-- ---- the order under way ends

pub none_at : (o : ℕ) (fate : Option Fate) (ended : Option Ended) (q : Option Outgoing) → q ≡ None
    → end_at o fate ended q ≡ []
none_at o None ended q e = refl
none_at o (Some fate) None q e = refl
none_at o (Some fate) (Some ended) None e = refl
none_at o (Some fate) (Some ended) (Some q) e = absurd (let none : ⊥ = cc in none)

pub some_at : (o : ℕ) (fate : Fate) (ended : Ended) (q : Outgoing) (f : Option Fate) (e : Option Ended)
    (some : Option Outgoing) → f ≡ Some fate → e ≡ Some ended → some ≡ Some q
    → end_at o f e some ≡ option_to_list (end_of o fate ended q.under_way)
some_at o fate ended q f e some is_f is_e is_q = rw (is_f, is_e, is_q) refl
