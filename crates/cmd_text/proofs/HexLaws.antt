-- Reading octets one after the other, and how long their text is.
use Rattle.std.proofs.Common.{◌≡◌, ℕ, suc, ◌+◌, ◌*◌, ◌<◌, ◌≤◌, Bool, true, false, cond}
use Rattle.std.proofs.Common.{eqb, leb, List, [], ◌∷◌, ◌++◌, length, take, drop, get_or, inl}
use Rattle.std.proofs.Common.{inr, Option, Some, None, refl, sym, ap, ◌∙◌, append_assoc, arith}
use Rattle.std.proofs.lemmas.Bool.{lt-leb, le-leb, cases_lt}
use Rattle.std.proofs.lemmas.List.{length-take, take_all}
use Rattle.cmd_text.specs.Hex.{octet, octet_before, octets_of, at_most_2048}

-- octets that were read before others
abbrev pub with_front : List ℕ → Option (List ℕ) → Option (List ℕ)
with_front front None = None
with_front front (Some os) = Some (front ++ os)

regroup : (front : List ℕ) (o : ℕ) (os : Option (List ℕ))
    → with_front front (octet_before (Some o) os) ≡ with_front (front ++ o ∷ []) os
regroup front o None = refl
regroup front o (Some os) = ap (λ (xs : List ℕ). Some xs) (sym (append_assoc front (o ∷ []) os))

-- one more octet and a space
pub goes_on : (front text : List ℕ) (o : ℕ) (whole : Option (List ℕ)) → 2 < length text
    → octet (get_or text 0 0) (get_or text 1 0) ≡ Some o → get_or text 2 0 ≡ 32
    → with_front front (octets_of text) ≡ whole → with_front (front ++ o ∷ []) (octets_of (drop 3 text)) ≡ whole
goes_on front [] o whole lt at space so_far = absurd (omega arith)
goes_on front (a ∷ []) o whole lt at space so_far = absurd (omega arith)
goes_on front (a ∷ b ∷ []) o whole lt at space so_far = absurd (omega arith)
goes_on front (a ∷ b ∷ c ∷ rest) o whole lt at space so_far =
    let spaced : eqb c 32 ≡ true = ap (λ (x : ℕ). eqb x 32) space in
    let one : octets_of (a ∷ b ∷ c ∷ rest) ≡ octet_before (Some o) (octets_of rest) = rw (spaced, at) refl in
    sym (regroup front o (octets_of rest)) ∙ (ap (with_front front) (sym one) ∙ so_far)

-- n octets are a text of 3 n - 1 characters
abbrev some : {A : Type 0} → A → Option A
some x = Some x

some_is : {A : Type 0} (x y : A) → some x ≡ some y → x ≡ y
some_is x y e = cc

before_some : (o : Option ℕ) (os : Option (List ℕ)) (xs : List ℕ) → octet_before o os ≡ Some xs
    → (ys : List ℕ) × (os ≡ Some ys) × (length xs ≡ suc (length ys))
before_some None None xs e = absurd cc
before_some None (Some ys) xs e = absurd cc
before_some (Some o) None xs e = absurd cc
before_some (Some o) (Some ys) xs e = (ys, refl, ap length (sym (some_is (o ∷ ys) xs e)))

when : (b : Bool) (o : Option (List ℕ)) (xs : List ℕ) → cond b o None ≡ Some xs → o ≡ Some xs
when true o xs e = e
when false o xs e = absurd cc

long_text : (text os : List ℕ) → octets_of text ≡ Some os → length text + 1 ≡ 3 * length os
long_text [] os e = absurd cc
long_text (a ∷ []) os e = absurd cc
long_text (a ∷ b ∷ []) os e =
    let one = before_some (octet a b) (Some []) os e in
    let none : [] ≡ one.0 = some_is [] one.0 one.1 in
    omega (arith, one.2, ap length none)
long_text (a ∷ b ∷ c ∷ rest) os e =
    let one =
    before_some (octet a b) (octets_of rest) os (when (eqb c 32) (octet_before (octet a b) (octets_of rest)) os e) in
    omega (arith, one.2, long_text rest one.0 one.1)

too_many : (found : Option (List ℕ)) → ((os : List ℕ) → found ≡ Some os → 2048 < length os) → at_most_2048 found ≡ None
too_many None each = refl
too_many (Some os) each =
    let long : leb (length os) 2048 ≡ false = lt-leb _ _ (each os refl) in
    rw long refl

pub too_long : (text : List ℕ) → 6143 < length text → at_most_2048 (octets_of text) ≡ None
too_long text long = too_many (octets_of text) (λ os e. omega (arith, long_text text os e))

pub short_enough : (text os : List ℕ) → length text ≤ 6143 → octets_of text ≡ Some os
    → at_most_2048 (octets_of text) ≡ Some os
short_enough text os short e =
    let fits : leb (length os) 2048 ≡ true = le-leb _ _ (omega (arith, long_text text os e)) in
    rw (e, fits) refl

pub few_octets : (text os : List ℕ) → length text ≤ 6143 → octets_of text ≡ Some os → length os ≤ 2048
few_octets text os short e = omega (arith, long_text text os e)

-- nothing was read before
pub with_none : (os : Option (List ℕ)) → with_front [] os ≡ os
with_none None = refl
with_none (Some os) = refl

-- more than the longest line that can be right decides nothing
pub kept_line : (line : List ℕ) → at_most_2048 (octets_of (take 6144 line)) ≡ at_most_2048 (octets_of line)
kept_line line =
    elim (cases_lt 6144 (length line)) [
      | inl longer ↦ too_long (take 6144 line) (omega (arith, length-take 6144 line))
          ∙ sym (too_long line (omega arith))
      | inr short ↦ ap (λ (text : List ℕ). at_most_2048 (octets_of text)) (take_all 6144 line short)
    ]
