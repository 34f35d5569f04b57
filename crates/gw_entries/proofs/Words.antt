-- Words, and what they stand for.
use Rattle.std.proofs.Common.{◌≡◌, ℕ, ◌+◌, ◌≤◌, List, [], ◌∷◌, length, drop, map, zip, Bor, Option, Some}
use Rattle.std.proofs.Common.{None, unwrap_or, option_copied, bytes_eq, refl, ap, sym, inl, inr, arith, ◌∙◌}
use Rattle.std.specs.List.{position_from, slice_get}
use Rattle.std.specs.Option.{option_and_then}
use Rattle.std.specs.Slice.{IsItemAt}
use Rattle.std.proofs.lemmas.Bool.{cases_Bool}
use Rattle.std.proofs.lemmas.List.{drop_all, drop_more}
use Rattle.std.proofs.lemmas.Option.{slice_get_cases, slice_get_past, slice_get_read}
use Rattle.gw_entries.specs.Keys.{words_of, words_by}
use Rattle.gw_entries.specs.Tables.{KeyRule}
use Rattle.gw_entries.specs.Texts.{among}

abbrev pub texts : List (Bor (List ℕ)) → List (List ℕ)
texts words = map (λ word. word.now) words

zip-nil : {A B : Type 0} (xs : List A) → zip {X = B} xs [] ≡ []
zip-nil [] = refl
zip-nil (x ∷ xs) = refl

-- the meaning at the place of a word
pub meaning_at : {A : Type 0} (words : List (Bor (List ℕ))) (meanings : List A) (i : ℕ) (text : List ℕ)
    → option_and_then (slice_get meanings) (position_from (λ word. bytes_eq text word.now) i words)
    ≡ among (zip (texts words) (drop i meanings)) text
meaning_at [] meanings i text = refl
meaning_at (word ∷ words) meanings i text = elim (cases_Bool (bytes_eq text word.now)) [
  | inl same ↦ elim (slice_get_cases meanings i).1 [
    | inl found ↦ rw (same, drop_more meanings i found.0 found.1, found.2, found.3, same)
    | inr past ↦ rw (same, drop_all i meanings past.0, past.1)
  ]
  | inr other ↦ elim (slice_get_cases meanings i).1 [
    | inl found ↦ rw (other, drop_more meanings i found.0 found.1, other) (meaning_at words meanings (i + 1) text)
    | inr past ↦ let after : length meanings ≤ i + 1 = omega arith in
        rw (other, drop_all i meanings past.0)
        (meaning_at words meanings (i + 1) text ∙ rw (drop_all (i + 1) meanings after, zip-nil (texts words)))
  ]
]

pub word_meant : {A : Type 0} (rule : KeyRule) (named : Option KeyRule) (words : List (Bor (List ℕ)))
    (meanings : List A) (place : Option ℕ) (text value : List ℕ) (other : A)
    → Some rule ≡ named → texts words ≡ words_of rule.content
    → place ≡ position_from (λ word. bytes_eq text word.now) 0 words → text ≡ value
    → unwrap_or (option_and_then (slice_get meanings) place) other
    ≡ unwrap_or (among (zip (words_by named) meanings) value) other
word_meant rule named words meanings place text value other r w p t =
    rw (← r, ← w, p, ← t) (ap (λ o. unwrap_or o other) (meaning_at words meanings 0 text))

pub text_or : (o : Option (Bor (List ℕ))) (other : Bor (List ℕ)) (value : Option (List ℕ)) → option_copied o ≡ value
    → (unwrap_or o other).now ≡ unwrap_or value other.now
text_or None other value e = rw (← e)
text_or (Some text) other value e = rw (← e)

-- the element at a place, if there is one
pub copied_item : {A : Type 0} (xs : List A) (i : ℕ) (o : Option (Bor A)) → IsItemAt xs i o
    → option_copied o ≡ slice_get xs i
copied_item xs i None at = sym (slice_get_past xs i at.3)
copied_item xs i (Some x) at = sym (slice_get_read xs (length xs) i x.now refl at.3.0 at.1)
