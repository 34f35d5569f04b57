-- An assembler's answers to a whole list of segments, against the definition by looking back.
use Rattle.std.proofs.Common.{◌≡◌, ℕ, true, false, List, [], ◌∷◌, ◌++◌, Option, Some}
use Rattle.std.proofs.Common.{None, refl, sym, ◌∙◌, ap, inl, inr, append_assoc}
use Rattle.std.specs.Prelude.{reverse, filter, option_to_list}
use Rattle.std.specs.List.{cons_option}
use Rattle.std.proofs.lemmas.Bool.{cases_Bool, cond-true, cond-false}
use Rattle.std.proofs.lemmas.List.{append-nil, reverse-append}
use Rattle.std.proofs.lemmas.List.Elements.{filter_map-append}
use Rattle.dnp_transport.specs.Segment.{is_whole}
use Rattle.dnp_transport.specs.Fragment.{fragments_ended_in, fragments_of}
use Rattle.dnp_transport.specs.Series.{Series, Answer, step}
use Rattle.dnp_transport.specs.Runs.{answers_from, series_after, fragment_in, fragments_in}
use Rattle.dnp_transport.proofs.LookingBack.{kept_after, step-empty, step_agrees}

pub answers_from-append : (series : Option Series) (a b : List (List ℕ))
    → answers_from series (a ++ b) ≡ answers_from series a ++ answers_from (series_after series a) b
answers_from-append series [] b = refl
answers_from-append series (s ∷ a) b =
    ap (λ (t : List Answer). (step series s).0 ∷ t) (answers_from-append (step series s).1 a b)

pub series_after-append : (series : Option Series) (a b : List (List ℕ))
    → series_after series (a ++ b) ≡ series_after (series_after series a) b
series_after-append series [] b = refl
series_after-append series (s ∷ a) b = series_after-append (step series s).1 a b

cons_option-append : {X : Type 0} (front : List X) (o : Option X) (rest : List X)
    → front ++ cons_option o rest ≡ (front ++ option_to_list o) ++ rest
cons_option-append front None rest = ap (λ (xs : List _). xs ++ rest) (sym (append-nil front))
cons_option-append front (Some x) rest = sym (append_assoc front (x ∷ []) rest)

-- the history once these segments have come after it
abbrev grown : List (List ℕ) → List (List ℕ) → List (List ℕ)
grown older segments = reverse (filter is_whole segments) ++ older

grown-whole : (older : List (List ℕ)) (s : List ℕ) (more : List (List ℕ)) → is_whole s ≡ true
    → grown older (s ∷ more) ≡ grown (s ∷ older) more
grown-whole older s more whole =
    ap (λ (xs : List (List ℕ)). reverse xs ++ older) (cond-true _ _ _ whole)
    ∙ (ap (λ (xs : List (List ℕ)). xs ++ older) (reverse-append (s ∷ []) (filter is_whole more))
    ∙ append_assoc (reverse (filter is_whole more)) (s ∷ []) older)

grown-empty : (older : List (List ℕ)) (s : List ℕ) (more : List (List ℕ)) → is_whole s ≡ false
    → grown older (s ∷ more) ≡ grown older more
grown-empty older s more empty = ap (λ (xs : List (List ℕ)). reverse xs ++ older) (cond-false _ _ _ empty)

-- From a history on: what is kept in the end, and the fragments of all.
run_agrees : (older segments : List (List ℕ))
    → (series_after (kept_after older) segments ≡ kept_after (grown older segments))
    × (fragments_ended_in older ++ fragments_in (answers_from (kept_after older) segments)
    ≡ fragments_ended_in (grown older segments))
run_agrees older [] = (refl, append-nil (fragments_ended_in older))
run_agrees older (s ∷ more) = elim (cases_Bool (is_whole s)) [
  | inl whole ↦
      let taken = step_agrees s older whole in
      let rest = run_agrees (s ∷ older) more in
      let history = grown-whole older s more whole in (
        ap (λ (kept : Option Series). series_after kept more) taken.0 ∙ (rest.0 ∙ ap kept_after (sym history)),
        cons_option-append (fragments_ended_in older) (fragment_in (step (kept_after older) s).0)
            (fragments_in (answers_from (step (kept_after older) s).1 more))
            ∙ (ap (λ (o : Option (List ℕ)). (fragments_ended_in older ++ option_to_list o)
            ++ fragments_in (answers_from (step (kept_after older) s).1 more)) taken.1
            ∙ (ap (λ (kept : Option Series). fragments_ended_in (s ∷ older) ++ fragments_in (answers_from kept more))
            taken.0
            ∙ (rest.1 ∙ ap fragments_ended_in (sym history)))),
      )
  | inr empty ↦
      let taken = step-empty (kept_after older) s empty in
      let rest = run_agrees older more in
      let history = grown-empty older s more empty in (
        ap (λ (kept : Answer × Option Series). series_after kept.1 more) taken ∙ (rest.0 ∙ ap kept_after (sym history)),
        ap (λ (kept : Answer × Option Series). fragments_ended_in older ++ cons_option (fragment_in kept.0)
            (fragments_in (answers_from kept.1 more))) taken ∙ (rest.1 ∙ ap fragments_ended_in (sym history)),
      )
]

pub whole : (segments : List (List ℕ)) → fragments_in (answers_from None segments) ≡ fragments_of segments
whole segments = (run_agrees [] segments).1 ∙ ap fragments_ended_in (append-nil (reverse (filter is_whole segments)))

pub each : (segments : List (List ℕ)) (s : List ℕ)
    → fragments_of (segments ++ s ∷ [])
    ≡ fragments_of segments ++ option_to_list (fragment_in (step (series_after None segments) s).0)
each segments s =
    sym (whole (segments ++ s ∷ []))
    ∙ (ap fragments_in (answers_from-append None segments (s ∷ []))
    ∙ (filter_map-append fragment_in (answers_from None segments) (answers_from (series_after None segments) (s ∷ []))
    ∙ (cons_option-append (fragments_in (answers_from None segments))
    (fragment_in (step (series_after None segments) s).0) []
    ∙ (append-nil _ ∙ ap (λ (fs : List (List ℕ)).
    fs ++ option_to_list (fragment_in (step (series_after None segments) s).0)) (whole segments)))))

pub after : (segments : List (List ℕ)) (s : List ℕ)
    → series_after None (segments ++ s ∷ []) ≡ (step (series_after None segments) s).1
after segments s = series_after-append None segments (s ∷ [])
