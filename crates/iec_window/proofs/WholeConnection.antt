-- From the numbers alone a window keeps what the whole connection comes to.
use Rattle.std.proofs.Common.{◌≡◌, ℕ, ◌+◌, ◌-◌, ◌%◌, ◌<◌, ◌≤◌, ◌↔◌, IsTrue, Bool}
use Rattle.std.proofs.Common.{true, false, cond, leb, ltb, List, [], ◌∷◌, ◌++◌, length, drop}
use Rattle.std.proofs.Common.{Option, Some, slice_get, arith, refl, sym, ◌∙◌, ap, inl, inr}
use Rattle.std.specs.Prelude.{◌&&◌, ◌==◌}
use Rattle.std.proofs.lemmas.Bool.{cases_Bool, leb-true, le-leb, ltb-true, true≢false}
use Rattle.std.proofs.lemmas.List.{length-append, length-drop, drop-append-le, drop-drop, drop_all}
use Rattle.iec_window.specs.declared.limits.Limits.{Limits}
use Rattle.iec_window.specs.Counts.{WindowCounts, sent_in_all}
use Rattle.iec_window.specs.Sequence.{Acknowledges, new_acknowledgements, is_right_receive}
use Rattle.iec_window.specs.Steps.{first_of}
use Rattle.iec_window.specs.History.{Transmission, SentI, SentS, SentTest, GotI, GotS, GotConfirmation, GotOther}
use Rattle.iec_window.specs.History.{sent_at, got_at, beyond, acknowledged_by, receipted_by, waiting_at, owed_at}
use Rattle.iec_window.specs.History.{heard_at, test_at, counts_of, is_right, is_legal, legal, step, window_counts}
use Rattle.iec_window.proofs.Numbers.{ahead_leaves, ahead_within, within_ahead, named_leaves}
use Rattle.iec_window.proofs.Right.{both, right_split, right_names, named_right}

-- ---- lists of frames

-- one more at the end
length-more : (xs : List ℕ) (x : ℕ) → length (xs ++ x ∷ []) ≡ length xs + 1
length-more xs x = length-append xs (x ∷ [])

-- no more are acknowledged than were sent
acknowledged_by-le : (frames : List Transmission) → acknowledged_by frames ≤ length (sent_at frames)
acknowledged_by-le [] = omega arith
acknowledged_by-le (SentI moment ∷ older) =
    omega (arith, acknowledged_by-le older, length-more (sent_at older) moment)
acknowledged_by-le (SentS ∷ older) = acknowledged_by-le older
acknowledged_by-le (SentTest moment ∷ older) = acknowledged_by-le older
acknowledged_by-le (GotI ns nr moment ∷ older) = omega arith
acknowledged_by-le (GotS nr moment ∷ older) = omega arith
acknowledged_by-le (GotConfirmation moment ∷ older) = acknowledged_by-le older
acknowledged_by-le (GotOther moment ∷ older) = acknowledged_by-le older

-- no more are acknowledged than came
receipted_by-le : (frames : List Transmission) → receipted_by frames ≤ length (got_at frames)
receipted_by-le [] = omega arith
receipted_by-le (SentI moment ∷ older) = omega arith
receipted_by-le (SentS ∷ older) = omega arith
receipted_by-le (SentTest moment ∷ older) = receipted_by-le older
receipted_by-le (GotI ns nr moment ∷ older) = omega (arith, receipted_by-le older, length-more (got_at older) moment)
receipted_by-le (GotS nr moment ∷ older) = receipted_by-le older
receipted_by-le (GotConfirmation moment ∷ older) = receipted_by-le older
receipted_by-le (GotOther moment ∷ older) = receipted_by-le older

-- those that are acknowledged and those that wait were sent
waiting_at-all : (frames : List Transmission)
    → acknowledged_by frames + length (waiting_at frames) ≡ length (sent_at frames)
waiting_at-all frames =
    omega (arith, length-drop (acknowledged_by frames) (sent_at frames), acknowledged_by-le frames)

-- those that wait after one more was sent
waiting_at-sent : (moment : ℕ) (older : List Transmission)
    → waiting_at (SentI moment ∷ older) ≡ waiting_at older ++ moment ∷ []
waiting_at-sent moment older =
    drop-append-le (acknowledged_by older) (sent_at older) (moment ∷ []) (acknowledged_by-le older)

-- ---- no more than k wait

-- of two lists, by a test, the one that is chosen
kept_by : (b : Bool) (k : ℕ) (xs ys : List Transmission) → (b ≡ true → length (waiting_at xs) ≤ k)
    → length (waiting_at ys) ≤ k → length (waiting_at (cond b xs ys)) ≤ k
kept_by true k xs ys more few = more refl
kept_by false k xs ys more few = few

-- a right N(R) leaves no more than waited
right_few : (nr k : ℕ) (before : List Transmission) → is_right nr before ≡ true → length (waiting_at before) ≤ k
    → length (drop (length (sent_at before) - beyond nr before) (sent_at before)) ≤ k
right_few nr k before right few =
    let parts = both (ltb nr 32768) (leb (beyond nr before) (length (waiting_at before))) right in
    let within : beyond nr before ≤ length (waiting_at before) =
    leb-true (beyond nr before) (length (waiting_at before)) parts.1 in
    omega (arith, within, few, length-drop (length (sent_at before) - beyond nr before) (sent_at before))

few_more : (limits : Limits) (frame : Transmission) (before : List Transmission)
    → length (waiting_at before) ≤ limits.k
    → length (waiting_at (cond (is_legal limits frame before) (frame ∷ before) before)) ≤ limits.k
few_more limits (SentI moment) before few =
    kept_by (ltb (length (waiting_at before)) limits.k) limits.k (SentI moment ∷ before) before
    (λ room. rw (waiting_at-sent moment before)
    (omega (arith, length-more (waiting_at before) moment, ltb-true (length (waiting_at before)) limits.k room)))
    few
few_more limits SentS before few = few
few_more limits (SentTest moment) before few = few
few_more limits (GotI ns nr moment) before few =
    let next : Bool = ns == length (got_at before) % 32768 in
    kept_by (next && is_right nr before) limits.k (GotI ns nr moment ∷ before) before
    (λ is. right_few nr limits.k before (both next (is_right nr before) is).1 few) few
few_more limits (GotS nr moment) before few =
    kept_by (is_right nr before) limits.k (GotS nr moment ∷ before) before
    (λ is. right_few nr limits.k before is few) few
few_more limits (GotConfirmation moment) before few = few
few_more limits (GotOther moment) before few = few

pub waiting_at-le : (limits : Limits) (frames : List Transmission) → length (waiting_at (legal limits frames)) ≤ limits.k
waiting_at-le limits [] = omega arith
waiting_at-le limits (frame ∷ older) = few_more limits frame (legal limits older) (waiting_at-le limits older)

-- ---- N(R)

-- two tests that imply each other
pub same_test : (a b c d : ℕ) → (a ≤ b → c ≤ d) → (c ≤ d → a ≤ b) → leb a b ≡ leb c d
same_test a b c d there back = elim (cases_Bool (leb a b)) [
  | inl is ↦ is ∙ sym (le-leb c d (there (leb-true a b is)))
  | inr out ↦ elim (cases_Bool (leb c d)) [
    | inl more ↦ absurd (true≢false (sym (le-leb a b (back (leb-true c d more))) ∙ out))
    | inr none ↦ out ∙ sym none
  ]
]

-- N(R) is right for a window where no more lie beyond it than wait
same_right : (nr : ℕ) (c : WindowCounts) → length c.waiting < 32768 →
    is_right_receive nr c ≡ ltb nr 32768 && leb ((sent_in_all c + 32768 - nr) % 32768) (length c.waiting)
same_right nr c few = elim (cases_Bool (ltb nr 32768)) [
  | inl is ↦ rw is (
      let bits : nr < 32768 = ltb-true nr 32768 is in
      same_test (new_acknowledgements nr c) (length c.waiting) ((sent_in_all c + 32768 - nr) % 32768)
      (length c.waiting) (ahead_within nr c.acknowledged (length c.waiting) bits few)
      (within_ahead nr c.acknowledged (length c.waiting) bits few))
  | inr out ↦ rw out refl
]

-- it acknowledges all but those beyond it
right_leaves : (nr : ℕ) (c : WindowCounts) → length c.waiting < 32768 → is_right_receive nr c ≡ true
    → c.acknowledged + new_acknowledgements nr c ≡ sent_in_all c - (sent_in_all c + 32768 - nr) % 32768
right_leaves nr c few right =
    let parts = right_split nr c right in ahead_leaves nr c.acknowledged (length c.waiting) parts.0 few parts.1

-- by the whole connection
same_right_of : (limits : Limits) (start nr : ℕ) (before : List Transmission) → length (waiting_at before) < 32768
    → is_right_receive nr (counts_of limits start before) ≡ is_right nr before
same_right_of limits start nr before few =
    same_right nr (counts_of limits start before) few
    ∙ ap (λ (n : ℕ). ltb nr 32768 && leb ((n + 32768 - nr) % 32768) (length (waiting_at before)))
    (waiting_at-all before)

leaves_of : (limits : Limits) (start nr : ℕ) (before : List Transmission) → length (waiting_at before) < 32768
    → is_right_receive nr (counts_of limits start before) ≡ true
    → acknowledged_by before + new_acknowledgements nr (counts_of limits start before)
    ≡ length (sent_at before) - beyond nr before
leaves_of limits start nr before few right =
    right_leaves nr (counts_of limits start before) few right
    ∙ ap (λ (n : ℕ). n - (n + 32768 - nr) % 32768) (waiting_at-all before)

-- ---- counts

-- a choice between two counts, where the tests are the same
chosen_by : (a b : Bool) (x y z : WindowCounts) → a ≡ b → (b ≡ true → x ≡ y) → cond a x z ≡ cond b y z
chosen_by true true x y z e same = same refl
chosen_by true false x y z e same = absurd cc
chosen_by false true x y z e same = absurd cc
chosen_by false false x y z e same = refl

-- and of two choices
both_chosen : (s a b : Bool) (x y z : WindowCounts) → a ≡ b → (b ≡ true → x ≡ y)
    → cond s (cond a x z) z ≡ cond (s && b) y z
both_chosen true a b x y z e same = chosen_by a b x y z e same
both_chosen false a b x y z e same = refl

-- the counts of the list that is chosen
of_chosen : (limits : Limits) (start : ℕ) (b : Bool) (xs ys : List Transmission)
    → cond b (counts_of limits start xs) (counts_of limits start ys) ≡ counts_of limits start (cond b xs ys)
of_chosen limits start true xs ys = refl
of_chosen limits start false xs ys = refl

-- counts, field by field
abbrev made : Limits → ℕ → List ℕ → ℕ → ℕ → Option ℕ → ℕ → Option ℕ → WindowCounts
made limits acknowledged waiting received owed since moment test = record {
  limits = limits;
  acknowledged = acknowledged;
  waiting = waiting;
  received = received;
  owed = owed;
  owed_since = since;
  last_heard = moment;
  test = test;
}

-- counts are equal where their fields are
made-same : (limits : Limits) (a a' : ℕ) (w w' : List ℕ) (r r' o o' : ℕ) (s s' : Option ℕ) (h : ℕ) (t : Option ℕ) →
    a ≡ a' → w ≡ w' → r ≡ r' → o ≡ o' → s ≡ s' → made limits a w r o s h t ≡ made limits a' w' r' o' s' h t
made-same limits a a' w w' r r' o o' s s' h t e1 e2 e3 e4 e5 =
    ap (λ x. made limits x w r o s h t) e1
    ∙ (ap (λ x. made limits a' x r o s h t) e2 ∙ (ap (λ x. made limits a' w' x o s h t) e3
    ∙ (ap (λ x. made limits a' w' r' x s h t) e4 ∙ ap (λ x. made limits a' w' r' o' x h t) e5)))

-- the first of moments of which one more came
first-more : (xs : List ℕ) (x : ℕ) → Some (first_of (slice_get xs 0) x) ≡ slice_get (xs ++ x ∷ []) 0
first-more [] x = refl
first-more (y ∷ ys) x = refl

-- what waits after some more are acknowledged
waiting-leaves : (xs : List ℕ) (a ahead n : ℕ) → a + ahead ≡ n → drop ahead (drop a xs) ≡ drop n xs
waiting-leaves xs a ahead n e = drop-drop ahead a xs ∙ ap (λ i. drop i xs) e

-- ---- a window makes of a frame what the connection comes to

-- nothing is owed where all that came is acknowledged
none_owed : (frames : List Transmission) → drop (length (got_at frames)) (got_at frames) ≡ []
none_owed frames = drop_all (length (got_at frames)) (got_at frames) (omega arith)

step-legal : (limits : Limits) (start : ℕ) (frame : Transmission) (before : List Transmission)
    → length (waiting_at before) < 32768 → step frame (counts_of limits start before)
    ≡ counts_of limits start (cond (is_legal limits frame before) (frame ∷ before) before)
step-legal limits start (SentI moment) before few =
    let room : Bool = ltb (length (waiting_at before)) limits.k in
    chosen_by room room _ (counts_of limits start (SentI moment ∷ before)) (counts_of limits start before) refl
    (λ is. made-same limits _ _ _ _ _ _ _ _ _ _ (heard_at start before) (test_at before)
    refl (sym (waiting_at-sent moment before)) refl (sym (ap length (none_owed before)))
    (sym (ap (λ xs. slice_get xs 0) (none_owed before))))
    ∙ of_chosen limits start room (SentI moment ∷ before) before
step-legal limits start SentS before few =
    made-same limits _ _ _ _ _ _ _ _ _ _ (heard_at start before) (test_at before)
    refl refl refl (sym (ap length (none_owed before))) (sym (ap (λ xs. slice_get xs 0) (none_owed before)))
step-legal limits start (SentTest moment) before few = refl
step-legal limits start (GotI ns nr moment) before few =
    let c : WindowCounts = counts_of limits start before in
    let next : Bool = ns == length (got_at before) % 32768 in
    let e : is_right_receive nr c ≡ is_right nr before = same_right_of limits start nr before few in
    let more : drop (receipted_by before) (got_at before ++ moment ∷ []) ≡ owed_at before ++ moment ∷ [] =
    drop-append-le (receipted_by before) (got_at before) (moment ∷ []) (receipted_by-le before) in
    both_chosen next (is_right_receive nr c) (is_right nr before) _
    (counts_of limits start (GotI ns nr moment ∷ before)) c e
    (λ is.
    let leaves = leaves_of limits start nr before few (e ∙ is) in
    made-same limits _ _ _ _ _ _ _ _ _ _ moment (test_at before)
    leaves (waiting-leaves (sent_at before) (acknowledged_by before) (new_acknowledgements nr c) _ leaves)
    (sym (length-more (got_at before) moment)) (sym (ap length more ∙ length-more (owed_at before) moment))
    (first-more (owed_at before) moment ∙ sym (ap (λ xs. slice_get xs 0) more)))
    ∙ of_chosen limits start (next && is_right nr before) (GotI ns nr moment ∷ before) before
step-legal limits start (GotS nr moment) before few =
    let c : WindowCounts = counts_of limits start before in
    let e : is_right_receive nr c ≡ is_right nr before = same_right_of limits start nr before few in
    chosen_by (is_right_receive nr c) (is_right nr before) _ (counts_of limits start (GotS nr moment ∷ before)) c e
    (λ is.
    let leaves = leaves_of limits start nr before few (e ∙ is) in
    made-same limits _ _ _ _ _ _ _ _ _ _ moment (test_at before)
    leaves (waiting-leaves (sent_at before) (acknowledged_by before) (new_acknowledgements nr c) _ leaves)
    refl refl refl)
    ∙ of_chosen limits start (is_right nr before) (GotS nr moment ∷ before) before
step-legal limits start (GotConfirmation moment) before few = refl
step-legal limits start (GotOther moment) before few = refl

-- fewer than 32,768 wait
few_wait : (limits : Limits) (frames : List Transmission) → limits.k < 32768
    → length (waiting_at (legal limits frames)) < 32768
few_wait limits frames small = omega (arith, waiting_at-le limits frames)

pub window_counts-legal : (limits : Limits) (start : ℕ) (frames : List Transmission) → limits.k < 32768
    → window_counts limits start frames ≡ counts_of limits start (legal limits frames)
window_counts-legal limits start [] small = refl
window_counts-legal limits start (frame ∷ older) small =
    ap (step frame) (window_counts-legal limits start older small)
    ∙ step-legal limits start frame (legal limits older) (few_wait limits older small)

-- ---- what N(R) names

-- of the whole connection
right_of : (nr : ℕ) (c : WindowCounts) → length c.waiting < 32768
    → (IsTrue (is_right_receive nr c) ↔ ((n : ℕ) × Acknowledges nr c n))
right_of nr c few = (λ t. (_, right_names nr c t), λ g. named_right nr c g.0 few g.1)

pub right-legal : (limits : Limits) (start nr : ℕ) (frames : List Transmission) → limits.k < 32768 →
    (IsTrue (is_right_receive nr (window_counts limits start frames))
    ↔ ((n : ℕ) × Acknowledges nr (counts_of limits start (legal limits frames)) n))
right-legal limits start nr frames small =
    rw (window_counts-legal limits start frames small)
    (right_of nr (counts_of limits start (legal limits frames)) (few_wait limits frames small))

pub named-legal : (limits : Limits) (start nr moment n : ℕ) (frames : List Transmission) → limits.k < 32768
    → Acknowledges nr (counts_of limits start (legal limits frames)) n
    → acknowledged_by (GotS nr moment ∷ legal limits frames) ≡ n
named-legal limits start nr moment n frames small a =
    let all = waiting_at-all (legal limits frames) in
    named_leaves nr (length (sent_at (legal limits frames))) n (length (waiting_at (legal limits frames)))
    (few_wait limits frames small) (omega (arith, a.not_more, all)) (omega (arith, a.not_fewer, all)) a.number
