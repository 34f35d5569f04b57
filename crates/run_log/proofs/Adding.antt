-- The exchanges that add a cell, and then a link, keep the rule.
use Rattle.std.proofs.Common.{◌≡◌, ℕ, zero, suc, ◌<◌, ◌==◌, Bool, true, false, List, []}
use Rattle.std.proofs.Common.{◌∷◌, ◌++◌, length, refl, sym, subst, arith, inl, None, ◌∙◌}
use Rattle.std.specs.Prelude.{reverse, slice_set}
use Rattle.std.proofs.lemmas.List.{append-nil, reverse-append}
use Rattle.std.proofs.lemmas.Bool.{eq-eqb, true≢false}
use mathlib.Core.List.{IsPrefix}
use prog.Atomic.{either}
use Rattle.logbook.specs.Pages.{Cell, cell, adds, gives, Nib, no_nib, may_write, step, Moves, Goes}
use Rattle.run_log.specs.Rules.{IsKept, IsKeptPast, Adds, Reserves, head_keys, lanes_in, lane_keys, older, visits}
use Rattle.run_log.specs.declared.link.Link.{Link}
use Rattle.run_log.proofs.Cells.{IsHome, Still, append_home, set_here, set_home, still_home}
use Rattle.run_log.proofs.Keeping.{still_kept}

abbrev pub shown : {E : Type 0} → List E → List E
shown log = []

abbrev pub moved : {E : Type 0} → List E → List E → ℕ → Type 0
moved xs ys n = Unit {0}

-- what the word becomes
abbrev pub flag : ℕ → ℕ
flag n = either (n == 0) 1 n

not_zero : (n : ℕ) → flag n ≡ 0 → ⊥
not_zero n e = go (n == 0) refl e
  where
    go : (b : Bool) → (n == 0) ≡ b → either b 1 n ≡ 0 → ⊥
    go true is e = absurd (omega (arith, e))
    go false is e = true≢false (sym (eq-eqb n 0 e) ∙ is)

kept_nil : {E : Type 0} (log : List (Link E)) → IsKept [] log → ⊥
kept_nil log kept = true≢false (sym kept.word)

within : {E : Type 0} (cs : List Cell) (log : List (Link E)) → IsKept cs log → 0 < length cs
within [] log kept = absurd (kept_nil log kept)
within (c ∷ cs) log kept = omega arith

still_past : {E : Type 0} (cs new : List Cell) → Still cs new → (past : List (Link E)) → IsKeptPast cs past
    → IsKeptPast new past
still_past cs new still past kept = record {
  home = still_home cs new still (older (head_keys past)) kept.home;
  lanes = λ lane. still_kept cs new still (lanes_in past) lane (lane_keys lane past) (visits lane past)
      (kept.lanes lane);
}

reserves_goes : {E : Type 0} (cs : List Cell) (log v : List (Link E)) (e : Link E) → IsKept cs log
    → Goes IsKept shown moved 0 (v, (no_nib, None)) flag (Reserves (step 0 0 1 e) (v, (no_nib, None))) cs log
reserves_goes [] log v e kept = absurd (kept_nil log kept)
reserves_goes {E} (c ∷ cs) log v e kept =
    let all : log ++ [] ≡ log = append-nil log in
    let new : List Cell = (flag c.0, true) ∷ cs ++ (0, false) ∷ [] in
    let still : Still (c ∷ cs) new =
    λ j h. append_home ((flag c.0, true) ∷ cs) ((0, false) ∷ []) j (set_home (c ∷ cs) 0 (flag c.0) j h) in
    let past : IsKeptPast new (reverse log) = still_past (c ∷ cs) new still (reverse log) kept.past in (
      adds,
      [],
      None,
      tt,
      subst (IsKept new) (sym all)
          (record { word = refl; fresh = λ zero_is. absurd (not_zero c.0 zero_is); past = past }),
      inl (refl, refl),
      (refl, λ none. ((kept.fresh none).0, all ∙ (kept.fresh none).1)),
    )

pub reserves_moves : {E : Type 0} (v : List (Link E)) (e : Link E)
    → Moves IsKept shown moved 0 (v, (no_nib, None)) flag (Reserves (step 0 0 1 e) (v, (no_nib, None)))
reserves_moves v e cs log kept pre away = (within cs log kept, kept.word, reserves_goes cs log v e kept)

-- the link keeps the rule of whatever log there is that begins with what was seen, once the cell of the pen is at home
abbrev pub Keeps : {E : Type 0} → List (Link E) → Link E → ℕ → Type 0
Keeps {E} v e key =
    (cs : List Cell) (log : List (Link E)) → IsKeptPast cs (reverse log) → IsPrefix v log → (cell cs key).1 ≡ false
    → (new : List Cell) → Still cs new → IsHome new key → IsKeptPast new (e ∷ reverse log)

-- the cell that a link brings home isn't the word
adds_goes : {E : Type 0} (cs : List Cell) (log v : List (Link E)) (e : Link E) (pen : Nib) → IsKept cs log
    → IsPrefix v log → pen.right ≡ may_write → (key : ℕ) → pen.key ≡ key → Keeps v e key
    → key < length cs → (cell cs key).1 ≡ false
    → Goes IsKept shown moved 0 (v, (pen, None)) flag (Adds (step 0 0 1 e) (v, (pen, None))) cs log
adds_goes [] log v e pen kept pre right key key_is keeps less away = absurd (kept_nil log kept)
adds_goes (c ∷ cs) log v e pen kept pre right zero key_is keeps less away = absurd (true≢false (sym kept.word ∙ away))
adds_goes {E} (c ∷ cs) log v e pen kept pre right (suc key) key_is keeps less away =
    let mid : List Cell = (flag c.0, true) ∷ cs in
    let new : List Cell = slice_set mid (suc key) (pen.value, true) in
    let still : Still (c ∷ cs) new =
    λ j h. set_home mid (suc key) pen.value j (set_home (c ∷ cs) 0 (flag c.0) j h) in
    let past : IsKeptPast new (e ∷ reverse log) =
    keeps (c ∷ cs) log kept.past pre away new still (set_here mid (suc key) pen.value less) in
    let kept_new : IsKept new (log ++ e ∷ []) = record {
      word = refl;
      fresh = λ zero_is. absurd (not_zero c.0 zero_is);
      past = subst (IsKeptPast new) (sym (reverse-append log (e ∷ []))) past;
    } in (
      gives,
      e ∷ [],
      None,
      right,
      subst (λ (k : ℕ). IsKept (slice_set mid k (pen.value, true)) (log ++ e ∷ [])) (sym key_is) kept_new,
      inl (refl, refl),
      record {
        cells = c ∷ cs;
        log = log;
        seen = pre;
        kept = kept.past;
        away = subst (λ (k : ℕ). (cell (c ∷ cs) k).1 ≡ false) (sym key_is) away;
        is = refl;
      },
    )

pub adds_moves : {E : Type 0} (v : List (Link E)) (e asked : Link E) (pen : Nib) (key : ℕ) → pen.right ≡ may_write
    → pen.key ≡ key → asked ≡ e → Keeps v e key
    → Moves IsKept shown moved 0 (v, (pen, None)) flag (Adds (step 0 0 1 asked) (v, (pen, None)))
adds_moves v e asked pen key right key_is asked_is keeps cs log kept pre away =
    let out = away right in
    let same : Keeps v asked key = subst (λ x. Keeps v x key) (sym asked_is) keeps in (
      within cs log kept,
      kept.word,
      adds_goes cs log v asked pen kept pre right pen.key refl (subst (Keeps v asked) (sym key_is) same) out.0 out.1,
    )
