-- The selections of the state whose sessions stand, and what keeps the sessions of a client apart.
use Rattle.std.proofs.Common.{◌≡◌, ℕ, zero, suc, ◌+◌, ◌≤◌, Bool, true, false, cond, List, Option, Some}
use Rattle.std.proofs.Common.{None, option_map, refl, sym, ap, subst, ◌∙◌, arith, inl, inr, true≢false}
use Rattle.std.specs.Prelude.{◌==◌, ◌||◌, replicate, slice_get}
use Rattle.std.proofs.lemmas.Bool.{cases_eq, eq-eqb, ne_eqb}
use Rattle.gw_model.specs.First.{when}
use Rattle.gw_picture.proofs.Lists.{change-here, change-there}
use Rattle.gw_control.specs.declared.selection.Selection.{Selection}
use Rattle.gw_control.specs.Controls.{Controls, controls_after_end}
use Rattle.gw_control.specs.Selections.{is_open, is_session}
use Rattle.law_orders.specs.Selections.{Selected, unless_by}

-- ---- a selection whose session stands

abbrev pub told_of : Selection → Selected
told_of x = record { client = x.client; action = x.action; since = x.since }

abbrev pub open_selection : List (Option ℕ) → Option (Option Selection) → Option Selected
open_selection sessions None = None
open_selection sessions (Some None) = None
open_selection sessions (Some (Some x)) = when (is_open sessions x) (told_of x)

abbrev pub open_at : ℕ → Controls → Option Selected
open_at position v = open_selection v.sessions (slice_get v.selections position)

-- ---- sessions by their numbers

-- the session that stands for a client is its last one, and the client is started
abbrev pub IsCurrent : Bool → ℕ → Option (Option ℕ) → Type 0
IsCurrent started number None = Unit {0}
IsCurrent started number (Some None) = Unit {0}
IsCurrent started number (Some (Some current)) = (started ≡ true) × (current ≡ number)

-- its session has begun; where that is the last one of a started client, it stands
pub record IsKept (started : ℕ → Bool) (number : ℕ → ℕ) (count : ℕ) (sessions : List (Option ℕ)) (x : Selection)
    : Type 0 where
  pub counted : x.session ≤ count
  pub stands : started x.client ≡ true → x.session ≡ number x.client → is_open sessions x ≡ true

abbrev pub KeptAt : (ℕ → Bool) → (ℕ → ℕ) → ℕ → List (Option ℕ) → Option (Option Selection) → Type 0
KeptAt started number count sessions None = Unit {0}
KeptAt started number count sessions (Some None) = Unit {0}
KeptAt started number count sessions (Some (Some x)) = IsKept started number count sessions x

-- by which clients are started, the number of the last session of each, and how many sessions there were
pub record Fresh (started : ℕ → Bool) (number : ℕ → ℕ) (count : ℕ) (v : Controls) : Type 0 where
  pub counted : (c : ℕ) → number c ≤ count
  pub current : (c : ℕ) → IsCurrent (started c) (number c) (slice_get v.sessions c)
  pub kept : (p : ℕ) → KeptAt started number count v.sessions (slice_get v.selections p)

-- ---- at first

pub none_current : (started : Bool) (number n c : ℕ) → IsCurrent started number (slice_get (replicate n None) c)
none_current started number zero c = tt
none_current started number (suc n) zero = tt
none_current started number (suc n) (suc c) = none_current started number n c

pub none_kept : (started : ℕ → Bool) (number : ℕ → ℕ) (count : ℕ) (sessions : List (Option ℕ)) (n p : ℕ)
    → KeptAt started number count sessions (slice_get (replicate n None) p)
none_kept started number count sessions zero p = tt
none_kept started number count sessions (suc n) zero = tt
none_kept started number count sessions (suc n) (suc p) = none_kept started number count sessions n p

pub none_open : (sessions : List (Option ℕ)) (n p : ℕ) → open_selection sessions (slice_get (replicate n None) p) ≡ None
none_open sessions zero p = refl
none_open sessions (suc n) zero = refl
none_open sessions (suc n) (suc p) = none_open sessions n p

-- ---- sessions end

abbrev pub left_if : Bool → Option (Option ℕ) → Option (Option ℕ)
left_if ends got = option_map (λ (session : Option ℕ). cond ends None session) got

-- the sessions of these clients end
pub record Leaves (ends : ℕ → Bool) (v w : Controls) : Type 0 where
  pub sessions : (c : ℕ) → slice_get w.sessions c ≡ left_if (ends c) (slice_get v.sessions c)
  pub selections : w.selections ≡ v.selections

stays : (got : Option (Option ℕ)) → got ≡ left_if false got
stays None = refl
stays (Some session) = refl

-- those of none
pub still_leaves : (v w : Controls) → w.sessions ≡ v.sessions → w.selections ≡ v.selections → Leaves (λ c. false) v w
still_leaves v w sessions selections = record {
  sessions = λ c. ap (λ (xs : List (Option ℕ)). slice_get xs c) sessions ∙ stays (slice_get v.sessions c);
  selections = selections;
}

-- those of one client
pub end_leaves : (c : ℕ) (v : Controls) → Leaves (λ d. d == c) v (controls_after_end c v)
end_leaves c v = record {
  sessions = λ d. elim (cases_eq c d) [
    | inl e ↦ by_same d e
    | inr ne ↦ change-there c d (λ _. None) v.sessions ne
        ∙ (stays (slice_get v.sessions d)
        ∙ sym (ap (λ (b : Bool). left_if b (slice_get v.sessions d)) (ne_eqb d c (λ e. ne (sym e)))))
  ];
  selections = refl;
}
  where
    by_same : (d : ℕ) → c ≡ d
        → slice_get (controls_after_end c v).sessions d ≡ left_if (d == c) (slice_get v.sessions d)
    by_same d e = subst (λ (x : ℕ). slice_get (controls_after_end c v).sessions x
        ≡ left_if (x == c) (slice_get v.sessions x)) e
        (change-here c (λ _. None) v.sessions
        ∙ sym (ap (λ (b : Bool). left_if b (slice_get v.sessions c)) (eq-eqb c c refl)))

left_twice : (a b : Bool) (got : Option (Option ℕ)) → left_if b (left_if a got) ≡ left_if (a || b) got
left_twice a b None = refl
left_twice true true (Some session) = refl
left_twice true false (Some session) = refl
left_twice false true (Some session) = refl
left_twice false false (Some session) = refl

-- of these, and then of those
pub both_leave : (first others : ℕ → Bool) (v w u : Controls) → Leaves first v w → Leaves others w u
    → Leaves (λ c. first c || others c) v u
both_leave first others v w u k j = record {
  sessions = λ c. j.sessions c ∙ (ap (left_if (others c)) (k.sessions c)
      ∙ left_twice (first c) (others c) (slice_get v.sessions c));
  selections = j.selections ∙ k.selections;
}

-- who ends is told by other words
pub leaves_as : (ends other : ℕ → Bool) (v w : Controls) → ((c : ℕ) → ends c ≡ other c) → Leaves ends v w
    → Leaves other v w
leaves_as ends other v w same k = record {
  sessions = λ c. k.sessions c ∙ ap (λ (b : Bool). left_if b (slice_get v.sessions c)) (same c);
  selections = k.selections;
}

-- ---- selections end with their sessions

gone : (ends : ℕ → Bool) (x : Selected) (session : ℕ) (b : Bool) (got : Option (Option ℕ)) → ends x.client ≡ b
    → when (is_session session (left_if b got)) x ≡ unless_by ends (when (is_session session got) x)
gone ends x session b None e = refl
gone ends x session true (Some None) e = refl
gone ends x session false (Some None) e = refl
gone ends x session true (Some (Some current)) e = by (current == session)
  where
    by : (is : Bool) → None ≡ unless_by ends (when is x)
    by true = sym (ap (λ (b : Bool). cond b None (Some x)) e)
    by false = refl
gone ends x session false (Some (Some current)) e = by (current == session)
  where
    by : (is : Bool) → when is x ≡ unless_by ends (when is x)
    by true = sym (ap (λ (b : Bool). cond b None (Some x)) e)
    by false = refl

pub open_left : (ends : ℕ → Bool) (v w : Controls) (p : ℕ) → Leaves ends v w
    → open_at p w ≡ unless_by ends (open_at p v)
open_left ends v w p k =
    ap (λ (xs : List (Option Selection)). open_selection w.sessions (slice_get xs p)) k.selections
    ∙ by (slice_get v.selections p)
  where
    by : (got : Option (Option Selection))
        → open_selection w.sessions got ≡ unless_by ends (open_selection v.sessions got)
    by None = refl
    by (Some None) = refl
    by (Some (Some x)) =
        ap (λ (session : Option (Option ℕ)). when (is_session x.session session) (told_of x)) (k.sessions x.client)
        ∙ gone ends (told_of x) x.session (ends x.client) (slice_get v.sessions x.client) refl

-- none ends
pub unless_none : (x : Option Selected) → unless_by (λ c. false) x ≡ x
unless_none None = refl
unless_none (Some x) = refl

pub unless_same : (ends other : ℕ → Bool) (x : Option Selected) → ((c : ℕ) → ends c ≡ other c)
    → unless_by ends x ≡ unless_by other x
unless_same ends other None same = refl
unless_same ends other (Some x) same = ap (λ (b : Bool). cond b None (Some x)) (same x.client)

-- ---- sessions that end leave the others apart

current_left : (ends started : Bool) (number : ℕ) (got : Option (Option ℕ)) → IsCurrent started number got
    → IsCurrent (cond ends false started) number (left_if ends got)
current_left ends started number None k = tt
current_left true started number (Some None) k = tt
current_left false started number (Some None) k = tt
current_left true started number (Some (Some current)) k = tt
current_left false started number (Some (Some current)) k = k

module _ (ends started after : ℕ → Bool) (number : ℕ → ℕ) (count more : ℕ) (v w : Controls) where
  kept_open : (x : Selection) (b : Bool) → ((c : ℕ) → after c ≡ cond (ends c) false (started c)) → Leaves ends v w
      → IsKept started number count v.sessions x → ends x.client ≡ b → after x.client ≡ true
      → x.session ≡ number x.client → is_open w.sessions x ≡ true
  kept_open x true stages k j e up same =
      absurd (true≢false (sym up ∙ (stages x.client ∙ ap (λ (b : Bool). cond b false (started x.client)) e)))
  kept_open x false stages k j e up same =
      ap (is_session x.session) (k.sessions x.client
      ∙ (ap (λ (b : Bool). left_if b (slice_get v.sessions x.client)) e ∙ sym (stays (slice_get v.sessions x.client))))
      ∙ j.stands (sym (stages x.client ∙ ap (λ (b : Bool). cond b false (started x.client)) e) ∙ up) same

  kept_left : (got : Option (Option Selection)) → ((c : ℕ) → after c ≡ cond (ends c) false (started c)) → count ≤ more
      → Leaves ends v w → KeptAt started number count v.sessions got → KeptAt after number more w.sessions got
  kept_left None stages le k j = tt
  kept_left (Some None) stages le k j = tt
  kept_left (Some (Some x)) stages le k j = record {
    counted = omega (arith, j.counted, le);
    stands = λ up same. kept_open x (ends x.client) stages k j refl up same;
  }

  pub fresh_left : ((c : ℕ) → after c ≡ cond (ends c) false (started c)) → count ≤ more → Leaves ends v w
      → Fresh started number count v → Fresh after number more w
  fresh_left stages le k fresh = record {
    counted = λ c. omega (arith, fresh.counted c, le);
    current = λ c. rw (stages c, k.sessions c)
        (current_left (ends c) (started c) (number c) (slice_get v.sessions c) (fresh.current c));
    kept = λ p. subst (λ (xs : List (Option Selection)). KeptAt after number more w.sessions (slice_get xs p))
        (sym k.selections) (kept_left (slice_get v.selections p) stages le k (fresh.kept p));
  }

-- ---- a session begins

none_stands : (after : Bool) (next number : ℕ) (got : Option (Option ℕ)) → IsCurrent false number got
    → IsCurrent after next got
none_stands after next number None k = tt
none_stands after next number (Some None) k = tt
none_stands after next number (Some (Some current)) k = absurd (true≢false (sym k.0))

-- of client c, with the next number; so no selection is of it
module _ (c : ℕ) (started after : ℕ → Bool) (number next : ℕ → ℕ) (count : ℕ) (v : Controls) where
  kept_begun : (got : Option (Option Selection)) → ((d : ℕ) → (c ≡ d → ⊥) → after d ≡ started d)
      → ((d : ℕ) → (c ≡ d → ⊥) → next d ≡ number d) → next c ≡ count + 1
      → KeptAt started number count v.sessions got → KeptAt after next (count + 1) v.sessions got
  kept_begun None stages numbers new j = tt
  kept_begun (Some None) stages numbers new j = tt
  kept_begun (Some (Some x)) stages numbers new j = record {
    counted = omega (arith, j.counted);
    stands = λ up same. elim (cases_eq c x.client) [
      | inl e ↦
          let is : next x.client ≡ count + 1 = subst (λ (d : ℕ). next d ≡ count + 1) e new in
          absurd (omega (arith, j.counted, is, same))
      | inr ne ↦ j.stands (sym (stages x.client ne) ∙ up) (same ∙ numbers x.client ne)
    ];
  }

  pub fresh_begun : ((d : ℕ) → (c ≡ d → ⊥) → after d ≡ started d) → ((d : ℕ) → (c ≡ d → ⊥) → next d ≡ number d)
      → next c ≡ count + 1 → started c ≡ false → Fresh started number count v → Fresh after next (count + 1) v
  fresh_begun stages numbers new stopped fresh = record {
    counted = λ d. elim (cases_eq c d) [
      | inl e ↦ let is : next d ≡ count + 1 = subst (λ (x : ℕ). next x ≡ count + 1) e new in omega (arith, is)
      | inr ne ↦ omega (arith, numbers d ne, fresh.counted d)
    ];
    current = λ d. elim (cases_eq c d) [
      | inl e ↦ subst (λ (x : ℕ). IsCurrent (after x) (next x) (slice_get v.sessions x)) e
          (none_stands (after c) (next c) (number c) (slice_get v.sessions c)
          (subst (λ (b : Bool). IsCurrent b (number c) (slice_get v.sessions c)) stopped (fresh.current c)))
      | inr ne ↦ rw (stages d ne, numbers d ne) (fresh.current d)
    ];
    kept = λ p. kept_begun (slice_get v.selections p) stages numbers new (fresh.kept p);
  }
