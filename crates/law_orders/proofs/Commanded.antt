-- What a command makes of the selections whose sessions stand.
use Rattle.std.proofs.Common.{◌≡◌, ℕ, zero, suc, ◌<◌, Bool, true, false, cond, not, ◌&&◌}
use Rattle.std.proofs.Common.{List, [], ◌∷◌, length, Option, Some, None, option_map, is_none}
use Rattle.std.proofs.Common.{is_some, refl, sym, ap, subst, ◌∙◌, arith, inl, inr, true≢false}
use Rattle.std.specs.Prelude.{◌==◌, slice_get, IfSome}
use Rattle.std.proofs.lemmas.Bool.{cases_eq, eq-eqb, eqb-true, eqb-false}
use Rattle.gw_model.specs.First.{first_of, when}
use Rattle.gw_model.specs.Places.{change}
use Rattle.gw_model.specs.declared.control.Act.{Act}
use Rattle.gw_entries.specs.declared.control.Control.{Control}
use Rattle.gw_map.specs.Settings.{Setup}
use Rattle.gw_picture.proofs.Lists.{change-here, change-there}
use Rattle.gw_control.specs.declared.asked.AskedCommand.{AskedCommand}
use Rattle.gw_control.specs.declared.selection.Selection.{Selection}
use Rattle.gw_control.specs.declared.refusal.Refusal.{Refusal}
use Rattle.gw_control.specs.declared.refusal.Refusal.TheVariants.{SelectedByAnother}
use Rattle.gw_control.specs.Controls.{Controls, act_accepted, act_by, controls_after_for}
use Rattle.gw_control.specs.Controls.{controls_ordering, controls_selecting, controls_unselecting}
use Rattle.gw_control.specs.Controls.{element_refusal, is_deactivation, is_selectable, standing_at}
use Rattle.gw_control.specs.Selections.{asks_same, is_fresh, is_open, is_own, is_select, is_selected}
use Rattle.gw_control.specs.Selections.{is_session, is_taken, selection_by, standing_in, stands, unselected_by}
use Rattle.law_orders.specs.Selections.{Selected, if_fresh, is_free_for, is_selected_by}
use Rattle.law_orders.specs.Selections.{is_selected_for, may_select, selected_after, unless_by}
use Rattle.law_orders.proofs.Words.{permitted_is, same_is}
use Rattle.law_orders.proofs.Opened.{Fresh, IsCurrent, IsKept, KeptAt, open_at, open_selection, told_of}

-- ---- a selection ends

unselected : (sessions : List (Option ℕ)) (c : ℕ) (got : Option (Option Selection))
    → open_selection sessions (option_map (unselected_by c) got) ≡ unless_by (λ d. d == c) (open_selection sessions got)
unselected sessions c None = refl
unselected sessions c (Some None) = refl
unselected sessions c (Some (Some x)) = by (x.client == c) (is_open sessions x) refl refl
  where
    by : (b i : Bool) → (x.client == c) ≡ b → is_open sessions x ≡ i
        → open_selection sessions (Some (cond b None (Some x))) ≡ unless_by (λ d. d == c) (when i (told_of x))
    by true true e k = sym (ap (λ (y : Bool). cond y None (Some (told_of x))) e)
    by true false e k = refl
    by false true e k =
        ap (λ (i : Bool). when i (told_of x)) k ∙ sym (ap (λ (y : Bool). cond y None (Some (told_of x))) e)
    by false false e k = ap (λ (i : Bool). when i (told_of x)) k

open_unselecting : (a : AskedCommand) (q p : ℕ) (v : Controls) → open_at p (controls_unselecting a q v)
    ≡ cond (q == p) (unless_by (λ d. d == a.client) (open_at p v)) (open_at p v)
open_unselecting a q p v = by (q == p) refl
  where
    by : (b : Bool) → (q == p) ≡ b → open_at p (controls_unselecting a q v)
        ≡ cond b (unless_by (λ d. d == a.client) (open_at p v)) (open_at p v)
    by true e =
        ap (λ (k : ℕ). open_selection v.sessions (slice_get (change k (unselected_by a.client) v.selections) p))
        (eqb-true q p e)
        ∙ (ap (open_selection v.sessions) (change-here p (unselected_by a.client) v.selections)
        ∙ unselected v.sessions a.client (slice_get v.selections p))
    by false e =
        ap (open_selection v.sessions) (change-there q p (unselected_by a.client) v.selections (eqb-false q p e))

kept_unselected : (started : ℕ → Bool) (number : ℕ → ℕ) (count : ℕ) (sessions : List (Option ℕ)) (c : ℕ)
    (got : Option (Option Selection)) → KeptAt started number count sessions got
    → KeptAt started number count sessions (option_map (unselected_by c) got)
kept_unselected started number count sessions c None k = tt
kept_unselected started number count sessions c (Some None) k = tt
kept_unselected started number count sessions c (Some (Some x)) k = by (x.client == c)
  where
    by : (b : Bool) → KeptAt started number count sessions (Some (cond b None (Some x)))
    by true = tt
    by false = k

fresh_unselecting : (started : ℕ → Bool) (number : ℕ → ℕ) (count : ℕ) (a : AskedCommand) (q : ℕ) (v : Controls)
    → Fresh started number count v → Fresh started number count (controls_unselecting a q v)
fresh_unselecting started number count a q v fresh = record {
  counted = fresh.counted;
  current = fresh.current;
  kept = λ p. elim (cases_eq q p) [
    | inl e ↦ subst (λ (x : ℕ). KeptAt started number count v.sessions
        (slice_get (change q (unselected_by a.client) v.selections) x)) e
        (rw (change-here q (unselected_by a.client) v.selections)
        (kept_unselected started number count v.sessions a.client (slice_get v.selections q) (fresh.kept q)))
    | inr ne ↦ rw (change-there q p (unselected_by a.client) v.selections ne) (fresh.kept p)
  ];
}

-- ---- a selection begins

put : {A : Type 0} (n : ℕ) (y : A) (xs : List A) → n < length xs → slice_get (change n (λ _. y) xs) n ≡ Some y
put n y [] lt = absurd (omega arith)
put zero y (x ∷ xs) lt = refl
put (suc n) y (x ∷ xs) lt = put n y xs (omega arith)

not_it : (started : Bool) (number session x : ℕ) (got : Option (Option ℕ)) → session ≡ number → (session == x) ≡ false
    → IsCurrent started number got → is_session x got ≡ false
not_it started number session x None is ne k = refl
not_it started number session x (Some None) is ne k = refl
not_it started number session x (Some (Some current)) is ne k = ap (λ (n : ℕ). n == x) (k.1 ∙ sym is) ∙ ne

-- the session of its client is current, so that no other selection opens
module _ (started : ℕ → Bool) (number : ℕ → ℕ) (count : ℕ) (a : AskedCommand) (q : ℕ) (v : Controls) where
  abbrev begun : List (Option ℕ)
  begun = change a.client (λ _. Some a.session) v.sessions

  abbrev now_selected : Selected
  now_selected = record { client = a.client; action = a.command.action; since = a.moment }

  opens : a.client < length v.sessions → is_open begun (selection_by a) ≡ true
  opens there =
      ap (is_session a.session) (put a.client (Some a.session) v.sessions there) ∙ eq-eqb a.session a.session refl

  as_before : (x : Selection) → Fresh started number count v → started a.client ≡ true → a.session ≡ number a.client
      → a.client < length v.sessions → IsKept started number count v.sessions x
      → is_open begun x ≡ is_open v.sessions x
  as_before x fresh up is there k = elim (cases_eq a.client x.client) [
    | inl e ↦ own e (a.session == x.session) refl
    | inr ne ↦ ap (is_session x.session) (change-there a.client x.client (λ _. Some a.session) v.sessions ne)
  ]
    where
      now : a.client ≡ x.client → is_open begun x ≡ (a.session == x.session)
      now e = ap (is_session x.session) (subst (λ (d : ℕ). slice_get begun d ≡ Some (Some a.session)) e
          (put a.client (Some a.session) v.sessions there))

      own : a.client ≡ x.client → (b : Bool) → (a.session == x.session) ≡ b → is_open begun x ≡ is_open v.sessions x
      own e true same =
          now e ∙ (same ∙ sym (k.stands (subst (λ (d : ℕ). started d ≡ true) e up)
          (sym (eqb-true a.session x.session same) ∙ (is ∙ ap number e))))
      own e false other =
          now e ∙ (other ∙ sym (not_it (started x.client) (number x.client) a.session x.session
          (slice_get v.sessions x.client) (is ∙ ap number e) other (fresh.current x.client)))

  opened_as_before : (got : Option (Option Selection)) → Fresh started number count v → started a.client ≡ true
      → a.session ≡ number a.client → a.client < length v.sessions → KeptAt started number count v.sessions got
      → open_selection begun got ≡ open_selection v.sessions got
  opened_as_before None fresh up is there k = refl
  opened_as_before (Some None) fresh up is there k = refl
  opened_as_before (Some (Some x)) fresh up is there k =
      ap (λ (b : Bool). when b (told_of x)) (as_before x fresh up is there k)

  open_selecting : (p : ℕ) → Fresh started number count v → started a.client ≡ true → a.session ≡ number a.client
      → a.client < length v.sessions → q < length v.selections
      → open_at p (controls_selecting a q v) ≡ cond (q == p) (Some now_selected) (open_at p v)
  open_selecting p fresh up is there within = by (q == p) refl
    where
      by : (b : Bool) → (q == p) ≡ b
          → open_at p (controls_selecting a q v) ≡ cond b (Some now_selected) (open_at p v)
      by true e =
          ap (open_selection begun)
          (subst (λ (x : ℕ). slice_get (change q (λ _. Some (selection_by a)) v.selections) x
          ≡ Some (Some (selection_by a))) (eqb-true q p e) (put q (Some (selection_by a)) v.selections within))
          ∙ ap (λ (b : Bool). when b now_selected) (opens there)
      by false e =
          ap (open_selection begun) (change-there q p (λ _. Some (selection_by a)) v.selections (eqb-false q p e))
          ∙ opened_as_before (slice_get v.selections p) fresh up is there (fresh.kept p)

  kept_selecting : (got : Option (Option Selection)) → Fresh started number count v → started a.client ≡ true
      → a.session ≡ number a.client → a.client < length v.sessions → KeptAt started number count v.sessions got
      → KeptAt started number count begun got
  kept_selecting None fresh up is there k = tt
  kept_selecting (Some None) fresh up is there k = tt
  kept_selecting (Some (Some x)) fresh up is there k = record {
    counted = k.counted;
    stands = λ on same. as_before x fresh up is there k ∙ k.stands on same;
  }

  fresh_selecting : Fresh started number count v → started a.client ≡ true → a.session ≡ number a.client
      → a.client < length v.sessions → q < length v.selections
      → Fresh started number count (controls_selecting a q v)
  fresh_selecting fresh up is there within = record {
    counted = fresh.counted;
    current = λ d. elim (cases_eq a.client d) [
      | inl e ↦ subst (λ (x : ℕ). IsCurrent (started x) (number x) (slice_get begun x)) e
          (rw (put a.client (Some a.session) v.sessions there) (up, is))
      | inr ne ↦ rw (change-there a.client d (λ _. Some a.session) v.sessions ne) (fresh.current d)
    ];
    kept = λ p. elim (cases_eq q p) [
      | inl e ↦ subst (λ (x : ℕ). KeptAt started number count begun
          (slice_get (change q (λ _. Some (selection_by a)) v.selections) x)) e
          (rw (put q (Some (selection_by a)) v.selections within) new_kept)
      | inr ne ↦ rw (change-there q p (λ _. Some (selection_by a)) v.selections ne)
          (kept_selecting (slice_get v.selections p) fresh up is there (fresh.kept p))
    ];
  }
    where
      new_kept : IsKept started number count begun (selection_by a)
      new_kept = record { counted = omega (arith, is, fresh.counted a.client); stands = λ on same. opens there }

-- ---- orders leave selections alone

open_ordering : (a : AskedCommand) (control : Control) (act : Option Act) (p : ℕ) (v : Controls)
    → open_at p (controls_ordering a control act v) ≡ open_at p v
open_ordering a control None p v = refl
open_ordering a control (Some act) p v = refl

fresh_ordering : (started : ℕ → Bool) (number : ℕ → ℕ) (count : ℕ) (a : AskedCommand) (control : Control)
    (act : Option Act) (v : Controls) → Fresh started number count v
    → Fresh started number count (controls_ordering a control act v)
fresh_ordering started number count a control None v fresh = fresh
fresh_ordering started number count a control (Some act) v fresh =
    record { counted = fresh.counted; current = fresh.current; kept = fresh.kept }

-- ---- the selection that stands

told_when : (b : Bool) (x : Selection) → option_map told_of (when b x) ≡ when b (told_of x)
told_when true x = refl
told_when false x = refl

pub standing_told : (setup : Setup) (moment : ℕ) (sessions : List (Option ℕ)) (got : Option (Option Selection))
    → option_map told_of (standing_in setup.station.select_ms moment sessions got)
    ≡ if_fresh setup moment (open_selection sessions got)
standing_told setup moment sessions None = refl
standing_told setup moment sessions (Some None) = refl
standing_told setup moment sessions (Some (Some x)) = by (is_open sessions x)
  where
    by : (i : Bool) → option_map told_of (when (i && is_fresh setup.station.select_ms moment x) x)
        ≡ if_fresh setup moment (when i (told_of x))
    by true = told_when (is_fresh setup.station.select_ms moment x) x
    by false = refl

pub standing_open : (limit moment : ℕ) (sessions : List (Option ℕ)) (got : Option (Option Selection))
    → IfSome (standing_in limit moment sessions got) (λ x. is_open sessions x ≡ true)
standing_open limit moment sessions None = tt
standing_open limit moment sessions (Some None) = tt
standing_open limit moment sessions (Some (Some x)) = by (is_open sessions x) (is_fresh limit moment x) refl
  where
    by : (i f : Bool) → is_open sessions x ≡ i → IfSome (when (i && f) x) (λ y. is_open sessions y ≡ true)
    by true true e = e
    by true false e = tt
    by false f e = tt

pub taken_is : (a : AskedCommand) (standing : Option Selection)
    → is_taken a standing ≡ not (is_free_for a.client (option_map told_of standing))
taken_is a None = refl
taken_is a (Some x) = refl

session_is : (started : Bool) (number session : ℕ) (got : Option (Option ℕ)) → is_session session got ≡ true
    → IsCurrent started number got → session ≡ number
session_is started number session None is k = absurd (true≢false (sym is))
session_is started number session (Some None) is k = absurd (true≢false (sym is))
session_is started number session (Some (Some current)) is k = sym (eqb-true current session is) ∙ k.1

module _ (started : ℕ → Bool) (number : ℕ → ℕ) (count : ℕ) (a : AskedCommand) (v : Controls) where
  pub own_is : (standing : Option Selection) → Fresh started number count v → a.session ≡ number a.client
      → IfSome standing (λ x. is_open v.sessions x ≡ true)
      → is_own a standing ≡ is_selected_by a.client (option_map told_of standing)
  own_is None fresh is stands = refl
  own_is (Some x) fresh is stands = by (x.client == a.client) refl
    where
      by : (b : Bool) → (x.client == a.client) ≡ b → (b && (x.session == a.session)) ≡ b
      by true e = eq-eqb x.session a.session
          (session_is (started x.client) (number x.client) x.session (slice_get v.sessions x.client) stands
          (fresh.current x.client)
          ∙ (ap number (eqb-true x.client a.client e) ∙ sym is))
      by false e = refl

  pub selected_is : (standing : Option Selection) → Fresh started number count v → a.session ≡ number a.client
      → IfSome standing (λ x. is_open v.sessions x ≡ true)
      → is_selected a standing ≡ is_selected_for a.client a.command.action (option_map told_of standing)
  selected_is None fresh is stands = refl
  selected_is (Some x) fresh is stands =
      ap (λ (b : Bool). b && asks_same x.action a.command.action) (own_is (Some x) fresh is stands)
      ∙ ap (λ (b : Bool). (x.client == a.client) && b) (same_is x.action a.command.action)

-- ---- a select

selectable_by : (r : Refusal) (act : Option Act) (free : Bool)
    → is_none (first_of (when (is_none act) r ∷ when (not free) SelectedByAnother ∷ []))
    ≡ (is_some act && free)
selectable_by r None free = refl
selectable_by r (Some act) true = refl
selectable_by r (Some act) false = refl

pub selectable_is : (setup : Setup) (a : AskedCommand) (control : Control) (q : ℕ) (v : Controls)
    → is_selectable a control (standing_at setup a.moment q v)
    ≡ may_select setup a.client a.moment control a.command (open_at q v)
selectable_is setup a control q v =
    let free : Bool = is_free_for a.client (if_fresh setup a.moment (open_at q v)) in
    let r : Refusal = element_refusal a.command.action control.operates in
    ap (λ (t : Bool).
    is_none (first_of (when (is_none (act_by a control)) r ∷ when t SelectedByAnother ∷ [])))
    (taken_is a (standing_at setup a.moment q v)
    ∙ ap (λ (x : Option Selected). not (is_free_for a.client x))
    (standing_told setup a.moment v.sessions (slice_get v.selections q)))
    ∙ (selectable_by r (act_by a control) free
    ∙ ap (λ (b : Bool). b && free) (permitted_is control.operates a.command.action))

-- ---- a command

-- what a command makes of the controls
pub record Commands (setup : Setup) (started : ℕ → Bool) (number : ℕ → ℕ) (count : ℕ) (a : AskedCommand) (q : ℕ)
    (control : Control) (v w : Controls) : Type 0 where
  pub fresh : Fresh started number count w
  pub opened : (p : ℕ) → open_at p w
      ≡ cond (q == p) (selected_after setup a.client a.moment control a.command (open_at p v)) (open_at p v)

-- a select, by whether it is confirmed
module _ (setup : Setup) (a : AskedCommand) (q : ℕ) (control : Control) (v : Controls) where
  abbrev new_selection : Option Selected
  new_selection = Some (record { client = a.client; action = a.command.action; since = a.moment })

  abbrev after_select : Option Selected → Option Selected
  after_select x = cond (may_select setup a.client a.moment control a.command x) new_selection x

  may_there : (p : ℕ) (b : Bool) → (q == p) ≡ true → is_selectable a control (standing_at setup a.moment q v) ≡ b
      → may_select setup a.client a.moment control a.command (open_at p v) ≡ b
  may_there p b e k = subst (λ (x : ℕ). may_select setup a.client a.moment control a.command (open_at x v) ≡ b)
      (eqb-true q p e) (sym (selectable_is setup a control q v) ∙ k)

  selected_there : (p : ℕ) (b y : Bool) → (q == p) ≡ y → is_selectable a control (standing_at setup a.moment q v) ≡ b
      → open_at p (controls_selecting a q v) ≡ cond (q == p) new_selection (open_at p v)
      → open_at p (cond b (controls_selecting a q v) v) ≡ cond y (after_select (open_at p v)) (open_at p v)
  selected_there p true true e k new =
      new ∙ (ap (λ (y : Bool). cond y new_selection (open_at p v)) e
      ∙ sym (ap (λ (b : Bool). cond b new_selection (open_at p v)) (may_there p true e k)))
  selected_there p false true e k new =
      sym (ap (λ (b : Bool). cond b new_selection (open_at p v)) (may_there p false e k))
  selected_there p true false e k new = new ∙ ap (λ (y : Bool). cond y new_selection (open_at p v)) e
  selected_there p false false e k new = refl

module _ (setup : Setup) (started : ℕ → Bool) (number : ℕ → ℕ) (count : ℕ) (a : AskedCommand) (q : ℕ)
    (control : Control) (v : Controls) where
  selecting : (b : Bool) → is_selectable a control (standing_at setup a.moment q v) ≡ b
      → Fresh started number count v → started a.client ≡ true → a.session ≡ number a.client
      → a.client < length v.sessions → q < length v.selections
      → Fresh started number count (cond b (controls_selecting a q v) v)
  selecting true k fresh up is there within = fresh_selecting started number count a q v fresh up is there within
  selecting false k fresh up is there within = fresh

  by_kind : (deactivation select : Bool) → Fresh started number count v → started a.client ≡ true
      → a.session ≡ number a.client → a.client < length v.sessions → q < length v.selections
      → let standing : Option Selection = standing_at setup a.moment q v in
      let w : Controls = cond deactivation (controls_unselecting a q v)
      (cond select (cond (is_selectable a control standing) (controls_selecting a q v) v)
      (controls_ordering a control (act_accepted a control standing v) (controls_unselecting a q v))) in
      Fresh started number count w × ((p : ℕ) → open_at p w ≡ cond (q == p)
      (cond deactivation (unless_by (λ d. d == a.client) (open_at p v))
      (cond select (after_select setup a q control v (open_at p v))
      (unless_by (λ d. d == a.client) (open_at p v)))) (open_at p v))
  by_kind true select fresh up is there within =
      (fresh_unselecting started number count a q v fresh, λ p. open_unselecting a q p v)
  by_kind false true fresh up is there within =
      let standing : Option Selection = standing_at setup a.moment q v in (
        selecting (is_selectable a control standing) refl fresh up is there within,
        λ p. selected_there setup a q control v p (is_selectable a control standing) (q == p) refl refl
            (open_selecting started number count a q v p fresh up is there within),
      )
  by_kind false false fresh up is there within =
      let act : Option Act = act_accepted a control (standing_at setup a.moment q v) v in (
        fresh_ordering started number count a control act (controls_unselecting a q v)
            (fresh_unselecting started number count a q v fresh),
        λ p. open_ordering a control act p (controls_unselecting a q v) ∙ open_unselecting a q p v,
      )

  pub commanded : Fresh started number count v → started a.client ≡ true → a.session ≡ number a.client
      → a.client < length v.sessions → q < length v.selections
      → Commands setup started number count a q control v
      (controls_after_for a q control (standing_at setup a.moment q v) v)
  commanded fresh up is there within =
      let k = by_kind (is_deactivation a) (is_select a.command.action) fresh up is there within in
      record { fresh = k.0; opened = k.1 }
