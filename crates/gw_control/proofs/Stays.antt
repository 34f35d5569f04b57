-- What leaves a selection alone.
use Rattle.std.specs.Prelude.{is_none, slice_get}
use Rattle.std.proofs.Common.{◌≡◌, ℕ, zero, suc, ◌-◌, ◌<◌, ◌≤◌, ◌==◌, ◌⊎◌, inl}
use Rattle.std.proofs.Common.{inr, Bool, true, false, cond, not, ◌&&◌, ◌||◌, List, [], ◌∷◌}
use Rattle.std.proofs.Common.{Option, Some, None, option_map, refl, sym, ap, subst, ◌∙◌, arith}
use Rattle.std.proofs.lemmas.Bool.{eqb-true, eqb-false, ltb-true, lt-ltb}
use Rattle.gw_model.specs.First.{first_of, when}
use Rattle.gw_model.specs.Places.{change}
use Rattle.gw_model.specs.declared.control.Act.{Act}
use Rattle.gw_entries.specs.declared.control.Control.{Control}
use Rattle.gw_map.specs.Settings.{Setup}
use Rattle.gw_control.specs.declared.asked.AskedCommand.{AskedCommand}
use Rattle.gw_control.specs.declared.selection.Selection.{Selection}
use Rattle.gw_control.specs.Intents.{control_for}
use Rattle.gw_control.specs.Selections.{is_fresh, is_open, is_select, is_session, selection_by, standing_in, stands, unselected_by}
use Rattle.gw_control.specs.declared.refusal.Refusal.{Refusal}
use Rattle.gw_control.specs.declared.refusal.Refusal.TheVariants.{SelectedByAnother}
use Rattle.gw_control.specs.Controls.{Controls, act_accepted, act_by, controls_after_at}
use Rattle.gw_control.specs.Controls.{controls_ordering, controls_selecting, controls_unselecting}
use Rattle.gw_control.specs.Controls.{element_refusal, is_deactivation, is_selectable, standing_at}
use Rattle.gw_control.specs.Moves.{Move, Comes, Takes, Ends, Loses, Leaves, after_move, is_at, Spares}

-- ---- a selection that stands

-- a limit, a moment, the sessions, and what is at the control
stood : (limit moment : ℕ) (sessions : List (Option ℕ)) (got : Option (Option Selection)) (s : Selection)
    → standing_in limit moment sessions got ≡ Some s → (got ≡ Some (Some s)) × (stands limit moment sessions s ≡ true)
stood limit moment sessions None s e = absurd (let none : ⊥ = cc in none)
stood limit moment sessions (Some None) s e = absurd (let none : ⊥ = cc in none)
stood limit moment sessions (Some (Some t)) s e = by_test (stands limit moment sessions t) refl e
  where
    by_test : (b : Bool) → stands limit moment sessions t ≡ b → when b t ≡ Some s
        → (Some (Some t) ≡ Some (Some s)) × (stands limit moment sessions s ≡ true)
    by_test true is f =
        let same : t ≡ s = cc in (
          ap (λ (x : Selection). Some (Some x)) same,
          subst (λ (x : Selection). stands limit moment sessions x ≡ true)
              same is,
        )
    by_test false is f = absurd (let none : ⊥ = cc in none)

stands_still : (limit moment : ℕ) (sessions : List (Option ℕ)) (got : Option (Option Selection)) (s : Selection)
    → got ≡ Some (Some s) → stands limit moment sessions s ≡ true → standing_in limit moment sessions got ≡ Some s
stands_still limit moment sessions got s here valid =
    ap (standing_in limit moment sessions) here ∙ ap (λ (b : Bool). when b s) valid

both : (a b : Bool) → (a && b) ≡ true → (a ≡ true) × (b ≡ true)
both true b e = (refl, e)
both false b e = absurd (let none : ⊥ = cc in none)

-- it stood earlier, too
stood_before : (limit earlier moment : ℕ) (sessions : List (Option ℕ)) (s : Selection) → earlier ≤ moment
    → stands limit moment sessions s ≡ true → stands limit earlier sessions s ≡ true
stood_before limit earlier moment sessions s le valid =
    let parts = both (is_open sessions s) (is_fresh limit moment s) valid in
    let late : moment - s.since < limit = ltb-true _ _ parts.1 in
    let fresh : is_fresh limit earlier s ≡ true = lt-ltb _ _ (omega arith) in
    ap (λ (b : Bool). b && is_fresh limit earlier s) parts.0 ∙ fresh

-- ---- what changes at another place, or to nothing else

change-there : {A : Type 0} (n p : ℕ) (f : A → A) (xs : List A) → (n ≡ p → ⊥)
    → slice_get (change n f xs) p ≡ slice_get xs p
change-there n p f [] ne = refl
change-there zero zero f (x ∷ xs) ne = absurd (ne refl)
change-there zero (suc p) f (x ∷ xs) ne = refl
change-there (suc n) zero f (x ∷ xs) ne = refl
change-there (suc n) (suc p) f (x ∷ xs) ne = change-there n p f xs (λ e. ne (ap suc e))

change-here : {A : Type 0} (n : ℕ) (f : A → A) (xs : List A)
    → slice_get (change n f xs) n ≡ option_map f (slice_get xs n)
change-here n f [] = refl
change-here zero f (x ∷ xs) = refl
change-here (suc n) f (x ∷ xs) = change-here n f xs

-- another client's
left_alone : (client : ℕ) (s : Selection) → (s.client == client) ≡ false → unselected_by client (Some s) ≡ Some s
left_alone client s differs = ap (λ (b : Bool). cond b None (Some s)) differs

unselecting_spares : (q p client : ℕ) (xs : List (Option Selection)) (s : Selection)
    → ((s.client == client) ≡ false) ⊎ ((q == p) ≡ false)
    → slice_get xs p ≡ Some (Some s) → slice_get (change q (unselected_by client) xs) p ≡ Some (Some s)
unselecting_spares q p client xs s apart here = by_place (q == p) refl apart
  where
    by_place : (b : Bool) → (q == p) ≡ b → ((s.client == client) ≡ false) ⊎ (b ≡ false)
        → slice_get (change q (unselected_by client) xs) p ≡ Some (Some s)
    by_place false e apart = change-there q p (unselected_by client) xs (eqb-false q p e) ∙ here
    by_place true e (inl differs) =
        let same : q ≡ p = eqb-true q p e in
        ap (λ (k : ℕ). slice_get (change k (unselected_by client) xs) p) same ∙ (change-here p (unselected_by client) xs
        ∙ (ap (option_map (unselected_by client)) here ∙ ap (λ (x : Option Selection). Some x)
        (left_alone client s differs)))
    by_place true e (inr other) = absurd (let h : ⊥ = cc in h)

-- a session that begins for another client, or is the same
session_spares : (client session : ℕ) (sessions : List (Option ℕ)) (s : Selection)
    → ((s.client == client) ≡ false) ⊎ ((s.session == session) ≡ true)
    → is_open sessions s ≡ true → is_open (change client (λ _. Some session) sessions) s ≡ true
session_spares client session sessions s apart valid = by_client (client == s.client) refl apart
  where
    opened : (got : Option (Option ℕ)) → session ≡ s.session → is_session s.session got ≡ true
        → is_session s.session (option_map (λ _. Some session) got) ≡ true
    opened None same e = e
    opened (Some current) same e = ap (λ (k : ℕ). k == s.session) same ∙ grind arith

    by_client : (b : Bool) → (client == s.client) ≡ b → ((s.client == client) ≡ false) ⊎ ((s.session == session) ≡ true)
        → is_open (change client (λ _. Some session) sessions) s ≡ true
    by_client false e apart = ap (is_session s.session)
        (change-there client s.client (λ _. Some session) sessions (eqb-false client s.client e)) ∙ valid
    by_client true e (inl differs) = absurd (eqb-false s.client client differs (sym (eqb-true client s.client e)))
    by_client true e (inr same) =
        let is : client ≡ s.client = eqb-true client s.client e in
        ap (λ (k : ℕ). is_session s.session (slice_get (change k (λ _. Some session) sessions) s.client)) is
        ∙ (ap (is_session s.session) (change-here s.client (λ _. Some session) sessions)
        ∙ opened (slice_get sessions s.client) (sym (eqb-true s.session session same)) valid)

-- ---- commands

apart_cases : (client session place : Bool) → (not client || (session && not place)) ≡ true
    → (client ≡ false) ⊎ ((session ≡ true) × (place ≡ false))
apart_cases false session place e = inl refl
apart_cases true true false e = inr (refl, refl)
apart_cases true true true e = absurd (let none : ⊥ = cc in none)
apart_cases true false place e = absurd (let none : ⊥ = cc in none)

-- a select is confirmed where nobody else has the control selected
selectable_alone : (a : AskedCommand) (control : Control) (s : Selection) → is_selectable a control (Some s) ≡ true
    → (s.client == a.client) ≡ true
selectable_alone a control s e =
    alone (element_refusal a.command.action control.operates) (is_none (act_by a control)) (s.client == a.client) e
  where
    alone : (r : Refusal) (none same : Bool)
        → is_none (first_of (when none r ∷ when (not same) SelectedByAnother ∷ [])) ≡ true → same ≡ true
    alone r true same e = absurd (let none : ⊥ = cc in none)
    alone r false true e = refl
    alone r false false e = absurd (let none : ⊥ = cc in none)

-- at its control, by a command that comes no later
selecting_elsewhere : (setup : Setup) (a : AskedCommand) (control : Control) (q p moment : ℕ) (v : Controls)
    (s : Selection)
    → a.moment ≤ moment
    → ((s.client == a.client) ≡ false) ⊎ ((q == p) ≡ false)
    → slice_get v.selections p ≡ Some (Some s) → stands setup.station.select_ms moment v.sessions s ≡ true
    → is_selectable a control (standing_at setup a.moment q v) ≡ true → (q == p) ≡ false
selecting_elsewhere setup a control q p moment v s le (inr other) here valid free = other
selecting_elsewhere setup a control q p moment v s le (inl differs) here valid free = by_place (q == p) refl
  where
    by_place : (b : Bool) → (q == p) ≡ b → b ≡ false
    by_place false e = refl
    by_place true e =
        let same : q ≡ p = eqb-true q p e in
        let standing : standing_at setup a.moment q v ≡ Some s =
        ap (λ (k : ℕ). standing_at setup a.moment k v) same
        ∙ stands_still setup.station.select_ms a.moment v.sessions (slice_get v.selections p) s here
        (stood_before setup.station.select_ms a.moment moment v.sessions s le valid) in
        let mine : (s.client == a.client) ≡ true = selectable_alone a control s
        (sym (ap (is_selectable a control) standing) ∙ free) in
        absurd (let none : ⊥ = cc in none)

ordering_spares : (setup : Setup) (a : AskedCommand) (control : Control) (act : Option Act) (v : Controls)
    (moment p : ℕ)
    → standing_at setup moment p (controls_ordering a control act v) ≡ standing_at setup moment p v
ordering_spares setup a control None v moment p = refl
ordering_spares setup a control (Some act) v moment p = refl

command_spares : (setup : Setup) (a : AskedCommand) (moment p : ℕ) (found : Option (ℕ × Control)) (v : Controls)
    (s : Selection)
    → a.moment ≤ moment → (not (s.client == a.client) || ((s.session == a.session) && not (is_at p found))) ≡ true
    → standing_at setup moment p v ≡ Some s → standing_at setup moment p (controls_after_at setup a found v) ≡ Some s
command_spares setup a moment p None v s le apart e = e
command_spares setup a moment p (Some found) v s le apart e =
    by_kind (is_deactivation a) (is_select a.command.action)
    (is_selectable a found.1 (standing_at setup a.moment found.0 v)) refl
  where
    was : (slice_get v.selections p ≡ Some (Some s)) × (stands setup.station.select_ms moment v.sessions s ≡ true)
    was = stood setup.station.select_ms moment v.sessions (slice_get v.selections p) s e

    cases : ((s.client == a.client) ≡ false) ⊎ (((s.session == a.session) ≡ true) × ((found.0 == p) ≡ false))
    cases = apart_cases (s.client == a.client) (s.session == a.session) (found.0 == p) apart

    client_or_place : ((s.client == a.client) ≡ false) ⊎ (((s.session == a.session) ≡ true) × ((found.0 == p) ≡ false))
        → ((s.client == a.client) ≡ false) ⊎ ((found.0 == p) ≡ false)
    client_or_place (inl differs) = inl differs
    client_or_place (inr others) = inr others.1

    client_or_session : ((s.client == a.client) ≡ false)
        ⊎ (((s.session == a.session) ≡ true) × ((found.0 == p) ≡ false))
        → ((s.client == a.client) ≡ false) ⊎ ((s.session == a.session) ≡ true)
    client_or_session (inl differs) = inl differs
    client_or_session (inr others) = inr others.0

    unselecting : standing_at setup moment p (controls_unselecting a found.0 v) ≡ Some s
    unselecting = stands_still setup.station.select_ms moment v.sessions _ s
        (unselecting_spares found.0 p a.client v.selections s (client_or_place cases) was.0) was.1

    selecting : is_selectable a found.1 (standing_at setup a.moment found.0 v) ≡ true
        → standing_at setup moment p (controls_selecting a found.0 v) ≡ Some s
    selecting free =
        let elsewhere : (found.0 == p) ≡ false =
        selecting_elsewhere setup a found.1 found.0 p moment v s le (client_or_place cases) was.0 was.1 free in
        let parts = both (is_open v.sessions s) (is_fresh setup.station.select_ms moment s) was.1 in
        stands_still setup.station.select_ms moment (change a.client (λ _. Some a.session) v.sessions) _ s
        (change-there found.0 p (λ _. Some (selection_by a)) v.selections (eqb-false found.0 p elsewhere) ∙ was.0)
        (ap (λ (b : Bool). b && is_fresh setup.station.select_ms moment s)
        (session_spares a.client a.session v.sessions s (client_or_session cases) parts.0) ∙ parts.1)

    by_kind : (deactivation select selectable : Bool) → is_selectable a found.1 (standing_at setup a.moment found.0 v)
        ≡ selectable
        → standing_at setup moment p
        (cond deactivation (controls_unselecting a found.0 v)
        (cond select (cond selectable (controls_selecting a found.0 v) v)
        (controls_ordering a found.1 (act_accepted a found.1 (standing_at setup a.moment found.0 v) v)
        (controls_unselecting a found.0 v)))) ≡ Some s
    by_kind true select selectable free = unselecting
    by_kind false true true free = selecting free
    by_kind false true false free = e
    by_kind false false selectable free =
        ordering_spares setup a found.1 (act_accepted a found.1 (standing_at setup a.moment found.0 v) v)
        (controls_unselecting a found.0 v) moment p ∙ unselecting

pub selection_stands : (setup : Setup) (moment position : ℕ) (s : Selection) (move : Move) (v : Controls)
    → standing_at setup moment position v ≡ Some s → Spares setup moment position s move
    → standing_at setup moment position (after_move setup move v) ≡ Some s
selection_stands setup moment position s (Comes a) v e spares =
    command_spares setup a moment position (control_for setup a.command) v s spares.0 spares.1 e
selection_stands setup moment position s (Takes outstation) v e spares = e
selection_stands setup moment position s (Ends outstation ended) v e spares = e
selection_stands setup moment position s (Loses outstation) v e spares = e
selection_stands setup moment position s (Leaves client) v e spares =
    stands_still setup.station.select_ms moment (change client (λ _. None) v.sessions) _ s was.0
    (ap (λ (b : Bool). b && is_fresh setup.station.select_ms moment s)
    (ap (is_session s.session) (change-there client s.client (λ _. None) v.sessions
    (λ (same : client ≡ s.client). eqb-false s.client client spares (sym same))) ∙ parts.0)
    ∙ parts.1)
  where
    was : (slice_get v.selections position ≡ Some (Some s))
        × (stands setup.station.select_ms moment v.sessions s ≡ true)
    was = stood setup.station.select_ms moment v.sessions (slice_get v.selections position) s e

    parts : (is_open v.sessions s ≡ true) × (is_fresh setup.station.select_ms moment s ≡ true)
    parts = both (is_open v.sessions s) (is_fresh setup.station.select_ms moment s) was.1
