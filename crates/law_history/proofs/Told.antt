-- What clients are told of their orders: of each client no more than its orders, and each of a command that operates
-- controls.
use Rattle.std.specs.List.{AllByRecursion, filter}
use Rattle.std.specs.Option.{option_to_list}
use Rattle.std.specs.Prelude.{slice_get, option_map, IfSome}
use Rattle.std.proofs.Common.{◌≡◌, ℕ, zero, suc, ◌+◌, ◌≤◌, ◌*◌, Bool, true, false, cond, eqb, map, List, []}
use Rattle.std.proofs.Common.{◌∷◌, ◌++◌, length, Option, Some, None, refl, sym, ap, subst, ◌∙◌, arith, inl, inr}
use Rattle.std.proofs.lemmas.Bool.{cases_eq, ne_eqb, eq-eqb}
use Rattle.std.proofs.lemmas.List.{length-append, nil_from_length}
use Rattle.std.proofs.lemmas.List.Elements.{filter-append}
use Rattle.gw_model.specs.Places.{change}
use Rattle.gw_model.specs.declared.control.Ended.{Ended}
use Rattle.gw_model.specs.declared.observation.Observation.{Observation}
use Rattle.gw_entries.specs.Setup.{StationSetup}
use Rattle.gw_map.specs.Settings.{Setup}
use Rattle.gw_picture.proofs.Lists.{change-here, change-length, change-there, map-get, some_is}
use Rattle.gw_control.specs.declared.answer.Outcome.{Outcome}
use Rattle.gw_control.specs.Controls.{Controls, controls_after_end, controls_after_ended, controls_after_lost}
use Rattle.gw_control.specs.Held.{controls_after_losses, orders_of, outcomes_to}
use Rattle.gw_control.specs.Moves.{Ends, Leaves, Loses, HasWholeCommands, IsWholeOrder}
use Rattle.gw_control.specs.Orders.{places}
use Rattle.gw_control.proofs.Held.{ended_frees, lost_frees, end_frees_own, end_keeps_others}
use Rattle.gw_control.proofs.Whole.{ended_whole, lost_whole, stays_whole}
use Rattle.gw_station.specs.Client.{Client, client_with_news, is_started, is_timed_out}
use Rattle.gw_station.specs.Sound.{IsSoundClient}
use Rattle.gw_station.proofs.All.{all-append}
use Rattle.gw_steps.specs.Controls.{client_told_all, client_told_of, clients_told}
use Rattle.gw_steps.specs.Controls.{controls_after_all_ended, controls_after_closes, controls_with_ended}
use Rattle.gw_steps.specs.Controls.{ended_lost, outcome_ended, outcomes_ended, outcomes_lost}
use Rattle.gw_steps.specs.Sound.{IsSoundState}
use Rattle.gw_steps.specs.State.{State}
use Rattle.gw_steps.specs.Steps.{controls_closed, ended_late, outcomes_of_loss, outcomes_of_tick, parts_after_loss, parts_after_tick}
use Rattle.law_history.specs.Life.{outcomes_for}
use Rattle.law_history.proofs.Lives.{Came, IsOperating}

-- ---- each client is told of its own

told_twice : {A : Type 0} (f g : A → A) (x : Option A) → option_map f (option_map g x) ≡ option_map (λ y. f (g y)) x
told_twice f g None = refl
told_twice f g (Some x) = refl

told_nothing : (x : Option Client) → option_map (client_told_all []) x ≡ x
told_nothing None = refl
told_nothing (Some k) = refl

pub told_own : (d : ℕ) (xs : List Outcome) (ks : List Client)
    → slice_get (clients_told xs ks) d ≡ option_map (client_told_all (outcomes_for d xs)) (slice_get ks d)
told_own d [] ks = sym (told_nothing (slice_get ks d))
told_own d (x ∷ xs) ks =
    told_own d xs (change x.client (client_told_of x) ks) ∙ elim (cases_eq x.client d) [
      | inl same ↦ rw (eq-eqb x.client d same) (subst (λ (c : ℕ).
          option_map (client_told_all (outcomes_for d xs)) (slice_get (change c (client_told_of x) ks) d)
          ≡ option_map (client_told_all (x ∷ outcomes_for d xs)) (slice_get ks d)) (sym same)
          (ap (option_map (client_told_all (outcomes_for d xs))) (change-here d (client_told_of x) ks)
          ∙ told_twice (client_told_all (outcomes_for d xs)) (client_told_of x) (slice_get ks d)))
      | inr ne ↦ rw (ne_eqb x.client d ne)
          (ap (option_map (client_told_all (outcomes_for d xs))) (change-there x.client d (client_told_of x) ks ne))
    ]

pub told_length : (xs : List Outcome) (ks : List Client) → length (clients_told xs ks) ≡ length ks
told_length [] ks = refl
told_length (x ∷ xs) ks =
    told_length xs (change x.client (client_told_of x) ks) ∙ change-length x.client (client_told_of x) ks

-- ---- what is told while the controls change

-- each outcome ends an order of its client
pub record IsTold (c : ℕ) (v new : Controls) (xs : List Outcome) : Type 0 where
  pub ends : length (outcomes_for c xs) + orders_of c new ≡ orders_of c v
  pub operating : AllByRecursion IsOperating xs
  pub whole : HasWholeCommands new

none_told : (c : ℕ) (v : Controls) → HasWholeCommands v → IsTold c v v []
none_told c v whole = record { ends = omega arith; operating = tt; whole = whole }

both_told : (c : ℕ) (v w new : Controls) (xs ys : List Outcome) → IsTold c v w xs → IsTold c w new ys
    → IsTold c v new (xs ++ ys)
both_told c v w new xs ys first others = record {
  ends =
      let all : outcomes_for c (xs ++ ys) ≡ outcomes_for c xs ++ outcomes_for c ys =
      filter-append (λ (x : Outcome). eqb x.client c) xs ys in
      omega (arith, ap length all, length-append (outcomes_for c xs) (outcomes_for c ys), first.ends, others.ends);
  operating = all-append IsOperating xs ys first.operating others.operating;
  whole = others.whole;
}

-- one, if there is one
own_outcomes : (c : ℕ) (x : Option Outcome) → length (outcomes_for c (option_to_list x)) ≡ outcomes_to c x
own_outcomes c None = refl
own_outcomes c (Some x) = by (eqb x.client c) refl
  where
    by : (own : Bool) → eqb x.client c ≡ own → length (outcomes_for c (x ∷ [])) ≡ outcomes_to c (Some x)
    by true e = rw e refl
    by false e = rw e refl

one_operates : (x : Option Outcome) → IfSome x (λ outcome. IsWholeOrder outcome.command)
    → AllByRecursion IsOperating (option_to_list x)
one_operates None whole = tt
one_operates (Some x) whole = (whole.operating, tt)

one_told : (c : ℕ) (v new : Controls) (x : Option Outcome) → orders_of c v ≡ orders_of c new + outcomes_to c x
    → IfSome x (λ outcome. IsWholeOrder outcome.command) → HasWholeCommands new → IsTold c v new (option_to_list x)
one_told c v new x frees operating whole = record {
  ends = omega (arith, own_outcomes c x, frees);
  operating = one_operates x operating;
  whole = whole;
}

pub told_ended : (setup : Setup) (c o : ℕ) (ended : Option Ended) (v : Controls) → HasWholeCommands v
    → IsTold c v (controls_with_ended o ended v) (option_to_list (outcome_ended o ended v))
told_ended setup c o None v whole = none_told c v whole
told_ended setup c o (Some ended) v whole =
    one_told c v (controls_after_ended o ended v) (outcome_ended o (Some ended) v) (ended_frees c o ended v)
    (ended_whole o ended v whole) (stays_whole setup (Ends o ended) v tt whole)

told_lost : (setup : Setup) (c n o : ℕ) (v : Controls) → HasWholeCommands v
    → IsTold c v (controls_after_losses n o v) (outcomes_lost n o v)
told_lost setup c zero o v whole = none_told c v whole
told_lost setup c (suc n) o v whole =
    let one = one_told c v (controls_after_lost o v) _ (lost_frees c o v) (lost_whole o v whole)
    (stays_whole setup (Loses o) v tt whole) in
    both_told c v (controls_after_lost o v) (controls_after_losses n o (controls_after_lost o v)) _
    (outcomes_lost n o (controls_after_lost o v)) one
    (told_lost setup c n o (controls_after_lost o v) one.whole)

told_all_ended : (setup : Setup) (c o : ℕ) (ended : List (Option Ended)) (v : Controls) → HasWholeCommands v
    → IsTold c v (controls_after_all_ended o ended v) (outcomes_ended o ended v)
told_all_ended setup c o [] v whole = none_told c v whole
told_all_ended setup c o (e ∷ more) v whole =
    let next : Controls = controls_with_ended o e v in
    let one = told_ended setup c o e v whole in
    both_told c v next (controls_after_all_ended (suc o) more next) (option_to_list (outcome_ended o e v))
    (outcomes_ended (suc o) more next) one (told_all_ended setup c (suc o) more next one.whole)

-- ---- clients that are closed

closed_whole : (setup : Setup) (n : ℕ) (closed : List Bool) (v : Controls) → HasWholeCommands v
    → HasWholeCommands (controls_after_closes n closed v)
closed_whole setup n [] v whole = whole
closed_whole setup n (true ∷ more) v whole =
    closed_whole setup (suc n) more (controls_after_end n v) (stays_whole setup (Leaves n) v tt whole)
closed_whole setup n (false ∷ more) v whole = closed_whole setup (suc n) more v whole

pub closed_few : (c n : ℕ) (closed : List Bool) (v : Controls)
    → orders_of c (controls_after_closes n closed v) ≤ orders_of c v
closed_few c n [] v = omega arith
closed_few c n (false ∷ more) v = closed_few c (suc n) more v
closed_few c n (true ∷ more) v =
    let others = closed_few c (suc n) more (controls_after_end n v) in
    elim (cases_eq n c) [
      | inl own ↦ omega (
        arith,
        others,
        subst (λ (d : ℕ). orders_of d (controls_after_end n v) ≡ 0) own
            (end_frees_own n v),
      )
      | inr ne ↦ omega (arith, others, end_keeps_others n c ne v)
    ]

-- a client that is closed has none
closed_none : (n d c : ℕ) (closed : List Bool) (v : Controls) → c ≡ n + d → slice_get closed d ≡ Some true
    → orders_of c (controls_after_closes n closed v) ≡ 0
closed_none n d c [] v at is = absurd cc
closed_none n zero c (b ∷ more) v at is = by b is
  where
    by : (b : Bool) → Some b ≡ Some true → orders_of c (controls_after_closes n (b ∷ more) v) ≡ 0
    by true is =
        let own : n ≡ c = omega (arith, at) in
        omega (
          arith,
          closed_few c (suc n) more (controls_after_end n v),
          subst (λ (d : ℕ). orders_of d (controls_after_end n v) ≡ 0) own (end_frees_own n v),
        )
    by false is = absurd cc
closed_none n (suc d) c (true ∷ more) v at is =
    closed_none (suc n) d c more (controls_after_end n v) (omega (arith, at)) is
closed_none n (suc d) c (false ∷ more) v at is = closed_none (suc n) d c more v (omega (arith, at)) is

-- ---- what a client is told

-- one of many
pub sound_at : (station : StationSetup) (n i : ℕ) (ks : List Client) (c : ℕ) (k : Client) → slice_get ks c ≡ Some k
    → AllByRecursion (IsSoundClient station n i) ks → IsSoundClient station n i k
sound_at station n i [] c k at all = absurd cc
sound_at station n i (x ∷ ks) zero k at all = subst (IsSoundClient station n i) (some_is x k at) all.0
sound_at station n i (x ∷ ks) (suc c) k at all = sound_at station n i ks c k at all.1

-- a client that isn't started has no orders
no_orders : (setup : Setup) (s : State) (d : ℕ) (k : Client) → IsSoundState setup s → slice_get s.clients d ≡ Some k
    → is_started k.stage ≡ false → orders_of d s.controls ≡ 0
no_orders setup s d k sound at stopped =
    let mine = sound_at setup.station s.counts.steps s.counts.news s.clients d k at sound.clients in
    let held : k.held ≡ 2 * orders_of d s.controls =
    subst (λ (x : Option Client). IfSome x (λ y. y.held ≡ 2 * orders_of d s.controls)) at (sound.held d) in
    omega (arith, held, mine.stopped stopped)

-- what holds of all holds of those that are kept
pub filter_all : {A : Type 0} (P : A → Type 0) (keep : A → Bool) (xs : List A) → AllByRecursion P xs
    → AllByRecursion P (filter keep xs)
filter_all P keep [] all = tt
filter_all P keep (x ∷ xs) all = by (filter_all P keep xs all.1) (keep x)
  where
    by : AllByRecursion P (filter keep xs) → (b : Bool)
        → AllByRecursion P (cond b (x ∷ filter keep xs) (filter keep xs))
    by rest true = (all.0, rest)
    by rest false = rest

-- no more orders ended than the client had before
pub came_told : (setup : Setup) (s : State) (d : ℕ) (k : Client) (v new : Controls) (news : List Observation)
    (xs : List Outcome) → IsSoundState setup s → slice_get s.clients d ≡ Some k
    → orders_of d v ≤ orders_of d s.controls → IsTold d v new xs
    → Came (record { news = news; outcomes = outcomes_for d xs }) k
    (client_told_all (outcomes_for d xs) (client_with_news news k))
came_told setup s d k v new news xs sound at few told = record {
  becomes = refl;
  stopped = λ stopped. nil_from_length (outcomes_for d xs)
      (omega (arith, told.ends, few, no_orders setup s d k sound at stopped));
  operating = filter_all IsOperating (λ (x : Outcome). eqb x.client d) xs told.operating;
}

-- ---- what is told in a step

-- with the loss of an outstation
pub loss_told : (setup : Setup) (s : State) (o d : ℕ) → IsSoundState setup s
    → IsTold d s.controls (parts_after_loss setup s o).controls (outcomes_of_loss s o)
loss_told setup s o d sound =
    let ended : Option Ended = ended_lost (slice_get s.outstations o) in
    let v : Controls = controls_with_ended o ended s.controls in
    let one = told_ended setup d o ended s.controls sound.commands in
    both_told d s.controls v _ _ _ one (told_lost setup d places o v one.whole)

-- with a tick, after the orders of clients that are closed went
pub tick_told : (setup : Setup) (s : State) (moment d : ℕ) → IsSoundState setup s
    → IsTold d (controls_closed s moment) (parts_after_tick s moment).controls (outcomes_of_tick s moment)
tick_told setup s moment d sound =
    told_all_ended setup d 0 (ended_late s moment) (controls_closed s moment)
    (closed_whole setup 0 (map (is_timed_out moment) s.clients) s.controls sound.commands)

-- nothing is told to a client that is closed
pub closed_told : (setup : Setup) (s : State) (moment d : ℕ) (k : Client) → IsSoundState setup s
    → slice_get s.clients d ≡ Some k → is_timed_out moment k ≡ true → outcomes_for d (outcomes_of_tick s moment) ≡ []
closed_told setup s moment d k sound at passed =
    let closed : slice_get (map (is_timed_out moment) s.clients) d ≡ Some true =
    map-get (is_timed_out moment) s.clients d ∙ (ap (option_map (is_timed_out moment)) at
    ∙ ap (λ (b : Bool). Some b) passed) in
    nil_from_length (outcomes_for d (outcomes_of_tick s moment))
    (omega (
      arith,
      (tick_told setup s moment d sound).ends,
      closed_none 0 d d (map (is_timed_out moment) s.clients) s.controls (omega arith) closed,
    ))
