-- Orders hold their clients' places, whatever comes.
use Rattle.std.specs.Prelude.{slice_get, option_map, is_some, nat_lt, IfSome, if◌then◌else◌}
use Rattle.std.specs.List.{AllByRecursion}
use Rattle.std.specs.Option.{option_to_list}
use Rattle.std.proofs.Common.{◌≡◌, ℕ, zero, suc, ◌+◌, ◌*◌, ◌-◌, ◌<◌, ◌≤◌, Bool}
use Rattle.std.proofs.Common.{true, false, List, [], ◌∷◌, ◌++◌, map, length, Option}
use Rattle.std.proofs.Common.{Some, None, Ok, refl, sym, ap, subst, ◌∙◌, arith, inl, inr}
use Rattle.std.proofs.lemmas.List.{length-append}
use Rattle.std.proofs.lemmas.Bool.{cases_Bool, cases_eq, ne_eqb, eq-eqb}
use Rattle.gw_model.specs.Places.{change}
use Rattle.gw_model.specs.declared.control.Ended.{Ended}
use Rattle.gw_model.specs.declared.observation.Observation.{Observation}
use Rattle.gw_map.specs.Settings.{Setup, station_clocks}
use Rattle.gw_entries.specs.Setup.{StationSetup}
use Rattle.gw_picture.proofs.Lists.{change-here, change-still, change-there, map-get}
use Rattle.dnp_master.specs.Master.{Master, ended_by_tick, is_ready, master_after_tick}
use Rattle.gw_model.specs.declared.control.Order.{Order}
use Rattle.gw_model.specs.Clocks.{Clocks}
use Rattle.gw_answers.specs.Meaning.{IsSendable}
use Rattle.iec_command.specs.declared.command.Command.{Command}
use Rattle.iec_command.specs.Commands.{IsWhole}
use Rattle.gw_control.specs.declared.answer.Outcome.{Outcome}
use Rattle.gw_control.specs.declared.accepted.Accepted.{Accepted}
use Rattle.gw_control.specs.Orders.{Outgoing, next_of, order_given, outgoing_after_taking, outgoing_sending}
use Rattle.gw_control.specs.Controls.{Controls, controls_after_end, controls_after_ended, controls_after_lost}
use Rattle.gw_control.specs.Controls.{controls_after_taking, order_at, outcome_ended_at, outcome_lost_at}
use Rattle.gw_control.specs.Held.{controls_after_losses, orders_of, outcomes_to}
use Rattle.gw_control.specs.Moves.{Ends, Leaves, Loses, Takes, one_if, HasWholeCommands, IsSoundControls, IsWholeOrder}
use Rattle.gw_control.proofs.Held.{end_frees_own, end_keeps_others, ended_frees, lost_frees, taking_holds}
use Rattle.gw_control.proofs.Sounds.{stays_sound}
use Rattle.gw_control.proofs.Whole.{ended_whole, lost_whole, stays_whole}
use Rattle.gw_steps.proofs.Running.{if_some}
use Rattle.gw_station.specs.declared.event.Said.TheVariants as saids
use Rattle.gw_answers.specs.declared.outgoing.AsduAnswer.TheVariants.{Made}
use Rattle.gw_station.specs.Answers.{client_told, places, places_taken, told, CanBeTold}
use Rattle.gw_station.specs.declared.client.Stage.{Stage}
use Rattle.gw_station.specs.declared.client.Stage.TheVariants.{Down, Stopped, Started}
use Rattle.gw_station.specs.declared.sending.Sending.{Sending}
use Rattle.gw_station.specs.declared.sending.Sending.TheVariants as sendings
use Rattle.gw_station.specs.Pump.{client_after_pump, client_by_offer, offered}
use Rattle.gw_station.specs.Client.{Client, client_after_tick, client_after_up, client_with_news, is_started, is_timed_out, is_up}
use Rattle.gw_station.specs.Sound.{IsSoundClient}
use Rattle.gw_station.proofs.Sounds.{sound_told}
use Rattle.gw_steps.specs.Controls.{client_told_of, clients_told, controls_after_all_ended}
use Rattle.gw_steps.specs.Controls.{controls_after_closes, controls_with_ended, order_due, order_for}
use Rattle.gw_steps.specs.Controls.{outcome_ended, outcomes_ended, outcomes_lost, said_of_outcome}
use Rattle.gw_steps.specs.declared.step.Step.TheVariants as steps
use Rattle.gw_steps.specs.State.{State}
use Rattle.gw_steps.specs.declared.step.Reply.{Reply}
use Rattle.gw_steps.specs.Steps.{after, can_rise, fault_of, latest, outcome, reply_to}
use Rattle.gw_parts.specs.Outstations.{master_polled, reply_to_poll}
use Rattle.gw_steps.specs.Sound.{IsSoundState}
use Rattle.gw_hub.specs.Hub.{CanTell, HoldsPlaces, controls_polled, state_counting, step_with}
use Rattle.gw_picture.specs.Shown.{IsShown, ShowsRows}
use Rattle.gw_hub.proofs.Each.{all_changed, all_so, has_at}
use Rattle.gw_hub.proofs.Taking.{sound_came}

-- ---- each order holds two places

-- a client with this number
abbrev pub HoldsFor : ℕ → Controls → Client → Type 0
HoldsFor c v k = k.held ≡ 2 * orders_of c v

abbrev pub AllHeld : List Client → Controls → Type 0
AllHeld ks v = (c : ℕ) → IfSome (slice_get ks c) (HoldsFor c v)

if_mapped : {A : Type 0} (f : A → A) (P : A → Type 0) (x : Option A) → IfSome x (λ (y : A). P (f y))
    → IfSome (option_map f x) P
if_mapped f P None all = tt
if_mapped f P (Some y) all = all

-- one client changed, and its orders; those of the others are as many as before
pub held_change : (p : ℕ) (f : Client → Client) (ks : List Client) (v new : Controls)
    → ((d : ℕ) → (p ≡ d → ⊥) → orders_of d new ≡ orders_of d v)
    → IfSome (slice_get ks p) (λ (k : Client). HoldsFor p new (f k))
    → AllHeld ks v → AllHeld (change p f ks) new
held_change p f ks v new others own all d = elim (cases_eq p d) [
  | inl same ↦ subst (λ (n : ℕ). IfSome (slice_get (change p f ks) n) (HoldsFor n new)) same
      (subst (λ (x : Option Client). IfSome x (HoldsFor p new)) (sym (change-here p f ks))
      (if_mapped f (HoldsFor p new) (slice_get ks p) own))
  | inr ne ↦ subst (λ (x : Option Client). IfSome x (HoldsFor d new)) (sym (change-there p d f ks ne))
      (if_some (HoldsFor d v) (HoldsFor d new) (slice_get ks d)
      (λ k held. held ∙ ap (λ (n : ℕ). 2 * n) (sym (others d ne))) (all d))
]

-- all clients changed, but not in the places that they hold
held_map : (f : Client → Client) (ks : List Client) (v : Controls) → ((k : Client) → (f k).held ≡ k.held)
    → AllHeld ks v → AllHeld (map f ks) v
held_map f ks v same all c =
    subst (λ (x : Option Client). IfSome x (HoldsFor c v)) (sym (map-get f ks c))
    (if_mapped f (HoldsFor c v) (slice_get ks c)
    (if_some (HoldsFor c v) (λ (k : Client). HoldsFor c v (f k)) (slice_get ks c)
    (λ k held. same k ∙ held) (all c)))

-- one did
pub held_kept : (p : ℕ) (f : Client → Client) (ks : List Client) (v : Controls) → ((k : Client) → (f k).held ≡ k.held)
    → AllHeld ks v → AllHeld (change p f ks) v
held_kept p f ks v same all =
    held_change p f ks v v (λ d ne. refl)
    (if_some (HoldsFor p v) (λ (k : Client). HoldsFor p v (f k)) (slice_get ks p) (λ k held. same k ∙ held) (all p)) all

-- a session ended
held_end : (p : ℕ) (f : Client → Client) (ks : List Client) (v : Controls)
    → ((k : Client) → (f k).held ≡ 0) → AllHeld ks v → AllHeld (change p f ks) (controls_after_end p v)
held_end p f ks v none all =
    held_change p f ks v (controls_after_end p v) (λ d ne. end_keeps_others p d ne v) (at (slice_get ks p)) all
  where
    at : (x : Option Client) → IfSome x (λ (k : Client). HoldsFor p (controls_after_end p v) (f k))
    at None = tt
    at (Some k) = omega (arith, none k, end_frees_own p v)

-- ---- outcomes

-- no more places are taken than there are
abbrev HasPlaces : Client → Type 0
HasPlaces k = places_taken k ≤ places

tell_fits : (command : Command) (done : Bool) (k : Client) → 2 ≤ k.held → HasPlaces k
    → CanBeTold command (if done then saids.Done else saids.Failed) k
tell_fits command true k held few =
    omega (arith, held, few, length-append k.answers (map Made (told command saids.Done)))
tell_fits command false k held few =
    omega (arith, held, few, length-append k.answers (map Made (told command saids.Failed)))

-- of an outcome there is an order, for which its client holds two places
can_tell : (x : Outcome) (ks : List Client) (v new : Controls)
    → orders_of x.client v ≡ orders_of x.client new + outcomes_to x.client (Some x)
    → HoldsPlaces ks v → CanTell ks x
can_tell x ks v new frees holds =
    go (slice_get ks x.client) (holds.held x.client) (has_at HasPlaces ks x.client holds.places)
  where
    one : outcomes_to x.client (Some x) ≡ 1
    one = ap one_if (eq-eqb x.client x.client refl)

    go : (found : Option Client) → IfSome found (HoldsFor x.client v) → IfSome found HasPlaces
        → IfSome found (CanBeTold x.command (said_of_outcome x))
    go None held few = tt
    go (Some k) held few = tell_fits x.command x.done k (omega (arith, held, frees, one)) few

-- an outcome came, with which an order ends
abbrev pub Frees : Option Outcome → Controls → Controls → Type 0
Frees outcome v new = (c : ℕ) → orders_of c v ≡ orders_of c new + outcomes_to c outcome

fewer : (command : Command) (done : Bool) (k : Client)
    → (client_told command (if done then saids.Done else saids.Failed) k).held ≡ k.held - 2
fewer command true k = refl
fewer command false k = refl

told_held : (outcome : Option Outcome) (ks : List Client) (v new : Controls) → Frees outcome v new → AllHeld ks v
    → AllHeld (clients_told (option_to_list outcome) ks) new
told_held None ks v new frees all = λ c.
    if_some (HoldsFor c v) (HoldsFor c new) (slice_get ks c) (λ k held. omega (arith, held, frees c)) (all c)
told_held (Some x) ks v new frees all =
    held_change x.client (client_told_of x) ks v new (λ d ne. others d ne) (own (slice_get ks x.client) (all x.client))
    all
  where
    others : (d : ℕ) → (x.client ≡ d → ⊥) → orders_of d new ≡ orders_of d v
    others d ne = omega (arith, frees d, ap one_if (ne_eqb x.client d ne))

    own : (found : Option Client) → IfSome found (HoldsFor x.client v)
        → IfSome found (λ (k : Client). HoldsFor x.client new (client_told_of x k))
    own None held = tt
    own (Some k) held =
        omega (arith, held, frees x.client, ap one_if (eq-eqb x.client x.client refl), fewer x.command x.done k)

holds_told : (outcome : Option Outcome) (ks : List Client) (v new : Controls) → Frees outcome v new
    → HoldsPlaces ks v → HoldsPlaces (clients_told (option_to_list outcome) ks) new
holds_told outcome ks v new frees holds =
    record { held = told_held outcome ks v new frees holds.held; places = by outcome frees }
  where
    by : (x : Option Outcome) → Frees x v new → AllByRecursion HasPlaces (clients_told (option_to_list x) ks)
    by None frees = holds.places
    by (Some x) frees =
        all_changed HasPlaces (CanBeTold x.command (said_of_outcome x)) HasPlaces x.client (client_told_of x) ks
        (λ k few. few) (λ k fits few. fits) (can_tell x ks v new (frees x.client) holds) holds.places

-- it can be told
can_tell_it : (freed outcome : Option Outcome) (ks : List Client) (v new : Controls) → outcome ≡ freed
    → Frees freed v new → HoldsPlaces ks v → IfSome outcome (CanTell ks)
can_tell_it freed outcome ks v new is frees holds =
    subst (λ (x : Option Outcome). IfSome x (CanTell ks)) (sym is) (by freed frees)
  where
    by : (x : Option Outcome) → Frees x v new → IfSome x (CanTell ks)
    by None frees = tt
    by (Some x) frees = can_tell x ks v new (frees x.client) holds

-- ---- all that orders keep

pub record Orderly (setup : Setup) (station : StationSetup) (n i : ℕ) (ks : List Client) (v : Controls) : Type 0 where
  pub clients : AllByRecursion (IsSoundClient station n i) ks
  pub controls : IsSoundControls setup v
  pub commands : HasWholeCommands v
  pub held : AllHeld ks v

pub holds : (setup : Setup) (station : StationSetup) (n i : ℕ) (ks : List Client) (v : Controls)
    → Orderly setup station n i ks v → HoldsPlaces ks v
holds setup station n i ks v o = record {
  held = o.held;
  places = all_so (IsSoundClient station n i) HasPlaces ks (λ k sound. sound.places) o.clients;
}

-- one client was told
told_sound : (station : StationSetup) (n i : ℕ) (x : Outcome) (ks : List Client) → IsWhole x.command → CanTell ks x
    → AllByRecursion (IsSoundClient station n i) ks
    → AllByRecursion (IsSoundClient station n i) (change x.client (client_told_of x) ks)
told_sound station n i x ks whole fits all =
    let sound = IsSoundClient station n i in
    all_changed sound (CanBeTold x.command (said_of_outcome x)) sound x.client (client_told_of x) ks (λ k all. all)
    (λ k fits all. sound_told station n i (said_of_outcome x) x.command k whole fits
    (λ e. absurd (never_ordered x.done e)) all) fits all
  where
    never_ordered : (done : Bool) → (if done then saids.Done else saids.Failed) ≡ saids.Ordered → ⊥
    never_ordered true e = absurd cc
    never_ordered false e = absurd cc

told_one : (setup : Setup) (station : StationSetup) (n i : ℕ) (outcome : Option Outcome) (ks : List Client)
    (v new : Controls) → Frees outcome v new
    → IfSome outcome (λ (x : Outcome). IsWholeOrder x.command) → IsSoundControls setup new → HasWholeCommands new
    → Orderly setup station n i ks v → Orderly setup station n i (clients_told (option_to_list outcome) ks) new
told_one setup station n i outcome ks v new frees whole sound commands o = record {
  clients = by outcome frees whole;
  controls = sound;
  commands = commands;
  held = told_held outcome ks v new frees o.held;
}
  where
    by : (x : Option Outcome) → Frees x v new → IfSome x (λ (y : Outcome). IsWholeOrder y.command)
        → AllByRecursion (IsSoundClient station n i) (clients_told (option_to_list x) ks)
    by None frees whole = o.clients
    by (Some x) frees whole =
        told_sound station n i x ks whole.whole (can_tell x ks v new (frees x.client) (holds setup station n i ks v o))
        o.clients

-- ---- orders that end

pub can_tell_ended : (o : ℕ) (ended : Ended) (ks : List Client) (v : Controls) (outcome : Option Outcome)
    → outcome ≡ outcome_ended_at ended (slice_get v.outgoing o) → HoldsPlaces ks v → IfSome outcome (CanTell ks)
can_tell_ended o ended ks v outcome is holds =
    can_tell_it _ outcome ks v (controls_after_ended o ended v) is (λ c. ended_frees c o ended v) holds

pub can_tell_lost : (o : ℕ) (ks : List Client) (v : Controls) (outcome : Option Outcome)
    → outcome ≡ outcome_lost_at (slice_get v.outgoing o) → HoldsPlaces ks v → IfSome outcome (CanTell ks)
can_tell_lost o ks v outcome is holds =
    can_tell_it _ outcome ks v (controls_after_lost o v) is (λ c. lost_frees c o v) holds

pub holds_ended : (o : ℕ) (ended : Option Ended) (ks : List Client) (v : Controls) → HoldsPlaces ks v
    → HoldsPlaces (clients_told (option_to_list (outcome_ended o ended v)) ks) (controls_with_ended o ended v)
holds_ended o None ks v holds = holds
holds_ended o (Some ended) ks v holds =
    holds_told (outcome_ended_at ended (slice_get v.outgoing o)) ks v (controls_after_ended o ended v)
    (λ c. ended_frees c o ended v) holds

pub holds_lost : (o : ℕ) (ks : List Client) (v : Controls) → HoldsPlaces ks v
    → HoldsPlaces (clients_told (option_to_list (outcome_lost_at (slice_get v.outgoing o))) ks)
    (controls_after_lost o v)
holds_lost o ks v holds =
    holds_told (outcome_lost_at (slice_get v.outgoing o)) ks v (controls_after_lost o v) (λ c. lost_frees c o v) holds

ended_orderly : (setup : Setup) (station : StationSetup) (n i o : ℕ) (ended : Option Ended) (ks : List Client)
    (v : Controls) → Orderly setup station n i ks v
    → Orderly setup station n i (clients_told (option_to_list (outcome_ended o ended v)) ks)
    (controls_with_ended o ended v)
ended_orderly setup station n i o None ks v orderly = orderly
ended_orderly setup station n i o (Some ended) ks v orderly =
    told_one setup station n i (outcome_ended_at ended (slice_get v.outgoing o)) ks v (controls_after_ended o ended v)
    (λ c. ended_frees c o ended v) (ended_whole o ended v orderly.commands)
    (stays_sound setup (Ends o ended) v orderly.controls)
    (stays_whole setup (Ends o ended) v tt orderly.commands) orderly

lost_orderly : (setup : Setup) (station : StationSetup) (n i o : ℕ) (ks : List Client) (v : Controls)
    → Orderly setup station n i ks v
    → Orderly setup station n i (clients_told (option_to_list (outcome_lost_at (slice_get v.outgoing o))) ks)
    (controls_after_lost o v)
lost_orderly setup station n i o ks v orderly =
    told_one setup station n i (outcome_lost_at (slice_get v.outgoing o)) ks v (controls_after_lost o v)
    (λ c. lost_frees c o v) (lost_whole o v orderly.commands)
    (stays_sound setup (Loses o) v orderly.controls) (stays_whole setup (Loses o) v tt orderly.commands) orderly

-- told of some, and then of others
pub told_more : (xs ys : List Outcome) (ks : List Client)
    → clients_told (xs ++ ys) ks ≡ clients_told ys (clients_told xs ks)
told_more [] ys ks = refl
told_more (x ∷ xs) ys ks = told_more xs ys (change x.client (client_told_of x) ks)

losses_orderly : (setup : Setup) (station : StationSetup) (n i m o : ℕ) (ks : List Client) (v : Controls)
    → Orderly setup station n i ks v
    → Orderly setup station n i (clients_told (outcomes_lost m o v) ks) (controls_after_losses m o v)
losses_orderly setup station n i zero o ks v orderly = orderly
losses_orderly setup station n i (suc m) o ks v orderly =
    let first = option_to_list (outcome_lost_at (slice_get v.outgoing o)) in
    subst (λ (js : List Client). Orderly setup station n i js (controls_after_losses (suc m) o v))
    (sym (told_more first (outcomes_lost m o (controls_after_lost o v)) ks))
    (losses_orderly setup station n i m o (clients_told first ks) (controls_after_lost o v)
    (lost_orderly setup station n i o ks v orderly))

all_ended_orderly : (setup : Setup) (station : StationSetup) (n i o : ℕ) (ends : List (Option Ended))
    (ks : List Client) (v : Controls) → Orderly setup station n i ks v
    → Orderly setup station n i (clients_told (outcomes_ended o ends v) ks) (controls_after_all_ended o ends v)
all_ended_orderly setup station n i o [] ks v orderly = orderly
all_ended_orderly setup station n i o (ended ∷ more) ks v orderly =
    let first = option_to_list (outcome_ended o ended v) in
    let next : Controls = controls_with_ended o ended v in
    subst (λ (js : List Client). Orderly setup station n i js (controls_after_all_ended (suc o) more next))
    (sym (told_more first (outcomes_ended (suc o) more next) ks))
    (all_ended_orderly setup station n i (suc o) more (clients_told first ks) next
    (ended_orderly setup station n i o ended ks v orderly))

-- ---- sessions that end

-- clients from a place on
abbrev HeldFrom : ℕ → List Client → Controls → Type 0
HeldFrom c ks v = (j n : ℕ) → n ≡ c + j → IfSome (slice_get ks j) (HoldsFor n v)

-- an earlier client keeps its orders
closes_later : (c d : ℕ) (closed : List Bool) (v : Controls) → d < c
    → orders_of d (controls_after_closes c closed v) ≡ orders_of d v
closes_later c d [] v lt = refl
closes_later c d (true ∷ more) v lt =
    closes_later (suc c) d more (controls_after_end c v) (omega (arith, lt))
    ∙ end_keeps_others c d (λ e. absurd (omega (arith, e, lt))) v
closes_later c d (false ∷ more) v lt = closes_later (suc c) d more v (omega (arith, lt))

closes_held : (moment c : ℕ) (ks : List Client) (v : Controls) → HeldFrom c ks v
    → HeldFrom c (map (client_after_tick moment) ks) (controls_after_closes c (map (is_timed_out moment) ks) v)
closes_held moment c [] v all j n is = tt
closes_held moment c (k ∷ ks) v all zero n is = by (is_timed_out moment k) refl
  where
    here : n ≡ c
    here = omega (arith, is)

    by : (closed : Bool) → is_timed_out moment k ≡ closed
        → (client_after_tick moment k).held
        ≡ 2 * orders_of n (controls_after_closes c (closed ∷ map (is_timed_out moment) ks) v)
    by true e =
        rw (e, here) (omega (
          arith,
          closes_later (suc c) c (map (is_timed_out moment) ks) (controls_after_end c v) (omega arith),
          end_frees_own c v,
        ))
    by false e =
        let mine : k.held ≡ 2 * orders_of c v = all zero c (omega arith) in
        rw (e, here) (omega (arith, mine, closes_later (suc c) c (map (is_timed_out moment) ks) v (omega arith)))
closes_held moment c (k ∷ ks) v all (suc j) n is = elim (cases_Bool (is_timed_out moment k)) [
  | inl late ↦ rw late (closes_held moment (suc c) ks (controls_after_end c v) closed j n (omega (arith, is)))
  | inr on ↦ rw on (closes_held moment (suc c) ks v still j n (omega (arith, is)))
]
  where
    still : HeldFrom (suc c) ks v
    still m d at = all (suc m) d (omega (arith, at))

    closed : HeldFrom (suc c) ks (controls_after_end c v)
    closed m d at =
        if_some (HoldsFor d v) (HoldsFor d (controls_after_end c v)) (slice_get ks m)
        (λ x held. held ∙ ap (λ (n : ℕ). 2 * n)
        (sym (end_keeps_others c d (λ same. absurd (omega (arith, same, at))) v))) (still m d at)

from_first : (ks : List Client) (v : Controls) → AllHeld ks v → HeldFrom 0 ks v
from_first ks v all j n is =
    let same : j ≡ n = omega (arith, is) in
    subst (λ (m : ℕ). IfSome (slice_get ks j) (HoldsFor m v)) same (all j)

closes_sound : (setup : Setup) (c : ℕ) (closed : List Bool) (v : Controls) → IsSoundControls setup v
    → HasWholeCommands v
    → IsSoundControls setup (controls_after_closes c closed v) × HasWholeCommands (controls_after_closes c closed v)
closes_sound setup c [] v sound whole = (sound, whole)
closes_sound setup c (true ∷ more) v sound whole =
    closes_sound setup (suc c) more (controls_after_end c v) (stays_sound setup (Leaves c) v sound)
    (stays_whole setup (Leaves c) v tt whole)
closes_sound setup c (false ∷ more) v sound whole = closes_sound setup (suc c) more v sound whole

closes_orderly : (setup : Setup) (station : StationSetup) (n i moment : ℕ) (ks : List Client) (v : Controls)
    → AllByRecursion (IsSoundClient station n i) (map (client_after_tick moment) ks)
    → Orderly setup station n i ks v
    → Orderly setup station n i (map (client_after_tick moment) ks)
    (controls_after_closes 0 (map (is_timed_out moment) ks) v)
closes_orderly setup station n i moment ks v sound o =
    let kept = closes_sound setup 0 (map (is_timed_out moment) ks) v o.controls o.commands in
    record {
      clients = sound;
      controls = kept.0;
      commands = kept.1;
      held = λ c. closes_held moment 0 ks v (from_first ks v o.held) c c (omega arith);
    }

-- ---- an order that is given

pub taking_orderly : (setup : Setup) (station : StationSetup) (n i o : ℕ) (ks : List Client) (v : Controls)
    → Orderly setup station n i ks v → Orderly setup station n i ks (controls_after_taking o v)
taking_orderly setup station n i o ks v orderly = record {
  clients = orderly.clients;
  controls = stays_sound setup (Takes o) v orderly.controls;
  commands = stays_whole setup (Takes o) v tt orderly.commands;
  held = λ c. if_some (HoldsFor c v) (HoldsFor c (controls_after_taking o v)) (slice_get ks c)
      (λ k held. held ∙ ap (λ (n : ℕ). 2 * n) (sym (taking_holds c o v))) (orderly.held c);
}

-- ---- a hub's

pub orderly : (setup : Setup) (s : State) → IsSoundState setup s
    → Orderly setup setup.station s.counts.steps s.counts.news s.clients s.controls
orderly setup s sound =
    record { clients = sound.clients; controls = sound.controls; commands = sound.commands; held = sound.held }

-- and back, with the rest of what a state keeps
pub sound_of : (setup : Setup) (s : State) → AllByRecursion IsShown s.picture → ShowsRows setup.rows s.picture
    → length s.outstations ≡ length setup.outstations
    → Orderly setup setup.station s.counts.steps s.counts.news s.clients s.controls → IsSoundState setup s
sound_of setup s picture rows masters o = record {
  picture = picture;
  rows = rows;
  masters = masters;
  clients = o.clients;
  controls = o.controls;
  commands = o.commands;
  held = o.held;
}

-- where no client's places change, orders keep theirs
pub pumped_held : (clocks : Clocks) (moment : ℕ) (k : Client) → (client_after_pump clocks moment k).held ≡ k.held
pumped_held clocks moment k = go (offered moment k)
  where
    go : (x : Option Sending) → (client_by_offer clocks moment x k).held ≡ k.held
    go None = refl
    go (Some sendings.Test) = refl
    go (Some _) = refl

-- a client that is down has no orders
pub up_held : (station : StationSetup) (n i p moment : ℕ) (ks : List Client) (v : Controls)
    → option_map (λ (k : Client). is_up k.stage) (slice_get ks p) ≡ Some false
    → AllByRecursion (IsSoundClient station n i) ks → AllHeld ks v → AllHeld (change p (client_after_up moment) ks) v
up_held station n i p moment ks v down sound all =
    held_change p (client_after_up moment) ks v v (λ d ne. refl)
    (by (slice_get ks p) down (has_at (IsSoundClient station n i) ks p sound) (all p)) all
  where
    not_started : (stage : Stage) → is_up stage ≡ false → is_started stage ≡ false
    not_started Down e = refl
    not_started Stopped e = refl
    not_started Started e = absurd cc

    by : (found : Option Client) → option_map (λ (k : Client). is_up k.stage) found ≡ Some false
        → IfSome found (IsSoundClient station n i) → IfSome found (HoldsFor p v)
        → IfSome found (λ (k : Client). HoldsFor p v (client_after_up moment k))
    by None e one held = tt
    by (Some k) e one held = omega (arith, held, one.stopped (not_started k.stage cc))

-- ---- what a step leaves

-- an order ended, if one did, behind news
pub left_by_end : (setup : Setup) (station : StationSetup) (n i o : ℕ) (ended : Option Ended) (ks new : List Client)
    (v out : Controls) → new ≡ clients_told (option_to_list (outcome_ended o ended v)) ks
    → out ≡ controls_with_ended o ended v → Orderly setup station n i ks v → Orderly setup station n i new out
left_by_end setup station n i o ended ks new v out clients controls before =
    rw (clients, controls) (ended_orderly setup station n i o ended ks v before)

-- and then those that waited
pub left_by_loss : (setup : Setup) (station : StationSetup) (n i m o : ℕ) (ks new : List Client) (v out : Controls)
    → new ≡ clients_told (outcomes_lost m o v) ks → out ≡ controls_after_losses m o v
    → Orderly setup station n i ks v → Orderly setup station n i new out
left_by_loss setup station n i m o ks new v out clients controls before =
    rw (clients, controls) (losses_orderly setup station n i m o ks v before)

-- time passed for clients and outstations
pub left_by_tick : (setup : Setup) (station : StationSetup) (n i moment : ℕ) (ends : List (Option Ended))
    (ks ticked new : List Client) (v closed out : Controls) → ticked ≡ map (client_after_tick moment) ks
    → closed ≡ controls_after_closes 0 (map (is_timed_out moment) ks) v
    → new ≡ clients_told (outcomes_ended 0 ends closed) ticked → out ≡ controls_after_all_ended 0 ends closed
    → AllByRecursion (IsSoundClient station n i) (map (client_after_tick moment) ks)
    → Orderly setup station n i ks v → Orderly setup station n i new out
left_by_tick setup station n i moment ends ks ticked new v closed out et ec clients controls sound before =
    rw (clients, controls, et, ec)
    (all_ended_orderly setup station n i 0 ends (map (client_after_tick moment) ks)
    (controls_after_closes 0 (map (is_timed_out moment) ks) v)
    (closes_orderly setup station n i moment ks v sound before))

-- news came to all
pub left_by_news : (setup : Setup) (station : StationSetup) (n m i j : ℕ) (xs : List Observation)
    (ks new : List Client) (v : Controls) → new ≡ map (client_with_news xs) ks
    → AllByRecursion (IsSoundClient station m j) new → Orderly setup station n i ks v
    → Orderly setup station m j new v
left_by_news setup station n m i j xs ks new v clients sound before = record {
  clients = sound;
  controls = before.controls;
  commands = before.commands;
  held = rw clients (held_map (client_with_news xs) ks v (λ k. refl) before.held);
}

-- a session ended
pub left_by_close : (setup : Setup) (station : StationSetup) (n i p : ℕ) (f : Client → Client) (ks new : List Client)
    (v out : Controls) → new ≡ change p f ks → out ≡ controls_after_end p v → ((k : Client) → (f k).held ≡ 0)
    → AllByRecursion (IsSoundClient station n i) new
    → Orderly setup station n i ks v → Orderly setup station n i new out
left_by_close setup station n i p f ks new v out clients controls none sound before = rw controls (record {
  clients = sound;
  controls = stays_sound setup (Leaves p) v before.controls;
  commands = stays_whole setup (Leaves p) v tt before.commands;
  held = rw clients (held_end p f ks v none before.held);
})

pub news_holds : (setup : Setup) (station : StationSetup) (n i : ℕ) (xs : List Observation) (ks new : List Client)
    (v : Controls) → new ≡ map (client_with_news xs) ks → AllByRecursion (IsSendable (station_clocks station)) xs
    → Orderly setup station n i ks v → HoldsPlaces new v
news_holds setup station n i xs ks new v e sends before =
    holds setup station n (i + length xs) new v
    (left_by_news setup station n n i (i + length xs) xs ks new v e
    (sound_came station n n i (i + length xs) xs ks new e sends (omega arith) (omega arith) before.clients) before)

pub end_holds : (o : ℕ) (ended : Option Ended) (ks new : List Client) (v out : Controls)
    → new ≡ clients_told (option_to_list (outcome_ended o ended v)) ks → out ≡ controls_with_ended o ended v
    → HoldsPlaces ks v → HoldsPlaces new out
end_holds o ended ks new v out clients controls before = rw (clients, controls) (holds_ended o ended ks v before)

-- time passed for clients
pub closed_holds : (setup : Setup) (station : StationSetup) (n i moment : ℕ) (ks ticked : List Client)
    (v closed : Controls) → ticked ≡ map (client_after_tick moment) ks
    → closed ≡ controls_after_closes 0 (map (is_timed_out moment) ks) v
    → AllByRecursion (IsSoundClient station n i) (map (client_after_tick moment) ks)
    → Orderly setup station n i ks v → HoldsPlaces ticked closed
closed_holds setup station n i moment ks ticked v closed et ec sound before =
    rw (et, ec) (holds setup station n i _ _ (closes_orderly setup station n i moment ks v sound before))

-- ---- an order that is due

none_next : (x : Outgoing) → order_given x ≡ None → outgoing_after_taking x ≡ x
none_next x none = go (next_of x) none
  where
    go : (next : Option Accepted) → option_map (λ (y : Accepted). y.order) next ≡ None → outgoing_sending next x ≡ x
    go None e = refl
    go (Some y) e = absurd cc

none_taken : (o : ℕ) (xs : List Outgoing) → order_at (slice_get xs o) ≡ None → change o outgoing_after_taking xs ≡ xs
none_taken o xs none =
    change-still o outgoing_after_taking xs
    (λ x at. none_next x (subst (λ (y : Option Outgoing). order_at y ≡ None) at none))

-- where the master is ready, what is taken is the order that is due
pub ready_polled : (s : State) (o : ℕ) (m : Master) (v : Controls) → slice_get s.outstations o ≡ Some m
    → is_ready m ≡ true → v ≡ controls_after_taking o s.controls → v ≡ controls_polled s o
ready_polled s o m v at ready taken =
    taken ∙ rw (at, ready) (go (order_at (slice_get s.controls.outgoing o)) refl)
  where
    go : (order : Option Order) → order_at (slice_get s.controls.outgoing o) ≡ order
        → controls_after_taking o s.controls
        ≡ (if is_some order then controls_after_taking o s.controls else s.controls)
    go (Some order) e = refl
    go None e = ap (λ (xs : List Outgoing). record s.controls { outgoing = xs }) (none_taken o s.controls.outgoing e)

-- time passed
pub tick_state : (setup : Setup) (old s : State) (m : ℕ) (outstations : List Master) (ticked clients : List Client)
    (closed controls : Controls) → s ≡ state_counting m old
    → ticked ≡ map (client_after_tick s.moment) s.clients
    → closed ≡ controls_after_closes 0 (map (is_timed_out s.moment) s.clients) s.controls
    → outstations ≡ map (master_after_tick s.moment) s.outstations
    → controls ≡ controls_after_all_ended 0 (map (ended_by_tick s.moment) s.outstations) closed
    → clients ≡ clients_told (outcomes_ended 0 (map (ended_by_tick s.moment) s.outstations) closed) ticked
    → record s { outstations = outstations; clients = clients; controls = controls } ≡ after setup old (steps.Tick m)
tick_state setup old s m outstations ticked clients closed controls es et ec eo ev ek = rw (eo, ev, ek, et, ec, es) refl

-- an order was taken
pub polled_state : (old s : State) (o : ℕ) (m : Master) (v : Controls) → s ≡ old → slice_get s.outstations o ≡ Some m
    → is_ready m ≡ true → v ≡ controls_after_taking o s.controls
    → record s { controls = v } ≡ record old { controls = controls_polled old o }
polled_state old s o m v e at ready taken =
    ap (λ (w : Controls). record s { controls = w }) (ready_polled s o m v at ready taken)
    ∙ ap (λ (t : State). record t { controls = controls_polled t o }) e

pub due_ready : (s : State) (o : ℕ) (order : Option Order) → order ≡ order_due s o
    → IfSome order (λ (x : Order). IfSome (slice_get s.outstations o) (λ (m : Master). is_ready m ≡ true))
due_ready s o order e =
    subst (λ (x : Option Order). IfSome x (λ (y : Order). IfSome (slice_get s.outstations o)
    (λ (m : Master). is_ready m ≡ true))) (sym e) (by (slice_get s.outstations o))
  where
    ready : (m : Master) (order : Option Order) (b : Bool) → is_ready m ≡ b
        → IfSome (if b then order else None) (λ (y : Order). is_ready m ≡ true)
    ready m None true e = tt
    ready m (Some order) true e = e
    ready m order false e = tt

    by : (found : Option Master)
        → IfSome (order_for found (slice_get s.controls.outgoing o))
        (λ (y : Order). IfSome found (λ (m : Master). is_ready m ≡ true))
    by None = tt
    by (Some m) = ready m (order_at (slice_get s.controls.outgoing o)) (is_ready m) refl

-- a poll
pub poll_state : (setup : Setup) (old s t : State) (o m wall : ℕ) (order : Option Order) (outstations : List Master)
    → s ≡ state_counting m old → order ≡ order_due s o → t ≡ record s { controls = controls_polled s o }
    → outstations ≡ change o (master_polled order t.moment wall) t.outstations
    → record t { outstations = outstations } ≡ after setup old (steps.Poll o m wall)
poll_state setup old s t o m wall order outstations es due et eo = rw (eo, et, due, es) (go (order_due old o) refl)
  where
    go : (x : Option Order) → order_due old o ≡ x
        → (record (state_counting m old) {
          outstations = change o (master_polled (order_due old o) (latest old m) wall) old.outstations;
          controls = controls_polled old o;
        }) ≡ after setup old (steps.Poll o m wall)
    go None e = rw e refl
    go (Some x) e = rw e refl

pub poll_answer : (setup : Setup) (old s t : State) (o m wall : ℕ) (order : Option Order) (r : Reply)
    → s ≡ state_counting m old → order ≡ order_due s o → t ≡ record s { controls = controls_polled s o }
    → fault_of old (steps.Poll o m wall) ≡ None → can_rise old.counts (step_with 0 0) ≡ true
    → r ≡ reply_to_poll order t.moment wall (slice_get t.outstations o)
    → outcome setup old (steps.Poll o m wall) ≡ Ok r
poll_answer setup old s t o m wall order r es due et fault rises reply =
    rw (fault, rises) (ap (λ (x : Reply). Ok x) (sym (reply ∙ so)))
  where
    so : reply_to_poll order t.moment wall (slice_get t.outstations o) ≡ reply_to setup old (steps.Poll o m wall)
    so = rw (et, due, es) refl

-- ---- an APDU

pub latest_again : (s : State) (m : ℕ) → latest s m ≡ latest s (latest s m)
latest_again s m = go (nat_lt s.moment m) refl
  where
    kept : (b : Bool) (n : ℕ) → n ≡ s.moment → n ≡ (if b then n else s.moment)
    kept true n e = refl
    kept false n e = e

    go : (b : Bool) → nat_lt s.moment m ≡ b
        → (if b then m else s.moment)
        ≡ (if nat_lt s.moment (if b then m else s.moment) then (if b then m else s.moment) else s.moment)
    go true e = rw e refl
    go false e = kept (nat_lt s.moment s.moment) s.moment refl
