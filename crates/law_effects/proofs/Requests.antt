-- A step tells of each outstation to which it makes a request due.
use Rattle.std.proofs.Common.{◌≡◌, ℕ, Bool, true, false, cond, not, ◌&&◌, ◌||◌, List, [], ◌∷◌, map}
use Rattle.std.proofs.Common.{Option, Some, None, option_map, refl, sym, ap, ◌∙◌, arith, inl, inr}
use Rattle.std.specs.Prelude.{is_some, slice_get}
use Rattle.std.proofs.lemmas.Bool.{cases_eq}
use Rattle.gw_model.specs.Places.{change}
use Rattle.gw_model.specs.declared.control.Act.{Act}
use Rattle.gw_model.specs.declared.control.Order.{Order}
use Rattle.gw_entries.specs.declared.control.Control.{Control}
use Rattle.gw_map.specs.Settings.{Setup}
use Rattle.gw_picture.proofs.Lists.{change-here, change-there, map-get}
use Rattle.dnp_app.specs.Response.{Fragment}
use Rattle.dnp_master.specs.declared.task.Task.{Task}
use Rattle.dnp_master.specs.Master.{Master, is_ready, master_after_given, master_after_next, master_after_order}
use Rattle.dnp_master.specs.Master.{master_after_up, master_asking, master_down, order_task, task_given}
use Rattle.dnp_master.specs.Fragments.{master_after_fragment}
use Rattle.iec_apci.specs.declared.apdu.Apdu.{Apdu}
use Rattle.iec_apci.specs.declared.apdu.Apdu.TheVariants.{I, S, U}
use Rattle.iec_apci.specs.declared.apdu.Signal.TheVariants.{StartAct, StartCon, StopAct, StopCon, TestAct, TestCon}
use Rattle.gw_control.specs.declared.accepted.Accepted.{Accepted}
use Rattle.gw_control.specs.declared.accepted.UnderWay.{UnderWay}
use Rattle.gw_control.specs.declared.asked.AskedCommand.{AskedCommand}
use Rattle.gw_control.specs.declared.selection.Selection.{Selection}
use Rattle.gw_control.specs.Controls.{Controls, act_accepted, answer_at, answer_to_act, confirmed_if}
use Rattle.gw_control.specs.Controls.{controls_after_at, controls_ordering, controls_selecting, controls_unselecting}
use Rattle.gw_control.specs.Controls.{is_deactivation, is_order, is_selectable, order_at, standing_at}
use Rattle.gw_control.specs.Held.{controls_after_losses}
use Rattle.gw_control.specs.Intents.{control_for}
use Rattle.gw_control.specs.Orders.{Outgoing, outgoing_after_end, outgoing_after_taking, places}
use Rattle.gw_control.specs.Selections.{is_own, is_select}
use Rattle.gw_station.specs.declared.event.Event.{Event}
use Rattle.gw_station.specs.declared.event.Event.TheVariants as events
use Rattle.gw_station.specs.Client.{Client}
use Rattle.gw_station.specs.Frames.{event_of}
use Rattle.gw_steps.specs.declared.step.Step.{Step}
use Rattle.gw_steps.specs.declared.step.Step.TheVariants as steps
use Rattle.gw_steps.specs.Controls.{asked_by, controls_after_event, controls_with_ended, ended_lost, order_due}
use Rattle.gw_steps.specs.Effects.{Effects, answered, due_from, effects_of, effects_of_apdu}
use Rattle.gw_steps.specs.Effects.{effects_of_event, is_accepted, no_effects, one_where, reported}
use Rattle.gw_steps.specs.Queries.{is_due, is_poll_due_of}
use Rattle.gw_steps.specs.State.{State}
use Rattle.gw_steps.specs.Steps.{after, controls_after_frame, is_accepting, latest, order_ended, parts_after_fragment, parts_after_poll}
use Rattle.law_history.proofs.Ended.{ended_there, losses_there}
use Rattle.law_effects.specs.Rousing.{becomes_due, is_among}
use Rattle.law_effects.proofs.Coming.{all_told, is_now, is_one, none_comes}

-- ---- where nothing changes, or less is due

same_due : (moment : ℕ) (q r : Option Outgoing) (m n : Option Master) → q ≡ r → m ≡ n
    → is_poll_due_of moment q m ≡ is_poll_due_of moment r n
same_due moment q r m n same alike =
    ap (λ (x : Option Outgoing). is_poll_due_of moment x m) same
    ∙ ap (λ (x : Option Master). is_poll_due_of moment r x) alike

-- nothing comes to be due to an outstation whose part stays as it is
none_due : (moment : ℕ) (q r : Option Outgoing) (m n : Option Master) (told : Bool) → r ≡ q → n ≡ m
    → is_poll_due_of moment r n && not (is_poll_due_of moment q m) ≡ true → told ≡ true
none_due moment q r m n told same alike comes =
    none_comes (is_poll_due_of moment q m) (is_poll_due_of moment r n) told
    (λ is. sym (same_due moment r q n m same alike) ∙ is) comes

due_is_there : (moment : ℕ) (q : Option Outgoing) (m : Option Master) → is_poll_due_of moment q m ≡ true
    → is_some m ≡ true
due_is_there moment q None due = absurd (let no : ⊥ = cc in no)
due_is_there moment q (Some m) due = refl

-- nothing is due to a master that awaits an answer
asking_is_not_due : (n moment : ℕ) (q : Option Outgoing) (task : Task) (m : Master)
    → is_poll_due_of n q (Some (master_asking moment task m)) ≡ false
asking_is_not_due n moment q task m = by m.up
  where
    nothing : Option Task
    nothing = None

    by : (up : Bool) → is_some (cond up nothing None) || is_some (cond (up && false) (order_at q) None) ≡ false
    by true = refl
    by false = refl

-- ---- an outstation comes or goes

up_rouses : (setup : Setup) (s : State) (o m p : ℕ)
    → becomes_due s (steps.OutstationUp o m) (after setup s (steps.OutstationUp o m)) p ≡ true
    → is_among p (effects_of setup s (steps.OutstationUp o m)).due_outstations ≡ true
up_rouses setup s o m p comes = elim (cases_eq o p) [
  | inl e ↦ is_one (is_some (slice_get ms o)) o p e
      (ap (λ (x : ℕ). is_some (slice_get ms x)) e
      ∙ due_is_there moment (slice_get s.controls.outgoing p) (slice_get ms p)
      (is_now (is_poll_due_of moment (slice_get s.controls.outgoing p) (slice_get s.outstations p))
      (is_poll_due_of moment (slice_get s.controls.outgoing p) (slice_get ms p)) comes))
  | inr ne ↦ none_due moment (slice_get s.controls.outgoing p) (slice_get s.controls.outgoing p)
      (slice_get s.outstations p) (slice_get ms p) _ refl (change-there o p (master_after_up moment) s.outstations ne)
      comes
]
  where
    moment : ℕ
    moment = latest s m

    ms : List Master
    ms = change o (master_after_up moment) s.outstations

down_rouses : (setup : Setup) (s : State) (o m p : ℕ)
    → becomes_due s (steps.OutstationDown o m) (after setup s (steps.OutstationDown o m)) p ≡ true
    → is_among p (effects_of setup s (steps.OutstationDown o m)).due_outstations ≡ true
down_rouses setup s o m p comes = elim (cases_eq o p) [
  | inl e ↦ is_one (is_some (slice_get ms o)) o p e
      (ap (λ (x : ℕ). is_some (slice_get ms x)) e
      ∙ due_is_there moment (slice_get w.outgoing p) (slice_get ms p)
      (is_now (is_poll_due_of moment (slice_get s.controls.outgoing p) (slice_get s.outstations p))
      (is_poll_due_of moment (slice_get w.outgoing p) (slice_get ms p)) comes))
  | inr ne ↦ none_due moment (slice_get s.controls.outgoing p) (slice_get w.outgoing p)
      (slice_get s.outstations p) (slice_get ms p) _
      (losses_there places o v p ne ∙ ended_there o (ended_lost (slice_get s.outstations o)) s.controls p ne)
      (change-there o p (λ (x : Master). master_down x.poll) s.outstations ne) comes
]
  where
    moment : ℕ
    moment = latest s m

    ms : List Master
    ms = change o (λ (x : Master). master_down x.poll) s.outstations

    v : Controls
    v = controls_with_ended o (ended_lost (slice_get s.outstations o)) s.controls

    w : Controls
    w = controls_after_losses places o v

-- ---- a fragment

fragment_rouses : (setup : Setup) (s : State) (f : Fragment) (m p : ℕ)
    → becomes_due s (steps.Fragment f m) (after setup s (steps.Fragment f m)) p ≡ true
    → is_among p (effects_of setup s (steps.Fragment f m)).due_outstations ≡ true
fragment_rouses setup s f m p comes = by (is_accepting s f) comes
  where
    o : ℕ
    o = f.outstation

    moment : ℕ
    moment = latest s m

    told : Effects
    told = record no_effects { reported = Some (reported s f); ended = answered s f }

    taking : Bool → State
    taking taken = cond taken (parts_after_fragment setup s moment f) s

    due : State → ℕ → Bool
    due x n = is_poll_due_of moment (slice_get x.controls.outgoing n) (slice_get x.outstations n)

    by : (taken : Bool) → due (taking taken) p && not (due s p) ≡ true
        → is_among p (one_where (is_some (cond taken told no_effects).reported && due (taking taken) o) o) ≡ true
    by true is = elim (cases_eq o p) [
      | inl e ↦ is_one (due (taking true) o) o p e
          (ap (due (taking true)) e ∙ is_now (due s p) (due (taking true) p) is)
      | inr ne ↦ none_due moment (slice_get s.controls.outgoing p) (slice_get (taking true).controls.outgoing p)
          (slice_get s.outstations p) (slice_get (taking true).outstations p) _
          (ended_there o (order_ended s f) s.controls p ne)
          (change-there o p (master_after_fragment moment f) s.outstations ne) is
    ]
    by false is = none_comes (due s p) (due s p) _ (λ it. it) is

-- ---- a poll

given_is_not_due : (moment wall : ℕ) (q : Option Outgoing) (m : Master)
    → is_poll_due_of moment q (Some (master_after_next moment wall m)) ≡ true → is_poll_due_of moment q (Some m) ≡ true
given_is_not_due moment wall q m is = by (task_given moment wall m) is
  where
    by : (task : Option Task) → is_poll_due_of moment q (Some (master_after_given moment task m)) ≡ true
        → is_poll_due_of moment q (Some m) ≡ true
    by None due = due
    by (Some task) due =
        let none : true ≡ false = sym due ∙ asking_is_not_due moment moment q task m in
        absurd (let no : ⊥ = cc in no)

polled_is_not_due : (moment wall : ℕ) (q : Option Outgoing) (m : Option Master)
    → is_poll_due_of moment q (option_map (master_after_next moment wall) m) ≡ true → is_poll_due_of moment q m ≡ true
polled_is_not_due moment wall q None is = is
polled_is_not_due moment wall q (Some m) is = given_is_not_due moment wall q m is

ordered_is_not_due : (moment : ℕ) (q : Option Outgoing) (order : Order) (m : Option Master)
    → is_poll_due_of moment q (option_map (master_after_order moment order) m) ≡ false
ordered_is_not_due moment q order None = refl
ordered_is_not_due moment q order (Some m) = asking_is_not_due moment moment q (order_task order) m

-- where an order is due, or none is
polled : (s : State) (moment o wall p : ℕ) (told : Bool) (order : Option Order)
    → is_poll_due_of moment (slice_get (parts_after_poll s moment o wall order).controls.outgoing p)
    (slice_get (parts_after_poll s moment o wall order).outstations p)
    && not (is_poll_due_of moment (slice_get s.controls.outgoing p) (slice_get s.outstations p)) ≡ true
    → told ≡ true
polled s moment o wall p told None comes =
    let q : Option Outgoing = slice_get s.controls.outgoing p in
    let ms : List Master = change o (master_after_next moment wall) s.outstations in
    elim (cases_eq o p) [
      | inl e ↦ none_comes (is_poll_due_of moment q (slice_get s.outstations p))
          (is_poll_due_of moment q (slice_get ms p)) told
          (λ is. polled_is_not_due moment wall q (slice_get s.outstations p)
          (sym (same_due moment q q (slice_get ms p)
          (option_map (master_after_next moment wall) (slice_get s.outstations p)) refl
          (ap (λ (x : ℕ). slice_get (change x (master_after_next moment wall) s.outstations) p) e
          ∙ change-here p (master_after_next moment wall) s.outstations)) ∙ is)) comes
      | inr ne ↦ none_due moment q q (slice_get s.outstations p) (slice_get ms p) told refl
          (change-there o p (master_after_next moment wall) s.outstations ne) comes
    ]
polled s moment o wall p told (Some order) comes =
    let q : Option Outgoing = slice_get s.controls.outgoing p in
    let r : Option Outgoing = slice_get (change o outgoing_after_taking s.controls.outgoing) p in
    let ms : List Master = change o (master_after_order moment order) s.outstations in
    elim (cases_eq o p) [
      | inl e ↦ none_comes (is_poll_due_of moment q (slice_get s.outstations p))
          (is_poll_due_of moment r (slice_get ms p)) told
          (λ is. let none : true ≡ false =
          sym is ∙ (same_due moment r r (slice_get ms p)
          (option_map (master_after_order moment order) (slice_get s.outstations p)) refl
          (ap (λ (x : ℕ). slice_get (change x (master_after_order moment order) s.outstations) p) e
          ∙ change-here p (master_after_order moment order) s.outstations)
          ∙ ordered_is_not_due moment r order (slice_get s.outstations p)) in
          absurd (let no : ⊥ = cc in no)) comes
      | inr ne ↦ none_due moment q r (slice_get s.outstations p) (slice_get ms p) told
          (change-there o p outgoing_after_taking s.controls.outgoing ne)
          (change-there o p (master_after_order moment order) s.outstations ne) comes
    ]

-- ---- a session ends

left_order : (c : ℕ) (q : Outgoing) → is_some (order_at (Some (outgoing_after_end c q))) ≡ true
    → is_some (order_at (Some q)) ≡ true
left_order c q is = by q.waiting q.under_way is
  where
    by : (xs : List Accepted) (u : Option UnderWay)
        → is_some (order_at (Some (outgoing_after_end c (record { waiting = xs; under_way = u })))) ≡ true
        → is_some (order_at (Some (record { waiting = xs; under_way = u }))) ≡ true
    by xs (Some u) due = due
    by [] None due = due
    by (x ∷ xs) None due = refl

left_due : (moment c : ℕ) (q : Option Outgoing) (m : Option Master)
    → is_poll_due_of moment (option_map (outgoing_after_end c) q) m ≡ true → is_poll_due_of moment q m ≡ true
left_due moment c None m is = is
left_due moment c (Some q) None is = is
left_due moment c (Some q) (Some m) is = by (is_due moment (Some m)) (is_ready m) is
  where
    by : (due ready : Bool) → due || is_some (cond ready (order_at (Some (outgoing_after_end c q))) None) ≡ true
        → due || is_some (cond ready (order_at (Some q)) None) ≡ true
    by true ready so = refl
    by false true so = left_order c q so
    by false false so = so

left_comes : (moment c p : ℕ) (qs : List Outgoing) (m : Option Master) (told : Bool)
    → is_poll_due_of moment (slice_get (map (outgoing_after_end c) qs) p) m
    && not (is_poll_due_of moment (slice_get qs p) m) ≡ true → told ≡ true
left_comes moment c p qs m told comes =
    none_comes (is_poll_due_of moment (slice_get qs p) m)
    (is_poll_due_of moment (slice_get (map (outgoing_after_end c) qs) p) m) told
    (λ is. left_due moment c (slice_get qs p) m
    (sym (same_due moment (slice_get (map (outgoing_after_end c) qs) p)
    (option_map (outgoing_after_end c) (slice_get qs p)) m m (map-get (outgoing_after_end c) qs p) refl) ∙ is)) comes

-- ---- an APDU

-- a command that isn't accepted as an order leaves the orders as they are
not_ordered : (setup : Setup) (a : AskedCommand) (found : Option (ℕ × Control)) (v : Controls)
    → is_order (answer_at setup a found v) ≡ false → (controls_after_at setup a found v).outgoing ≡ v.outgoing
not_ordered setup a None v none = refl
not_ordered setup a (Some found) v none =
    by (is_deactivation a) (is_select a.command.action) (is_selectable a found.1 standing) none
  where
    standing : Option Selection
    standing = standing_at setup a.moment found.0 v

    ordering : (act : Option Act) → is_order (answer_to_act v.ordered act) ≡ false
        → (controls_ordering a found.1 act (controls_unselecting a found.0 v)).outgoing ≡ v.outgoing
    ordering None is = refl
    ordering (Some act) is = absurd (let no : ⊥ = cc in no)

    by : (deactivation select selectable : Bool)
        → is_order (cond deactivation (confirmed_if (is_own a standing))
        (cond select (confirmed_if selectable) (answer_to_act v.ordered (act_accepted a found.1 standing v)))) ≡ false
        → (cond deactivation (controls_unselecting a found.0 v)
        (cond select (cond selectable (controls_selecting a found.0 v) v)
        (controls_ordering a found.1 (act_accepted a found.1 standing v) (controls_unselecting a found.0 v)))).outgoing
        ≡ v.outgoing
    by true select selectable is = refl
    by false true true is = refl
    by false true false is = refl
    by false false selectable is = ordering (act_accepted a found.1 standing v) is

-- in this state of the orders a request is due now, and wasn't in that of before
abbrev ComesAt : ℕ → State → List Outgoing → ℕ → Type 0
ComesAt moment s qs p =
    is_poll_due_of moment (slice_get qs p) (slice_get s.outstations p)
    && not (is_poll_due_of moment (slice_get s.controls.outgoing p) (slice_get s.outstations p)) ≡ true

none_comes_at : (moment : ℕ) (s : State) (p : ℕ) (told : Bool) → ComesAt moment s s.controls.outgoing p → told ≡ true
none_comes_at moment s p told comes =
    none_comes (is_poll_due_of moment (slice_get s.controls.outgoing p) (slice_get s.outstations p))
    (is_poll_due_of moment (slice_get s.controls.outgoing p) (slice_get s.outstations p)) told (λ is. is) comes

-- all outstations are told of where a command was accepted as an order
commanded : (moment : ℕ) (s : State) (p : ℕ) (accepted : Bool) (qs : List Outgoing)
    → (accepted ≡ false → qs ≡ s.controls.outgoing) → ComesAt moment s qs p
    → is_among p (cond accepted (due_from moment qs 0 s.outstations) []) ≡ true
commanded moment s p true qs same comes =
    all_told moment p p 0 qs s.outstations (omega arith)
    (is_now (is_poll_due_of moment (slice_get s.controls.outgoing p) (slice_get s.outstations p))
    (is_poll_due_of moment (slice_get qs p) (slice_get s.outstations p)) comes)
commanded moment s p false qs same comes =
    none_due moment (slice_get s.controls.outgoing p) (slice_get qs p) (slice_get s.outstations p)
    (slice_get s.outstations p) _ (ap (λ (xs : List Outgoing). slice_get xs p) (same refl)) refl comes

-- of which this became
event_rouses : (setup : Setup) (s : State) (moment c p : ℕ) (apdu : Apdu) (event : Event)
    → ComesAt moment s (controls_after_event setup s moment c apdu event).outgoing p
    → is_among p (cond (is_accepted (effects_of_event setup s moment c apdu event).command)
    (due_from moment (controls_after_event setup s moment c apdu event).outgoing 0 s.outstations) []) ≡ true
event_rouses setup s moment c p (I ns nr asdu) events.Taken comes = none_comes_at moment s p _ comes
event_rouses setup s moment c p (S nr) events.Taken comes = none_comes_at moment s p _ comes
event_rouses setup s moment c p (U StartAct) events.Taken comes = none_comes_at moment s p _ comes
event_rouses setup s moment c p (U StartCon) events.Taken comes = none_comes_at moment s p _ comes
event_rouses setup s moment c p (U StopAct) events.Taken comes =
    left_comes moment c p s.controls.outgoing (slice_get s.outstations p) _ comes
event_rouses setup s moment c p (U StopCon) events.Taken comes = none_comes_at moment s p _ comes
event_rouses setup s moment c p (U TestAct) events.Taken comes = none_comes_at moment s p _ comes
event_rouses setup s moment c p (U TestCon) events.Taken comes = none_comes_at moment s p _ comes
event_rouses setup s moment c p apdu (events.Command command) comes =
    let a : AskedCommand = asked_by setup s moment c command in
    commanded moment s p (is_order (answer_at setup a (control_for setup command) s.controls))
    (controls_after_at setup a (control_for setup command) s.controls).outgoing
    (not_ordered setup a (control_for setup command) s.controls) comes
event_rouses setup s moment c p apdu (events.Closed why) comes =
    left_comes moment c p s.controls.outgoing (slice_get s.outstations p) _ comes

frame_rouses : (setup : Setup) (s : State) (moment c p : ℕ) (apdu : Apdu) (k : Option Client)
    → ComesAt moment s (controls_after_frame setup s moment c apdu k).outgoing p
    → is_among p (cond (is_accepted (effects_of_apdu setup s moment c apdu k).command)
    (due_from moment (controls_after_frame setup s moment c apdu k).outgoing 0 s.outstations) []) ≡ true
frame_rouses setup s moment c p apdu None comes = none_comes_at moment s p _ comes
frame_rouses setup s moment c p apdu (Some k) comes =
    event_rouses setup s moment c p apdu (event_of setup apdu k) comes

-- ---- each step

ticked : (moment : ℕ) (s : State) (p : ℕ)
    → is_poll_due_of moment (slice_get s.controls.outgoing p) (slice_get s.outstations p) && true ≡ true
    → is_among p (due_from moment s.controls.outgoing 0 s.outstations) ≡ true
ticked moment s p comes =
    all_told moment p p 0 s.controls.outgoing s.outstations (omega arith)
    (is_now false (is_poll_due_of moment (slice_get s.controls.outgoing p) (slice_get s.outstations p)) comes)

pub requests_told : (setup : Setup) (s : State) (step : Step) (p : ℕ)
    → becomes_due s step (after setup s step) p ≡ true
    → is_among p (effects_of setup s step).due_outstations ≡ true
requests_told setup s (steps.OutstationUp o m) p comes = up_rouses setup s o m p comes
requests_told setup s (steps.OutstationDown o m) p comes = down_rouses setup s o m p comes
requests_told setup s (steps.Fragment f m) p comes = fragment_rouses setup s f m p comes
requests_told setup s (steps.Poll o m wall) p comes = polled s (latest s m) o wall p _ (order_due s o) comes
requests_told setup s (steps.ClientUp c m) p comes = none_comes_at (latest s m) s p _ comes
requests_told setup s (steps.ClientDown c m) p comes =
    left_comes (latest s m) c p s.controls.outgoing (slice_get s.outstations p) _ comes
requests_told setup s (steps.Frame c apdu m) p comes =
    frame_rouses setup s (latest s m) c p apdu (slice_get s.clients c) comes
requests_told setup s (steps.Pump c m) p comes = none_comes_at (latest s m) s p _ comes
requests_told setup s (steps.Tick m) p comes = ticked (latest s m) (after setup s (steps.Tick m)) p comes
