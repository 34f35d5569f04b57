-- Commands that are given find places for what is said of them.
use Rattle.std.specs.Prelude.{slice_get, slice_index, option_map, take, not}
use Rattle.std.specs.Prelude.{◌^◌, ◌&&◌, ◌||◌, IfSome, IsTrue, if◌then◌else◌}
use Rattle.std.specs.List.{AllByRecursion}
use Rattle.std.proofs.Common.{◌≡◌, ℕ, zero, suc, ◌+◌, ◌*◌, ◌<◌, ◌≤◌, ◌==◌, Bool, true, false, List, []}
use Rattle.std.proofs.Common.{◌∷◌, map, length, Option, Some, None, Result, Ok, Err, refl, sym, ap, subst, ◌∙◌, arith}
use Rattle.std.proofs.lemmas.List.{length-append}
use Rattle.std.proofs.lemmas.Bool.{eq-eqb, ltb-true, ne_eqb}
use Rattle.gw_model.specs.First.{first_of, when}
use Rattle.gw_map.specs.Settings.{Setup}
use Rattle.iec_apci.specs.declared.apdu.Apdu.{Apdu}
use Rattle.iec_apci.specs.declared.apdu.Apdu.TheVariants.{I, S, U}
use Rattle.iec_command.specs.declared.command.Action.{Action}
use Rattle.iec_command.specs.declared.command.Action.TheVariants.{Single, Double, Setpoint}
use Rattle.iec_command.specs.declared.command.Command.{Command}
use Rattle.iec_command.specs.declared.fault.CommandFault.{CommandFault}
use Rattle.iec_command.specs.declared.fault.CommandFault.TheVariants as faults
use Rattle.iec_command.specs.Commands.{command_of}
use Rattle.iec_apci.specs.declared.apdu.Signal.TheVariants.{StartAct, StopAct}
use Rattle.gw_model.specs.Places.{change}
use Rattle.gw_model.specs.declared.observation.Observation.{Observation}
use Rattle.gw_entries.specs.Setup.{StationSetup}
use Rattle.gw_entries.specs.declared.control.Control.{Control}
use Rattle.gw_picture.proofs.Lists.{change-still}
use Rattle.dnp_master.specs.Master.{Master}
use Rattle.gw_control.specs.declared.asked.AskedCommand.{AskedCommand}
use Rattle.gw_control.specs.Intents.{control_for}
use Rattle.gw_control.specs.Held.{orders_of}
use Rattle.gw_control.specs.Moves.{Comes, Leaves, one_if, HasWholeCommands, IsSoundControls}
use Rattle.gw_control.proofs.Held.{command_holds, end_frees_own, end_keeps_others}
use Rattle.gw_control.proofs.Sounds.{stays_sound}
use Rattle.gw_control.proofs.Whole.{stays_whole}
use Rattle.gw_judge.specs.Judging.{executes, has_known_cause, has_object, is_addressed, is_execute}
use Rattle.gw_judge.specs.Judging.{is_known_cause, judged_by, judged_reading, refusal_of}
use Rattle.gw_control.specs.declared.answer.Answer.{Answer}
use Rattle.gw_control.specs.declared.answer.Answer.TheVariants as answers
use Rattle.gw_control.specs.Selections.{is_own, is_select}
use Rattle.gw_control.specs.Controls.{Controls, act_accepted, answer_at, answer_of, answer_to_act}
use Rattle.gw_control.specs.Controls.{confirmed_if, controls_after_command, controls_after_end}
use Rattle.gw_control.specs.Controls.{is_deactivation, is_order, is_selectable, standing_at, CanAnswer}
use Rattle.gw_answers.specs.declared.outgoing.AsduAnswer.TheVariants.{Made}
use Rattle.gw_answers.specs.Answers.{command_by, control_command}
use Rattle.gw_station.specs.declared.event.Event.{Event}
use Rattle.gw_station.specs.declared.event.Event.TheVariants as events
use Rattle.iec_apci.specs.declared.why.Why.{Why}
use Rattle.gw_station.specs.declared.event.Said.{Said}
use Rattle.gw_station.specs.declared.event.Said.TheVariants as saids
use Rattle.gw_station.specs.declared.client.Stage.TheVariants.{Stopped, Started}
use Rattle.gw_station.specs.Answers.{held_with, told, CanBeTold}
use Rattle.gw_station.specs.Client.{Client, client_anew, is_started, is_up}
use Rattle.gw_station.specs.Frames.{client_after_apdu, client_by, client_taking, close_of, command_given}
use Rattle.gw_station.specs.Frames.{command_in, event_by, event_of, event_taking, judged_asdu, HasPlace}
use Rattle.gw_station.specs.Sound.{IsSoundClient, IsWholeEvent}
use Rattle.gw_station.proofs.Sounds.{sound_told}
use Rattle.gw_steps.specs.declared.step.Step.TheVariants as steps
use Rattle.gw_steps.specs.declared.step.Reply.{Reply}
use Rattle.gw_steps.specs.declared.step.StepFault.TheVariants.{NoClient}
use Rattle.gw_steps.specs.Controls.{answer_to, controls_after_event, said_by}
use Rattle.gw_steps.specs.State.{State, Counts}
use Rattle.gw_steps.specs.Steps.{after, can_order, can_rise, client_after_frame, client_answered}
use Rattle.gw_steps.specs.Steps.{client_reply, client_up, command_of as command_of_apdu}
use Rattle.gw_steps.specs.Steps.{controls_after_frame, fault_unless_up, is_beginning, is_ordering, latest}
use Rattle.gw_steps.specs.Steps.{outcome, raised, reply_of_event, reply_to, said_to, sessions_with}
use Rattle.gw_parts.specs.Clients.{event_at}
use Rattle.gw_hub.specs.Hub.{asked_by_sender, controls_settled, said_to_sender, step_with, CanOrder, IsActEvent}
use Rattle.gw_hub.specs.declared.orders.Sender.{Sender}
use Rattle.gw_hub.proofs.Each.{all_changed, has_at}
use Rattle.gw_hub.proofs.Holding.{held_change, HoldsFor, Orderly}

-- ---- what is given executes, selects or deactivates

known : (a b c : Bool) → not a && not b && c ≡ true → c ≡ true
known false false c e = e
known true b c e = absurd cc
known false true c e = absurd cc

not_other : (six eight : Bool) → six || eight ≡ true → eight ≡ false → six ≡ true
not_other true eight e none = refl
not_other false true e none = absurd cc
not_other false false e none = absurd cc

first_none : (a b c : Bool)
    → first_of {A = ℕ} (when (not a) 45 ∷ when (not b) 46 ∷ when (not c) 47 ∷ []) ≡ None → a ≡ true
first_none true b c e = refl
first_none false b c e = absurd cc

off : (select : Bool) → select ≡ false → not select ≡ true
off false e = refl
off true e = absurd cc

-- a command for a control, with a cause that is known for it
controls_act : (c : Command) → not c.negative && not c.test && ((c.cause == 6) || (c.cause == 8)) ≡ true
    → (is_select c.action ≡ false → executes c.action ≡ true) → IsActEvent (events.Command c)
controls_act c has executing = λ not_eight none.
    rw (not_other (c.cause == 6) (c.cause == 8) (known c.negative c.test _ has) not_eight, executing none) refl

acts : (c : Command) (action : Action) → c.action ≡ action
    → not c.negative && not c.test && is_known_cause action c.cause ≡ true
    → IfSome (control_command c action) (λ (x : Command). IsActEvent (events.Command x))
acts c (Single x) e has = controls_act c has (rw e (off x.select))
acts c (Double x) e has = controls_act c has (rw e (off x.select))
acts c (Setpoint x) e has = controls_act c has (rw e (off x.select))
acts c _ e has = tt

of_judged : (setup : Setup) (c : Command) (refusal : Option ℕ) → refusal_of setup c ≡ refusal
    → IfSome (command_by (judged_by refusal c)) (λ (x : Command). IsActEvent (events.Command x))
of_judged setup c None e =
    acts c c.action refl (first_none (has_known_cause c) (is_addressed setup c) (has_object setup c) e)
of_judged setup c (Some cause) e = tt

of_reading : (setup : Setup) (read : Result Command CommandFault)
    → IfSome (command_by (judged_reading setup read)) (λ (x : Command). IsActEvent (events.Command x))
of_reading setup (Ok c) = of_judged setup c (refusal_of setup c) refl
of_reading setup (Err faults.UnknownType) = tt
of_reading setup (Err _) = tt

of_command : (why : Option Why) (command : Option Command)
    → IfSome command (λ (x : Command). IsActEvent (events.Command x)) → IsActEvent (event_by why command)
of_command (Some why) command act = tt
of_command None None act = tt
of_command None (Some command) act = act

of_apdu : (setup : Setup) (apdu : Apdu)
    → IfSome (command_in setup apdu) (λ (x : Command). IsActEvent (events.Command x))
of_apdu setup (I ns nr asdu) = of_reading setup (command_of (take asdu.len asdu.octets))
of_apdu setup (S nr) = tt
of_apdu setup (U signal) = tt

pub given_acts : (setup : Setup) (apdu : Apdu) (found : Option Client) (event : Event)
    → event ≡ event_at setup apdu found → IsActEvent event
given_acts setup apdu found event e = subst IsActEvent (sym e) (by found)
  where
    by : (x : Option Client) → IsActEvent (event_at setup apdu x)
    by None = tt
    by (Some k) = of_command (close_of setup apdu k) (command_in setup apdu) (of_apdu setup apdu)

-- ---- an order has a number

pub number_left : (setup : Setup) (s : State) (x : Sender) (apdu : Apdu) (found : Option Client) (event : Event)
    → event ≡ event_at setup apdu found → x.session ≡ slice_index s.sessions x.client
    → IsTrue (can_order (is_ordering setup s x.moment x.client (command_of_apdu setup apdu found)) s.controls)
    → CanOrder setup s.outstations x event s.controls
number_left setup s x apdu found event e session can =
    subst (λ (y : Event). CanOrder setup s.outstations x y s.controls) (sym e) (by found can)
  where
    rises : (order : Bool) → IsTrue (can_order order s.controls) → order ≡ true → s.controls.ordered + 1 < 2 ^ 64
    rises true can is = ltb-true (s.controls.ordered + 1) (2 ^ 64) can
    rises false can is = absurd cc

    given : (command : Command) → IsTrue (can_order (is_ordering setup s x.moment x.client (Some command)) s.controls)
        → CanAnswer setup (asked_by_sender setup s.outstations x command) s.controls
    given command can = rw session (rises (is_order (answer_to setup s x.moment x.client command)) can)

    by_command : (why : Option Why) (command : Option Command)
        → IsTrue (can_order (is_ordering setup s x.moment x.client (command_given why command)) s.controls)
        → CanOrder setup s.outstations x (event_by why command) s.controls
    by_command (Some why) command can = tt
    by_command None None can = tt
    by_command None (Some command) can = given command can

    by : (y : Option Client)
        → IsTrue (can_order (is_ordering setup s x.moment x.client (command_of_apdu setup apdu y)) s.controls)
        → CanOrder setup s.outstations x (event_at setup apdu y) s.controls
    by None can = tt
    by (Some k) can = by_command (close_of setup apdu k) (command_in setup apdu) can

-- ---- there are places for what is said

confirmed_none : (b : Bool) (n : ℕ) → confirmed_if b ≡ answers.Ordered n → ⊥
confirmed_none true n e = absurd cc
confirmed_none false n e = absurd cc

-- only what executes is an order
ordered_executes : (setup : Setup) (a : AskedCommand) (v : Controls) (n : ℕ) → answer_of setup a v ≡ answers.Ordered n
    → (is_deactivation a ≡ false) × (is_select a.command.action ≡ false)
ordered_executes setup a v n e = by (control_for setup a.command) e
  where
    kind : (off select : Bool) (own selectable : Bool) (order : Answer)
        → (if off then confirmed_if own else if select then confirmed_if selectable else order) ≡ answers.Ordered n
        → (off ≡ false) × (select ≡ false)
    kind true select own selectable order e = absurd (confirmed_none own n e)
    kind false true own selectable order e = absurd (confirmed_none selectable n e)
    kind false false own selectable order e = (refl, refl)

    by : (found : Option (ℕ × Control)) → answer_at setup a found v ≡ answers.Ordered n
        → (is_deactivation a ≡ false) × (is_select a.command.action ≡ false)
    by None e = absurd cc
    by (Some found) e =
        let standing = standing_at setup a.moment found.0 v in
        kind (is_deactivation a) (is_select a.command.action) (is_own a standing)
        (is_selectable a found.1 standing)
        (answer_to_act v.ordered (act_accepted a found.1 standing v)) e

abbrev needed : Bool → ℕ
needed b = if b then 2 else 1

one_place : (b : Bool) → 1 ≤ needed b
one_place true = omega arith
one_place false = omega arith

-- what is said at once takes one place
said_fits : (command : Command) (said : Said) (k : Client) → length (map Made (told command said)) ≤ 1
    → held_with said k.held ≡ k.held → HasPlace (events.Command command) k → CanBeTold command said k
said_fits command said k short same place =
    omega (
      arith,
      place.1,
      one_place (is_execute command),
      short,
      same,
      length-append k.answers (map Made (told command said)),
    )

pub answer_fits : (setup : Setup) (a : AskedCommand) (v : Controls) (answer : Answer) (k : Client)
    → answer ≡ answer_of setup a v → HasPlace (events.Command a.command) k → IsActEvent (events.Command a.command)
    → CanBeTold a.command (said_by answer) k
answer_fits setup a v answers.Confirm k e place act = said_fits a.command saids.Confirm k (omega arith) refl place
answer_fits setup a v answers.Negative k e place act = said_fits a.command saids.Negative k (omega arith) refl place
answer_fits setup a v answers.Unknown k e place act = said_fits a.command saids.Negative k (omega arith) refl place
answer_fits setup a v (answers.Ordered n) k e place act =
    let kind = ordered_executes setup a v n (sym e) in
    let two : needed (is_execute a.command) ≡ 2 = ap needed (act kind.0 kind.1) in
    omega (arith, place.1, two, length-append k.answers (map Made (told a.command saids.Ordered)))

pub all_fit : (setup : Setup) (a : AskedCommand) (v : Controls) (answer : Answer) (found : Option Client)
    → answer ≡ answer_of setup a v → IfSome found (HasPlace (events.Command a.command))
    → IsActEvent (events.Command a.command) → IfSome found (CanBeTold a.command (said_by answer))
all_fit setup a v answer None e place act = tt
all_fit setup a v answer (Some k) e place act = answer_fits setup a v answer k e place act

-- ---- what is not answered stays

pub not_told : (said : Command → Said) (event quiet : Event) (c : ℕ) (ks : List Client) → event ≡ quiet
    → ((k : Client) → client_answered said quiet k ≡ k) → ks ≡ change c (client_answered said event) ks
not_told said event quiet c ks is same =
    rw is (sym (change-still c (client_answered said quiet) ks (λ k at. same k)))

-- ---- all that orders keep

change_twice : (c : ℕ) (f g : Client → Client) (ks : List Client)
    → change c g (change c f ks) ≡ change c (λ (k : Client). g (f k)) ks
change_twice c f g [] = refl
change_twice zero f g (k ∷ ks) = refl
change_twice (suc c) f g (k ∷ ks) = ap (λ (xs : List Client). k ∷ xs) (change_twice c f g ks)

-- of orders, once one came
held_ordered : (answer : Answer) (held orders more : ℕ) → held ≡ 2 * orders → more ≡ orders + one_if (is_order answer)
    → held_with (said_by answer) held ≡ 2 * more
held_ordered answers.Confirm held orders more e m = omega (arith, e, m)
held_ordered _ held orders more e m = omega (arith, e, m)

-- the places of the client whose APDU it is
own_held : (setup : Setup) (picture : List Observation) (outstations : List Master) (x : Sender) (apdu : Apdu)
    (v : Controls) (k : Client) → k.held ≡ 2 * orders_of x.client v → (is_started k.stage ≡ false → k.held ≡ 0)
    → (client_answered (said_to_sender setup outstations x v) (event_of setup apdu k)
    (client_after_apdu setup picture x.moment apdu k)).held
    ≡ 2 * orders_of x.client (controls_settled setup outstations x apdu (event_of setup apdu k) v)
own_held setup picture outstations x apdu v k held stopped = by (close_of setup apdu k)
  where
    c : ℕ
    c = x.client

    ended : 0 ≡ 2 * orders_of c (controls_after_end c v)
    ended = omega (arith, end_frees_own c v)

    starts : (b : Bool) → is_started k.stage ≡ b → (if b then k else client_anew Started k).held ≡ 2 * orders_of c v
    starts true e = held
    starts false e = omega (arith, held, stopped e)

    stops : (b : Bool) → is_started k.stage ≡ b
        → (if b then client_anew Stopped k else k).held ≡ 2 * orders_of c (controls_after_end c v)
    stops true e = ended
    stops false e = stopped e ∙ ended

    commands : (command : Command)
        → held_with (said_to_sender setup outstations x v command) k.held
        ≡ 2 * orders_of c (controls_after_command setup (asked_by_sender setup outstations x command) v)
    commands command =
        let a : AskedCommand = asked_by_sender setup outstations x command in
        held_ordered (answer_of setup a v) k.held (orders_of c v) _ held
        (command_holds setup c a v ∙ ap (λ (b : Bool). orders_of c v + one_if (b && is_order (answer_of setup a v)))
        (eq-eqb c c refl))

    taken : (apdu : Apdu)
        → (client_answered (said_to_sender setup outstations x v) (event_taking (command_in setup apdu))
        (client_taking setup picture x.moment apdu k)).held
        ≡ 2 * orders_of c (controls_settled setup outstations x apdu (event_taking (command_in setup apdu)) v)
    taken (I ns nr asdu) = carried (command_by (judged_asdu setup asdu))
      where
        carried : (command : Option Command)
            → (client_answered (said_to_sender setup outstations x v) (event_taking command)
            (client_taking setup picture x.moment (I ns nr asdu) k)).held
            ≡ 2 * orders_of c (controls_settled setup outstations x (I ns nr asdu) (event_taking command) v)
        carried None = held
        carried (Some command) = commands command
    taken (U StartAct) = starts (is_started k.stage) refl
    taken (U StopAct) = stops (is_started k.stage) refl
    taken _ = held

    by : (why : Option Why)
        → (client_answered (said_to_sender setup outstations x v) (event_by why (command_in setup apdu))
        (client_by why k (client_taking setup picture x.moment apdu k))).held
        ≡ 2 * orders_of c (controls_settled setup outstations x apdu (event_by why (command_in setup apdu)) v)
    by None = taken apdu
    by (Some why) = ended

-- those of the others
others_held : (setup : Setup) (outstations : List Master) (x : Sender) (apdu : Apdu) (event : Event) (v : Controls)
    (d : ℕ) → (x.client ≡ d → ⊥)
    → orders_of d (controls_settled setup outstations x apdu event v) ≡ orders_of d v
others_held setup outstations x (U StopAct) events.Taken v d ne = end_keeps_others x.client d ne v
others_held setup outstations x _ events.Taken v d ne = refl
others_held setup outstations x apdu (events.Command command) v d ne =
    let a : AskedCommand = asked_by_sender setup outstations x command in
    command_holds setup d a v ∙ omega (
      arith,
      ap (λ (b : Bool). one_if (b && is_order (answer_of setup a v)))
          (ne_eqb x.client d ne),
    )
others_held setup outstations x apdu (events.Closed why) v d ne = end_keeps_others x.client d ne v

settled_sound : (setup : Setup) (outstations : List Master) (x : Sender) (apdu : Apdu) (event : Event) (v : Controls)
    → IsWholeEvent event → IsSoundControls setup v → HasWholeCommands v
    → IsSoundControls setup (controls_settled setup outstations x apdu event v)
    × HasWholeCommands (controls_settled setup outstations x apdu event v)
settled_sound setup outstations x apdu (events.Command command) v whole sound commands = (
  stays_sound setup (Comes (asked_by_sender setup outstations x command)) v sound,
  stays_whole setup (Comes (asked_by_sender setup outstations x command)) v whole commands,
)
settled_sound setup outstations x apdu (events.Closed why) v whole sound commands =
    (stays_sound setup (Leaves x.client) v sound, stays_whole setup (Leaves x.client) v tt commands)
settled_sound setup outstations x (U StopAct) events.Taken v whole sound commands =
    (stays_sound setup (Leaves x.client) v sound, stays_whole setup (Leaves x.client) v tt commands)
settled_sound setup outstations x _ events.Taken v whole sound commands = (sound, commands)

-- the client was answered
one_answered : (setup : Setup) (station : StationSetup) (n i : ℕ) (outstations : List Master) (x : Sender)
    (v : Controls) (event : Event) (k : Client) → IsWholeEvent event → IsActEvent event → HasPlace event k
    → IsSoundClient station n i k
    → IsSoundClient station n i (client_answered (said_to_sender setup outstations x v) event k)
one_answered setup station n i outstations x v events.Taken k whole act place sound = sound
one_answered setup station n i outstations x v (events.Closed why) k whole act place sound = sound
one_answered setup station n i outstations x v (events.Command command) k whole act place sound =
    let a : AskedCommand = asked_by_sender setup outstations x command in
    sound_told station n i (said_by (answer_of setup a v)) command k whole
    (answer_fits setup a v (answer_of setup a v) k refl place act) (λ _. place.0) sound

pub left_by_apdu : (setup : Setup) (station : StationSetup) (n m i j : ℕ) (picture : List Observation)
    (outstations : List Master) (x : Sender) (apdu : Apdu) (event : Event) (ks mid new : List Client)
    (v out : Controls) → event ≡ event_at setup apdu (slice_get ks x.client)
    → mid ≡ change x.client (client_after_apdu setup picture x.moment apdu) ks
    → new ≡ change x.client (client_answered (said_to_sender setup outstations x v) event) mid
    → out ≡ controls_settled setup outstations x apdu event v
    → IsWholeEvent event → IsActEvent event → IfSome (slice_get mid x.client) (HasPlace event)
    → AllByRecursion (IsSoundClient station m j) mid
    → Orderly setup station n i ks v → Orderly setup station m j new out
left_by_apdu setup station n m i j picture outstations x apdu event ks mid new v out is em en eo whole act place all o =
    let kept = settled_sound setup outstations x apdu event v whole o.controls o.commands in
    let said : Command → Said = said_to_sender setup outstations x v in
    let f : Client → Client = client_after_apdu setup picture x.moment apdu in
    let sound = IsSoundClient station m j in
    rw (en, eo) (record {
      clients = all_changed sound (HasPlace event) sound x.client (client_answered said event) mid (λ k one. one)
          (λ k has one. one_answered setup station m j outstations x v event k whole act has one) place all;
      controls = kept.0;
      commands = kept.1;
      held = rw (em, change_twice x.client f (client_answered said event) ks)
          (held_change x.client (λ (k : Client). client_answered said event (f k)) ks v
          (controls_settled setup outstations x apdu event v)
          (λ d ne. others_held setup outstations x apdu event v d ne)
          (own (slice_get ks x.client) is (o.held x.client)
          (has_at (IsSoundClient station n i) ks x.client o.clients)) o.held);
    })
  where
    own : (found : Option Client) → event ≡ event_at setup apdu found
        → IfSome found (HoldsFor x.client v) → IfSome found (IsSoundClient station n i)
        → IfSome found (λ (k : Client). (client_answered (said_to_sender setup outstations x v) event
        (client_after_apdu setup picture x.moment apdu k)).held
        ≡ 2 * orders_of x.client (controls_settled setup outstations x apdu event v))
    own None e held one = tt
    own (Some k) e held one = rw e (own_held setup picture outstations x apdu v k held one.stopped)

-- ---- the step

change_alike : (c : ℕ) (f g : Client → Client) (ks : List Client)
    → ((k : Client) → slice_get ks c ≡ Some k → f k ≡ g k) → change c f ks ≡ change c g ks
change_alike c f g [] same = refl
change_alike zero f g (k ∷ ks) same = ap (λ (y : Client). y ∷ ks) (same k refl)
change_alike (suc c) f g (k ∷ ks) same = ap (λ (xs : List Client). k ∷ xs) (change_alike c f g ks (λ y at. same y at))

same_state : (old : State) (ks js : List Client) (ss ts : List ℕ) (v w : Controls) (n l : Counts) (m o : ℕ) → ks ≡ js
    → ss ≡ ts → v ≡ w → n ≡ l → m ≡ o
    → record old { clients = ks; sessions = ss; controls = v; counts = n; moment = m }
    ≡ record old { clients = js; sessions = ts; controls = w; counts = l; moment = o }
same_state old ks js ss ts v w n l m o ek es ev en em = rw (ek, es, ev, en, em) refl

-- a client that is up is there
up_there : (found : Option Client) → option_map (λ (k : Client). is_up k.stage) found ≡ Some true
    → (k : Client) × (found ≡ Some k)
up_there None e = absurd cc
up_there (Some k) e = (k, refl)

pub frame_state : (setup : Setup) (old : State) (x : Sender) (apdu : Apdu) (event : Event) (mid clients : List Client)
    (sessions : List ℕ) (controls : Controls) (counts : Counts) (begins : Bool)
    → x.moment ≡ latest old x.moment → x.session ≡ slice_index old.sessions x.client
    → event ≡ event_at setup apdu (slice_get old.clients x.client)
    → client_up old x.client ≡ Some true
    → mid ≡ change x.client (client_after_apdu setup old.picture x.moment apdu) old.clients
    → clients ≡ change x.client (client_answered (said_to_sender setup old.outstations x old.controls) event) mid
    → controls ≡ controls_settled setup old.outstations x apdu event old.controls
    → begins ≡ is_beginning old x.client apdu → counts ≡ raised old.counts (step_with 0 (one_if begins))
    → sessions ≡ (if begins then change x.client (λ _. counts.sessions) old.sessions else old.sessions)
    → record old { clients = clients; sessions = sessions; controls = controls; counts = counts; moment = x.moment }
    ≡ after setup old (steps.Frame x.client apdu x.moment)
frame_state setup old x apdu event mid clients sessions controls counts begins em es ee up ed ek ev eb en et =
    let c : ℕ = x.client in
    let said : Command → Said = said_to_sender setup old.outstations x old.controls in
    let f : Client → Client = client_after_apdu setup old.picture x.moment apdu in
    let there = up_there (slice_get old.clients c) up in
    same_state old clients _ sessions _ controls _ counts _ x.moment _
    (ek ∙ (ap (change c (client_answered said event)) ed
    ∙ (change_twice c f (client_answered said event) old.clients
    ∙ change_alike c (λ (k : Client). client_answered said event (f k))
    (client_after_frame setup old.picture (said_to setup old (latest old x.moment) c) (latest old x.moment) apdu)
    old.clients (λ j at. rw (← em, es, ee ∙ ap (event_at setup apdu) at) refl))))
    (et ∙ rw (en, eb) (numbered (is_beginning old c apdu)))
    (ev ∙ (settled event ∙ ap (λ (y : Event). controls_after_event setup old (latest old x.moment) c apdu y)
    (ee ∙ ap (event_at setup apdu) there.1)
    ∙ sym (ap (controls_after_frame setup old (latest old x.moment) c apdu) there.1)))
    (en ∙ ap (λ (b : Bool). raised old.counts (step_with 0 (one_if b))) eb) em
  where
    numbered : (b : Bool)
        → (if b then change x.client (λ _. (raised old.counts (step_with 0 (one_if b))).sessions) old.sessions
        else old.sessions)
        ≡ sessions_with b x.client old.counts old.sessions
    numbered true = refl
    numbered false = refl

    settled : (event : Event)
        → controls_settled setup old.outstations x apdu event old.controls
        ≡ controls_after_event setup old (latest old x.moment) x.client apdu event
    settled events.Taken = refl
    settled (events.Command command) = rw (← em, es) refl
    settled (events.Closed why) = refl

pub frame_answer : (setup : Setup) (old : State) (c m : ℕ) (apdu : Apdu) (event : Event) (r : Reply) (begins : Bool)
    → m ≡ latest old m → client_up old c ≡ Some true → begins ≡ is_beginning old c apdu
    → IsTrue (can_rise old.counts (step_with 0 (one_if begins)))
    → IsTrue (can_order (is_ordering setup old m c (command_of_apdu setup apdu (slice_get old.clients c))) old.controls)
    → event ≡ event_at setup apdu (slice_get old.clients c) → r ≡ reply_of_event event
    → outcome setup old (steps.Frame c apdu m) ≡ Ok r
frame_answer setup old c m apdu event r begins em up eb rises order ee er =
    let there = up_there (slice_get old.clients c) up in
    let k : Client = there.0 in
    let counts : can_rise old.counts (step_with 0 (one_if (is_beginning old c apdu))) ≡ true =
    subst (λ (b : Bool). can_rise old.counts (step_with 0 (one_if b)) ≡ true) eb rises in
    let number : can_order
    (is_ordering setup old (latest old m) c (command_of_apdu setup apdu (slice_get old.clients c))) old.controls
    ≡ true = rw (← em) order in
    let fault : fault_unless_up NoClient (client_up old c) ≡ None = ap (fault_unless_up NoClient) up in
    let reply : reply_to setup old (steps.Frame c apdu m) ≡ r =
    ap (client_reply (λ (y : Client). reply_of_event (event_of setup apdu y))) there.1
    ∙ sym (er ∙ ap reply_of_event (ee ∙ ap (event_at setup apdu) there.1)) in
    rw (fault, counts, number) (ap (λ (y : Reply). Ok y) reply)
