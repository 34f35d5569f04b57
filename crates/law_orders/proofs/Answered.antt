-- What is answered to a command is what is due by the history.
use Rattle.std.proofs.Common.{◌≡◌, ℕ, zero, suc, ◌+◌, Bool, true, false, cond, not, ◌&&◌, ◌||◌}
use Rattle.std.proofs.Common.{nat_lt, List, [], ◌∷◌, length, Option, Some, None, option_map}
use Rattle.std.proofs.Common.{is_none, is_some, Result, Ok, Err, refl, sym, ap, subst, ◌∙◌, arith}
use Rattle.std.specs.Prelude.{slice_get, slice_index}
use Rattle.gw_model.specs.First.{first_of, when}
use Rattle.gw_model.specs.declared.control.Act.{Act}
use Rattle.gw_entries.specs.declared.control.Control.{Control}
use Rattle.gw_map.specs.Settings.{Setup, HasSingleAddresses}
use Rattle.dnp_master.specs.Master.{Master}
use Rattle.iec_apci.specs.declared.apdu.Apdu.{Apdu}
use Rattle.iec_command.specs.declared.command.Command.{Command}
use Rattle.gw_control.specs.declared.answer.Answer.{Answer}
use Rattle.gw_control.specs.declared.answer.Answer.TheVariants as answers
use Rattle.gw_control.specs.declared.asked.AskedCommand.{AskedCommand}
use Rattle.gw_control.specs.declared.selection.Selection.{Selection}
use Rattle.gw_control.specs.declared.refusal.Refusal.{Refusal}
use Rattle.gw_control.specs.declared.refusal.Refusal.TheVariants.{NoPlace, OutstationDown, SelectedByAnother}
use Rattle.gw_control.specs.Controls.{act_accepted, act_by, act_unless, answer_at, answer_for}
use Rattle.gw_control.specs.Controls.{answer_to_act, confirmed_if, element_refusal, is_full_at}
use Rattle.gw_control.specs.Controls.{is_selectable, selection_refusal, standing_at}
use Rattle.gw_control.specs.Intents.{control_for}
use Rattle.gw_control.specs.Orders.{Outgoing}
use Rattle.gw_control.specs.Selections.{is_own, is_select, is_selected, is_taken}
use Rattle.gw_station.specs.declared.event.Said.TheVariants as saids
use Rattle.iec_apci.specs.declared.why.Why.{Why}
use Rattle.gw_station.specs.Client.{Client, is_up as is_connected}
use Rattle.gw_station.specs.Frames.{close_of, command_given, command_in, event_by, event_of}
use Rattle.gw_steps.specs.declared.step.Step.{Step}
use Rattle.gw_steps.specs.declared.step.Step.TheVariants as steps
use Rattle.gw_steps.specs.declared.step.Reply.{Reply}
use Rattle.gw_steps.specs.declared.step.Reply.TheVariants as replies
use Rattle.gw_steps.specs.declared.step.StepFault.{StepFault}
use Rattle.gw_steps.specs.declared.step.StepFault.TheVariants.{NoClient}
use Rattle.gw_steps.specs.Controls.{asked_by, is_control_up, is_up_at, said_by}
use Rattle.gw_steps.specs.Sound.{IsSoundState}
use Rattle.gw_steps.specs.State.{State, later}
use Rattle.gw_steps.specs.Steps.{Allowed, can_be_counted, client_reply, command_of}
use Rattle.gw_steps.specs.Steps.{fault_of, latest, needs, outcome, reply_of_event, reply_to}
use Rattle.gw_steps.specs.Runs.{Entry, state_after}
use Rattle.gw_steps.proofs.Inversion.{answered, who_is_up}
use Rattle.gw_steps.proofs.Running.{entry}
use Rattle.law_history.specs.Accepted.{moment_after}
use Rattle.law_history.specs.Up.{is_outstation_up}
use Rattle.law_orders.specs.Executes.{execute_answered, execute_by as execute_made}
use Rattle.law_orders.proofs.Held.{waiting_at}
use Rattle.law_orders.specs.Commands.{AnswersBy, AnswersDue, Orders, SaysDue, confirmed_if as said_if}
use Rattle.law_orders.specs.Commands.{execute_by, execute_for, is_accepted, orders, said_due, waiting}
use Rattle.law_orders.specs.Selections.{Selected, if_fresh, is_deactivation, is_free_for, is_selected_by}
use Rattle.law_orders.specs.Selections.{is_selected_for, may_select, moment_at, selected, standing}
use Rattle.law_orders.proofs.Carried.{is_for_control, takes_carried}
use Rattle.law_orders.proofs.Words.{permitted_is}
use Rattle.law_orders.proofs.Opened.{told_of}
use Rattle.law_orders.proofs.Commanded.{own_is, selectable_is, selected_is, standing_open, standing_told, taken_is}
use Rattle.law_orders.proofs.CommandFrames.{taken_reply}
use Rattle.gw_steps.specs.Queries.{started_at}
use Rattle.law_orders.proofs.CommandSteps.{Selects}
use Rattle.law_orders.proofs.Up.{AreUp}

-- ---- an execute

-- what is answered to one, by the act on its control and what speaks against it, whatever it is refused for
abbrev acting : Refusal → Refusal → ℕ → Bool → Option Act → Bool → Bool → Bool → Bool → Answer
acting r s count select act up taken selected full = answer_to_act count (act_unless (first_of
    (when (is_none act) r
    ∷ when (not up) OutstationDown
    ∷ when taken SelectedByAnother
    ∷ when (select && not selected) s
    ∷ when full NoPlace
    ∷ [])) act)

-- it is an order where nothing does
abbrev ordered_if : ℕ → Bool → Answer
ordered_if count accepted = cond accepted (answers.Ordered (count + 1)) answers.Negative

acted_with : (r s : Refusal) (count : ℕ) (select : Bool) (act : Option Act) (up free selected room : Bool)
    → acting r s count select act up (not free) selected (not room)
    ≡ ordered_if count (is_some act && up && free && (not select || selected) && room)
acted_with r s count select None up free selected room = refl
acted_with r s count select (Some act) false free selected room = refl
acted_with r s count select (Some act) true false selected room = refl
acted_with r s count true (Some act) true true false room = refl
acted_with r s count true (Some act) true true true true = refl
acted_with r s count true (Some act) true true true false = refl
acted_with r s count false (Some act) true true selected true = refl
acted_with r s count false (Some act) true true selected false = refl

-- the place counts only where the outstation is up
acted : (r s : Refusal) (count : ℕ) (select : Bool) (act : Option Act) (up free selected full room : Bool)
    → (up ≡ true → full ≡ not room)
    → acting r s count select act up (not free) selected full
    ≡ ordered_if count (is_some act && up && free && (not select || selected) && room)
acted r s count select None false free selected full room k = refl
acted r s count select (Some act) false free selected full room k = refl
acted r s count select act true free selected full room k =
    ap (acting r s count select act true (not free) selected) (k refl)
    ∙ acted_with r s count select act true free selected room

acting_same : (r s : Refusal) (count : ℕ) (select : Bool) (act : Option Act) (full up is_so taken so_taken own so_own : Bool)
    → up ≡ is_so → taken ≡ so_taken → own ≡ so_own
    → acting r s count select act up taken own full ≡ acting r s count select act is_so so_taken so_own full
acting_same r s count select act full up is_so taken so_taken own so_own e k j =
    ap (λ (b : Bool). acting r s count select act b taken own full) e
    ∙ (ap (λ (b : Bool). acting r s count select act is_so b own full) k
    ∙ ap (λ (b : Bool). acting r s count select act is_so so_taken b full) j)

-- ---- places

-- there is no place for orders where there is no outstation
no_place : (o : ℕ) (qs : List Outgoing) (ms : List Master) → length ms ≡ length qs → slice_get qs o ≡ None
    → is_up_at (slice_get ms o) ≡ false
no_place o [] [] same none = refl
no_place o [] (m ∷ ms) same none = absurd (omega (arith, same))
no_place o (q ∷ qs) [] same none = refl
no_place zero (q ∷ qs) (m ∷ ms) same none = absurd (let no : ⊥ = cc in no)
no_place (suc o) (q ∷ qs) (m ∷ ms) same none = no_place o qs ms (omega (arith, same)) none

-- as many orders wait as the history tells
abbrev pub HasWaiting : Setup → List Entry → Type 0
HasWaiting setup past = (o : ℕ) → length (waiting_at (slice_get (state_after setup past).controls.outgoing o))
    ≡ length (waiting (orders setup past) past o)

full_is : (o n : ℕ) (qs : List Outgoing) (ms : List Master) (q : Option Outgoing) → slice_get qs o ≡ q
    → length ms ≡ length qs → length (waiting_at q) ≡ n → is_up_at (slice_get ms o) ≡ true
    → is_full_at q ≡ not (nat_lt n 16)
full_is o n qs ms (Some q) at same is up = ap (λ (k : ℕ). not (nat_lt k 16)) is
full_is o n qs ms None at same is up =
    let down : is_up_at (slice_get ms o) ≡ false = no_place o qs ms same at in absurd (let no : ⊥ = cc in no)

-- ---- a command for a control

answers_same : (deactivation select own so_own may so_may : Bool) (x so_x : Answer) → own ≡ so_own → may ≡ so_may
    → x ≡ so_x
    → cond deactivation (confirmed_if own) (cond select (confirmed_if may) x)
    ≡ cond deactivation (confirmed_if so_own) (cond select (confirmed_if so_may) so_x)
answers_same true select own so_own may so_may x so_x e k j = ap (λ (b : Bool). confirmed_if b) e
answers_same false true own so_own may so_may x so_x e k j = ap (λ (b : Bool). confirmed_if b) k
answers_same false false own so_own may so_may x so_x e k j = j

said_is : (count : ℕ) (deactivation select own may accepted : Bool)
    → said_by (cond deactivation (confirmed_if own) (cond select (confirmed_if may) (ordered_if count accepted)))
    ≡ cond deactivation (said_if own) (cond select (said_if may) (cond accepted saids.Ordered saids.Negative))
said_is count true select true may accepted = refl
said_is count true select false may accepted = refl
said_is count false true own true accepted = refl
said_is count false true own false accepted = refl
said_is count false false own may true = refl
said_is count false false own may false = refl

execute_is : (count c : ℕ) (command : Command) (found : ℕ × Control) (deactivation select own may accepted : Bool)
    → execute_answered c command (Some found)
    (cond deactivation (confirmed_if own) (cond select (confirmed_if may) (ordered_if count accepted)))
    ≡ when (not deactivation && not select && accepted)
    (record { client = c; control = found.1; command = command })
execute_is count c command found true select true may accepted = refl
execute_is count c command found true select false may accepted = refl
execute_is count c command found false true own true accepted = refl
execute_is count c command found false true own false accepted = refl
execute_is count c command found false false own may true = refl
execute_is count c command found false false own may false = refl

-- what is known of the state
pub record Known (setup : Setup) (past : List Entry) : Type 0 where
  pub single : HasSingleAddresses setup.rows setup.controls
  pub sound : IsSoundState setup (state_after setup past)
  pub moment : (state_after setup past).moment ≡ moment_after past
  pub selects : Selects setup past (state_after setup past)
  pub up : AreUp past (state_after setup past)
  pub waits : HasWaiting setup past

module _ (setup : Setup) (past : List Entry) (moment c : ℕ) (command : Command) where
  abbrev s : State
  s = state_after setup past

  abbrev a : AskedCommand
  a = asked_by setup s moment c command

  abbrev told : Orders
  told = orders setup past

  -- what is to be answered of a control at a position
  abbrev answer_due : ℕ → Control → Answer
  answer_due q control =
      cond (is_deactivation command) (confirmed_if (is_selected_by c (standing setup q moment past)))
      (cond (is_select command.action)
      (confirmed_if (may_select setup c moment control command (selected setup q past)))
      (ordered_if s.controls.ordered (is_accepted setup told past c moment q control command)))

  stands_so : (q : ℕ) → Known setup past
      → option_map told_of (standing_at setup moment q s.controls) ≡ standing setup q moment past
  stands_so q k =
      standing_told setup moment s.controls.sessions (slice_get s.controls.selections q)
      ∙ ap (if_fresh setup moment) (k.selects.tells q)

  own_so : (q : ℕ) → Known setup past
      → is_own a (standing_at setup moment q s.controls) ≡ is_selected_by c (standing setup q moment past)
  own_so q k =
      own_is (λ d. started_at (slice_get s.clients d)) (λ d. slice_index s.sessions d) s.counts.sessions a s.controls
      (standing_at setup moment q s.controls) k.selects.fresh.fresh refl
      (standing_open setup.station.select_ms moment s.controls.sessions (slice_get s.controls.selections q))
      ∙ ap (is_selected_by c) (stands_so q k)

  same_so : (q : ℕ) → Known setup past → is_selected a (standing_at setup moment q s.controls)
      ≡ is_selected_for c command.action (standing setup q moment past)
  same_so q k =
      selected_is (λ d. started_at (slice_get s.clients d)) (λ d. slice_index s.sessions d) s.counts.sessions a
      s.controls
      (standing_at setup moment q s.controls) k.selects.fresh.fresh refl
      (standing_open setup.station.select_ms moment s.controls.sessions (slice_get s.controls.selections q))
      ∙ ap (is_selected_for c command.action) (stands_so q k)

  taken_so : (q : ℕ) → Known setup past
      → is_taken a (standing_at setup moment q s.controls) ≡ not (is_free_for c (standing setup q moment past))
  taken_so q k =
      taken_is a (standing_at setup moment q s.controls)
      ∙ ap (λ (y : Option Selected). not (is_free_for c y)) (stands_so q k)

  may_so : (q : ℕ) (control : Control) → Known setup past
      → is_selectable a control (standing_at setup moment q s.controls)
      ≡ may_select setup c moment control command (selected setup q past)
  may_so q control k =
      selectable_is setup a control q s.controls ∙ ap (may_select setup c moment control command) (k.selects.tells q)

  full_so : (o : ℕ) → Known setup past → is_outstation_up o past ≡ true
      → is_full_at (slice_get s.controls.outgoing o) ≡ not (nat_lt (length (waiting told past o)) 16)
  full_so o k on =
      full_is o (length (waiting told past o)) s.controls.outgoing s.outstations (slice_get s.controls.outgoing o) refl
      (k.sound.masters ∙ sym k.sound.controls.outgoing) (k.waits o) (k.up o ∙ on)

  -- an execute is accepted where it is due
  accepted_so : (found : ℕ × Control) → control_for setup command ≡ Some found → Known setup past
      → answer_to_act s.controls.ordered
      (act_accepted a found.1 (standing_at setup moment found.0 s.controls) s.controls)
      ≡ ordered_if s.controls.ordered (is_accepted setup told past c moment found.0 found.1 command)
  accepted_so found is k =
      let q : ℕ = found.0 in
      let control : Control = found.1 in
      let o : ℕ = control.outstation in
      let x : Option Selection = standing_at setup moment q s.controls in
      let so : Option Selected = standing setup q moment past in
      let full : Bool = is_full_at (slice_get s.controls.outgoing o) in
      let free : Bool = is_free_for c so in
      let same : Bool = is_selected_for c command.action so in
      let room : Bool = nat_lt (length (waiting told past o)) 16 in
      let r : Refusal = element_refusal command.action control.operates in
      let why : Refusal = selection_refusal a x in
      acting_same r why s.controls.ordered control.select (act_by a control) full a.up (is_outstation_up o past) (is_taken a x)
      (not free) (is_selected a x) same
      (ap (is_control_up s.outstations) is ∙ k.up o) (taken_so q k) (same_so q k)
      ∙ (acted r why s.controls.ordered control.select (act_by a control) (is_outstation_up o past) free same full room (full_so o k)
      ∙ ap (λ (b : Bool). ordered_if s.controls.ordered
      (b && is_outstation_up o past && free && (not control.select || same) && room))
      (permitted_is control.operates command.action))

  answer_is : (found : ℕ × Control) → control_for setup command ≡ Some found → Known setup past
      → answer_for a found.1 (standing_at setup moment found.0 s.controls) s.controls
      ≡ answer_due found.0 found.1
  answer_is found is k =
      let x : Option Selection = standing_at setup moment found.0 s.controls in
      answers_same (is_deactivation command) (is_select command.action) (is_own a x)
      (is_selected_by c (standing setup found.0 moment past)) (is_selectable a found.1 x)
      (may_select setup c moment found.1 command (selected setup found.0 past))
      (answer_to_act s.controls.ordered (act_accepted a found.1 x s.controls))
      (ordered_if s.controls.ordered (is_accepted setup told past c moment found.0 found.1 command))
      (own_so found.0 k) (may_so found.0 found.1 k) (accepted_so found is k)

  said_of : (found : Option (ℕ × Control)) → control_for setup command ≡ found → Known setup past
      → said_by (answer_at setup a found s.controls) ≡ said_due setup told past c moment command found
  said_of None is k = refl
  said_of (Some found) is k =
      ap said_by (answer_is found is k)
      ∙ said_is s.controls.ordered (is_deactivation command) (is_select command.action)
      (is_selected_by c (standing setup found.0 moment past))
      (may_select setup c moment found.1 command (selected setup found.0 past))
      (is_accepted setup told past c moment found.0 found.1 command)

  execute_of_found : (found : Option (ℕ × Control)) → control_for setup command ≡ found → Known setup past
      → execute_answered c command found (answer_at setup a found s.controls)
      ≡ execute_for setup told past c moment command found
  execute_of_found None is k = refl
  execute_of_found (Some found) is k =
      ap (execute_answered c command (Some found)) (answer_is found is k)
      ∙ execute_is s.controls.ordered c command found (is_deactivation command) (is_select command.action)
      (is_selected_by c (standing setup found.0 moment past))
      (may_select setup c moment found.1 command (selected setup found.0 past))
      (is_accepted setup told past c moment found.0 found.1 command)

-- ---- an APDU

module _ (setup : Setup) (past : List Entry) (c m : ℕ) (apdu : Apdu) where
  abbrev arrival : Step
  arrival = steps.Frame c apdu m

  abbrev state : State
  state = state_after setup past

  abbrev with_client : Option Command → Option (ℕ × Command)
  with_client command = option_map {U = ℕ × Command} (λ (x : Command). (c, x)) command

  due_of : (command : Option Command) → Known setup past
      → SaysDue setup past arrival (with_client command)
      × (execute_made setup state (latest state m) c command
      ≡ execute_by setup (orders setup past) past (moment_at past arrival) (with_client command))
  due_of None k = (tt, refl)
  due_of (Some command) k =
      let told : latest state m ≡ moment_at past arrival = ap (λ (n : ℕ). later n m) k.moment in
      let found : Option (ℕ × Control) = control_for setup command in (
        said_of setup past (latest state m) c command found refl k
            ∙ ap (λ (n : ℕ). said_due setup (orders setup past) past c n command found) told,
        execute_of_found setup past (latest state m) c command found refl k
            ∙ ap (λ (n : ℕ). execute_for setup (orders setup past) past c n command found) told,
      )

  -- of a client that is there, by why it closes
  by_why : (client : Client) (why : Option Why) (r : Reply) → slice_get state.clients c ≡ Some client
      → close_of setup apdu client ≡ why → reply_of_event (event_by why (command_in setup apdu)) ≡ r
      → Known setup past → AnswersDue setup past (entry arrival (Ok r)) r
  by_why client (Some why) r at closes is k =
      let given : command_of setup apdu (slice_get state.clients c) ≡ None =
      ap (command_of setup apdu) at
      ∙ ap (λ (y : Option Why). command_given y (command_in setup apdu)) closes in
      subst (λ (x : Reply). AnswersDue setup past (entry arrival (Ok x)) x) is (record {
        taken = takes_carried setup k.single arrival (replies.Closed why);
        control = tt;
        said = tt;
        execute = ap (execute_made setup state (latest state m) c) given;
      })
  by_why client None r at taken is k =
      let command : Option Command = command_in setup apdu in
      let given : command_of setup apdu (slice_get state.clients c) ≡ command =
      ap (command_of setup apdu) at ∙ ap (λ (y : Option Why). command_given y command) taken in
      let due = due_of command k in
      subst (λ (x : Reply). AnswersDue setup past (entry arrival (Ok x)) x) (sym (taken_reply command) ∙ is) (record {
        taken = takes_carried setup k.single arrival replies.Taken;
        control = is_for_control setup c k.single apdu;
        said = due.0;
        execute = ap (execute_made setup state (latest state m) c) given ∙ due.1;
      })

  frame : (r : Reply) → outcome setup state arrival ≡ Ok r → Known setup past
      → AnswersDue setup past (entry arrival (Ok r)) r
  frame r e k =
      let told = answered (fault_of state arrival) (can_be_counted state (needs setup state arrival))
      (reply_to setup state arrival) r e in
      let up = who_is_up (λ (x : Client). is_connected x.stage) NoClient (slice_get state.clients c) told.0 in
      let reply : reply_of_event (event_of setup apdu up.0) ≡ r =
      sym (ap (client_reply (λ (x : Client). reply_of_event (event_of setup apdu x))) up.1) ∙ told.2 in
      by_why up.0 (close_of setup apdu up.0) r up.1 refl reply k

-- ---- all steps

pub answers_by : (setup : Setup) (past : List Entry) (step : Step) (reply : Result Reply StepFault)
    → Allowed setup (state_after setup past) step reply (state_after setup (entry step reply ∷ past))
    → Known setup past → AnswersBy setup past (entry step reply) reply
answers_by setup past step (Err f) allowed k = refl
answers_by setup past (steps.Frame c apdu m) (Ok r) allowed k = frame setup past c m apdu r allowed.0 k
answers_by setup past _ (Ok r) allowed k = record { taken = refl; control = tt; said = tt; execute = refl }
