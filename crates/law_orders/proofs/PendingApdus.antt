-- The loss of a client, and an APDU of one: sessions end, and an execute that is accepted is pending.
use Rattle.std.proofs.Common.{◌≡◌, ℕ, suc, ◌+◌, ◌&&◌, List, [], ◌++◌, length, Option}
use Rattle.std.proofs.Common.{Some, None, Ok, refl, sym, ap, subst, ◌∙◌, arith}
use Rattle.std.specs.Prelude.{◌==◌, slice_get}
use Rattle.std.specs.Option.{option_to_list}
use Rattle.std.proofs.lemmas.List.{append-nil}
use Rattle.gw_map.specs.Settings.{Setup}
use Rattle.iec_apci.specs.declared.apdu.Apdu.{Apdu}
use Rattle.iec_apci.specs.declared.apdu.Apdu.TheVariants.{I, S, U}
use Rattle.iec_apci.specs.declared.apdu.Signal.TheVariants.{StartAct, StartCon, StopAct, StopCon, TestAct, TestCon}
use Rattle.iec_command.specs.declared.command.Command.{Command}
use Rattle.gw_control.specs.Intents.{control_for}
use Rattle.iec_apci.specs.declared.why.Why.{Why}
use Rattle.gw_station.specs.Client.{Client, is_up}
use Rattle.gw_station.specs.Frames.{close_of, command_given, command_in, event_by, event_of}
use Rattle.gw_steps.specs.declared.step.Step.{Step}
use Rattle.gw_steps.specs.declared.step.Step.TheVariants as steps
use Rattle.gw_steps.specs.declared.step.Reply.{Reply}
use Rattle.gw_steps.specs.declared.step.StepFault.TheVariants.{NoClient}
use Rattle.gw_steps.specs.Controls.{asked_by, controls_after_event}
use Rattle.gw_steps.specs.State.{State}
use Rattle.gw_steps.specs.Steps.{after, can_be_counted, client_reply, command_of, controls_after_frame}
use Rattle.gw_steps.specs.Steps.{fault_of, latest, needs, outcome, reply_of_event, reply_to}
use Rattle.gw_steps.specs.Runs.{Entry, state_after}
use Rattle.gw_steps.proofs.Inversion.{answered, who_is_up}
use Rattle.gw_steps.proofs.Running.{entry}
use Rattle.law_orders.specs.Executes.{execute_by, executes}
use Rattle.law_orders.specs.Sessions.{ends_by}
use Rattle.law_orders.specs.Pending.{Pending, after_sessions, order_made}
use Rattle.law_orders.proofs.PendingCloses.{rows_end}
use Rattle.law_orders.proofs.PendingFrames.{rows_commanded}
use Rattle.law_orders.proofs.PendingPlaces.{at_calm, same_rows}
use Rattle.law_orders.proofs.Rows.{none_leaves, quiet, rows}
use Rattle.law_orders.proofs.Kept.{StepFollows, Before, calm}

pub client_down : (setup : Setup) (past : List Entry) (c m : ℕ) (r : Reply) (s : State) → Before setup past s
    → StepFollows setup past (steps.ClientDown c m) r s (after setup s (steps.ClientDown c m))
client_down setup past c m r s k =
    let step : Step = steps.ClientDown c m in
    calm setup past step r s (after setup s step) refl
    (λ p. at_calm setup past (entry step (Ok r)) r p (slice_get s.controls.outgoing p)
    (slice_get (after setup s step).controls.outgoing p)
    (rows_end setup past s.outstations s.controls c p k.orders
    ∙ sym (append-nil (after_sessions (λ d. d == c) past (rows (slice_get s.controls.outgoing p))))) (λ x. refl))

-- the orders after an APDU, of which this became
abbrev FrameAt : Setup → List Entry → State → ℕ → ℕ → Apdu → ℕ → Option Why → Option Command → Type 0
FrameAt setup past s moment c apdu o why command =
    rows (slice_get (controls_after_event setup s moment c apdu (event_by why command)).outgoing o)
    ≡ after_sessions (λ d. ends_by (reply_of_event (event_by why command)) apdu && (d == c)) past
    (rows (slice_get s.controls.outgoing o))
    ++ option_to_list (order_made o (s.controls.ordered + 1) (execute_by setup s moment c (command_given why command)))

frame_at : (setup : Setup) (past : List Entry) (s : State) (moment c o : ℕ) (apdu : Apdu) → Before setup past s
    → (why : Option Why) (command : Option Command) → command_in setup apdu ≡ command
    → FrameAt setup past s moment c apdu o why command
frame_at setup past s moment c o apdu k (Some why) command is =
    rows_end setup past s.outstations s.controls c o k.orders
    ∙ sym (append-nil (after_sessions (λ d. d == c) past (rows (slice_get s.controls.outgoing o))))
frame_at setup past s moment c o apdu k None None is = taken apdu
  where
    same : rows (slice_get s.controls.outgoing o)
        ≡ after_sessions quiet past (rows (slice_get s.controls.outgoing o)) ++ []
    same = same_rows past (rows (slice_get s.controls.outgoing o))

    taken : (apdu : Apdu) → FrameAt setup past s moment c apdu o None None
    taken (I ns nr asdu) = same
    taken (S nr) = same
    taken (U StartAct) = same
    taken (U StartCon) = same
    taken (U StopAct) =
        rows_end setup past s.outstations s.controls c o k.orders
        ∙ sym (append-nil (after_sessions (λ d. d == c) past (rows (slice_get s.controls.outgoing o))))
    taken (U StopCon) = same
    taken (U TestAct) = same
    taken (U TestCon) = same
frame_at setup past s moment c o apdu k None (Some command) is = commanded apdu is
  where
    commanded : (apdu : Apdu) → command_in setup apdu ≡ Some command
        → FrameAt setup past s moment c apdu o None (Some command)
    commanded (I ns nr asdu) found =
        rows_commanded setup o (asked_by setup s moment c command) (control_for setup command) s.controls
        ∙ ap (λ (ps : List Pending). ps ++ option_to_list (order_made o (s.controls.ordered + 1)
        (execute_by setup s moment c (Some command)))) (sym (none_leaves past (rows (slice_get s.controls.outgoing o))))
    commanded (S nr) found = absurd (let no : ⊥ = cc in no)
    commanded (U signal) found = absurd (let no : ⊥ = cc in no)

-- with this number for the next order, and this client
abbrev FoundAt : Setup → List Entry → State → ℕ → ℕ → Apdu → ℕ → Reply → ℕ → Option Client → Type 0
FoundAt setup past s moment c apdu o reply number found =
    rows (slice_get (controls_after_frame setup s moment c apdu found).outgoing o)
    ≡ after_sessions (λ d. ends_by reply apdu && (d == c)) past (rows (slice_get s.controls.outgoing o))
    ++ option_to_list (order_made o number (execute_by setup s moment c (command_of setup apdu found)))

pub frame : (setup : Setup) (past : List Entry) (c : ℕ) (apdu : Apdu) (m : ℕ) (r : Reply)
    → outcome setup (state_after setup past) (steps.Frame c apdu m) ≡ Ok r
    → Before setup past (state_after setup past)
    → StepFollows setup past (steps.Frame c apdu m) r (state_after setup past)
    (after setup (state_after setup past) (steps.Frame c apdu m))
frame setup past c apdu m r e k =
    let s : State = state_after setup past in
    let step : Step = steps.Frame c apdu m in
    let moment : ℕ = latest s m in
    let told = answered (fault_of s step) (can_be_counted s (needs setup s step)) (reply_to setup s step) r e in
    let up = who_is_up (λ (x : Client). is_up x.stage) NoClient (slice_get s.clients c) told.0 in
    let became : Reply = reply_of_event (event_of setup apdu up.0) in
    let reply : became ≡ r =
    sym (ap (client_reply (λ (x : Client). reply_of_event (event_of setup apdu x))) up.1) ∙ told.2 in
    let count : s.controls.ordered + 1 ≡ suc (length (executes setup past)) = omega (arith, k.orders.count) in
    let each : (o : ℕ) → FoundAt setup past s moment c apdu o became (suc (length (executes setup past)))
    (slice_get s.clients c) =
    λ o. subst (λ (x : Option Client). FoundAt setup past s moment c apdu o became (suc (length (executes setup past)))
    x) (sym up.1)
    (subst (λ (n : ℕ). FoundAt setup past s moment c apdu o became n (Some up.0)) count
    (frame_at setup past s moment c o apdu k (close_of setup apdu up.0) (command_in setup apdu) refl)) in
    subst (λ (x : Reply). StepFollows setup past step x s (after setup s step)) reply
    (calm setup past step became s (after setup s step) refl
    (λ p. at_calm setup past (entry step (Ok became)) became p (slice_get s.controls.outgoing p)
    (slice_get (after setup s step).controls.outgoing p) (each p) (λ x. refl)))
