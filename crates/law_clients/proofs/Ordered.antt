-- How many orders there are after each step.
use Rattle.std.proofs.Common.{◌≡◌, ℕ, suc, ◌+◌, Bool, true, false, cond, List}
use Rattle.std.proofs.Common.{[], ◌∷◌, map, Option, Some, None, refl, ◌∙◌, arith}
use Rattle.std.specs.Prelude.{slice_get}
use Rattle.gw_model.specs.declared.control.Act.{Act}
use Rattle.gw_model.specs.declared.control.Ended.{Ended}
use Rattle.gw_model.specs.declared.control.Order.{Order}
use Rattle.gw_entries.specs.declared.control.Control.{Control}
use Rattle.gw_map.specs.Settings.{Setup}
use Rattle.iec_apci.specs.declared.apdu.Apdu.{Apdu}
use Rattle.iec_apci.specs.declared.apdu.Apdu.TheVariants.{I, S, U}
use Rattle.iec_apci.specs.declared.apdu.Signal.TheVariants.{StartAct, StartCon, StopAct, StopCon, TestAct, TestCon}
use Rattle.iec_command.specs.declared.command.Command.{Command}
use Rattle.gw_control.specs.declared.asked.AskedCommand.{AskedCommand}
use Rattle.gw_control.specs.declared.selection.Selection.{Selection}
use Rattle.gw_control.specs.Controls.{Controls, act_accepted, answer_at, answer_to_act, confirmed_if}
use Rattle.gw_control.specs.Controls.{controls_after_at, controls_after_end, controls_ordering, controls_selecting}
use Rattle.gw_control.specs.Controls.{controls_unselecting, is_deactivation, is_order, is_selectable, standing_at}
use Rattle.gw_control.specs.Intents.{control_for}
use Rattle.gw_control.specs.Orders.{places}
use Rattle.gw_control.specs.Selections.{is_own, is_select}
use Rattle.iec_apci.specs.declared.why.Why.{Why}
use Rattle.gw_station.specs.Client.{Client, is_timed_out}
use Rattle.gw_station.specs.Frames.{close_of, command_given, command_in, event_by}
use Rattle.gw_steps.specs.declared.step.Step.{Step}
use Rattle.gw_steps.specs.declared.step.Step.TheVariants as steps
use Rattle.gw_steps.specs.Controls.{asked_by, controls_after_closes, controls_after_event}
use Rattle.gw_steps.specs.Controls.{controls_after_taken, controls_with_ended, ended_lost, order_due}
use Rattle.gw_steps.specs.State.{State}
use Rattle.gw_steps.specs.Steps.{after, command_of, controls_after_frame, controls_closed}
use Rattle.gw_steps.specs.Steps.{ended_late, is_accepting, is_ordering, latest, needs}
use Rattle.gw_steps.specs.Steps.{one_if, order_ended, parts_after_fragment, parts_after_poll}
use Rattle.law_history.proofs.Ended.{all_ended_count, ended_count, losses_count}

-- ---- a command

confirmed_none : (told : Bool) → one_if (is_order (confirmed_if told)) ≡ 0
confirmed_none true = refl
confirmed_none false = refl

ordering : (a : AskedCommand) (control : Control) (act : Option Act) (w : Controls)
    → (controls_ordering a control act w).ordered ≡ w.ordered + one_if (is_order (answer_to_act w.ordered act))
ordering a control None w = omega arith
ordering a control (Some act) w = refl

commanded_at : (setup : Setup) (a : AskedCommand) (found : Option (ℕ × Control)) (v : Controls)
    → (controls_after_at setup a found v).ordered ≡ v.ordered + one_if (is_order (answer_at setup a found v))
commanded_at setup a None v = omega arith
commanded_at setup a (Some found) v =
    by (is_deactivation a) (is_select a.command.action) (is_selectable a found.1 standing)
  where
    standing : Option Selection
    standing = standing_at setup a.moment found.0 v

    by : (deactivation select selectable : Bool)
        → (cond deactivation (controls_unselecting a found.0 v)
        (cond select (cond selectable (controls_selecting a found.0 v) v)
        (controls_ordering a found.1 (act_accepted a found.1 standing v) (controls_unselecting a found.0 v)))).ordered
        ≡ v.ordered + one_if (is_order (cond deactivation (confirmed_if (is_own a standing))
        (cond select (confirmed_if selectable) (answer_to_act v.ordered (act_accepted a found.1 standing v)))))
    by true select selectable = omega (arith, confirmed_none (is_own a standing))
    by false true true = omega arith
    by false true false = omega arith
    by false false selectable =
        ordering a found.1 (act_accepted a found.1 standing v) (controls_unselecting a found.0 v)

-- ---- what orders nothing

taken_none : (c : ℕ) (apdu : Apdu) (v : Controls) → (controls_after_taken c apdu v).ordered ≡ v.ordered
taken_none c (I ns nr asdu) v = refl
taken_none c (S nr) v = refl
taken_none c (U StartAct) v = refl
taken_none c (U StartCon) v = refl
taken_none c (U StopAct) v = refl
taken_none c (U StopCon) v = refl
taken_none c (U TestAct) v = refl
taken_none c (U TestCon) v = refl

closes_none : (c : ℕ) (closed : List Bool) (v : Controls) → (controls_after_closes c closed v).ordered ≡ v.ordered
closes_none c [] v = refl
closes_none c (true ∷ more) v = closes_none (suc c) more (controls_after_end c v)
closes_none c (false ∷ more) v = closes_none (suc c) more v

-- ---- each step

framed : (setup : Setup) (s : State) (moment c : ℕ) (apdu : Apdu) (x : Option Client)
    → (controls_after_frame setup s moment c apdu x).ordered
    ≡ s.controls.ordered + one_if (is_ordering setup s moment c (command_of setup apdu x))
framed setup s moment c apdu None = omega arith
framed setup s moment c apdu (Some k) = by (close_of setup apdu k) (command_in setup apdu)
  where
    by : (why : Option Why) (command : Option Command)
        → (controls_after_event setup s moment c apdu (event_by why command)).ordered
        ≡ s.controls.ordered + one_if (is_ordering setup s moment c (command_given why command))
    by (Some why) command = omega arith
    by None None = omega (arith, taken_none c apdu s.controls)
    by None (Some command) = commanded_at setup (asked_by setup s moment c command)
        (control_for setup command) s.controls

polled : (s : State) (moment o wall : ℕ) (order : Option Order)
    → (parts_after_poll s moment o wall order).controls.ordered ≡ s.controls.ordered
polled s moment o wall None = refl
polled s moment o wall (Some order) = refl

-- one more, where the step needs one
pub ordered_more : (setup : Setup) (s : State) (step : Step)
    → (after setup s step).controls.ordered ≡ s.controls.ordered + one_if (needs setup s step).order
ordered_more setup s (steps.OutstationUp o m) = omega arith
ordered_more setup s (steps.OutstationDown o m) =
    let ended : Option Ended = ended_lost (slice_get s.outstations o) in
    omega (
      arith,
      losses_count places o (controls_with_ended o ended s.controls) ∙ ended_count o ended s.controls,
    )
ordered_more setup s (steps.Fragment f m) = omega (arith, by (is_accepting s f))
  where
    by : (taken : Bool)
        → (cond taken (parts_after_fragment setup s (latest s m) f) s).controls.ordered ≡ s.controls.ordered
    by true = ended_count f.outstation (order_ended s f) s.controls
    by false = refl
ordered_more setup s (steps.Poll o m wall) = omega (arith, polled s (latest s m) o wall (order_due s o))
ordered_more setup s (steps.Tick m) =
    let closed : List Bool = map (is_timed_out (latest s m)) s.clients in
    let v : Controls = controls_closed s (latest s m) in
    omega (arith, all_ended_count 0 (ended_late s (latest s m)) v ∙ closes_none 0 closed s.controls)
ordered_more setup s (steps.ClientUp c m) = omega arith
ordered_more setup s (steps.ClientDown c m) = omega arith
ordered_more setup s (steps.Frame c apdu m) = framed setup s (latest s m) c apdu (slice_get s.clients c)
ordered_more setup s (steps.Pump c m) = omega arith
