-- At each point of a run: where the last step judged a command, it told a reason exactly where the answer was negative.
use Rattle.std.proofs.Common.{◌≡◌, ℕ, Bool, true, false, cond, not, List, [], ◌∷◌, Option, Some, None, Result, Ok, Err, refl}
use Rattle.std.specs.Prelude.{is_none, is_some, slice_get}
use Rattle.gw_model.specs.First.{first_of, when}
use Rattle.gw_model.specs.declared.control.Act.{Act}
use Rattle.gw_entries.specs.declared.control.Control.{Control}
use Rattle.gw_map.specs.Settings.{Setup}
use Rattle.dnp_app.specs.Response.{Fragment}
use Rattle.iec_apci.specs.declared.apdu.Apdu.{Apdu}
use Rattle.gw_control.specs.declared.asked.AskedCommand.{AskedCommand}
use Rattle.gw_control.specs.declared.refusal.Refusal.{Refusal}
use Rattle.gw_control.specs.declared.refusal.Refusal.TheVariants.{NotSelected}
use Rattle.gw_control.specs.declared.selection.Selection.{Selection}
use Rattle.gw_control.specs.Controls.{Controls, act_by, act_unless, answer_at, answer_to_act}
use Rattle.gw_control.specs.Controls.{confirmed_if, element_refusal, is_deactivation, refusal_at}
use Rattle.gw_control.specs.Controls.{refusals_of_execute, refusals_of_select, standing_at}
use Rattle.gw_control.specs.Intents.{control_for}
use Rattle.gw_control.specs.Selections.{is_own, is_select}
use Rattle.gw_station.specs.declared.event.Event.{Event}
use Rattle.gw_station.specs.declared.event.Event.TheVariants as events
use Rattle.gw_station.specs.Client.{Client}
use Rattle.gw_station.specs.Frames.{event_of}
use Rattle.gw_steps.specs.declared.step.Step.{Step}
use Rattle.gw_steps.specs.declared.step.Step.TheVariants as steps
use Rattle.gw_steps.specs.declared.step.Reply.{Reply}
use Rattle.gw_steps.specs.declared.step.StepFault.{StepFault}
use Rattle.gw_steps.specs.Controls.{asked_by}
use Rattle.gw_steps.specs.Effects.{answered, effects_of, effects_of_apdu, effects_of_event}
use Rattle.gw_steps.specs.Effects.{ending_of, ends_session, judged, no_effects, reported}
use Rattle.gw_steps.specs.State.{State}
use Rattle.gw_steps.specs.Steps.{is_accepting, latest}
use Rattle.gw_steps.specs.Runs.{AtEach, Entry, state_after}
use Rattle.gw_steps.proofs.Running.{entry}
use Rattle.law_fates.specs.Fates.{effects_by}
use Rattle.law_effects.specs.Refusals.{HasReason, TellsReason, is_negative}

-- ---- a command

own_or_not : (own : Bool) → is_some (first_of (when (not own) NotSelected ∷ [])) ≡ is_negative (confirmed_if own)
own_or_not true = refl
own_or_not false = refl

selects_or_not : (why : Option Refusal) → is_some why ≡ is_negative (confirmed_if (is_none why))
selects_or_not None = refl
selects_or_not (Some why) = refl

-- an execute that does nothing has a reason: that of its element
executes_or_not : (count : ℕ) (act : Option Act) (element : Refusal) (more : List (Option Refusal))
    → is_some (first_of (when (is_none act) element ∷ more))
    ≡ is_negative (answer_to_act count (act_unless (first_of (when (is_none act) element ∷ more)) act))
executes_or_not count None element more = refl
executes_or_not count (Some act) element more = by (first_of more)
  where
    by : (why : Option Refusal) → is_some why ≡ is_negative (answer_to_act count (act_unless why (Some act)))
    by None = refl
    by (Some why) = refl

asked_or_not : (setup : Setup) (a : AskedCommand) (found : Option (ℕ × Control)) (v : Controls)
    → is_some (refusal_at setup a found v) ≡ is_negative (answer_at setup a found v)
asked_or_not setup a None v = refl
asked_or_not setup a (Some found) v = by (is_deactivation a) (is_select a.command.action)
  where
    standing : Option Selection
    standing = standing_at setup a.moment found.0 v

    execute : Option Refusal
    execute = first_of (refusals_of_execute a found.1 standing v)

    select : Option Refusal
    select = first_of (refusals_of_select a found.1 standing)

    by : (deactivation selecting : Bool)
        → is_some (cond deactivation (first_of (when (not (is_own a standing)) NotSelected ∷ []))
        (cond selecting select execute))
        ≡ is_negative (cond deactivation (confirmed_if (is_own a standing))
        (cond selecting (confirmed_if (is_none select)) (answer_to_act v.ordered (act_unless execute (act_by a found.1)))))
    by true selecting = own_or_not (is_own a standing)
    by false true = selects_or_not select
    by false false =
        executes_or_not v.ordered (act_by a found.1) (element_refusal a.command.action found.1.operates) _

-- ---- each step

event_judged : (setup : Setup) (s : State) (moment c : ℕ) (apdu : Apdu) (event : Event)
    → HasReason (effects_of_event setup s moment c apdu event).command
event_judged setup s moment c apdu event = by (ends_session apdu event) (given event)
  where
    given : (event : Event) → HasReason (judged setup s moment c event)
    given events.Taken = tt
    given (events.Command command) =
        asked_or_not setup (asked_by setup s moment c command) (control_for setup command) s.controls
    given (events.Closed why) = tt

    by : (ends : Bool) → HasReason (judged setup s moment c event)
        → HasReason (cond ends (ending_of s c) (record no_effects { command = judged setup s moment c event })).command
    by true reason = tt
    by false reason = reason

apdu_judged : (setup : Setup) (s : State) (moment c : ℕ) (apdu : Apdu) (k : Option Client)
    → HasReason (effects_of_apdu setup s moment c apdu k).command
apdu_judged setup s moment c apdu None = tt
apdu_judged setup s moment c apdu (Some k) = event_judged setup s moment c apdu (event_of setup apdu k)

fragment_judged : (s : State) (f : Fragment)
    → HasReason (cond (is_accepting s f) (record no_effects { reported = Some (reported s f); ended = answered s f })
    no_effects).command
fragment_judged s f = by (is_accepting s f)
  where
    by : (taken : Bool)
        → HasReason (cond taken (record no_effects { reported = Some (reported s f); ended = answered s f })
        no_effects).command
    by true = tt
    by false = tt

step_judged : (setup : Setup) (s : State) (step : Step) → HasReason (effects_of setup s step).command
step_judged setup s (steps.Frame c apdu m) = apdu_judged setup s (latest s m) c apdu (slice_get s.clients c)
step_judged setup s (steps.Fragment f m) = fragment_judged s f
step_judged setup s (steps.OutstationUp o m) = tt
step_judged setup s (steps.OutstationDown o m) = tt
step_judged setup s (steps.Poll o m wall) = tt
step_judged setup s (steps.ClientUp c m) = tt
step_judged setup s (steps.ClientDown c m) = tt
step_judged setup s (steps.Pump c m) = tt
step_judged setup s (steps.Tick m) = tt

-- ---- each run

entry_judged : (setup : Setup) (past : List Entry) (step : Step) (reply : Result Reply StepFault)
    → HasReason (effects_by setup past (entry step reply)).command
entry_judged setup past step (Ok r) = step_judged setup (state_after setup past) step
entry_judged setup past step (Err fault) = tt

pub reasons_told : (setup : Setup) (past : List Entry) → AtEach (TellsReason setup) past
reasons_told setup [] = tt
reasons_told setup (e ∷ past) = (entry_judged setup past e.step e.reply, reasons_told setup past)
