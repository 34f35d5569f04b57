-- In each step: what was on its way, or is accepted, is told as ended or stays on its way.
use Rattle.std.proofs.Common.{◌≡◌, ℕ, ◌+◌, ◌<◌, Bool, true, false, cond, length}
use Rattle.std.proofs.Common.{map, Option, Some, None, Ok, refl, ap, arith}
use Rattle.std.specs.Prelude.{option_and_then, slice_get}
use Rattle.std.proofs.lemmas.Option.{slice_get_within}
use Rattle.gw_model.specs.declared.control.Order.{Order}
use Rattle.gw_map.specs.Settings.{Setup}
use Rattle.iec_apci.specs.declared.apdu.Apdu.{Apdu}
use Rattle.gw_station.specs.Client.{Client, is_up}
use Rattle.gw_station.specs.Frames.{event_of}
use Rattle.gw_steps.specs.declared.step.Step.{Step}
use Rattle.gw_steps.specs.declared.step.Step.TheVariants as steps
use Rattle.gw_steps.specs.declared.step.Reply.{Reply}
use Rattle.gw_steps.specs.declared.step.StepFault.TheVariants.{NoClient}
use Rattle.gw_steps.specs.Controls.{order_due}
use Rattle.gw_steps.specs.Effects.{Effects, answered as answered_ends, effects_of, effects_of_apdu, fate_by, no_effects, reported}
use Rattle.gw_steps.specs.Sound.{IsSoundState}
use Rattle.gw_steps.specs.State.{State, client_limit}
use Rattle.gw_steps.specs.Steps.{after, can_be_counted, controls_after_frame, fault_of, is_accepting, latest}
use Rattle.gw_steps.specs.Steps.{needs, order_ended, outcome, parts_after_fragment, parts_after_poll, reply_to}
use Rattle.gw_steps.proofs.Inversion.{answered, who_is_up}
use Rattle.law_clients.proofs.Ordered.{ordered_more}
use Rattle.law_fates.specs.Fates.{Named, accepted_by, accepted_in, down_from, ended_in, named_by, on_their_way}
use Rattle.law_fates.proofs.Counts.{all_count, all_so, taking, times}
use Rattle.law_fates.proofs.Ended.{end_told, with_ended}
use Rattle.law_fates.proofs.Late.{ticked}
use Rattle.law_fates.proofs.Leaving.{client_leaves}
use Rattle.law_fates.proofs.Lost.{outstation_lost}
use Rattle.law_fates.proofs.Says.{fragment_says}
use Rattle.law_fates.proofs.Ordering.{framed, framed_next, numbered_with}

-- ---- who is there

there_is : (s : State) (c : ℕ) (k : Client) → length s.clients ≡ client_limit → slice_get s.clients c ≡ Some k
    → c < client_limit
there_is s c k all at = omega (arith, slice_get_within s.clients c k at, all)

-- ---- each step

polled : (p : Named → Bool) (s : State) (moment o wall : ℕ) (due : Option Order)
    → all_so p 0 s.controls.outgoing ≡ all_so p 0 (parts_after_poll s moment o wall due).controls.outgoing
polled p s moment o wall None = refl
polled p s moment o wall (Some order) = taking p o s.controls.outgoing

client_framed : (p : Named → Bool) (setup : Setup) (s : State) (moment c : ℕ) (apdu : Apdu) (k : Option Client)
    → length s.clients ≡ client_limit → slice_get s.clients c ≡ k
    → all_so p 0 s.controls.outgoing + times p (accepted_by setup c (effects_of_apdu setup s moment c apdu k).command)
    ≡ times p (map named_by (effects_of_apdu setup s moment c apdu k).ended)
    + all_so p 0 (controls_after_frame setup s moment c apdu k).outgoing
client_framed p setup s moment c apdu None all at = omega arith
client_framed p setup s moment c apdu (Some k) all at =
    framed p setup s moment c apdu (event_of setup apdu k) (there_is s c k all at)

counted : (p : Named → Bool) (setup : Setup) (s : State) (step : Step) (r : Reply) → IsSoundState setup s
    → length s.clients ≡ client_limit → outcome setup s step ≡ Ok r
    → all_so p 0 s.controls.outgoing + times p (accepted_in setup step (effects_of setup s step))
    ≡ times p (ended_in (effects_of setup s step)) + all_so p 0 (after setup s step).controls.outgoing
counted p setup s (steps.OutstationUp o m) r sound all e = omega arith
counted p setup s (steps.OutstationDown o m) r sound all e = omega (arith, outstation_lost p setup s o sound)
counted p setup s (steps.Fragment f m) r sound all e = by (is_accepting s f)
  where
    told : Effects
    told = record no_effects { reported = Some (reported s f); ended = answered_ends s f }

    by : (taken : Bool)
        → all_so p 0 s.controls.outgoing + 0
        ≡ times p (map named_by (cond taken told no_effects).ended)
        + all_so p 0 (cond taken (parts_after_fragment setup s (latest s m) f) s).controls.outgoing
    by true =
        omega (
          arith,
          with_ended p f.outstation (order_ended s f) s.controls,
          end_told p f.outstation (option_and_then (fate_by f) (slice_get s.outstations f.outstation)) (order_ended s f)
              (slice_get s.controls.outgoing f.outstation) (fragment_says f (slice_get s.outstations f.outstation)),
        )
    by false = omega arith
counted p setup s (steps.Poll o m wall) r sound all e = omega (arith, polled p s (latest s m) o wall (order_due s o))
counted p setup s (steps.Tick m) r sound all e = omega (arith, ticked p s (latest s m))
counted p setup s (steps.ClientUp c m) r sound all e = omega arith
counted p setup s (steps.ClientDown c m) r sound all e =
    let step : Step = steps.ClientDown c m in
    let told = answered (fault_of s step) (can_be_counted s (needs setup s step)) (reply_to setup s step) r e in
    let up = who_is_up (λ (x : Client). is_up x.stage) NoClient (slice_get s.clients c) told.0 in
    omega (arith, client_leaves p s c (there_is s c up.0 all up.1))
counted p setup s (steps.Frame c apdu m) r sound all e =
    client_framed p setup s (latest s m) c apdu (slice_get s.clients c) all refl
counted p setup s (steps.Pump c m) r sound all e = omega arith

pub step_ends : (p : Named → Bool) (setup : Setup) (s : State) (step : Step) (r : Reply) → IsSoundState setup s
    → length s.clients ≡ client_limit → outcome setup s step ≡ Ok r
    → times p (on_their_way s) + times p (accepted_in setup step (effects_of setup s step))
    ≡ times p (ended_in (effects_of setup s step)) + times p (on_their_way (after setup s step))
step_ends p setup s step r sound all e =
    omega (
      arith,
      all_count p 0 s.controls.outgoing,
      all_count p 0 (after setup s step).controls.outgoing,
      counted p setup s step r sound all e,
    )

-- ---- numbers

-- where none is accepted
none_next : (setup : Setup) (s : State) (step : Step) → (needs setup s step).order ≡ false
    → down_from s.controls.ordered ≡ down_from (after setup s step).controls.ordered
none_next setup s step none =
    let same : s.controls.ordered ≡ (after setup s step).controls.ordered =
    omega (arith, rw none at (ordered_more setup s step)) in
    ap down_from same

client_next : (setup : Setup) (s : State) (moment c : ℕ) (apdu : Apdu) (k : Option Client)
    → numbered_with (accepted_by setup c (effects_of_apdu setup s moment c apdu k).command) s.controls.ordered
    ≡ down_from (controls_after_frame setup s moment c apdu k).ordered
client_next setup s moment c apdu None = refl
client_next setup s moment c apdu (Some k) = framed_next setup s moment c apdu (event_of setup apdu k)

pub step_numbers : (setup : Setup) (s : State) (step : Step)
    → numbered_with (accepted_in setup step (effects_of setup s step)) s.controls.ordered
    ≡ down_from (after setup s step).controls.ordered
step_numbers setup s (steps.Frame c apdu m) = client_next setup s (latest s m) c apdu (slice_get s.clients c)
step_numbers setup s (steps.OutstationUp o m) = none_next setup s (steps.OutstationUp o m) refl
step_numbers setup s (steps.OutstationDown o m) = none_next setup s (steps.OutstationDown o m) refl
step_numbers setup s (steps.Fragment f m) = none_next setup s (steps.Fragment f m) refl
step_numbers setup s (steps.Poll o m wall) = none_next setup s (steps.Poll o m wall) refl
step_numbers setup s (steps.Tick m) = none_next setup s (steps.Tick m) refl
step_numbers setup s (steps.ClientUp c m) = none_next setup s (steps.ClientUp c m) refl
step_numbers setup s (steps.ClientDown c m) = none_next setup s (steps.ClientDown c m) refl
step_numbers setup s (steps.Pump c m) = none_next setup s (steps.Pump c m) refl
