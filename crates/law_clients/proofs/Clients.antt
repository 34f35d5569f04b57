-- At each place of a run there are eight clients.
use Rattle.std.proofs.Common.{◌≡◌, ℕ, Bool, true, false, cond, List, [], ◌∷◌, length}
use Rattle.std.proofs.Common.{map, Option, Some, None, Result, Ok, Err, refl, ◌∙◌}
use Rattle.std.proofs.lemmas.List.{length-map}
use Rattle.gw_model.specs.declared.control.Order.{Order}
use Rattle.gw_model.specs.declared.observation.Observation.{Observation}
use Rattle.gw_map.specs.Settings.{Setup, station_clocks}
use Rattle.gw_picture.specs.Picture.{news_of}
use Rattle.gw_picture.proofs.Lists.{change-length}
use Rattle.gw_station.specs.Client.{client_after_tick, client_with_news}
use Rattle.gw_steps.specs.declared.step.Step.{Step}
use Rattle.gw_steps.specs.declared.step.Step.TheVariants as steps
use Rattle.gw_steps.specs.declared.step.Reply.{Reply}
use Rattle.gw_steps.specs.declared.step.StepFault.{StepFault}
use Rattle.gw_steps.specs.Controls.{order_due}
use Rattle.gw_steps.specs.State.{State}
use Rattle.gw_steps.specs.Steps.{after, is_accepting, latest, losses, outcomes_of_fragment}
use Rattle.gw_steps.specs.Steps.{outcomes_of_loss, outcomes_of_tick, parts_after_fragment, parts_after_poll}
use Rattle.gw_steps.specs.Runs.{Entry, state_after}
use Rattle.gw_steps.proofs.Running.{entry}
use Rattle.law_history.proofs.Told.{told_length}

polled_length : (s : State) (moment o wall : ℕ) (order : Option Order)
    → length (parts_after_poll s moment o wall order).clients ≡ length s.clients
polled_length s moment o wall None = refl
polled_length s moment o wall (Some order) = refl

step_length : (setup : Setup) (s : State) (step : Step) → length (after setup s step).clients ≡ length s.clients
step_length setup s (steps.OutstationUp o m) = refl
step_length setup s (steps.OutstationDown o m) =
    told_length (outcomes_of_loss s o) (map (client_with_news (losses setup s o)) s.clients)
    ∙ length-map s.clients (client_with_news (losses setup s o))
step_length setup s (steps.Fragment f m) = by (is_accepting s f)
  where
    xs : List Observation
    xs = news_of (station_clocks setup.station) setup.rows s.picture f.reports

    by : (taken : Bool) → length (cond taken (parts_after_fragment setup s (latest s m) f) s).clients ≡ length s.clients
    by true =
        told_length (outcomes_of_fragment s f) (map (client_with_news xs) s.clients)
        ∙ length-map s.clients (client_with_news xs)
    by false = refl
step_length setup s (steps.Poll o m wall) = polled_length s (latest s m) o wall (order_due s o)
step_length setup s (steps.Tick m) =
    told_length (outcomes_of_tick s (latest s m)) (map (client_after_tick (latest s m)) s.clients)
    ∙ length-map s.clients (client_after_tick (latest s m))
step_length setup s (steps.ClientUp c m) = change-length c _ s.clients
step_length setup s (steps.ClientDown c m) = change-length c _ s.clients
step_length setup s (steps.Frame c apdu m) = change-length c _ s.clients
step_length setup s (steps.Pump c m) = change-length c _ s.clients

pub eight_clients : (setup : Setup) (past : List Entry) → length (state_after setup past).clients ≡ 8
eight_clients setup [] = refl
eight_clients setup (e ∷ past) = by e.step e.reply (eight_clients setup past)
  where
    by : (step : Step) (reply : Result Reply StepFault) → length (state_after setup past).clients ≡ 8
        → length (state_after setup (entry step reply ∷ past)).clients ≡ 8
    by step (Ok r) so_far = step_length setup (state_after setup past) step ∙ so_far
    by step (Err f) so_far = so_far
