-- The commands of orders stay whole.
use Rattle.std.specs.Prelude.{IfSome, slice_get}
use Rattle.std.proofs.Common.{◌≡◌, ℕ, true, Option, Some, None, refl}
use Rattle.gw_model.specs.First.{first_of}
use Rattle.gw_model.specs.declared.control.Act.{Act}
use Rattle.gw_model.specs.declared.control.Ended.{Ended}
use Rattle.gw_map.specs.Settings.{Setup}
use Rattle.gw_entries.specs.declared.control.Operates.{Operates}
use Rattle.iec_command.specs.declared.command.Action.{Action}
use Rattle.iec_command.specs.declared.command.Action.TheVariants.{Single, Double, Setpoint, Interrogation, CounterInterrogation, Read}
use Rattle.gw_control.specs.Intents.{act_of}
use Rattle.gw_control.specs.declared.refusal.Refusal.{Refusal}
use Rattle.gw_control.specs.Controls.{Controls, act_unless, no_controls_after, outcome_ended_at}
use Rattle.gw_control.specs.Controls.{outcome_lost_at, refusals_of_execute, standing_at}
use Rattle.gw_control.specs.Moves.{Move, Comes, Takes, Ends, Loses, Leaves, after_move}
use Rattle.gw_control.specs.Moves.{is_operating, HasWholeCommands, IsWholeMove, IsWholeOrder}
use Rattle.gw_control.proofs.Commands.{OfMove, all_stay, ended_has, lost_has, none_at_first}

-- what is accepted has a type that operates controls
operates_by : (action : Action) (operates : Operates) (act : Act) → act_of action operates ≡ Some act
    → is_operating action ≡ true
operates_by (Single command) operates act e = refl
operates_by (Double command) operates act e = refl
operates_by (Setpoint command) operates act e = refl
operates_by (Interrogation qualifier) operates act e = absurd cc
operates_by (CounterInterrogation qualifier) operates act e = absurd cc
operates_by Read operates act e = absurd cc

unless_refused : (why : Option Refusal) (action : Action) (operates : Operates) (act : Act)
    → act_unless why (act_of action operates) ≡ Some act → is_operating action ≡ true
unless_refused None action operates act e = operates_by action operates act e
unless_refused (Some why) action operates act e = absurd cc

whole_move : (setup : Setup) (move : Move) (v : Controls) → IsWholeMove move → OfMove IsWholeOrder setup move v
whole_move setup (Comes a) v whole = λ found act e. record {
  whole = whole;
  operating = unless_refused
      (first_of (refusals_of_execute a found.1 (standing_at setup a.moment found.0 v) v))
      a.command.action found.1.operates act e;
}
whole_move setup (Takes outstation) v whole = tt
whole_move setup (Ends outstation ended) v whole = tt
whole_move setup (Loses outstation) v whole = tt
whole_move setup (Leaves client) v whole = tt

pub none_whole : (setup : Setup) (n : ℕ) → HasWholeCommands (no_controls_after n setup)
none_whole = none_at_first IsWholeOrder

pub stays_whole : (setup : Setup) (move : Move) (v : Controls) → IsWholeMove move → HasWholeCommands v
    → HasWholeCommands (after_move setup move v)
stays_whole setup move v whole k = all_stay IsWholeOrder setup move v (whole_move setup move v whole) k

pub ended_whole : (outstation : ℕ) (ended : Ended) (v : Controls) → HasWholeCommands v
    → IfSome (outcome_ended_at ended (slice_get v.outgoing outstation)) (λ outcome. IsWholeOrder outcome.command)
ended_whole = ended_has IsWholeOrder

pub lost_whole : (outstation : ℕ) (v : Controls) → HasWholeCommands v
    → IfSome (outcome_lost_at (slice_get v.outgoing outstation)) (λ outcome. IsWholeOrder outcome.command)
lost_whole = lost_has IsWholeOrder
