-- Clients of the worked examples, and what they command. A control by single commands at 5001, which has to be selected
-- and is operated directly; one by set-point commands at 5002, which needn't be, and is selected before it is operated;
-- and one by double commands at 5003.
use Rattle.std.specs.Prelude.{ℕ, zero, suc, ◌+◌, true, false, Bool, List, [], ◌∷◌}
use Rattle.std.specs.Prelude.{◌++◌, ℤ, pos, map, Option, option_map, slice_get}
use Rattle.std.proofs.Common.{lit≤}
use Rattle.gw_model.specs.declared.control.Act.{Act}
use Rattle.gw_model.specs.declared.control.Ended.{Ended}
use Rattle.gw_model.specs.declared.control.Order.{Order}
use Rattle.gw_entries.specs.declared.row.Scale.{Scale}
use Rattle.gw_entries.specs.declared.control.Control.{Control}
use Rattle.gw_entries.specs.declared.control.Mode.TheVariants.{Sbo}
use Rattle.gw_entries.specs.declared.control.Operates.TheVariants as operated
use Rattle.gw_entries.specs.declared.control.Pulses.{Pulses}
use Rattle.gw_entries.specs.declared.control.Rest.TheVariants.{Short}
use Rattle.gw_entries.specs.Example.{one_to_one, outstation, pulses, station, switch}
use Rattle.gw_map.specs.Settings.{Setup}
use Rattle.iec_command.specs.declared.command.Action.{Action}
use Rattle.iec_command.specs.Example.{command, single, double, setpoint}
use Rattle.gw_control.specs.declared.answer.Answer.{Answer}
use Rattle.gw_control.specs.declared.answer.Outcome.{Outcome}
use Rattle.gw_control.specs.declared.refusal.Refusal.{Refusal}
use Rattle.gw_control.specs.declared.asked.AskedCommand.{AskedCommand}
use Rattle.gw_control.specs.Selections.{asked}
use Rattle.gw_control.specs.Orders.{order_given}
use Rattle.gw_control.specs.Controls.{Controls, answer_of, controls_after_command, controls_after_end}
use Rattle.gw_control.specs.Controls.{controls_after_ended, controls_after_taking, no_controls}
use Rattle.gw_control.specs.Controls.{order_at, outcome_ended_at, outcome_lost_at, refusal_of}

-- ---- settings

-- a set point multiplied by 2
abbrev pub doubled : Scale
doubled = record { num = 2; den = 1; num_from = lit≤ tt; num_to = lit≤ tt; den_from = lit≤ tt; den_to = lit≤ tt }

-- two thirds of it
abbrev pub two_thirds : Scale
two_thirds = record { num = 2; den = 3; num_from = lit≤ tt; num_to = lit≤ tt; den_from = lit≤ tt; den_to = lit≤ tt }

-- at rest too
abbrev pub pulsed : Pulses
pulsed = record pulses {
  rest = Short;
  short_from = lit≤ tt;
  short_to = lit≤ tt;
  long_from = lit≤ tt;
  long_to = lit≤ tt;
}

abbrev pub value : Scale → Control
value scale = record switch {
  index = 4;
  address = 5002;
  select = false;
  mode = Sbo;
  operates = operated.Setpoint scale;
  from = lit≤ tt;
  to = lit≤ tt;
}

abbrev pub breaker : Control
breaker = record switch {
  index = 5;
  address = 5003;
  select = false;
  operates = operated.Double pulsed;
  from = lit≤ tt;
  to = lit≤ tt;
}

-- one outstation; a selection stands for 10 seconds
abbrev pub setup_with : Scale → Setup
setup_with scale = record {
  station = station;
  outstations = outstation ∷ [];
  rows = [];
  controls = switch ∷ value scale ∷ breaker ∷ [];
}

abbrev pub setup : Setup
setup = setup_with one_to_one

-- a selection stands for 3 seconds
abbrev pub brief : Setup
brief = record setup { station = record station { select_ms = 3000 } }

-- two outstations, of which the second one has the breaker
abbrev pub two_outstations : Setup
two_outstations = record setup {
  outstations = outstation ∷ outstation ∷ [];
  controls = record breaker { outstation = 1 } ∷ [];
}

-- ---- commands

-- client 0 in session 10, client 1 in session 11; the outstation is up
abbrev pub of_client : ℕ → ℕ → ℕ → Action → ℕ → AskedCommand
of_client client cause address action moment =
    asked client (10 + client) (command cause 1 address action) true moment

-- the same under common address 2
abbrev pub under_2 : AskedCommand → AskedCommand
under_2 a = record a { command = record a.command { common_address = 2 } }

-- a client selects and executes 5001 with this state and QU, and takes the selection back
abbrev pub selects : ℕ → Bool → ℕ → ℕ → AskedCommand
selects client on qualifier moment = of_client client 6 5001 (single on false qualifier true) moment

abbrev pub executes : ℕ → Bool → ℕ → ℕ → AskedCommand
executes client on qualifier moment = of_client client 6 5001 (single on false qualifier false) moment

abbrev pub cancels : ℕ → ℕ → AskedCommand
cancels client moment = of_client client 8 5001 (single true false 0 true) moment

-- in another session
abbrev pub in_session : ℕ → AskedCommand → AskedCommand
in_session session a = record a { session = session }

-- it sets 5002, and operates 5003
abbrev pub sets : ℕ → ℤ → AskedCommand
sets client z = of_client client 6 5002 (setpoint z 0 false) 0

abbrev pub operates : ℕ → ℕ → Bool → AskedCommand
operates state qualifier select = of_client 0 6 5003 (double state qualifier select) 0

-- it selects 5002, for a value with this QL
abbrev pub selects_value : ℕ → ℤ → ℕ → AskedCommand
selects_value client z level = of_client client 6 5002 (setpoint z level true) 0

-- the outstation is down
abbrev pub while_down : AskedCommand → AskedCommand
while_down a = record a { up = false }

-- ---- what becomes of them

-- these came, the first one first
abbrev pub taking : List AskedCommand → Controls → Controls
taking [] v = v
taking (a ∷ more) v = taking more (controls_after_command setup a v)

abbrev pub after : List AskedCommand → Controls
after commands = taking commands (no_controls setup)

-- and then the session of a client ended
abbrev pub after_end : ℕ → List AskedCommand → Controls
after_end client commands = controls_after_end client (after commands)

-- and then this one came
abbrev pub answered : List AskedCommand → AskedCommand → Answer
answered commands a = answer_of setup a (after commands)

-- and this one was refused for this, or wasn't
abbrev pub refused : List AskedCommand → AskedCommand → Option Refusal
refused commands a = refusal_of setup a (after commands)

abbrev pub times : ℕ → AskedCommand → List AskedCommand
times zero a = []
times (suc n) a = a ∷ times n a

-- eight set points of each of two clients
abbrev pub sixteen : List AskedCommand
sixteen = times 8 (sets 0 (pos 1)) ++ times 8 (sets 1 (pos 1))

-- ---- orders of the outstation

abbrev pub next : Controls → Option Order
next v = order_at (slice_get v.outgoing 0)

abbrev pub sent : Controls → Controls
sent v = controls_after_taking 0 v

abbrev pub ended : ℕ → Bool → Ended
ended number done = record { number = number; done = done }

abbrev pub outcome : ℕ → Bool → Controls → Option Outcome
outcome number done v = outcome_ended_at (ended number done) (slice_get v.outgoing 0)

abbrev pub done : ℕ → Controls → Controls
done number v = controls_after_ended 0 (ended number true) v

abbrev pub loss : Controls → Option Outcome
loss v = outcome_lost_at (slice_get v.outgoing 0)

-- to which outstations orders are given next
abbrev pub next_of_each : Controls → List (Option ℕ)
next_of_each v = map (λ o. option_map (λ x. x.intent.outstation) (order_given o)) v.outgoing

-- an order for the outstation
abbrev pub order : ℕ → ℕ → Act → Bool → Order
order number index act sbo =
    record { number = number; intent = record { outstation = 0; index = index; act = act }; sbo = sbo }

-- what a client is told of its set point
abbrev pub told : ℕ → ℤ → Bool → Outcome
told client z is_done =
    record { client = client; session = 10 + client; command = command 6 1 5002 (setpoint z 0 false); done = is_done }
