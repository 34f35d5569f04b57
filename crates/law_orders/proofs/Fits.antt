-- What a command asks of its control can be written as a request, and read again.
use Rattle.std.proofs.Common.{◌≡◌, ℕ, ℤ, pos, negsuc, ◌+◌, ◌≤◌, Bool, true, false, cond, List}
use Rattle.std.proofs.Common.{[], ◌∷◌, Option, Some, None, option_map, refl, subst, arith}
use Rattle.std.specs.Prelude.{◌==◌, ◌&&◌}
use Rattle.std.specs.List.{AllByRecursion}
use Rattle.std.specs.Int.{w16}
use Rattle.std.specs.Int.RustNames.{FitsSigned}
use Rattle.std.proofs.lemmas.Int.{ints}
use Rattle.gw_model.specs.Optional.{◌>>=◌}
use Rattle.gw_model.specs.declared.control.Act.{Act}
use Rattle.gw_model.specs.declared.control.Act.TheVariants.{Switch, Set}
use Rattle.gw_model.specs.declared.control.Shape.TheVariants.{Latch, Pulse}
use Rattle.gw_entries.specs.declared.control.Control.{Control}
use Rattle.gw_entries.specs.declared.control.Operates.{Operates}
use Rattle.gw_entries.specs.declared.control.Operates.TheVariants as operated
use Rattle.gw_entries.specs.declared.control.Pulses.{Pulses}
use Rattle.gw_entries.specs.declared.control.Rest.{Rest}
use Rattle.gw_entries.specs.declared.control.Rest.TheVariants as rests
use Rattle.gw_map.specs.Settings.{Setup, control_at_from}
use Rattle.dnp_app.proofs.Operated.{FitsObject}
use Rattle.iec_command.specs.declared.command.Action.{Action}
use Rattle.iec_command.specs.declared.command.Action.TheVariants.{Single, Double, Setpoint}
use Rattle.iec_command.specs.declared.command.Command.{Command}
use Rattle.gw_entries.specs.Scaling.{scaled_by}
use Rattle.gw_control.specs.Intents.{act_of, control_for, if_of_type, is_of_type, has_16_bits}
use Rattle.gw_control.specs.Intents.{shape_at_rest, state_of, switched, value_of}
use Rattle.law_orders.specs.Bonds.{HasShortIndex}

abbrev FitsIf : Option Act → Type 0
FitsIf None = Unit {0}
FitsIf (Some act) = FitsObject act

rest_fits : (on : Bool) (rest : Rest) (short : ℕ) → short ≤ 3600000 → FitsObject (Switch on (shape_at_rest rest short))
rest_fits on rests.Latch short to = omega arith
rest_fits on rests.Short short to = omega (arith, to)

switched_fits : (on : Bool) (qualifier : ℕ) (pulses : Pulses) → FitsIf (switched on qualifier pulses)
switched_fits on qualifier pulses = by (qualifier == 0) (qualifier == 1) (qualifier == 2) (qualifier == 3)
  where
    by : (a b c d : Bool) → FitsIf (option_map (Switch on) (cond a (Some (shape_at_rest pulses.rest pulses.short_ms))
        (cond b (Some (Pulse pulses.short_ms)) (cond c (Some (Pulse pulses.long_ms)) (cond d (Some Latch) None)))))
    by true b c d = rest_fits on pulses.rest pulses.short_ms pulses.short_to
    by false true c d = let to : pulses.short_ms ≤ 3600000 = pulses.short_to in omega (arith, to)
    by false false true d = let to : pulses.long_ms ≤ 3600000 = pulses.long_to in omega (arith, to)
    by false false false true = omega arith
    by false false false false = tt

state_fits : (state : Option Bool) (qualifier : ℕ) (pulses : Pulses)
    → FitsIf (state >>= λ on. switched on qualifier pulses)
state_fits None qualifier pulses = tt
state_fits (Some on) qualifier pulses = switched_fits on qualifier pulses

bits_fit : (z : ℤ) → has_16_bits z ≡ true → FitsSigned w16 z
bits_fit (pos n) is = grind (arith, ints, is)
bits_fit (negsuc n) is = grind (arith, ints, is)

value_fits : (z : ℤ) (b : Bool) → has_16_bits z ≡ b → FitsIf (option_map Set (cond b (Some z) None))
value_fits z true is = bits_fit z is
value_fits z false is = tt

level_fits : (level : Bool) (value : Option Act) → FitsIf value → FitsIf (cond level value None)
level_fits true value fits = fits
level_fits false value fits = tt

act_fits_if : (action : Action) (operates : Operates) → FitsIf (act_of action operates)
act_fits_if (Single command) (operated.Single pulses) = switched_fits command.on command.qualifier pulses
act_fits_if (Double command) (operated.Double pulses) =
    state_fits (state_of command.state) command.qualifier pulses
act_fits_if (Setpoint command) (operated.Setpoint scale) =
    level_fits (command.qualifier == 0) (option_map Set (value_of command.value scale))
    (value_fits (scaled_by scale command.value) (has_16_bits (scaled_by scale command.value)) refl)
act_fits_if _ _ = tt

-- a pulse's time fits 32 bits, a value 16
pub act_fits : (action : Action) (operates : Operates) (act : Act) → act_of action operates ≡ Some act → FitsObject act
act_fits action operates act is = subst FitsIf is (act_fits_if action operates)

-- ---- the control

abbrev ShortFound : Option (ℕ × Control) → Type 0
ShortFound None = Unit {0}
ShortFound (Some found) = HasShortIndex found.1

first_short : (common address n : ℕ) (controls : List Control) → AllByRecursion HasShortIndex controls
    → ShortFound (control_at_from n common address controls)
first_short common address n [] all = tt
first_short common address n (control ∷ more) all =
    by (first_short common address (n + 1) more all.1)
    ((common == control.common_address) && (address == control.address))
  where
    by : ShortFound (control_at_from (n + 1) common address more) → (b : Bool)
        → ShortFound (cond b (Some (n, control)) (control_at_from (n + 1) common address more))
    by rest true = all.0
    by rest false = rest

typed_short : (action : Action) (found : Option (ℕ × Control)) → ShortFound found → ShortFound (if_of_type action found)
typed_short action None short = tt
typed_short action (Some found) short = by (is_of_type action found.1.operates)
  where
    by : (b : Bool) → ShortFound (cond b (Some found) None)
    by true = short
    by false = tt

-- the control that a command is for has a short index
pub found_short : (setup : Setup) (c : Command) (found : ℕ × Control) → AllByRecursion HasShortIndex setup.controls
    → control_for setup c ≡ Some found → HasShortIndex found.1
found_short setup c found all is =
    subst ShortFound is (typed_short c.action (control_at_from 0 c.common_address c.address setup.controls)
    (first_short c.common_address c.address 0 setup.controls all))
