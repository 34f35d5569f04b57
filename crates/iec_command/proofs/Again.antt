-- What is spelled for a command is read again.
use Rattle.std.proofs.Common.{◌≡◌, ℕ, ◌+◌, ◌*◌, ◌/◌, ◌%◌, Bool, Result, Ok, refl, ap, arith}
use Rattle.gw_model.specs.Bits.{is_set}
use Rattle.iec_command.specs.declared.command.Action.{Action}
use Rattle.iec_command.specs.declared.command.Action.TheVariants.{Single, Double, Setpoint, Interrogation, CounterInterrogation, Read}
use Rattle.iec_command.specs.declared.command.Command.{Command}
use Rattle.iec_command.specs.declared.fault.CommandFault.{CommandFault}
use Rattle.iec_command.specs.Commands.{cause_octet, single_octet, single_of, double_octet, double_of}
use Rattle.iec_command.specs.Commands.{setpoint_octets, setpoint_of, spelling, command_of, IsWhole, mirrored}
use Rattle.iec_command.proofs.Octets.{cause_same, negative_same, test_same, single_same, double_same, setpoint_same}

abbrev command : ℕ → Bool → Bool → ℕ → ℕ → ℕ → Action → Command
command cause negative test originator common address action = record {
  cause = cause;
  negative = negative;
  test = test;
  originator = originator;
  common_address = common;
  address = address;
  action = action;
}

abbrev given : Command → Result Command CommandFault
given c = Ok c

-- a number of two octets and one of three, from the octets of a number
abbrev two_of : ℕ → ℕ
two_of n = n % 256 + 256 * (n / 256 % 256)

abbrev three_of : ℕ → ℕ
three_of n = n % 256 + 256 * (n / 256 % 256) + 65536 * (n / 65536 % 256)

-- the header is read again, with the action that the element tells
headed : (c : Command) (action : Action) → IsWhole c → action ≡ c.action
    → let octet = cause_octet c.cause c.negative c.test in
    command (octet % 64) (is_set 6 octet) (is_set 7 octet) c.originator (two_of c.common_address) (three_of c.address)
    action ≡ c
headed c action whole same =
    let cause = cause_same c.cause c.negative c.test whole.cause in
    let negative = negative_same c.cause c.negative c.test in
    let test = test_same c.cause c.negative c.test in
    let common : two_of c.common_address ≡ c.common_address = omega (arith, whole.common_address) in
    let address : three_of c.address ≡ c.address = omega (arith, whole.address) in
    λ i. command (cause i) (negative i) (test i) c.originator (common i) (address i) (same i)

-- each action, of a command with these fields
module _ (cause : ℕ) (negative test : Bool) (originator common address : ℕ) where
  abbrev asking : Action → Command
  asking action = command cause negative test originator common address action

  by_action : (action : Action) → IsWhole (asking action)
      → command_of (spelling (asking action)) ≡ given (asking action)
  unfolding command_of
  by_action (Single x) whole =
      let same = ap Single (single_same x whole.action) in
      ap given (headed (asking (Single x)) (Single (single_of (single_octet x))) whole same)
  by_action (Double x) whole =
      let same = ap Double (double_same x whole.action.0 whole.action.1) in
      ap given (headed (asking (Double x)) (Double (double_of (double_octet x))) whole same)
  by_action (Setpoint x) whole =
      let same = ap Setpoint (setpoint_same x whole.action.0 whole.action.1) in
      ap given (headed (asking (Setpoint x)) (Setpoint (setpoint_of (setpoint_octets x))) whole same)
  by_action (Interrogation qualifier) whole =
      ap given (headed (asking (Interrogation qualifier)) (Interrogation qualifier) whole refl)
  by_action (CounterInterrogation qualifier) whole =
      ap given (headed (asking (CounterInterrogation qualifier)) (CounterInterrogation qualifier) whole refl)
  by_action Read whole = ap given (headed (asking Read) Read whole refl)

-- a command whose fields have the bits of their places is read again
pub command_of-spelling : (c : Command) → IsWhole c → command_of (spelling c) ≡ Ok c
command_of-spelling c whole =
    by_action c.cause c.negative c.test c.originator c.common_address c.address c.action whole

-- what is mirrored of a command is spelled for the command with the other cause
pub mirrored-spelling : (c : Command) (cause : ℕ) (negative : Bool)
    → mirrored cause negative (spelling c) ≡ spelling (record c { cause = cause; negative = negative })
mirrored-spelling c cause negative =
    ap (λ (test : Bool). spelling (record c { cause = cause; negative = negative; test = test }))
    (test_same c.cause c.negative c.test)
