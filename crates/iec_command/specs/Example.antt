-- Short words for the worked examples: actions, and commands of originator 0 with neither P/N nor T.
use Rattle.std.specs.Prelude.{ℕ, ℤ, Bool, false, List, [], ◌∷◌}
use Rattle.iec_command.specs.declared.command.Action.{Action}
use Rattle.iec_command.specs.declared.command.Action.TheVariants.{Single, Double, Setpoint}
use Rattle.iec_command.specs.declared.command.Command.{Command}

abbrev pub single : Bool → Bool → ℕ → Bool → Action
single on reserved qualifier select =
    Single (record { on = on; reserved = reserved; qualifier = qualifier; select = select })

abbrev pub double : ℕ → ℕ → Bool → Action
double state qualifier select = Double (record { state = state; qualifier = qualifier; select = select })

abbrev pub setpoint : ℤ → ℕ → Bool → Action
setpoint value qualifier select = Setpoint (record { value = value; qualifier = qualifier; select = select })

-- cause, common address, address and action
abbrev pub command : ℕ → ℕ → ℕ → Action → Command
command cause common address action = record {
  cause = cause;
  negative = false;
  test = false;
  originator = 0;
  common_address = common;
  address = address;
  action = action;
}

-- activation of an object of station 1: a type and its element
abbrev pub sent_single : ℕ → List ℕ
sent_single sco = 0x2D ∷ 0x01 ∷ 0x06 ∷ 0x00 ∷ 0x01 ∷ 0x00 ∷ 0x89 ∷ 0x13 ∷ 0x00 ∷ sco ∷ []

abbrev pub sent_double : ℕ → List ℕ
sent_double dco = 0x2E ∷ 0x01 ∷ 0x06 ∷ 0x00 ∷ 0x01 ∷ 0x00 ∷ 0x8B ∷ 0x13 ∷ 0x00 ∷ dco ∷ []

abbrev pub sent_setpoint : ℕ → ℕ → ℕ → List ℕ
sent_setpoint low high qos =
    0x31 ∷ 0x01 ∷ 0x06 ∷ 0x00 ∷ 0x01 ∷ 0x00 ∷ 0x8A ∷ 0x13 ∷ 0x00 ∷ low ∷ high ∷ qos ∷ []
