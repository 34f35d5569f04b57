-- What an ASDU means, whether it carries process information or a command.
use Rattle.std.specs.Prelude.{◌≡◌, ℕ, ◌%◌, Bool, true, ◌==◌, ◌||◌, IsTrue, List, [], ◌∷◌, Option}
use Rattle.std.specs.Prelude.{Some, None, Result, Ok, Err, is_some, slice_index, slice_set, take}
use Rattle.gw_model.specs.Bits.{is_set}
use Rattle.gw_model.specs.Fit.{HasWidth, IsFit}
use Rattle.gw_model.specs.declared.observation.Observation.{Observation}
use Rattle.gw_model.specs.Clocks.{Clocks}
use Rattle.gw_time.specs.Spelling.{tag_of}
use Rattle.iec_asdu.specs.Asdu.{Asdu, asdu_meaning, monitor_types}
use Rattle.iec_asdu.specs.Packing.{taken_of}
use Rattle.iec_asdu.specs.Spelling.{type_of}
use Rattle.iec_command.specs.declared.command.Command.{Command}
use Rattle.iec_command.specs.declared.fault.CommandFault.{CommandFault}
use Rattle.iec_command.specs.Commands.{command_of, IsWhole}
use Rattle.gw_answers.specs.declared.outgoing.AsduAnswer.{AsduAnswer}
use Rattle.gw_answers.specs.declared.outgoing.AsduAnswer.TheVariants.{Returned, Made}
use Rattle.gw_answers.specs.declared.outgoing.OwnAsdu.{OwnAsdu}
use Rattle.gw_answers.specs.declared.outgoing.OwnAsdu.TheVariants as outgoing
use Rattle.gw_answers.specs.Octets.{octets_in, IsReturnable}

pub data Meant : Type 0 where
  -- process information
  Tells : Asdu → Meant
  -- a command
  Commands : Command → Meant
  -- neither: octets
  Unread : List ℕ → Meant

abbrev pub meant_by : List ℕ → Option Asdu → Result Command CommandFault → Meant
meant_by octets (Some asdu) command = Tells asdu
meant_by octets None (Ok command) = Commands command
meant_by octets None (Err fault) = Unread octets

-- octets mean this, by the clocks of the station
abbrev pub meaning_of : Clocks → List ℕ → Meant
meaning_of clocks octets = meant_by octets (asdu_meaning (monitor_types clocks) octets) (command_of octets)

-- the ASDU of one observation
abbrev pub asdu_of : Clocks → ℕ → ℕ → Observation → Asdu
asdu_of clocks cause originator x = record {
  identification = type_of x.value (is_some (tag_of clocks x.stamp));
  cause = cause;
  originator = originator;
  common_address = x.common;
  observations = x ∷ [];
}

-- the ASDU of as many observations from the front of a list as one carries, of which this is the first
abbrev pub packed_asdu : Clocks → ℕ → ℕ → Observation → List Observation → Asdu
packed_asdu clocks cause originator x xs = record (asdu_of clocks cause originator x) {
  observations = take (taken_of clocks (x ∷ xs)) (x ∷ xs);
}

-- what comes back is what came but for its third octet: the cause is this, P/N is set, and T is as it came
pub record IsSentBack (cause : ℕ) (came back : List ℕ) : Type 0 where
  pub octet : ℕ
  pub same : back ≡ slice_set came 2 octet
  pub has_cause : octet % 64 ≡ cause
  pub negative : is_set 6 octet ≡ true
  pub test : is_set 7 octet ≡ is_set 7 (slice_index came 2)

-- such octets mean this
pub record ComesBack (clocks : Clocks) (cause : ℕ) (came : List ℕ) (meant : Meant) : Type 0 where
  pub back : List ℕ
  pub sent : IsSentBack cause came back
  pub means : meant ≡ meaning_of clocks back

-- P/N is set, and the cause is this
abbrev pub HasCause : ℕ → ℕ → Type 0
HasCause cause octet = (octet % 64 ≡ cause) × (is_set 6 octet ≡ true)

-- so it is in what comes back, whatever it is
abbrev pub IsRefusedWith : ℕ → Meant → Type 0
IsRefusedWith cause (Tells asdu) = HasCause cause asdu.cause
IsRefusedWith cause (Commands c) = (c.cause ≡ cause) × (c.negative ≡ true)
IsRefusedWith cause (Unread octets) = HasCause cause (slice_index octets 2)

-- what goes out means what it is
abbrev pub meant_outgoing : Clocks → OwnAsdu → Meant
meant_outgoing clocks (outgoing.Command c) = Commands c
meant_outgoing clocks (outgoing.Observation cause originator x) = Tells (asdu_of clocks cause originator x)

abbrev pub Means : Clocks → AsduAnswer → Meant → Type 0
Means clocks (Returned asdu cause) meant = ComesBack clocks cause (octets_in asdu) meant
Means clocks (Made x) meant = meant ≡ meant_outgoing clocks x

-- ---- what can be sent

-- an ASDU can carry the observation: it is fit, and its number has its element's width
pub record IsSendable (clocks : Clocks) (x : Observation) : Type 0 where
  pub fit : IsFit clocks x
  pub width : HasWidth x.value

-- the confirmation of an activation (7) or a deactivation (9), or a termination (10)
abbrev pub is_answering : ℕ → Bool
is_answering cause = cause == 7 || cause == 9 || cause == 10

-- a command that goes out has such a cause and fields that fit; an ASDU can carry an observation that does
abbrev pub CanSendOutgoing : Clocks → OwnAsdu → Type 0
CanSendOutgoing clocks (outgoing.Command c) = IsTrue (is_answering c.cause) × IsWhole c
CanSendOutgoing clocks (outgoing.Observation cause originator x) = IsSendable clocks x

-- what comes back has a whole header and a cause from 44 to 47; an observation answers a read, with cause 5
abbrev pub CanSendAnswer : Clocks → AsduAnswer → Type 0
CanSendAnswer clocks (Returned asdu cause) = IsReturnable (Returned asdu cause)
CanSendAnswer clocks (Made (outgoing.Command c)) = CanSendOutgoing clocks (outgoing.Command c)
CanSendAnswer clocks (Made (outgoing.Observation cause originator x)) = (cause ≡ 5) × IsSendable clocks x
