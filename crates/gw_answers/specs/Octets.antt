-- How what goes out is spelled (IEC 60870-5-101, 7.2 and 7.3), by the clocks of the station.
use Rattle.std.specs.Prelude.{ℕ, ◌≤◌, true, List, length, take, slice_set}
use Rattle.iec_apci.specs.declared.apdu.Asdu.{Asdu}
use Rattle.gw_model.specs.declared.observation.Observation.{Observation}
use Rattle.gw_model.specs.Clocks.{Clocks}
use Rattle.iec_asdu.specs.Packing.{packed_spelling}
use Rattle.iec_asdu.specs.Spelling.{spelling}
use Rattle.iec_command.specs.Commands.{spelling as command_spelling, mirrored}
use Rattle.gw_answers.specs.declared.outgoing.AsduAnswer.{AsduAnswer}
use Rattle.gw_answers.specs.declared.outgoing.AsduAnswer.TheVariants.{Returned, Made}
use Rattle.gw_answers.specs.declared.outgoing.OwnAsdu.{OwnAsdu}
use Rattle.gw_answers.specs.declared.outgoing.OwnAsdu.TheVariants as outgoing

-- the octets of an ASDU
abbrev pub octets_in : Asdu → List ℕ
octets_in asdu = take asdu.len asdu.octets

-- the originator is the fourth octet
abbrev pub outgoing_octets : Clocks → OwnAsdu → List ℕ
outgoing_octets clocks (outgoing.Command c) = command_spelling c
outgoing_octets clocks (outgoing.Observation cause originator x) = slice_set (spelling clocks cause x) 3 originator

-- as many observations from the front of a list as one ASDU carries
abbrev pub packed_octets : Clocks → ℕ → ℕ → List Observation → List ℕ
packed_octets clocks cause originator xs = slice_set (packed_spelling clocks cause xs) 3 originator

-- what is unknown comes back as it came, with its cause and P/N set
abbrev pub answer_octets : Clocks → AsduAnswer → List ℕ
answer_octets clocks (Returned asdu cause) = mirrored cause true (octets_in asdu)
answer_octets clocks (Made x) = outgoing_octets clocks x

-- an ASDU comes back with a whole header, and a cause from 44 to 47
abbrev pub IsReturnable : AsduAnswer → Type 0
IsReturnable (Returned asdu cause) = (6 ≤ length (octets_in asdu)) × (44 ≤ cause) × (cause ≤ 47)
IsReturnable (Made x) = Unit {0}
