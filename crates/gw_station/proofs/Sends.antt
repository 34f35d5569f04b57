-- What is put out can be sent: it is of what the client may be sent, and has the octets of an APDU.
use Rattle.std.proofs.Common.{ℕ, ◌≤◌, true, List, length, arith}
use Rattle.std.specs.Prelude.{slice_index, IfSome}
use Rattle.std.specs.List.{AllByRecursion}
use Rattle.std.proofs.lemmas.List.{length-set, length-take}
use Rattle.gw_model.specs.Bits.{is_set}
use Rattle.gw_model.specs.Clocks.{Clocks}
use Rattle.gw_map.specs.Settings.{station_clocks}
use Rattle.gw_entries.specs.Setup.{StationSetup}
use Rattle.iec_apci.specs.Apdu.{Fits}
use Rattle.iec_asdu.specs.Spelling.{spelling}
use Rattle.iec_asdu.proofs.Lengths.{spelling_short}
use Rattle.iec_command.specs.declared.command.Command.{Command}
use Rattle.iec_command.specs.declared.command.Action.{Action}
use Rattle.iec_command.specs.declared.command.Action.TheVariants as actions
use Rattle.iec_command.specs.Commands.{spelling as command_spelling, cause_octet}
use Rattle.gw_answers.specs.declared.outgoing.AsduAnswer.{AsduAnswer}
use Rattle.gw_answers.specs.declared.outgoing.AsduAnswer.TheVariants.{Returned, Made}
use Rattle.gw_answers.specs.declared.outgoing.OwnAsdu.{OwnAsdu}
use Rattle.gw_answers.specs.declared.outgoing.OwnAsdu.TheVariants as outgoing
use Rattle.gw_answers.specs.Octets.{octets_in, answer_octets, outgoing_octets}
use Rattle.gw_answers.proofs.Meant.{packed_octets_short}
use Rattle.gw_station.specs.declared.sending.Sending.{Sending}
use Rattle.gw_station.specs.declared.sending.Sending.TheVariants as sendings
use Rattle.gw_station.specs.Client.{Client}
use Rattle.gw_station.specs.Pump.{line, content_of, news_front, offered, part_octets, rows_front}
use Rattle.gw_station.specs.Sound.{CanSend, IsSoundClient}
use Rattle.gw_station.proofs.Line.{line_so, offered_so}

-- ---- what is offered

-- all that is in line
pub line_can : (station : StationSetup) (steps news : ℕ) (c : Client) → IsSoundClient station steps news c
    → AllByRecursion (CanSend (station_clocks station)) (line c)
line_can station steps news c sound =
    line_so (CanSend (station_clocks station)) c sound.answers sound.sendable sound.rest

pub offered_can : (station : StationSetup) (steps news moment : ℕ) (c : Client) → IsSoundClient station steps news c
    → IfSome (offered moment c) (CanSend (station_clocks station))
offered_can station steps news moment c sound =
    offered_so (CanSend (station_clocks station)) (λ signal. tt) tt tt moment c
    (line_can station steps news c sound)

-- ---- how many octets it has

-- an element has at most three octets
command_short : (c : Command) (action : Action) → length (command_spelling (record c { action = action })) ≤ 12
command_short c (actions.Single x) = omega arith
command_short c (actions.Double x) = omega arith
command_short c (actions.Setpoint x) = omega arith
command_short c (actions.Interrogation qualifier) = omega arith
command_short c (actions.CounterInterrogation qualifier) = omega arith
command_short c actions.Read = omega arith

outgoing_short : (clocks : Clocks) (x : OwnAsdu) → length (outgoing_octets clocks x) ≤ 249
outgoing_short clocks (outgoing.Command c) = omega (arith, command_short c c.action)
outgoing_short clocks (outgoing.Observation cause originator x) =
    omega (arith, length-set (spelling clocks cause x) 3 originator, spelling_short clocks cause x)

answer_short : (clocks : Clocks) (answer : AsduAnswer) → length (answer_octets clocks answer) ≤ 249
answer_short clocks (Returned asdu cause) =
    let came : List ℕ = octets_in asdu in
    let back = cause_octet cause true (is_set 7 (slice_index came 2)) in
    omega (arith, length-set came 2 back, length-take asdu.len asdu.octets, asdu.fits)
answer_short clocks (Made x) = outgoing_short clocks x

part_short : (clocks : Clocks) (l : List Sending) (part : OwnAsdu)
    → length (part_octets clocks l part) ≤ 249
part_short clocks l (outgoing.Command command) = outgoing_short clocks (outgoing.Command command)
part_short clocks l (outgoing.Observation cause originator x) =
    packed_octets_short clocks cause originator (rows_front cause originator l)

pub content_fits : (clocks : Clocks) (c : Client) (sending : Sending)
    → Fits (content_of clocks c sending)
content_fits clocks c (sendings.Confirm signal) = tt
content_fits clocks c sendings.Test = tt
content_fits clocks c (sendings.Answer answer) = (omega arith, omega arith, answer_short clocks answer)
content_fits clocks c (sendings.News x) =
    (omega arith, omega arith, packed_octets_short clocks 3 0 (news_front (line c)))
content_fits clocks c (sendings.Part part) = (omega arith, omega arith, part_short clocks (line c) part)
content_fits clocks c sendings.SFormat = omega arith
