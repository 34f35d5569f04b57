-- What is put out to a client that is up (IEC 60870-5-104, 5.1 to 5.3).
use Rattle.std.specs.Prelude.{◌≡◌, ℕ, ◌-◌, ◌==◌, ◌&&◌, Bool, nat_lt, ◌<◌, List, [], ◌∷◌, ◌++◌}
use Rattle.std.specs.Prelude.{length, take, drop, map, Option, Some, None, option_map, slice_get, if◌then◌else◌}
use Rattle.gw_model.specs.First.{when, first_of}
use Rattle.gw_model.specs.declared.observation.Observation.{Observation}
use Rattle.gw_model.specs.Clocks.{Clocks}
use Rattle.iec_asdu.specs.Packing.{taken_of}
use Rattle.iec_apci.specs.declared.apdu.Signal.TheVariants.{TestAct}
use Rattle.iec_apci.specs.Apdu.{ApduContent, Information, Supervisory, Unnumbered}
use Rattle.iec_window.specs.Counts.{WindowCounts}
use Rattle.iec_window.specs.Sequence.{send_number, receive_number}
use Rattle.iec_window.specs.Timers.{owes_ack, owes_test}
use Rattle.iec_window.specs.Steps.{counts_after_sending_s, counts_after_sending_i, counts_after_sending_test}
use Rattle.gw_answers.specs.declared.outgoing.AsduAnswer.{AsduAnswer}
use Rattle.gw_answers.specs.declared.outgoing.OwnAsdu.{OwnAsdu}
use Rattle.gw_answers.specs.declared.outgoing.OwnAsdu.TheVariants as outgoing
use Rattle.gw_answers.specs.Octets.{answer_octets, outgoing_octets, packed_octets}
use Rattle.gw_station.specs.declared.sending.Sending.{Sending}
use Rattle.gw_station.specs.declared.sending.Sending.TheVariants as sendings
use Rattle.gw_station.specs.Client.{Client, is_started}

-- fewer than k I formats wait for their acknowledgement
abbrev pub has_room : WindowCounts → Bool
has_room w = nat_lt (length w.waiting) w.limits.k

-- what waits for an I format: the answers, the news that came before the interrogation that is pending, the rest of its
-- answer, and later news
abbrev pub line : Client → List Sending
line c =
    map sendings.Answer c.answers
    ++ (map sendings.News (take c.older c.queue)
    ++ (map sendings.Part c.rest ++ map sendings.News (drop c.older c.queue)))

-- the news at the front of a line
abbrev pub news_front : List Sending → List Observation
news_front (sendings.News x ∷ line) = x ∷ news_front line
news_front _ = []

-- the rows at its front that have this cause and originator
abbrev pub rows_front : ℕ → ℕ → List Sending → List Observation
rows_front cause originator (sendings.Part (outgoing.Observation c o x) ∷ line) =
    if c == cause && o == originator then x ∷ rows_front cause originator line else []
rows_front cause originator _ = []

-- how many of a line go out in one ASDU: as many news, or rows, as one carries; all else goes alone
abbrev pub together : Clocks → List Sending → ℕ
together clocks (sendings.News x ∷ line) = taken_of clocks (x ∷ news_front line)
together clocks (sendings.Part (outgoing.Observation cause originator x) ∷ line) =
    taken_of clocks (x ∷ rows_front cause originator line)
together clocks _ = 1

-- the first of the line, in a session, where an I format may be sent
abbrev pub information_offered : Client → Option Sending
information_offered c = if is_started c.stage && has_room c.window then slice_get (line c) 0 else None

-- what may be put out at a moment: the first comes first
abbrev pub offers : ℕ → Client → List (Option Sending)
offers moment c =
    option_map sendings.Confirm (slice_get c.confirmations 0)
    ∷ when (owes_test moment c.window) sendings.Test
    ∷ information_offered c
    ∷ when (owes_ack moment c.window) sendings.SFormat
    ∷ []

abbrev pub offered : ℕ → Client → Option Sending
offered moment c = first_of (offers moment c)

-- news and parts are the first of the line
abbrev pub IsNext : Client → Sending → Type 0
IsNext c (sendings.Confirm signal) = Unit {0}
IsNext c sendings.Test = Unit {0}
IsNext c (sendings.Answer answer) = Unit {0}
IsNext c (sendings.News x) = slice_get (line c) 0 ≡ Some (sendings.News x)
IsNext c (sendings.Part part) = slice_get (line c) 0 ≡ Some (sendings.Part part)
IsNext c sendings.SFormat = Unit {0}

-- an I format has room
abbrev pub IsRoomy : WindowCounts → Sending → Type 0
IsRoomy w (sendings.Confirm signal) = Unit {0}
IsRoomy w sendings.Test = Unit {0}
IsRoomy w (sendings.Answer answer) = length w.waiting < w.limits.k
IsRoomy w (sendings.News x) = length w.waiting < w.limits.k
IsRoomy w (sendings.Part part) = length w.waiting < w.limits.k
IsRoomy w sendings.SFormat = Unit {0}

-- an I format with this ASDU
abbrev pub information : Clocks → WindowCounts → AsduAnswer → ApduContent
information clocks w answer = Information (send_number w) (receive_number w) (answer_octets clocks answer)

-- an I format with as many of these observations as its ASDU carries
abbrev pub packed_information : Clocks → WindowCounts → ℕ → ℕ → List Observation → ApduContent
packed_information clocks w cause originator xs =
    Information (send_number w) (receive_number w) (packed_octets clocks cause originator xs)

-- the octets of a part with those that go out with it
abbrev pub part_octets : Clocks → List Sending → OwnAsdu → List ℕ
part_octets clocks line (outgoing.Command command) = outgoing_octets clocks (outgoing.Command command)
part_octets clocks line (outgoing.Observation cause originator x) =
    packed_octets clocks cause originator (rows_front cause originator line)

-- what it carries
abbrev pub content_of : Clocks → Client → Sending → ApduContent
content_of clocks c (sendings.Confirm signal) = Unnumbered signal
content_of clocks c sendings.Test = Unnumbered TestAct
content_of clocks c (sendings.Answer answer) = information clocks c.window answer
content_of clocks c (sendings.News x) = packed_information clocks c.window 3 0 (news_front (line c))
content_of clocks c (sendings.Part part) =
    Information (send_number c.window) (receive_number c.window) (part_octets clocks (line c) part)
content_of clocks c sendings.SFormat = Supervisory (receive_number c.window)

-- what is put out next at a moment, if anything
abbrev pub given : Clocks → ℕ → Client → Option ApduContent
given clocks moment c = option_map (content_of clocks c) (offered moment c)

-- so many news were put out, and so many parts
abbrev pub client_without_news : ℕ → Client → Client
client_without_news n c = record c { queue = drop n c.queue; older = c.older - n }

abbrev pub client_without_parts : ℕ → Client → Client
client_without_parts n c = record c { rest = drop n c.rest }

-- it was put out, with those that went with it
abbrev pub client_with_sent : Clocks → ℕ → Sending → Client → Client
client_with_sent clocks moment (sendings.Confirm signal) c = record c { confirmations = drop 1 c.confirmations }
client_with_sent clocks moment sendings.Test c = record c { window = counts_after_sending_test moment c.window }
client_with_sent clocks moment (sendings.Answer answer) c =
    record c { window = counts_after_sending_i moment c.window; answers = drop 1 c.answers }
client_with_sent clocks moment (sendings.News x) c =
    record (client_without_news (together clocks (line c)) c) { window = counts_after_sending_i moment c.window }
client_with_sent clocks moment (sendings.Part part) c =
    record (client_without_parts (together clocks (line c)) c) { window = counts_after_sending_i moment c.window }
client_with_sent clocks moment sendings.SFormat c = record c { window = counts_after_sending_s c.window }

abbrev pub client_by_offer : Clocks → ℕ → Option Sending → Client → Client
client_by_offer clocks moment None c = c
client_by_offer clocks moment (Some sending) c = client_with_sent clocks moment sending c

-- what is put out next at a moment was put out, by the clocks of the station
abbrev pub client_after_pump : Clocks → ℕ → Client → Client
client_after_pump clocks moment c = client_by_offer clocks moment (offered moment c) c
