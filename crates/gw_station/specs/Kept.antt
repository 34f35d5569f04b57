-- What a station keeps of the news that may go next, and of the answer to an interrogation.
use Rattle.std.specs.Prelude.{ℕ, ◌-◌, ◌<◌, ◌==◌, ◌&&◌, List, [], ◌∷◌, drop, length}
use Rattle.std.specs.Prelude.{slice_get, take, Option, Some, None, IsSomeAnd, if◌then◌else◌}
use Rattle.gw_model.specs.declared.observation.Observation.{Observation}
use Rattle.gw_model.specs.Clocks.{Clocks}
use Rattle.iec_asdu.specs.Packing.{taken_of}
use Rattle.gw_answers.specs.declared.outgoing.OwnAsdu.{OwnAsdu}
use Rattle.gw_answers.specs.declared.outgoing.OwnAsdu.TheVariants as outgoing
use Rattle.gw_answers.specs.declared.interrogation.AnswerSection.{AnswerSection}
use Rattle.gw_answers.specs.Octets.{outgoing_octets, packed_octets}
use Rattle.gw_answers.specs.Sections.{joined}
use Rattle.gw_station.specs.Answers.{is_pending}
use Rattle.gw_station.specs.Client.{Client}

-- the news that may go next: those that came before the interrogation that is pending, or all
abbrev pub news_next : Client → List Observation
news_next c = if is_pending c.rest then take c.older c.queue else c.queue

-- what is left of the sections of an answer, of which so many were put out, and so many parts of the next
abbrev pub parts_left : ℕ → ℕ → Option (List (List OwnAsdu)) → List OwnAsdu
parts_left section done None = []
parts_left section done (Some sections) = drop done (joined (drop section sections))

-- and nothing where no place is left
abbrev pub parts_at : Option (ℕ × ℕ) → List (List OwnAsdu) → List OwnAsdu
parts_at None sections = []
parts_at (Some place) sections = parts_left place.0 place.1 (Some sections)

-- some part is left of the next section
abbrev pub HasPart : ℕ → ℕ → List (List OwnAsdu) → Type 0
HasPart section done sections = IsSomeAnd (slice_get sections section) (λ parts. done < length parts)

-- the rows that are left of the next section, the confirmation of which is first
abbrev pub rows_of_section : ℕ → Option AnswerSection → List Observation
rows_of_section done None = []
rows_of_section done (Some section) = drop (done - 1) section.rows.items

abbrev pub rows_at : ℕ → ℕ → List AnswerSection → List Observation
rows_at section done answer = rows_of_section done (slice_get answer section)

-- the rows at the front of parts that have this cause and originator
abbrev pub parts_front : ℕ → ℕ → List OwnAsdu → List Observation
parts_front cause originator (outgoing.Observation c o x ∷ parts) =
    if c == cause && o == originator then x ∷ parts_front cause originator parts else []
parts_front cause originator _ = []

-- how many parts go out in one ASDU, and its octets, where this is the first
abbrev pub parts_together : Clocks → OwnAsdu → List OwnAsdu → ℕ
parts_together clocks (outgoing.Command command) parts = 1
parts_together clocks (outgoing.Observation cause originator x) parts =
    taken_of clocks (parts_front cause originator parts)

abbrev pub parts_octets : Clocks → OwnAsdu → List OwnAsdu → List ℕ
parts_octets clocks (outgoing.Command command) parts = outgoing_octets clocks (outgoing.Command command)
parts_octets clocks (outgoing.Observation cause originator x) parts =
    packed_octets clocks cause originator (parts_front cause originator parts)
