-- The answer to an interrogation as it is kept: a section for each common address that is asked.
use Rattle.std.specs.Prelude.{List, map}
use Rattle.std.specs.List.{flat_map}
use Rattle.gw_model.specs.declared.observation.Observation.{Observation}
use Rattle.iec_command.specs.declared.command.Command.{Command}
use Rattle.gw_answers.specs.declared.interrogation.AnswerSection.{AnswerSection}
use Rattle.gw_answers.specs.declared.outgoing.OwnAsdu.{OwnAsdu}
use Rattle.gw_answers.specs.Interrogations.{answer_with}

-- their acts, and their rows
abbrev pub commands_in : List AnswerSection → List Command
commands_in sections = map (λ section. section.command) sections

abbrev pub rows_in : List AnswerSection → List (List Observation)
rows_in sections = map (λ section. section.rows.items) sections

-- the parts of each section
abbrev pub parts_of : List AnswerSection → List (List OwnAsdu)
parts_of sections = map (λ section. answer_with section.command section.rows.items) sections

-- the parts of sections, one behind the other
abbrev pub joined : List (List OwnAsdu) → List OwnAsdu
joined sections = flat_map (λ parts. parts) sections
