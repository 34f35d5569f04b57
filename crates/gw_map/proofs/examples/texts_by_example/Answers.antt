use Rattle.std.proofs.Common.{refl}
use Rattle.toml.proofs.OnLiterals.{toml_on_literals}
use Rattle.gw_entries.specs.Complaints.{unknown_keys}
use Rattle.gw_map.specs.Sections.{station_complaints, section_complaints, each_from, repeated}
use Rattle.gw_map.proofs.examples.texts_by_example.Goals as goal

pub returns-clause-empty : goal.returns-clause-empty
unfolding toml_on_literals unknown_keys station_complaints section_complaints each_from repeated
returns-clause-empty c = refl

pub returns-clause-least : goal.returns-clause-least
unfolding toml_on_literals unknown_keys station_complaints section_complaints each_from repeated
returns-clause-least c = refl
