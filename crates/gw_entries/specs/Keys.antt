-- The rows of the code's tables as the rules that they are.
use Rattle.std.specs.Prelude.{false, List, [], map, Option, Some, None, ℕ}
use Rattle.toml.specs.Data.{Data, string, integer, boolean}
use Rattle.toml.specs.View.{view}
use Rattle.gw_entries.specs.declared.entry.Datum.{Datum}
use Rattle.gw_entries.specs.declared.entry.Datum.TheVariants as datum
use Rattle.gw_entries.specs.declared.key.Absence.{Absence as CodedAbsence}
use Rattle.gw_entries.specs.declared.key.Absence.TheVariants.{Required, Number as NumberMeant, Text as TextMeant}
use Rattle.gw_entries.specs.declared.key.Absence.TheVariants.{No, UsualType, OfStation, NoRule}
use Rattle.gw_entries.specs.declared.key.KeyContent.{KeyContent as CodedContent}
use Rattle.gw_entries.specs.declared.key.KeyContent.TheVariants.{Number, NumberTo, NumberBelow, Outstation, Word, Text, PosixRule, Flag}
use Rattle.gw_entries.specs.declared.key.Key.{Key}
use Rattle.gw_entries.specs.Tables.{KeyContent, whole, whole_to, whole_below, outstation_position}
use Rattle.gw_entries.specs.Tables.{one_of, any_text, posix_rule, yes_or_no, Absence, required}
use Rattle.gw_entries.specs.Tables.{default, usual_type, of_station, no_rule, or_no, KeyRule}

abbrev pub content_seen : CodedContent → KeyContent
content_seen (Number first last) = whole first last
content_seen (NumberTo first key) = whole_to first key.now
content_seen (NumberBelow first key) = whole_below first key.now
content_seen Outstation = outstation_position
content_seen (Word words) = one_of (map (λ word. word.now) words.now)
content_seen Text = any_text
content_seen PosixRule = posix_rule
content_seen Flag = yes_or_no

abbrev pub absence_seen : CodedAbsence → Absence
absence_seen Required = required
absence_seen (NumberMeant z) = default (integer z)
absence_seen (TextMeant text) = default (string text.now)
absence_seen No = or_no
absence_seen UsualType = usual_type
absence_seen OfStation = of_station
absence_seen NoRule = no_rule

abbrev pub rule_seen : Key → KeyRule
rule_seen key = record { key = key.name.now; content = content_seen key.content; absence = absence_seen key.absence }

-- the words that may stand at a key
abbrev pub words_of : KeyContent → List (List ℕ)
words_of (one_of words) = words
words_of _ = []

abbrev pub words_by : Option KeyRule → List (List ℕ)
words_by None = []
words_by (Some rule) = words_of rule.content

-- what stands at a key, or is meant there
abbrev pub datum_seen : Datum → Option Data
datum_seen (datum.There value) = Some (view value.now)
datum_seen (datum.Number z) = Some (integer z)
datum_seen (datum.Text text) = Some (string text.now)
datum_seen datum.No = Some (boolean false)
datum_seen datum.Nothing = None
