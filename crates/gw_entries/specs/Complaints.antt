-- What is wrong with one table of a settings file: all complaints, in the order in which they are made.
use Rattle.std.specs.Prelude.{ℕ, ℤ, pos, Bool, true, ◌&&◌, int_le, int_lt, List, [], ◌∷◌, ◌++◌, map, filter_map}
use Rattle.std.specs.Prelude.{codes, Option, Some, None, is_some, option_map, bytes_eq, if◌then◌else◌}
use Rattle.std.specs.List.{list_any}
use Rattle.toml.specs.Data.{Data, Members, no_members, member, get_member}
use Rattle.jiff_tz.specs.PosixReader.{read_whole}
use Rattle.gw_model.specs.declared.point.Kind.{Kind}
use Rattle.gw_entries.specs.declared.row.Show.{Show}
use Rattle.gw_entries.specs.Shown.{is_shown_by, is_scaled}
use Rattle.gw_entries.specs.declared.control.ControlShow.{ControlShow}
use Rattle.gw_entries.specs.declared.control.ControlShow.TheVariants as control
use Rattle.gw_entries.specs.declared.fault.Fault.{Fault}
use Rattle.gw_entries.specs.declared.fault.Fault.TheVariants.{Missing, WrongType, OutOfRange, UnknownKey, KindMismatch}
use Rattle.gw_entries.specs.declared.fault.Section.{Section}
use Rattle.gw_entries.specs.Tables.{KeyRule, KeyContent, whole, whole_to, whole_below, outstation_position}
use Rattle.gw_entries.specs.Tables.{one_of, any_text, posix_rule, yes_or_no, Absence, required}
use Rattle.gw_entries.specs.Values.{value_at, value_or, integer_in, text_in, flag_in, as_signed, as_text, kind_in, show_in, control_show_in}

-- ---- one key

-- a value is of the type that may stand there
abbrev pub has_type : KeyContent → Option Data → Bool
has_type (one_of words) value = is_some (text_in value)
has_type any_text value = is_some (text_in value)
has_type posix_rule value = is_some (text_in value)
has_type yes_or_no value = is_some (flag_in value)
has_type _ value = is_some (integer_in value)

abbrev pub is_between : ℤ → ℤ → ℤ → Bool
is_between first last z = int_le first z && int_le z last

-- a value of that type may stand there, in a table with these rules, where there are so many outstations
abbrev pub is_allowed : ℕ → List KeyRule → Members → KeyContent → Option Data → Bool
is_allowed outstations rules ms (whole first last) value = is_between first last (as_signed value)
is_allowed outstations rules ms (whole_to first key) value =
    is_between first (as_signed (value_at rules key ms)) (as_signed value)
is_allowed outstations rules ms (whole_below first key) value =
    int_le first (as_signed value) && int_lt (as_signed value) (as_signed (value_at rules key ms))
is_allowed outstations rules ms outstation_position value =
    int_le (pos 0) (as_signed value) && int_lt (as_signed value) (pos outstations)
is_allowed outstations rules ms (one_of words) value = list_any (bytes_eq (as_text value)) words
is_allowed outstations rules ms any_text value = true
is_allowed outstations rules ms posix_rule value = is_some (read_whole (as_text value))
is_allowed outstations rules ms yes_or_no value = true

abbrev pub fault_left_out : Absence → Option Fault
fault_left_out required = Some Missing
fault_left_out _ = None

abbrev pub fault_there : Bool → Bool → Option Fault
fault_there typed allowed = if typed then (if allowed then None else Some OutOfRange) else Some WrongType

-- what is wrong with what stands at a key, or is meant there
abbrev pub fault_of : ℕ → List KeyRule → Members → KeyRule → Option Data → Option Fault
fault_of outstations rules ms rule None = fault_left_out rule.absence
fault_of outstations rules ms rule (Some d) =
    fault_there (has_type rule.content (Some d)) (is_allowed outstations rules ms rule.content (Some d))

-- ---- one table: what is wrong, with the key

abbrev pub Wrong : Type 0
Wrong = Fault × List ℕ

abbrev pub wrong_at : Fault → List (List ℕ) → List Wrong
wrong_at fault keys = map (λ key. (fault, key)) keys

-- what is wrong at a key, in a table with these rules
unfoldable pub wrong_by : ℕ → List KeyRule → Members → KeyRule → Option Wrong
wrong_by outstations rules ms rule =
    option_map (λ fault. (fault, rule.key)) (fault_of outstations rules ms rule (value_or rule.absence rule.key ms))

-- what is wrong at the keys of a table with these rules
unfoldable pub rules_wrongs : ℕ → List KeyRule → Members → List Wrong
rules_wrongs outstations rules ms = filter_map (wrong_by outstations rules ms) rules

-- the keys of a table, the least octets first, that are none of the known ones
unfoldable pub unknown_keys : List (List ℕ) → Members → List (List ℕ)
unknown_keys known no_members = []
unknown_keys known (member key d ms) =
    if list_any (bytes_eq key) known then unknown_keys known ms else key ∷ unknown_keys known ms

-- which of some keys a table has
abbrev pub present : Members → List (List ℕ) → List (List ℕ)
present ms [] = []
present ms (key ∷ keys) = if is_some (get_member key ms) then key ∷ present ms keys else present ms keys

-- a point's type must show its kind, and only a scaled value has a scale
abbrev pub mismatches_with : Kind → Show → Members → List (List ℕ)
mismatches_with kind show ms =
    (if is_shown_by kind show then [] else codes "show" ∷ [])
    ++ (if is_scaled show then [] else present ms (codes "num" ∷ codes "den" ∷ []))

unfoldable pub point_mismatches : Members → List (List ℕ)
point_mismatches ms = mismatches_with (kind_in ms) (show_in ms) ms

-- only commands have a rest and pulses, and only a setpoint has a scale
abbrev pub mismatches_of : ControlShow → Members → List (List ℕ)
mismatches_of control.Setpoint ms = present ms (codes "rest" ∷ codes "short_ms" ∷ codes "long_ms" ∷ [])
mismatches_of _ ms = present ms (codes "num" ∷ codes "den" ∷ [])

unfoldable pub control_mismatches : Members → List (List ℕ)
control_mismatches ms = mismatches_of (control_show_in ms) ms

abbrev pub no_mismatches : Members → List (List ℕ)
no_mismatches ms = []

-- what is wrong at the keys of a table: first those that are unknown, then those that it may have
unfoldable pub key_wrongs : ℕ → List (List ℕ) → List KeyRule → Members → List Wrong
key_wrongs outstations known rules ms =
    wrong_at UnknownKey (unknown_keys known ms) ++ rules_wrongs outstations rules ms

-- what is wrong with a table: key by key, then what doesn't fit together
unfoldable pub table_wrongs : ℕ → List KeyRule → (Members → List (List ℕ)) → Members → List Wrong
table_wrongs outstations rules mismatches ms =
    key_wrongs outstations (map (λ rule. rule.key) rules) rules ms ++ wrong_at KindMismatch (mismatches ms)

-- ---- where it stands

pub record Complaint : Type 0 where
  pub fault : Fault
  pub section : Section
  pub position : ℕ
  pub key : List ℕ

abbrev pub complaint : Section → ℕ → Wrong → Complaint
complaint section position wrong = record { fault = wrong.0; section = section; position = position; key = wrong.1 }

abbrev pub placed : Section → ℕ → List Wrong → List Complaint
placed section position wrongs = map (complaint section position) wrongs
