-- How many observations from the front of a list one ASDU carries, and under which SQ (IEC 60870-5-101, 7.2.2). An ASDU
-- has at most 249 octets: its header has six of them, and an address three.
use Rattle.std.specs.Prelude.{ℕ, suc, ◌+◌, ◌/◌, min, Bool, ◌&&◌, ◌==◌}
use Rattle.std.specs.Prelude.{nat_le, if◌then◌else◌, List, [], ◌∷◌, take}
use Rattle.std.specs.Option.{is_some}
use Rattle.gw_model.specs.declared.observation.Observation.{Observation}
use Rattle.gw_model.specs.Clocks.{Clocks}
use Rattle.gw_time.specs.Spelling.{tag_of}
use Rattle.iec_asdu.specs.declared.types.MonitorType.{MonitorType}
use Rattle.iec_asdu.specs.Types.{type_length}
use Rattle.iec_asdu.specs.Spelling.{element_kind, identification_at, list_spelling}

-- ---- the two prefixes

-- whether one is like the first one: of its type, and under its common address
abbrev pub is_alike : Clocks → Observation → Observation → Bool
is_alike clocks first x = identification_at clocks x == identification_at clocks first && x.common == first.common

-- how many from the front are like the first one
unfoldable pub alike_count : Clocks → Observation → List Observation → ℕ
alike_count clocks first [] = 0
alike_count clocks first (x ∷ xs) = if is_alike clocks first x then suc (alike_count clocks first xs) else 0

-- how many of these stand at consecutive addresses, from this one on
unfoldable pub consecutive_count : Clocks → Observation → ℕ → List Observation → ℕ
consecutive_count clocks first address [] = 0
consecutive_count clocks first address (x ∷ xs) =
    if is_alike clocks first x && x.address == address
    then suc (consecutive_count clocks first (address + 1) xs)
    else 0

-- element and time tag of an observation
abbrev pub type_at : Clocks → Observation → MonitorType
type_at clocks x = record { element = element_kind x.value; timed = is_some (tag_of clocks x.stamp) }

-- how many objects fit, of which element and time tag have so many octets: under SQ 0 each with its address, and under
-- SQ 1 behind one address
abbrev pub room_apart : ℕ → ℕ
room_apart size = 243 / (3 + size)

abbrev pub room_in_sequence : ℕ → ℕ
room_in_sequence size = min 127 (240 / size)

-- under SQ 0: as many as are like the first one, and fit
unfoldable pub apart_count : Clocks → List Observation → ℕ
apart_count clocks [] = 0
apart_count clocks (x ∷ xs) =
    alike_count clocks x (take (room_apart (type_length (type_at clocks x))) (x ∷ xs))

-- under SQ 1: none with time; else as many as are like the first one, at consecutive addresses, and fit
unfoldable pub in_sequence_count : Clocks → List Observation → ℕ
in_sequence_count clocks [] = 0
in_sequence_count clocks (x ∷ xs) =
    if is_some (tag_of clocks x.stamp) then 0
    else consecutive_count clocks x x.address (take (room_in_sequence (type_length (type_at clocks x))) (x ∷ xs))

-- ---- the choice

-- SQ 1 where it carries two or more, and no fewer than SQ 0
unfoldable pub is_in_sequence : Clocks → List Observation → Bool
is_in_sequence clocks xs =
    nat_le 2 (in_sequence_count clocks xs) && nat_le (apart_count clocks xs) (in_sequence_count clocks xs)

-- how many observations the ASDU carries
unfoldable pub taken_of : Clocks → List Observation → ℕ
taken_of clocks xs = if is_in_sequence clocks xs then in_sequence_count clocks xs else apart_count clocks xs

-- the ASDU of so many of them
unfoldable pub packed_spelling : Clocks → ℕ → List Observation → List ℕ
packed_spelling clocks cause xs =
    list_spelling clocks (is_in_sequence clocks xs) cause (take (taken_of clocks xs) xs)
