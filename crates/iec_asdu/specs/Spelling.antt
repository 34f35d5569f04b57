-- How observations are spelled as an ASDU, one or more of one type and under one common address: with time, where the
-- stamp has a tag, and without one elsewhere.
use Rattle.std.specs.Prelude.{ℕ, ◌+◌, Bool, true, false, List, [], ◌∷◌, ◌++◌}
use Rattle.std.specs.Prelude.{length, take, Option, Some, None, if◌then◌else◌}
use Rattle.std.specs.List.{flat_map}
use Rattle.std.specs.Option.{is_some}
use Rattle.std.specs.Int.{w16, w32, to_le_bytes}
use Rattle.gw_model.specs.declared.observation.Value.{Value}
use Rattle.gw_model.specs.declared.observation.Value.TheVariants.{Single, Double, Scaled, Word, Total}
use Rattle.gw_model.specs.declared.observation.Quality.{Quality}
use Rattle.gw_model.specs.declared.observation.Observation.{Observation}
use Rattle.gw_model.specs.Clocks.{Clocks}
use Rattle.gw_time.specs.Spelling.{tag_of}
use Rattle.iec_asdu.specs.declared.types.ElementKind.{ElementKind}
use Rattle.iec_asdu.specs.declared.types.ElementKind.TheVariants.{SinglePoint, DoublePoint, BitString, ScaledValue, CounterReading}
use Rattle.iec_asdu.specs.Types.{identification_by}
use Rattle.iec_asdu.specs.Elements.{single_spelling, double_spelling, word_spelling, scaled_spelling, counter_spelling}

-- the element that carries a value
abbrev pub element_kind : Value → ElementKind
element_kind (Single on) = SinglePoint
element_kind (Double state) = DoublePoint
element_kind (Word n) = BitString
element_kind (Scaled z) = ScaledValue
element_kind (Total n) = CounterReading

-- the type identification of a value, with a time tag or without
abbrev pub type_of : Value → Bool → ℕ
type_of value timed = identification_by (element_kind value) timed

-- the information element of a value with its quality
abbrev pub element_spelling : Value → Quality → List ℕ
element_spelling (Single on) q = single_spelling (record { on = on; quality = q })
element_spelling (Double state) q = double_spelling (record { state = state; quality = q })
element_spelling (Word n) q = word_spelling (record { word = n; quality = q })
element_spelling (Scaled z) q = scaled_spelling (record { value = z; quality = q })
element_spelling (Total n) q = counter_spelling (record { count = n; quality = q })

-- the octets of a tag, if there is one
abbrev pub tag_octets : Option (List ℕ) → List ℕ
tag_octets None = []
tag_octets (Some tag) = tag

-- one object with its address, of a value with this tag, originator 0; numbers low octet first
abbrev pub spelling_with : Option (List ℕ) → ℕ → Observation → List ℕ
spelling_with tag cause x =
    type_of x.value (is_some tag) ∷ 1 ∷ cause ∷ 0
    ∷ (to_le_bytes w16 x.common ++ take 3 (to_le_bytes w32 x.address)
    ++ (element_spelling x.value x.quality ++ tag_octets tag))

-- the ASDU of an observation, at a station whose clocks are clocks minutes ahead of UTC
abbrev pub spelling : Clocks → ℕ → Observation → List ℕ
spelling clocks cause x = spelling_with (tag_of clocks x.stamp) cause x

-- ---- several of one type

-- an address, low octet first
abbrev pub address_octets : ℕ → List ℕ
address_octets address = take 3 (to_le_bytes w32 address)

-- the element of an observation
abbrev pub element_octets : Observation → List ℕ
element_octets x = element_spelling x.value x.quality

-- its address, its element, and behind them this time tag or none
abbrev pub object_octets_with : Option (List ℕ) → Observation → List ℕ
object_octets_with tag x = address_octets x.address ++ (element_octets x ++ tag_octets tag)

-- element and time tag of an observation
abbrev pub information_octets : Clocks → Observation → List ℕ
information_octets clocks x = element_spelling x.value x.quality ++ tag_octets (tag_of clocks x.stamp)

-- the same behind its address
abbrev pub object_octets : Clocks → Observation → List ℕ
object_octets clocks x = address_octets x.address ++ information_octets clocks x

-- SQ 0: each object with its address; SQ 1: the first one's address, then element behind element
abbrev pub objects_octets : Clocks → Bool → List Observation → List ℕ
objects_octets clocks false xs = flat_map (object_octets clocks) xs
objects_octets clocks true [] = []
objects_octets clocks true (x ∷ xs) = address_octets x.address ++ flat_map (information_octets clocks) (x ∷ xs)

-- the variable structure qualifier: SQ, and the number of objects
abbrev pub qualifier_of : Bool → ℕ → ℕ
qualifier_of sequence n = if sequence then 128 + n else n

-- the type identification of an observation
abbrev pub identification_at : Clocks → Observation → ℕ
identification_at clocks x = type_of x.value (is_some (tag_of clocks x.stamp))

-- the header before these objects: the first one's type and common address, originator 0
abbrev pub header_octets : Clocks → Bool → ℕ → List Observation → List ℕ
header_octets clocks sequence cause [] = []
header_octets clocks sequence cause (x ∷ xs) =
    identification_at clocks x ∷ qualifier_of sequence (length (x ∷ xs)) ∷ cause ∷ 0 ∷ to_le_bytes w16 x.common

-- the ASDU of observations that are of the first one's type and under its common address, under this SQ
unfoldable pub list_spelling : Clocks → Bool → ℕ → List Observation → List ℕ
list_spelling clocks sequence cause xs =
    header_octets clocks sequence cause xs ++ objects_octets clocks sequence xs
