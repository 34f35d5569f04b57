-- What an ASDU with process information means (IEC 60870-5-101, 7.1 and 7.2): type identification, variable
-- structure qualifier, cause, originator, common address, and information objects to the end.
use Rattle.std.specs.Prelude.{ℕ, ◌+◌, ◌*◌, ◌%◌, Bool, true, false, List, [], ◌∷◌, ◌++◌, zero, suc}
use Rattle.std.specs.Prelude.{length, take, drop, map, Option, Some, None, ◌==◌, if◌then◌else◌, slice_index}
use Rattle.gw_model.specs.Optional.{◌>>=◌}
use Rattle.gw_model.specs.declared.point.Stamp.{Stamp}
use Rattle.gw_model.specs.declared.observation.Value.{Value}
use Rattle.gw_model.specs.declared.observation.Quality.{Quality}
use Rattle.gw_model.specs.declared.observation.Observation.{Observation}
use Rattle.iec_asdu.specs.declared.types.ElementKind.{ElementKind}
use Rattle.iec_asdu.specs.declared.types.ElementKind.TheVariants.{SinglePoint, DoublePoint, BitString, ScaledValue, CounterReading}
use Rattle.gw_model.specs.Bits.{is_set}
use Rattle.gw_model.specs.Clocks.{Clocks}
use Rattle.iec_asdu.specs.Types.{Layout, layout_at}

-- ---- the types

-- the elements that types carry
abbrev pub element_kinds : List ElementKind
element_kinds = SinglePoint ∷ DoublePoint ∷ BitString ∷ ScaledValue ∷ CounterReading ∷ []

-- each element without time, and with time at a station whose clocks are clocks minutes ahead of UTC
abbrev pub monitor_types : Clocks → List Layout
monitor_types clocks =
    map (λ kind. layout_at clocks (record { element = kind; timed = false })) element_kinds
    ++ map (λ kind. layout_at clocks (record { element = kind; timed = true })) element_kinds

-- the type with an identification
abbrev pub layout_of : ℕ → List Layout → Option Layout
layout_of identification [] = None
layout_of identification (layout ∷ layouts) =
    if layout.identification == identification then Some layout else layout_of identification layouts

-- ---- the objects, each under the common address of the ASDU

-- element and time tag, in octets
abbrev pub size_of : Layout → ℕ
size_of layout = layout.element + layout.tag

-- an address of three octets, low octet first
abbrev pub address_at : List ℕ → ℕ
address_at octets = slice_index octets 0 + 256 * slice_index octets 1 + 65536 * slice_index octets 2

-- an observation under a common address, of an address: its value with quality, and its stamp
abbrev pub observation_of : ℕ → ℕ → Value × Quality → Stamp → Observation
observation_of common address value stamp =
    record { common = common; address = address; value = value.0; quality = value.1; stamp = stamp }

-- what element and time tag tell of an address
abbrev pub observation_at : ℕ → ℕ → Layout → List ℕ → Option Observation
observation_at common address layout octets = do
  value ← layout.value (take layout.element octets)
  stamp ← layout.stamp (drop layout.element octets)
  Some (observation_of common address value stamp)

-- SQ 0: so many objects, each with its address
unfoldable pub objects_apart : ℕ → Layout → ℕ → List ℕ → Option (List Observation)
objects_apart common layout zero octets = Some []
objects_apart common layout (suc n) octets = do
  first ← observation_at common (address_at octets) layout (take (size_of layout) (drop 3 octets))
  others ← objects_apart common layout n (drop (3 + size_of layout) octets)
  Some (first ∷ others)

-- SQ 1: so many objects at consecutive addresses from the one that is given
unfoldable pub objects_in_sequence : ℕ → Layout → ℕ → ℕ → List ℕ → Option (List Observation)
objects_in_sequence common layout zero address octets = Some []
objects_in_sequence common layout (suc n) address octets = do
  first ← observation_at common address layout (take (size_of layout) octets)
  others ← objects_in_sequence common layout n (address + 1) (drop (size_of layout) octets)
  Some (first ∷ others)

-- at least one object, and the octets that so many objects have, no more and no less
unfoldable pub objects_of : ℕ → Layout → Bool → ℕ → List ℕ → Option (List Observation)
objects_of common layout sequence zero octets = None
objects_of common layout false (suc n) octets =
    if length octets == suc n * (3 + size_of layout) then objects_apart common layout (suc n) octets else None
objects_of common layout true (suc n) octets =
    if length octets == 3 + suc n * size_of layout
    then objects_in_sequence common layout (suc n) (address_at octets) (drop 3 octets)
    else None

-- ---- the whole

-- the cause is its whole octet, with the bits for a negative confirmation and for a test
pub record Asdu : Type 0 where
  pub identification : ℕ
  pub cause : ℕ
  pub originator : ℕ
  pub common_address : ℕ
  pub observations : List Observation

-- bit 7 of the variable structure qualifier is SQ, bits 0 to 6 are the number of objects
unfoldable pub asdu_meaning : List Layout → List ℕ → Option Asdu
asdu_meaning types (identification ∷ qualifier ∷ cause ∷ originator ∷ low ∷ high ∷ objects) = do
  layout ← layout_of identification types
  let common = low + 256 * high
  observations ← objects_of common layout (is_set 7 qualifier) (qualifier % 128) objects
  Some (record {
    identification = identification;
    cause = cause;
    originator = originator;
    common_address = common;
    observations = observations;
  })
asdu_meaning types _ = None
