-- An ASDU read from left to right: its meaning, or the first fault.
use Rattle.std.specs.Prelude.{ℕ, zero, suc, ◌+◌, ◌*◌, ◌%◌, Bool, List, [], ◌∷◌, length, take, drop, ok_or}
use Rattle.std.specs.Prelude.{Result, Ok, Err, ◌==◌, true, false, nat_lt, slice_index, if◌then◌else◌}
use Rattle.gw_model.specs.Outcome.{◌>>=◌}
use Rattle.gw_model.specs.declared.observation.Observation.{Observation}
use Rattle.iec_asdu.specs.declared.fault.AsduFault.{AsduFault}
use Rattle.iec_asdu.specs.declared.fault.AsduFault.TheVariants.{Short, Long, UnknownType, ZeroObjects, Reserved, Tag, Memory}
use Rattle.gw_model.specs.Bits.{is_set}
use Rattle.iec_asdu.specs.Types.{Layout}
use Rattle.iec_asdu.specs.Asdu.{Asdu, layout_of, size_of, address_at, observation_of}

-- what element and time tag tell of an address, under a common address: a reserved bit comes before a tag that means
-- nothing
abbrev pub object_read : ℕ → ℕ → Layout → List ℕ → Result Observation AsduFault
object_read common address layout octets = do
  value ← ok_or (layout.value (take layout.element octets)) Reserved
  stamp ← ok_or (layout.stamp (drop layout.element octets)) Tag
  Ok (observation_of common address value stamp)

-- the object at the front, with the address before it
abbrev pub front_read : ℕ → Layout → List ℕ → Result Observation AsduFault
front_read common layout octets =
    object_read common (address_at octets) layout (take (size_of layout) (drop 3 octets))

-- SQ 0: so many objects, each with its address
unfoldable pub read_apart : ℕ → Layout → ℕ → List ℕ → Result (List Observation) AsduFault
read_apart common layout zero octets = Ok []
read_apart common layout (suc n) octets = do
  first ← front_read common layout octets
  others ← read_apart common layout n (drop (3 + size_of layout) octets)
  Ok (first ∷ others)

-- SQ 1: so many objects at consecutive addresses from the one that is given
unfoldable pub read_in_sequence : ℕ → Layout → ℕ → ℕ → List ℕ → Result (List Observation) AsduFault
read_in_sequence common layout zero address octets = Ok []
read_in_sequence common layout (suc n) address octets = do
  first ← object_read common address layout (take (size_of layout) octets)
  others ← read_in_sequence common layout n (address + 1) (drop (size_of layout) octets)
  Ok (first ∷ others)

-- how many octets so many objects have, each of this size behind the one address, or each behind its own
abbrev pub objects_length : ℕ → Bool → ℕ → ℕ
objects_length size sequence n = if sequence then 3 + n * size else n * (3 + size)

-- the objects: no object, then too few octets for them, then too many
unfoldable pub objects_read : ℕ → Layout → Bool → ℕ → List ℕ → Result (List Observation) AsduFault
objects_read common layout sequence n octets =
    if n == 0 then Err ZeroObjects
    else (if nat_lt (length octets) (objects_length (size_of layout) sequence n) then Err Short
    else (if nat_lt (objects_length (size_of layout) sequence n) (length octets) then Err Long
    else (if sequence then read_in_sequence common layout n (address_at octets) (drop 3 octets)
    else read_apart common layout n octets)))

-- the whole: a header of six octets, then the type, then the objects
unfoldable pub asdu_read : List Layout → List ℕ → Result Asdu AsduFault
asdu_read types octets =
    if nat_lt (length octets) 6 then Err Short
    else (do
      layout ← ok_or (layout_of (slice_index octets 0) types) UnknownType
      let qualifier = slice_index octets 1
      let common = slice_index octets 4 + 256 * slice_index octets 5
      observations ← objects_read common layout (is_set 7 qualifier) (qualifier % 128) (drop 6 octets)
      Ok (record {
        identification = slice_index octets 0;
        cause = slice_index octets 2;
        originator = slice_index octets 3;
        common_address = common;
        observations = observations;
      }))

-- ---- what a call gives

-- memory ran out
abbrev pub is_memory : AsduFault → Bool
is_memory Memory = true
is_memory _ = false
