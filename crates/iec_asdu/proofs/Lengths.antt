-- How long an element with its time tag is, and the ASDU of one observation.
use Rattle.std.proofs.Common.{ℕ, ℤ, pos, negsuc, ◌+◌, ◌≤◌, Bool, true, false, ◌&&◌, nat_lt, nat_le, List}
use Rattle.std.proofs.Common.{length, Option, Some, None, is_some, refl, arith, length-append, ◌≡◌}
use Rattle.gw_model.specs.declared.point.Stamp.{Stamp}
use Rattle.gw_model.specs.declared.point.Stamp.TheVariants.{Untimed, At, Doubtful}
use Rattle.gw_model.specs.declared.observation.Value.{Value}
use Rattle.gw_model.specs.declared.observation.Value.TheVariants.{Single, Double, Scaled, Word, Total}
use Rattle.gw_model.specs.declared.observation.Quality.{Quality}
use Rattle.gw_model.specs.declared.observation.Observation.{Observation}
use Rattle.gw_model.specs.Clocks.{Clocks, is_summer, shown_at}
use Rattle.gw_time.specs.Spelling.{numbers_at, octets_of, tag_of, tag_showing}
use Rattle.iec_asdu.specs.declared.types.MonitorType.{MonitorType}
use Rattle.iec_asdu.specs.Types.{element_length, tag_length, type_length}
use Rattle.iec_asdu.specs.Spelling.{element_kind, element_spelling, tag_octets, information_octets, object_octets_with, spelling}
use Rattle.iec_asdu.specs.Packing.{type_at}
use Rattle.iec_asdu.proofs.Known.{type_short}

-- a tag has seven octets
shown_long : (invalid summer : Bool) (z : ℤ)
    → length (tag_octets (tag_showing invalid summer z)) ≡ tag_length (is_some (tag_showing invalid summer z))
unfolding tag_showing
shown_long invalid summer (negsuc n) = refl
shown_long invalid summer (pos n) = go (nat_le 946684800000 n && nat_lt n 4102444800000)
  where
    go : (b : Bool)
        → let tag : Option (List ℕ) = elim b [ true ↦ Some (octets_of (numbers_at invalid summer n)) | false ↦ None ] in
        length (tag_octets tag) ≡ tag_length (is_some tag)
    go true = refl
    go false = refl

pub tag_long : (clocks : Clocks) (stamp : Stamp)
    → length (tag_octets (tag_of clocks stamp)) ≡ tag_length (is_some (tag_of clocks stamp))
tag_long clocks Untimed = refl
tag_long clocks (At t) = shown_long false (is_summer clocks t) (shown_at clocks t)
tag_long clocks (Doubtful t) = shown_long true (is_summer clocks t) (shown_at clocks t)

pub element_long : (v : Value) (q : Quality) → length (element_spelling v q) ≡ element_length (element_kind v)
element_long (Single on) q = refl
element_long (Double state) q = refl
element_long (Word n) q = refl
element_long (Scaled z) q = refl
element_long (Total n) q = refl

-- both have what their type says
pub information_long : (clocks : Clocks) (x : Observation)
    → length (information_octets clocks x) ≡ type_length (type_at clocks x)
information_long clocks x =
    omega (
      arith,
      length-append (element_spelling x.value x.quality) (tag_octets (tag_of clocks x.stamp)),
      element_long x.value x.quality,
      tag_long clocks x.stamp,
    )

-- an object of a type, with its tag, has an address more, and at most 15 octets
pub object_long : (clocks : Clocks) (x : Observation) (tag : Option (List ℕ)) (kind : MonitorType)
    → tag ≡ tag_of clocks x.stamp → kind ≡ type_at clocks x
    → (length (object_octets_with tag x) ≡ 3 + type_length kind) × (type_length kind ≤ 12)
object_long clocks x tag kind is of =
    rw (is, of) (
      omega (arith, information_long clocks x),
      (type_short (element_kind x.value) (is_some (tag_of clocks x.stamp))).1,
    )

-- the ASDU of an observation has at most 21 octets
pub spelling_short : (clocks : Clocks) (cause : ℕ) (x : Observation) → length (spelling clocks cause x) ≤ 21
spelling_short clocks cause x =
    omega (
      arith,
      information_long clocks x,
      (type_short (element_kind x.value) (is_some (tag_of clocks x.stamp))).1,
    )
