-- Which octets spell an ASDU with process information (IEC 60870-5-101, 7.1 and 7.2), said of its texts one after
-- another, apart from any reading.
use Rattle.std.specs.Prelude.{◌≡◌, ℕ, ◌+◌, ◌*◌, ◌%◌, ◌<◌, Bool, true}
use Rattle.std.specs.Prelude.{false, List, [], ◌∷◌, ◌++◌, length, Some, All}
use Rattle.gw_model.specs.declared.observation.Observation.{Observation}
use Rattle.gw_model.specs.Bits.{is_set}
use Rattle.iec_asdu.specs.Types.{Layout}
use Rattle.iec_asdu.specs.Asdu.{Asdu, layout_of}

-- three octets are an address, low octet first
pub record IsAddress (octets : List ℕ) (address : ℕ) : Type 0 where
  pub low : ℕ
  pub middle : ℕ
  pub high : ℕ
  pub text : octets ≡ low ∷ middle ∷ high ∷ []
  pub number : address ≡ low + 256 * middle + 65536 * high

-- an information element and behind it the time tag of its type tell of an observation
pub record IsInformation (layout : Layout) (octets : List ℕ) (x : Observation) : Type 0 where
  pub element : List ℕ
  pub tag : List ℕ
  pub text : octets ≡ element ++ tag
  pub element_length : length element ≡ layout.element
  pub tag_length : length tag ≡ layout.tag
  pub valued : layout.value element ≡ Some (x.value, x.quality)
  pub stamped : layout.stamp tag ≡ Some x.stamp

-- SQ 0: each object with its address
abbrev pub AreApart : Layout → List ℕ → List Observation → Type 0
AreApart layout octets [] = octets ≡ []
AreApart layout octets (x ∷ xs) = (address : List ℕ) × (information : List ℕ) × (rest : List ℕ)
    × (octets ≡ address ++ (information ++ rest)) × IsAddress address x.address
    × IsInformation layout information x × AreApart layout rest xs

-- SQ 1: one after another at consecutive addresses
abbrev pub AreInSequence : Layout → ℕ → List ℕ → List Observation → Type 0
AreInSequence layout address octets [] = octets ≡ []
AreInSequence layout address octets (x ∷ xs) = (information : List ℕ) × (rest : List ℕ)
    × (octets ≡ information ++ rest) × (x.address ≡ address) × IsInformation layout information x
    × AreInSequence layout (address + 1) rest xs

-- by SQ; under SQ 1 the one address stands first
abbrev pub AreObjects : Layout → Bool → List ℕ → List Observation → Type 0
AreObjects layout false octets xs = AreApart layout octets xs
AreObjects layout true octets xs = (address : List ℕ) × (first : ℕ) × (rest : List ℕ)
    × (octets ≡ address ++ rest) × IsAddress address first × AreInSequence layout first rest xs

-- type identification; variable structure qualifier, with SQ and the number of objects, at least one; the whole octet
-- of the cause; originator; common address, low octet first; objects, each of which has that common address
pub record IsAsdu (types : List Layout) (octets : List ℕ) (asdu : Asdu) : Type 0 where
  pub qualifier : ℕ
  pub low : ℕ
  pub high : ℕ
  pub objects : List ℕ
  pub text : octets ≡ asdu.identification ∷ qualifier ∷ asdu.cause ∷ asdu.originator ∷ low ∷ high ∷ objects
  pub common : asdu.common_address ≡ low + 256 * high
  pub layout : Layout
  pub known : layout_of asdu.identification types ≡ Some layout
  pub number : length asdu.observations ≡ qualifier % 128
  pub some : 0 < length asdu.observations
  pub are : AreObjects layout (is_set 7 qualifier) objects asdu.observations
  pub under : All (λ x. x.common ≡ asdu.common_address) asdu.observations
