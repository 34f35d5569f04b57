-- Which ASDUs of a client want no places for what is answered, and which want two, by their octets (IEC 60870-5-101, 7.2
-- and 7.3), apart from how the code reads and judges them.
use Rattle.std.specs.Prelude.{◌≡◌, ℕ, ◌+◌, ◌*◌, ◌/◌, ◌%◌, Bool, false, ◌⊎◌, List, slice_index}
use Rattle.gw_map.specs.Settings.{Setup}
use Rattle.gw_judge.specs.Acceptable.{HasAddress}

-- the third octet: cause of transmission 6, activation, with neither P/N (bit 6) nor T (bit 7)
abbrev pub IsActivation : List ℕ → Type 0
IsActivation octets = slice_index octets 2 % 256 ≡ 6

-- the fifth and sixth: the common address, low octet first
abbrev pub common_address_in : List ℕ → ℕ
common_address_in octets = slice_index octets 4 + 256 * slice_index octets 5

-- the seventh to the ninth: the address of the information object, which is 0 for the whole station
abbrev pub IsForWholeStation : List ℕ → Type 0
IsForWholeStation octets =
    slice_index octets 6 + 256 * slice_index octets 7 + 65536 * slice_index octets 8 ≡ 0

-- ---- an execute

-- S/E, bit 7, is 0
abbrev pub IsNoSelect : ℕ → Type 0
IsNoSelect octet = octet / 128 % 2 ≡ 0

-- single and double commands (types 45 and 46) have S/E in the octet behind the address, set-point commands of scaled
-- values (49) in the octet behind their value
abbrev pub IsToExecute : List ℕ → Type 0
IsToExecute octets =
    (((slice_index octets 0 ≡ 45) ⊎ (slice_index octets 0 ≡ 46)) × IsNoSelect (slice_index octets 9))
    ⊎ ((slice_index octets 0 ≡ 49) × IsNoSelect (slice_index octets 11))

-- under a common address that is known
pub record SpellsExecute (setup : Setup) (octets : List ℕ) : Type 0 where
  pub execute : IsToExecute octets
  pub activation : IsActivation octets
  pub station : HasAddress setup (common_address_in octets)

-- ---- an interrogation that is accepted

-- type 100 with QOI 20, or type 101 with QCC 5
abbrev pub IsToInterrogate : List ℕ → Type 0
IsToInterrogate octets =
    ((slice_index octets 0 ≡ 100) × (slice_index octets 9 ≡ 20))
    ⊎ ((slice_index octets 0 ≡ 101) × (slice_index octets 9 ≡ 5))

-- under a common address that is known, or for all stations, while none is pending
pub record SpellsInterrogation (setup : Setup) (pending : Bool) (octets : List ℕ) : Type 0 where
  pub interrogation : IsToInterrogate octets
  pub activation : IsActivation octets
  pub station : HasAddress setup (common_address_in octets) ⊎ (common_address_in octets ≡ 65535)
  pub object : IsForWholeStation octets
  pub alone : pending ≡ false
