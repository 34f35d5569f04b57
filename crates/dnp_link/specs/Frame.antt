-- Frames as they are transmitted (IEEE Std 1815-2012, clause 9).
use Rattle.std.specs.Prelude.{ℕ, zero, suc, ◌+◌, ◌-◌, ◌*◌, ◌/◌, ◌%◌, min, Bool, true}
use Rattle.std.specs.Prelude.{◌&&◌, ◌==◌, List, [], ◌∷◌, ◌++◌, length, take, drop, slice_index}
use Rattle.dnp_link.specs.Crc.{crc_of}

-- what a frame carries
pub record FrameContent : Type 0 where
  pub control : ℕ
  pub destination : ℕ
  pub source : ℕ
  pub user : List ℕ

-- what a frame with these fields carries
abbrev pub frame_content : ℕ → ℕ → ℕ → List ℕ → FrameContent
frame_content control destination source user =
    record { control = control; destination = destination; source = source; user = user }

-- octets and their CRC, low octet first
unfoldable pub octets_with_crc : List ℕ → List ℕ
octets_with_crc octets = octets ++ crc_of octets % 256 ∷ crc_of octets / 256 ∷ []

-- START, LENGTH (the octets of control, addresses and user data), CONTROL, DESTINATION, SOURCE
abbrev pub header : FrameContent → List ℕ
header c =
    5 ∷ 100 ∷ (5 + length c.user) ∷ c.control ∷ (c.destination % 256) ∷ (c.destination / 256)
    ∷ (c.source % 256) ∷ (c.source / 256) ∷ []

-- how many blocks n octets of user data take
abbrev pub block_count : ℕ → ℕ
block_count n = (n + 15) / 16

-- n blocks: sixteen octets in each but the last, which has what is left
abbrev pub blocks : ℕ → List ℕ → List ℕ
blocks zero user = []
blocks (suc n) user = octets_with_crc (take 16 user) ++ blocks n (drop 16 user)

-- the frame that carries this
unfoldable pub frame : FrameContent → List ℕ
frame c = octets_with_crc (header c) ++ blocks (block_count (length c.user)) c.user

-- the octets of a frame that carries n octets of user data
abbrev pub frame_length : ℕ → ℕ
frame_length n = 10 + n + 2 * block_count n

-- the last two octets are the CRC of those before
unfoldable pub is_sealed : List ℕ → Bool
is_sealed block =
    let n = length block - 2 in
    crc_of (take n block) == slice_index block n + 256 * slice_index block (n + 1)

-- each of n blocks that have u octets of user data is followed by its CRC
abbrev pub are_sealed : ℕ → ℕ → List ℕ → Bool
are_sealed zero u octets = true
are_sealed (suc n) u octets =
    is_sealed (take (min 16 u + 2) octets) && are_sealed n (u - 16) (drop (min 16 u + 2) octets)

-- the u octets of user data of n blocks
abbrev pub user_data_in_blocks : ℕ → ℕ → List ℕ → List ℕ
user_data_in_blocks zero u octets = []
user_data_in_blocks (suc n) u octets =
    take (min 16 u) octets ++ user_data_in_blocks n (u - 16) (drop (min 16 u + 2) octets)
