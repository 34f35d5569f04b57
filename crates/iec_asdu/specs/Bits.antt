-- The quality bits that elements share (IEC 60870-5-101, 7.2.6).
use Rattle.std.specs.Prelude.{ℕ, ◌+◌, Bool, false}
use Rattle.gw_model.specs.Bits.{bit, is_set}
use Rattle.gw_model.specs.declared.observation.Quality.{Quality}

-- the bits that SIQ, DIQ and QDS have in common: 4 BL, 5 SB, 6 NT, 7 IV
abbrev pub quality_bits : Quality → ℕ
quality_bits q = bit 4 q.bl + bit 5 q.sb + bit 6 q.nt + bit 7 q.iv

-- the quality that those bits show, with this overflow
abbrev pub quality_of_bits : Bool → ℕ → Quality
quality_of_bits overflow octet = record {
  iv = is_set 7 octet;
  nt = is_set 6 octet;
  sb = is_set 5 octet;
  bl = is_set 4 octet;
  ov = overflow;
  cy = false;
  ca = false;
}

-- a quality descriptor, QDS: the overflow at bit 0, and the bits in common
abbrev pub descriptor : Quality → ℕ
descriptor q = bit 0 q.ov + quality_bits q

-- the quality that a descriptor shows
abbrev pub descriptor_quality : ℕ → Quality
descriptor_quality octet = quality_of_bits (is_set 0 octet) octet

-- the last octet of a binary counter reading: bits 0 to 4 are the sequence number, 0, then 5 CY, 6 CA, 7 IV
abbrev pub counter_bits : Quality → ℕ
counter_bits q = bit 5 q.cy + bit 6 q.ca + bit 7 q.iv

-- the quality that the last octet of a binary counter reading shows, whatever its sequence number
abbrev pub counter_quality : ℕ → Quality
counter_quality octet = record {
  iv = is_set 7 octet;
  nt = false;
  sb = false;
  bl = false;
  ov = false;
  cy = is_set 5 octet;
  ca = is_set 6 octet;
}
