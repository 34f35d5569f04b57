-- The quality of a point, from the flags of its object (IEEE Std 1815, 11.6, to IEC 60870-5-101, 7.2.6.3 and 7.2.6.9).
use Rattle.std.specs.Prelude.{ℕ, ◌/◌, ◌%◌, Bool, false, not, ◌||◌, ◌==◌}
use Rattle.gw_model.specs.declared.point.Kind.{Kind}
use Rattle.gw_model.specs.declared.point.Kind.TheVariants.{Binary, Output, Double, Counter, Analog}
use Rattle.gw_model.specs.declared.observation.Quality.{Quality}

-- bit 0 of the flags: the point is online
abbrev pub online : ℕ → Bool
online flags = flags % 2 == 1

-- bit 1: the value is from before a restart
abbrev pub restart : ℕ → Bool
restart flags = (flags / 2) % 2 == 1

-- bit 2: the outstation lost the point's source
abbrev pub comm_lost : ℕ → Bool
comm_lost flags = (flags / 4) % 2 == 1

-- bits 3 and 4: the value is forced, remotely or locally
abbrev pub forced : ℕ → Bool
forced flags = ((flags / 8) % 2 == 1) || ((flags / 16) % 2 == 1)

-- bit 5: CHATTER_FILTER of a binary or double-bit input, ROLLOVER of a counter, OVER_RANGE of an analog input
abbrev pub bit_5 : ℕ → Bool
bit_5 flags = (flags / 32) % 2 == 1

-- bit 6: DISCONTINUITY of a counter, REFERENCE_ERR of an analog input
abbrev pub bit_6 : ℕ → Bool
bit_6 flags = (flags / 64) % 2 == 1

-- a point with this IV, BL and OV, whose NT and SB are the flags'
abbrev pub quality_by_flags : ℕ → Bool → Bool → Bool → Quality
quality_by_flags flags iv bl ov =
    record { iv = iv; nt = comm_lost flags; sb = forced flags; bl = bl; ov = ov; cy = false; ca = false }

-- the quality of a point of a kind with these flags; a binary counter reading has no NT, so its IV stands for it
abbrev pub quality_of : Kind → ℕ → Quality
quality_of Binary flags = quality_by_flags flags (not (online flags) || restart flags) (bit_5 flags) false
quality_of Double flags = quality_by_flags flags (not (online flags) || restart flags) (bit_5 flags) false
quality_of Output flags = quality_by_flags flags (not (online flags) || restart flags) false false
quality_of Analog flags =
    quality_by_flags flags (not (online flags) || restart flags || bit_6 flags) false (bit_5 flags)
quality_of Counter flags = record {
  iv = not (online flags) || restart flags || comm_lost flags;
  nt = false;
  sb = false;
  bl = false;
  ov = false;
  cy = bit_5 flags;
  ca = bit_6 flags;
}
