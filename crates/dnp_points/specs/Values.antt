-- What the octets of an object give: flags, a value and a time (IEEE Std 1815, Annex A), and the report of them.
use Rattle.std.specs.Prelude.{ℕ, ℤ, pos, ◌+◌, ◌*◌, ◌/◌, ◌%◌, ◌^◌, ◌<◌, ◌-ℤ◌, nat_lt, nat_le}
use Rattle.std.specs.Prelude.{◌==◌, ◌||◌, Bool, true, false, IsTrue, List, [], ◌∷◌, length, if◌then◌else◌, refl}
use Rattle.std.proofs.Common.{arith}
use Rattle.std.proofs.lemmas.Bool.{lt-ltb}
use Rattle.gw_model.specs.declared.point.Kind.{Kind}
use Rattle.gw_model.specs.declared.point.Kind.TheVariants.{Binary, Output, Double, Counter, Analog}
use Rattle.gw_model.specs.declared.point.Raw.{Raw}
use Rattle.gw_model.specs.declared.point.Raw.TheVariants.{Bit, Two, Count, Number}
use Rattle.gw_model.specs.declared.point.Stamp.{Stamp}
use Rattle.gw_model.specs.declared.point.Stamp.TheVariants.{Untimed, At, Doubtful}
use Rattle.gw_model.specs.declared.point.Report.{Report}
use Rattle.gw_model.specs.Point.{is_of_kind, is_stamped}
use Rattle.dnp_objects.specs.Library.{Time, Timeless, Absolute, Relative}
use Rattle.dnp_objects.specs.Headers.{number}

-- ---- flags and values

-- the flags of an object: the octet as it is spelt, or 01 (online) where there is none
abbrev pub flags_of : List ℕ → ℕ
flags_of [] = 1
flags_of (octet ∷ octets) = octet

-- a number of some octets in two's complement, low octet first
abbrev pub signed_number : List ℕ → ℤ
signed_number octets =
    let n = number octets in
    let all = 256 ^ length octets in
    if nat_lt n (all / 2) then pos n else pos n -ℤ pos all

-- the value of an object: bit 7 of its flags, bits 6 and 7 of them, a count, or a number in two's complement
abbrev pub raw_of : Kind → ℕ → List ℕ → Raw
raw_of Binary flags value = Bit (nat_le 128 flags)
raw_of Output flags value = Bit (nat_le 128 flags)
raw_of Double flags value = Two (flags / 64 % 4)
raw_of Counter flags value = Count (number value)
raw_of Analog flags value = Number (signed_number value)

-- the bits of octets, low bits first in each
abbrev pub bits_of : List ℕ → List ℕ
bits_of [] = []
bits_of (o ∷ octets) =
    o % 2 ∷ o / 2 % 2 ∷ o / 4 % 2 ∷ o / 8 % 2 ∷ o / 16 % 2 ∷ o / 32 % 2 ∷ o / 64 % 2 ∷ o / 128 % 2 ∷ bits_of octets

-- a number of some bits, low bit first
abbrev pub number_of_bits : List ℕ → ℕ
number_of_bits [] = 0
number_of_bits (bit ∷ bits) = bit + 2 * number_of_bits bits

-- the value of a packed object with this state; no counter and no analog input is packed
abbrev pub packed_raw_of : Kind → ℕ → Raw
packed_raw_of Binary state = Bit (state == 1)
packed_raw_of Output state = Bit (state == 1)
packed_raw_of Double state = Two (state % 4)
packed_raw_of Counter state = Count 0
packed_raw_of Analog state = Number (pos 0)

-- ---- times

-- so many milliseconds after a common time, which is doubtful where that is; no time where there was none
abbrev pub stamp_after : Stamp → ℕ → Stamp
stamp_after Untimed milliseconds = Untimed
stamp_after (At base) milliseconds = At (base + milliseconds)
stamp_after (Doubtful base) milliseconds = Doubtful (base + milliseconds)

-- the time of an object, where the common time before it is given
abbrev pub stamp_of : Time → Stamp → List ℕ → Stamp
stamp_of Timeless common octets = Untimed
stamp_of Absolute common octets = At (number octets)
stamp_of Relative common octets = stamp_after common (number octets)

-- a static value has no time
abbrev pub stamp_where : Bool → Stamp → Stamp
stamp_where true stamp = stamp
stamp_where false stamp = Untimed

-- ---- reports

pub below_4 : (n : ℕ) → IsTrue (nat_lt (n % 4) 4)
below_4 n = lt-ltb _ _ (omega arith)

abbrev pub raw_fits : (kind : Kind) (flags : ℕ) (value : List ℕ) → IsTrue (is_of_kind kind (raw_of kind flags value))
raw_fits Binary flags value = refl
raw_fits Output flags value = refl
raw_fits Double flags value = below_4 (flags / 64)
raw_fits Counter flags value = refl
raw_fits Analog flags value = refl

abbrev pub packed_raw_fits : (kind : Kind) (state : ℕ) → IsTrue (is_of_kind kind (packed_raw_of kind state))
packed_raw_fits Binary state = refl
packed_raw_fits Output state = refl
packed_raw_fits Double state = below_4 state
packed_raw_fits Counter state = refl
packed_raw_fits Analog state = refl

abbrev pub stamp_fits : (event : Bool) (stamp : Stamp) → IsTrue (is_stamped event (stamp_where event stamp))
stamp_fits true stamp = refl
stamp_fits false stamp = refl

-- the report of a point with this index, by flags, octets of value and a time
abbrev pub report_of : ℕ → ℕ → Kind → Bool → ℕ → List ℕ → Stamp → Report
report_of outstation index kind event flags value stamp = record {
  key = record { outstation = outstation; kind = kind; index = index };
  raw = raw_of kind flags value;
  flags = flags;
  stamp = stamp_where event stamp;
  event = event;
  of_kind = raw_fits kind flags value;
  stamped = stamp_fits event stamp;
}

-- the report of a packed object with this state: online, and no time
abbrev pub packed_report_of : ℕ → ℕ → Kind → Bool → ℕ → Report
packed_report_of outstation index kind event state = record {
  key = record { outstation = outstation; kind = kind; index = index };
  raw = packed_raw_of kind state;
  flags = 1;
  stamp = stamp_where event Untimed;
  event = event;
  of_kind = packed_raw_fits kind state;
  stamped = stamp_fits event Untimed;
}

-- the static report of an online point with this value
abbrev pub online_report : (outstation : ℕ) (kind : Kind) (index : ℕ) (raw : Raw)
    → IsTrue (is_of_kind kind raw) → Report
online_report outstation kind index raw fits = record {
  key = record { outstation = outstation; kind = kind; index = index };
  raw = raw;
  flags = 1;
  stamp = Untimed;
  event = false;
  of_kind = fits;
  stamped = refl;
}

-- ---- what the functions of the crate ask

-- a time of 48 bits, or none
abbrev pub IsClock : Stamp → Type 0
IsClock Untimed = Unit {0}
IsClock (At milliseconds) = milliseconds < 2 ^ 48
IsClock (Doubtful milliseconds) = milliseconds < 2 ^ 48

-- a count and a number have two octets or four
abbrev pub is_wide_enough : Kind → ℕ → Bool
is_wide_enough Binary octets = true
is_wide_enough Output octets = true
is_wide_enough Double octets = true
is_wide_enough Counter octets = (octets == 2) || (octets == 4)
is_wide_enough Analog octets = (octets == 2) || (octets == 4)

-- packed objects have one bit or two
abbrev pub is_packed_width : ℕ → Bool
is_packed_width bits = (bits == 1) || (bits == 2)
