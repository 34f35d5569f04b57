-- The information elements of process information in monitor direction (IEC 60870-5-101, 7.2.6): how a
-- value is spelled, and what octets mean. Octets with a reserved bit set mean nothing.
use Rattle.std.specs.Prelude.{ℕ, ◌+◌, ◌/◌, ◌%◌, ◌^◌, ◌<◌, false, List, [], ◌∷◌, ◌++◌}
use Rattle.std.specs.Prelude.{Option, Some, None, ◌==◌, if◌then◌else◌, slice_index, IsTrue, FitsSigned}
use Rattle.std.specs.Int.{w16, w32, to_le_bytes, from_le_bytes, cast_signed, cast_unsigned}
use Rattle.gw_model.specs.declared.observation.Value.TheVariants.{Single, Double, Scaled, Word, Total}
use Rattle.gw_model.specs.Fit.{is_of_element}
use Rattle.iec_asdu.specs.declared.elements.SinglePoint.{SinglePoint}
use Rattle.iec_asdu.specs.declared.elements.DoublePoint.{DoublePoint}
use Rattle.iec_asdu.specs.declared.elements.BitString.{BitString}
use Rattle.iec_asdu.specs.declared.elements.ScaledValue.{ScaledValue}
use Rattle.iec_asdu.specs.declared.elements.CounterReading.{CounterReading}
use Rattle.gw_model.specs.Bits.{bit, is_set}
use Rattle.iec_asdu.specs.Bits.{quality_bits, quality_of_bits, descriptor, descriptor_quality, counter_bits, counter_quality}

-- SIQ (7.2.6.1): bit 0 is the state, bits 1 to 3 are reserved
abbrev pub single_spelling : SinglePoint → List ℕ
single_spelling x = (bit 0 x.on + quality_bits x.quality) ∷ []

abbrev pub single_meaning : List ℕ → Option SinglePoint
single_meaning octets =
    let siq = slice_index octets 0 in
    if siq / 2 % 8 == 0 then Some (record { on = is_set 0 siq; quality = quality_of_bits false siq }) else None

-- DIQ (7.2.6.2): bits 0 and 1 are the state, bits 2 and 3 are reserved
abbrev pub double_spelling : DoublePoint → List ℕ
double_spelling x = (x.state % 4 + quality_bits x.quality) ∷ []

abbrev pub double_meaning : List ℕ → Option DoublePoint
double_meaning octets =
    let diq = slice_index octets 0 in
    if diq / 4 % 4 == 0 then Some (record { state = diq % 4; quality = quality_of_bits false diq }) else None

-- BSI (7.2.6.13), 32 bits, and QDS (7.2.6.3), whose bits 1 to 3 are reserved
abbrev pub word_spelling : BitString → List ℕ
word_spelling x = to_le_bytes w32 x.word ++ descriptor x.quality ∷ []

abbrev pub word_meaning : List ℕ → Option BitString
word_meaning octets =
    let qds = slice_index octets 4 in
    if qds / 2 % 8 == 0
    then Some (record { word = from_le_bytes w32 octets; quality = descriptor_quality qds })
    else None

-- SVA (7.2.6.7), 16 bits in two's complement, and QDS
abbrev pub scaled_spelling : ScaledValue → List ℕ
scaled_spelling x = to_le_bytes w16 (cast_unsigned w16 x.value) ++ descriptor x.quality ∷ []

abbrev pub scaled_meaning : List ℕ → Option ScaledValue
scaled_meaning octets =
    let qds = slice_index octets 2 in
    if qds / 2 % 8 == 0
    then Some (record { value = cast_signed w16 (from_le_bytes w16 octets); quality = descriptor_quality qds })
    else None

-- BCR (7.2.6.9): 32 bits of count, then sequence number, CY, CA and IV
abbrev pub counter_spelling : CounterReading → List ℕ
counter_spelling x = to_le_bytes w32 x.count ++ counter_bits x.quality ∷ []

abbrev pub counter_meaning : List ℕ → Option CounterReading
counter_meaning octets =
    Some (record { count = from_le_bytes w32 octets; quality = counter_quality (slice_index octets 4) })

-- what the elements can show: the quality bits that they have and no other, a state of two bits, and numbers of
-- their width
abbrev pub IsSingleFit : SinglePoint → Type 0
IsSingleFit x = IsTrue (is_of_element (Single x.on) x.quality)

abbrev pub IsDoubleFit : DoublePoint → Type 0
IsDoubleFit x = IsTrue (is_of_element (Double x.state) x.quality)

abbrev pub IsWordFit : BitString → Type 0
IsWordFit x = IsTrue (is_of_element (Word x.word) x.quality) × (x.word < 2 ^ 32)

abbrev pub IsScaledFit : ScaledValue → Type 0
IsScaledFit x = IsTrue (is_of_element (Scaled x.value) x.quality) × FitsSigned w16 x.value

abbrev pub IsCounterFit : CounterReading → Type 0
IsCounterFit x = IsTrue (is_of_element (Total x.count) x.quality) × (x.count < 2 ^ 32)
