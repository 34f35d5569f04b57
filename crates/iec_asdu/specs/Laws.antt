-- The laws of the elements: what is written fills the element, and is read again.
use Rattle.std.specs.Prelude.{◌≡◌, ℕ, ℤ, ◌==◌, if◌then◌else◌, ◌+◌, ◌/◌, ◌%◌, ◌<◌}
use Rattle.std.specs.Prelude.{Bool, true, false, Some, None, length, refl, IsTrue, nat_lt, ◌&&◌, not}
use Rattle.std.proofs.Common.{arith, ap, ◌∙◌, pos, negsuc}
use Rattle.std.specs.Prelude.{FitsSigned}
use Rattle.std.proofs.lemmas.Int.{to_z-of_z, ints}
use Rattle.std.proofs.lemmas.Bool.{ltb-true, and_parts}
use Rattle.std.proofs.lemmas.Nat.{from_le_bytes-to_le_bytes_2, from_le_bytes-to_le_bytes_4}
use Rattle.std.specs.Int.{w16, cast_signed, cast_unsigned}
use Rattle.gw_model.specs.declared.observation.Quality.{Quality}
use Rattle.iec_asdu.specs.declared.elements.SinglePoint.{SinglePoint}
use Rattle.iec_asdu.specs.declared.elements.DoublePoint.{DoublePoint}
use Rattle.iec_asdu.specs.declared.elements.BitString.{BitString}
use Rattle.iec_asdu.specs.declared.elements.ScaledValue.{ScaledValue}
use Rattle.iec_asdu.specs.declared.elements.CounterReading.{CounterReading}
use Rattle.gw_model.specs.Bits.{bit, is_set}
use Rattle.iec_asdu.specs.Bits.{quality_bits, quality_of_bits, descriptor, descriptor_quality, counter_bits, counter_quality}
use Rattle.iec_asdu.specs.Elements.{single_spelling, single_meaning, IsSingleFit, double_spelling, double_meaning}
use Rattle.iec_asdu.specs.Elements.{IsDoubleFit, word_spelling, word_meaning, IsWordFit, scaled_spelling}
use Rattle.iec_asdu.specs.Elements.{scaled_meaning, IsScaledFit, counter_spelling, counter_meaning, IsCounterFit}

pub single_fills : (x : SinglePoint) → length (single_spelling x) ≡ 1
single_fills x = refl

pub double_fills : (x : DoublePoint) → length (double_spelling x) ≡ 1
double_fills x = refl

pub word_fills : (x : BitString) → length (word_spelling x) ≡ 5
word_fills x = refl

pub scaled_fills : (x : ScaledValue) → length (scaled_spelling x) ≡ 3
scaled_fills x = refl

pub counter_fills : (x : CounterReading) → length (counter_spelling x) ≡ 5
counter_fills x = refl

abbrev quality_of : Bool → Bool → Bool → Bool → Bool → Bool → Bool → Quality
quality_of iv nt sb bl ov cy ca = record { iv = iv; nt = nt; sb = sb; bl = bl; ov = ov; cy = cy; ca = ca }

-- the quality of a state: the bits that SIQ and DIQ have
abbrev state_quality : Bool → Bool → Bool → Bool → Quality
state_quality iv nt sb bl = quality_of iv nt sb bl false false false

-- ---- QDS

-- above four other bits the bits in common are read again
bits_again : (low : ℕ) (iv nt sb bl : Bool) → low < 16
    → quality_of_bits false (low + quality_bits (state_quality iv nt sb bl)) ≡ state_quality iv nt sb bl
bits_again low iv nt sb bl small = grind arith

-- a descriptor has no reserved bit, and shows the quality that it was made of
abbrev IsDescriptorAgain : Quality → Type 0
IsDescriptorAgain q = ((descriptor q / 2 % 8 == 0) ≡ true) × (descriptor_quality (descriptor q) ≡ q)

bit_small : (b : Bool) → bit 0 b < 16
bit_small b = grind arith

descriptor_plain : (iv nt sb bl ov : Bool)
    → (descriptor (quality_of iv nt sb bl ov false false) / 2 % 8 == 0) ≡ true
descriptor_plain iv nt sb bl ov = grind arith

descriptor_lowest : (iv nt sb bl ov : Bool) → is_set 0 (descriptor (quality_of iv nt sb bl ov false false)) ≡ ov
descriptor_lowest iv nt sb bl ov = grind arith

abbrev with_overflow : Bool → Quality → Quality
with_overflow ov q = quality_of q.iv q.nt q.sb q.bl ov q.cy q.ca

descriptor_same : (iv nt sb bl ov : Bool)
    → let q = quality_of iv nt sb bl ov false false in descriptor_quality (descriptor q) ≡ q
descriptor_same iv nt sb bl ov =
    let octet = descriptor (quality_of iv nt sb bl ov false false) in
    ap (λ (o : Bool). quality_of_bits o octet) (descriptor_lowest iv nt sb bl ov)
    ∙ ap (with_overflow ov) (bits_again (bit 0 ov) iv nt sb bl (bit_small ov))

descriptor_cases : (iv nt sb bl ov cy ca : Bool) → IsTrue (not cy && not ca)
    → IsDescriptorAgain (quality_of iv nt sb bl ov cy ca)
descriptor_cases iv nt sb bl ov false false fit = (descriptor_plain iv nt sb bl ov, descriptor_same iv nt sb bl ov)
descriptor_cases iv nt sb bl ov _ _ fit = absurd cc

descriptor_again : (q : Quality) → IsTrue (not q.cy && not q.ca) → IsDescriptorAgain q
descriptor_again q fit = descriptor_cases q.iv q.nt q.sb q.bl q.ov q.cy q.ca fit

-- a value with its quality, read behind the test of the reserved bits
value_chosen : {A B : Type 0} (make : A → Quality → B) (n m : A) (p q : Quality) (b : Bool) → b ≡ true → n ≡ m → p ≡ q
    → (if b then Some (make n p) else None) ≡ Some (make m q)
value_chosen make n m p q true _ en eq = cc
value_chosen make n m p q false e _ _ = absurd cc

-- ---- SIQ

abbrev single_of : Bool → Quality → SinglePoint
single_of on q = record { on = on; quality = q }

-- what is spelled means it again
abbrev IsSingleAgain : SinglePoint → Type 0
IsSingleAgain x = single_meaning (single_spelling x) ≡ Some x

-- the state stands where a descriptor has its overflow
single_same : (on iv nt sb bl : Bool) → IsSingleAgain (single_of on (state_quality iv nt sb bl))
single_same on iv nt sb bl =
    value_chosen single_of _ on _ (state_quality iv nt sb bl) _ (descriptor_plain iv nt sb bl on)
    (descriptor_lowest iv nt sb bl on) (bits_again (bit 0 on) iv nt sb bl (bit_small on))

single_cases : (on iv nt sb bl ov cy ca : Bool) → IsSingleFit (single_of on (quality_of iv nt sb bl ov cy ca))
    → IsSingleAgain (single_of on (quality_of iv nt sb bl ov cy ca))
single_cases on iv nt sb bl false false false fit = single_same on iv nt sb bl
single_cases on iv nt sb bl _ _ _ fit = absurd cc

pub single_again : (x : SinglePoint) → IsSingleFit x → single_meaning (single_spelling x) ≡ Some x
single_again x fit =
    let q = x.quality in
    single_cases x.on q.iv q.nt q.sb q.bl q.ov q.cy q.ca fit

-- ---- DIQ

abbrev double_of : ℕ → Quality → DoublePoint
double_of state q = record { state = state; quality = q }

-- what is spelled means it again
abbrev IsDoubleAgain : DoublePoint → Type 0
IsDoubleAgain x = double_meaning (double_spelling x) ≡ Some x

double_plain : (state : ℕ) (iv nt sb bl : Bool)
    → ((state % 4 + quality_bits (state_quality iv nt sb bl)) / 4 % 4 == 0) ≡ true
double_plain state iv nt sb bl = grind arith

double_lowest : (state : ℕ) (iv nt sb bl : Bool) → state < 4
    → (state % 4 + quality_bits (state_quality iv nt sb bl)) % 4 ≡ state
double_lowest state iv nt sb bl small = grind arith

double_same : (state : ℕ) (iv nt sb bl : Bool) → state < 4 → IsDoubleAgain (double_of state (state_quality iv nt sb bl))
double_same state iv nt sb bl small =
    value_chosen double_of _ state _ (state_quality iv nt sb bl) _ (double_plain state iv nt sb bl)
    (double_lowest state iv nt sb bl small) (bits_again (state % 4) iv nt sb bl (omega arith))

-- the parts of a fit double point
double_parts : (state : ℕ) (a b c : Bool) → IsTrue (nat_lt state 4 && not a && not b && not c)
    → (state < 4) × (a ≡ false) × (b ≡ false) × (c ≡ false)
double_parts state false false false fit = (ltb-true state 4 (grind (arith, and_parts)), refl, refl, refl)
double_parts state _ _ _ fit = absurd (grind (arith, and_parts))

double_cases : (state : ℕ) (iv nt sb bl ov cy ca : Bool) → state < 4 → ov ≡ false → cy ≡ false → ca ≡ false
    → IsDoubleAgain (double_of state (quality_of iv nt sb bl ov cy ca))
double_cases state iv nt sb bl false false false small _ _ _ = double_same state iv nt sb bl small
double_cases state iv nt sb bl _ _ _ small eo ey ea = absurd cc

pub double_again : (x : DoublePoint) → IsDoubleFit x → double_meaning (double_spelling x) ≡ Some x
double_again x fit =
    let q = x.quality in
    let p = double_parts x.state q.ov q.cy q.ca fit in
    double_cases x.state q.iv q.nt q.sb q.bl q.ov q.cy q.ca p.0 p.1 p.2 p.3

-- ---- BSI

abbrev word_of : ℕ → Quality → BitString
word_of n q = record { word = n; quality = q }

pub word_again : (x : BitString) → IsWordFit x → word_meaning (word_spelling x) ≡ Some x
word_again x fit =
    let q = descriptor_again x.quality fit.0 in
    let n = from_le_bytes-to_le_bytes_4 x.word fit.1 in
    value_chosen word_of _ x.word _ x.quality (descriptor x.quality / 2 % 8 == 0) q.0 n q.1

-- ---- SVA

abbrev scaled_of : ℤ → Quality → ScaledValue
scaled_of z q = record { value = z; quality = q }

unsigned_small : (z : ℤ) → FitsSigned w16 z → cast_unsigned w16 z < 65536
unsigned_small (pos n) fit = omega (arith, ints, fit)
unsigned_small (negsuc n) fit = omega (arith, ints)

pub scaled_again : (x : ScaledValue) → IsScaledFit x → scaled_meaning (scaled_spelling x) ≡ Some x
scaled_again x fit =
    let q = descriptor_again x.quality fit.0 in
    let u = from_le_bytes-to_le_bytes_2 (cast_unsigned w16 x.value) (unsigned_small x.value fit.1) in
    let z = ap (λ (n : ℕ). cast_signed w16 n) u ∙ to_z-of_z w16 x.value fit.1 in
    value_chosen scaled_of _ x.value _ x.quality (descriptor x.quality / 2 % 8 == 0) q.0 z q.1

-- ---- BCR

abbrev counter_of : ℕ → Quality → CounterReading
counter_of n q = record { count = n; quality = q }

-- the quality of a counter: the bits that it has
abbrev total_quality : Bool → Bool → Bool → Quality
total_quality iv cy ca = quality_of iv false false false false cy ca

counter_same : (iv cy ca : Bool) → counter_quality (counter_bits (total_quality iv cy ca)) ≡ total_quality iv cy ca
counter_same iv cy ca = grind arith

counter_cases : (iv nt sb bl ov cy ca : Bool) → IsTrue (not nt && not sb && not bl && not ov)
    → counter_quality (counter_bits (quality_of iv nt sb bl ov cy ca)) ≡ quality_of iv nt sb bl ov cy ca
counter_cases iv false false false false cy ca fit = counter_same iv cy ca
counter_cases iv _ _ _ _ cy ca fit = absurd cc

counter_made : (n m : ℕ) (p q : Quality) → n ≡ m → p ≡ q → Some (counter_of n p) ≡ Some (counter_of m q)
counter_made n m p q en eq = cc

pub counter_again : (x : CounterReading) → IsCounterFit x → counter_meaning (counter_spelling x) ≡ Some x
counter_again x fit =
    let q = x.quality in
    let e = counter_cases q.iv q.nt q.sb q.bl q.ov q.cy q.ca fit.0 in
    counter_made _ x.count _ q (from_le_bytes-to_le_bytes_4 x.count fit.1) e
