-- What a type identification tells: the element, and whether a time tag stands behind it.
use Rattle.std.proofs.Common.{◌≡◌, ◌≢◌, ℕ, ◌<◌, ◌≤◌, ◌==◌, Bool, true, false}
use Rattle.std.proofs.Common.{Some, if◌then◌else◌, not, refl, sym, ap, ◌∙◌, arith, rules}
use Rattle.gw_model.specs.Clocks.{Clocks}
use denote.Enum.Bare.{sameb, differs_true, differs_false}
use mathlib.Core.Bool.{beq}
use Rattle.iec_asdu.specs.contracts.types.ElementKind.{the_type}
use Rattle.iec_asdu.specs.declared.types.ElementKind.{ElementKind}
use Rattle.iec_asdu.specs.declared.types.ElementKind.TheVariants.{SinglePoint, DoublePoint, BitString, ScaledValue, CounterReading}
use Rattle.iec_asdu.specs.declared.types.MonitorType.{MonitorType}
use Rattle.iec_asdu.specs.Types.{identification_by, type_length, layout_at}
use Rattle.iec_asdu.specs.Asdu.{monitor_types, layout_of}

abbrev pub typed : ElementKind → Bool → MonitorType
typed kind timed = record { element = kind; timed = timed }

-- the type with an identification
abbrev named : ℕ → MonitorType
named n =
    if n == 1 then typed SinglePoint false else (if n == 30 then typed SinglePoint true
    else (if n == 3 then typed DoublePoint false else (if n == 31 then typed DoublePoint true
    else (if n == 7 then typed BitString false else (if n == 33 then typed BitString true
    else (if n == 11 then typed ScaledValue false else (if n == 35 then typed ScaledValue true
    else (if n == 15 then typed CounterReading false else typed CounterReading true))))))))

named_again : (kind : ElementKind) (timed : Bool) → named (identification_by kind timed) ≡ typed kind timed
named_again SinglePoint false = refl
named_again SinglePoint true = refl
named_again DoublePoint false = refl
named_again DoublePoint true = refl
named_again BitString false = refl
named_again BitString true = refl
named_again ScaledValue false = refl
named_again ScaledValue true = refl
named_again CounterReading false = refl
named_again CounterReading true = refl

-- no two types have one identification
pub same_type : (kind other : ElementKind) (timed tagged : Bool)
    → identification_by kind timed ≡ identification_by other tagged → typed kind timed ≡ typed other tagged
same_type kind other timed tagged same =
    sym (named_again kind timed) ∙ (ap (λ (n : ℕ). named n) same ∙ named_again other tagged)

-- each is known
pub type_known : (clocks : Clocks) (kind : ElementKind) (timed : Bool)
    → layout_of (identification_by kind timed) (monitor_types clocks) ≡ Some (layout_at clocks (typed kind timed))
type_known clocks SinglePoint false = refl
type_known clocks SinglePoint true = refl
type_known clocks DoublePoint false = refl
type_known clocks DoublePoint true = refl
type_known clocks BitString false = refl
type_known clocks BitString true = refl
type_known clocks ScaledValue false = refl
type_known clocks ScaledValue true = refl
type_known clocks CounterReading false = refl
type_known clocks CounterReading true = refl

-- element and time tag have 1 to 12 octets
pub type_short : (kind : ElementKind) (timed : Bool)
    → (0 < type_length (typed kind timed)) × (type_length (typed kind timed) ≤ 12)
type_short SinglePoint false = (omega arith, omega arith)
type_short SinglePoint true = (omega arith, omega arith)
type_short DoublePoint false = (omega arith, omega arith)
type_short DoublePoint true = (omega arith, omega arith)
type_short BitString false = (omega arith, omega arith)
type_short BitString true = (omega arith, omega arith)
type_short ScaledValue false = (omega arith, omega arith)
type_short ScaledValue true = (omega arith, omega arith)
type_short CounterReading false = (omega arith, omega arith)
type_short CounterReading true = (omega arith, omega arith)

-- a type by its parts
pub typed_as : (kind : MonitorType) (element : ElementKind) (timed : Bool) → element ≡ kind.element
    → timed ≡ kind.timed → kind ≡ typed element timed
typed_as kind element timed same both = rw (same, both) refl

-- another element, or time on one side alone, is another type
pub other_element : (kind : MonitorType) (element : ElementKind) (timed : Bool) → element ≢ kind.element
    → identification_by element timed ≢ identification_by kind.element kind.timed
other_element kind element timed other same =
    other (ap (λ (t : MonitorType). t.element) (same_type element kind.element timed kind.timed same))

pub other_time : (kind : MonitorType) (element : ElementKind) (timed : Bool) → timed ≢ kind.timed
    → identification_by element timed ≢ identification_by kind.element kind.timed
other_time kind element timed other same =
    other (ap (λ (t : MonitorType). t.timed) (same_type element kind.element timed kind.timed same))

-- ---- what a comparison tells

pub element_is : (a b : ElementKind) → not (sameb the_type a b) ≡ false → a ≡ b
element_is a b same = differs_false the_type (search rules) a b same

pub element_is_not : (a b : ElementKind) → not (sameb the_type a b) ≡ true → a ≢ b
element_is_not a b other = differs_true the_type a b other

pub timed_is : (a b : Bool) → not (beq a b) ≡ false → a ≡ b
timed_is true true e = refl
timed_is false false e = refl
timed_is true false e = absurd cc
timed_is false true e = absurd cc

pub timed_is_not : (a b : Bool) → not (beq a b) ≡ true → a ≢ b
timed_is_not true true e same = absurd cc
timed_is_not false false e same = absurd cc
timed_is_not true false e same = absurd cc
timed_is_not false true e same = absurd cc
