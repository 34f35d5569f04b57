-- Octets of their bits: as they were written, and as they are read.
use Rattle.std.proofs.Common.{◌≡◌, ℕ, ℤ, zero, suc, ◌+◌, ◌*◌, ◌/◌, ◌%◌, ◌<◌, ◌≤◌, Bool, true, false}
use Rattle.std.proofs.Common.{cond, eqb, List, [], ◌∷◌, ap, ◌∙◌, arith, pos, negsuc, FitsSigned, eq-eqb, ne_eqb}
use Rattle.std.proofs.lemmas.Int.{ints, to_z-of_z, of_z-to_z}
use Rattle.std.proofs.lemmas.Nat.{from_le_bytes-to_le_bytes_2}
use Rattle.std.specs.Int.{w16, from_le_bytes, cast_signed, cast_unsigned}
use mir.ValLaws.{to_z-Fits}
use Rattle.gw_model.specs.Bits.{bit, is_set}
use Rattle.iec_command.specs.declared.command.SingleCommand.{SingleCommand}
use Rattle.iec_command.specs.declared.command.DoubleCommand.{DoubleCommand}
use Rattle.iec_command.specs.declared.command.SetpointCommand.{SetpointCommand}
use Rattle.iec_command.specs.Commands.{cause_octet, single_octet, single_of, double_octet, double_of, setpoint_octets, setpoint_of}

-- a bit as a number, and as part of an octet
weigh : (b : Bool) (weight : ℕ) → (cond b weight 0 ≡ cond b 1 0 * weight) × (cond b 1 0 ≤ 1)
weigh true weight = (omega arith, omega arith)
weigh false weight = (omega arith, omega arith)

-- the bit that a number is
bit_of : (n : ℕ) (b : Bool) → n ≡ cond b 1 0 → eqb n 1 ≡ b
bit_of n true e = eq-eqb n 1 e
bit_of n false e = ne_eqb n 1 (λ one. omega arith)

-- the number that a bit is
flag_of : (n weight : ℕ) → n < 2 → cond (eqb n 1) weight 0 ≡ n * weight
flag_of zero weight small = omega arith
flag_of (suc zero) weight small = omega arith
flag_of (suc (suc n)) weight small = absurd (omega arith)

-- ---- cause of transmission

module _ (cause : ℕ) (negative test : Bool) where
  pub cause_same : cause < 64 → cause_octet cause negative test % 64 ≡ cause
  cause_same small = omega (arith, weigh negative 64, weigh test 128)

  pub negative_same : is_set 6 (cause_octet cause negative test) ≡ negative
  negative_same =
      bit_of (cause_octet cause negative test / 64 % 2) negative (omega (arith, weigh negative 64, weigh test 128))

  pub test_same : is_set 7 (cause_octet cause negative test) ≡ test
  test_same =
      bit_of (cause_octet cause negative test / 128 % 2) test (omega (arith, weigh negative 64, weigh test 128))

pub cause_again : (octet : ℕ) → octet < 256 → cause_octet (octet % 64) (is_set 6 octet) (is_set 7 octet) ≡ octet
cause_again octet small =
    omega (arith, flag_of (octet / 64 % 2) 64 (omega arith), flag_of (octet / 128 % 2) 128 (omega arith))

-- ---- SCO

abbrev single : Bool → Bool → ℕ → Bool → SingleCommand
single on reserved qualifier select =
    record { on = on; reserved = reserved; qualifier = qualifier; select = select }

pub single_same : (x : SingleCommand) → x.qualifier < 32 → single_of (single_octet x) ≡ x
single_same x small =
    let sco = single_octet x in
    let on : is_set 0 sco ≡ x.on =
    bit_of (sco / 1 % 2) x.on (omega (arith, weigh x.on 1, weigh x.reserved 2, weigh x.select 128)) in
    let reserved : is_set 1 sco ≡ x.reserved =
    bit_of (sco / 2 % 2) x.reserved (omega (arith, weigh x.on 1, weigh x.reserved 2, weigh x.select 128)) in
    let qualifier : sco / 4 % 32 ≡ x.qualifier =
    omega (arith, weigh x.on 1, weigh x.reserved 2, weigh x.select 128) in
    let select : is_set 7 sco ≡ x.select =
    bit_of (sco / 128 % 2) x.select (omega (arith, weigh x.on 1, weigh x.reserved 2, weigh x.select 128)) in
    λ i. single (on i) (reserved i) (qualifier i) (select i)

pub single_again : (octet : ℕ) → octet < 256 → single_octet (single_of octet) ≡ octet
single_again octet small =
    let on = flag_of (octet / 1 % 2) 1 (omega arith) in
    let reserved = flag_of (octet / 2 % 2) 2 (omega arith) in
    let select = flag_of (octet / 128 % 2) 128 (omega arith) in
    omega arith

-- ---- DCO

abbrev double : ℕ → ℕ → Bool → DoubleCommand
double state qualifier select = record { state = state; qualifier = qualifier; select = select }

pub double_same : (x : DoubleCommand) → x.state < 4 → x.qualifier < 32 → double_of (double_octet x) ≡ x
double_same x low small =
    let dco = double_octet x in
    let state : dco % 4 ≡ x.state = omega (arith, weigh x.select 128) in
    let qualifier : dco / 4 % 32 ≡ x.qualifier = omega (arith, weigh x.select 128) in
    let select : is_set 7 dco ≡ x.select = bit_of (dco / 128 % 2) x.select (omega (arith, weigh x.select 128)) in
    λ i. double (state i) (qualifier i) (select i)

pub double_again : (octet : ℕ) → octet < 256 → double_octet (double_of octet) ≡ octet
double_again octet small = omega (arith, flag_of (octet / 128 % 2) 128 (omega arith))

-- ---- SVA and QOS

abbrev setpoint : ℤ → ℕ → Bool → SetpointCommand
setpoint value qualifier select = record { value = value; qualifier = qualifier; select = select }

unsigned_small : (z : ℤ) → FitsSigned w16 z → cast_unsigned w16 z < 65536
unsigned_small (pos n) fit = omega (arith, ints, fit)
unsigned_small (negsuc n) fit = omega (arith, ints)

pub cast_fits : (n : ℕ) → n < 65536 → FitsSigned w16 (cast_signed w16 n)
cast_fits n small = to_z-Fits w16 n (record { fits = small })

pub setpoint_same : (x : SetpointCommand) → FitsSigned w16 x.value → x.qualifier < 128
    → setpoint_of (setpoint_octets x) ≡ x
setpoint_same x fits small =
    let qos = x.qualifier % 128 + bit 7 x.select in
    let word = from_le_bytes-to_le_bytes_2 (cast_unsigned w16 x.value) (unsigned_small x.value fits) in
    let value = ap (λ (n : ℕ). cast_signed w16 n) word ∙ to_z-of_z w16 x.value fits in
    let qualifier : qos % 128 ≡ x.qualifier = omega (arith, weigh x.select 128) in
    let select : is_set 7 qos ≡ x.select = bit_of (qos / 128 % 2) x.select (omega (arith, weigh x.select 128)) in
    λ i. setpoint (value i) (qualifier i) (select i)

-- three octets
abbrev three : ℕ → ℕ → ℕ → List ℕ
three a b c = a ∷ b ∷ c ∷ []

-- the octets of a number
two_again : (m low high : ℕ) → m ≡ low + high * 256 → low < 256 → high < 256 → (m % 256 ≡ low) × (m / 256 % 256 ≡ high)
two_again m low high same small_low small_high = (omega arith, omega arith)

pub setpoint_again : (low high qos : ℕ) → low < 256 → high < 256 → qos < 256
    → setpoint_octets (setpoint_of (three low high qos)) ≡ three low high qos
setpoint_again low high qos small_low small_high small =
    let n = from_le_bytes w16 (three low high qos) in
    let word : cast_unsigned w16 (cast_signed w16 n) ≡ n = of_z-to_z w16 n (omega arith) in
    let both = two_again (cast_unsigned w16 (cast_signed w16 n)) low high word small_low small_high in
    let third : qos % 128 % 128 + bit 7 (is_set 7 qos) ≡ qos =
    omega (arith, flag_of (qos / 128 % 2) 128 (omega arith)) in
    λ i. three (both.0 i) (both.1 i) (third i)
