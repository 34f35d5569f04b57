-- APDUs as they are transmitted (IEC 60870-5-104, clause 5).
use Rattle.std.specs.Prelude.{ℕ, ◌*◌, ◌/◌, ◌%◌, ◌<◌, ◌≤◌, List, [], ◌∷◌, ◌++◌, length, Option, Some, None}
use Rattle.iec_apci.specs.declared.apdu.Signal.{Signal}
use Rattle.iec_apci.specs.declared.apdu.Signal.TheVariants.{StartAct, StartCon, StopAct, StopCon, TestAct, TestCon}

-- what an APDU carries: N(S), N(R) and an ASDU; N(R); or a control function
pub data ApduContent : Type 0 where
  Information : ℕ → ℕ → List ℕ → ApduContent
  Supervisory : ℕ → ApduContent
  Unnumbered : Signal → ApduContent

-- a control function's first control octet
abbrev pub code_of : Signal → ℕ
code_of StartAct = 0x07
code_of StartCon = 0x0B
code_of StopAct = 0x13
code_of StopCon = 0x23
code_of TestAct = 0x43
code_of TestCon = 0x83

-- the con that confirms an act
abbrev pub confirmation_of : Signal → Option Signal
confirmation_of StartAct = Some StartCon
confirmation_of StartCon = None
confirmation_of StopAct = Some StopCon
confirmation_of StopCon = None
confirmation_of TestAct = Some TestCon
confirmation_of TestCon = None

-- two octets, the low one first
abbrev pub word : ℕ → List ℕ
word n = n % 256 ∷ n / 256 ∷ []

-- four control octets, a number shifted left by one, and in I format the ASDU behind them
abbrev pub body : ApduContent → List ℕ
body (Information ns nr asdu) = word (2 * ns) ++ word (2 * nr) ++ asdu
body (Supervisory nr) = word 1 ++ word (2 * nr)
body (Unnumbered signal) = word (code_of signal) ++ word 0

-- the octet that each APDU begins with
abbrev pub start_octet : ℕ
start_octet = 0x68

-- the start octet, how many octets follow, and these
abbrev pub apdu : ApduContent → List ℕ
apdu c = start_octet ∷ length (body c) ∷ body c

-- a sequence number has 15 bits
abbrev pub IsNumber : ℕ → Type 0
IsNumber n = n < 32768

-- an ASDU has at most 249 octets
abbrev pub Fits : ApduContent → Type 0
Fits (Information ns nr asdu) = IsNumber ns × IsNumber nr × (length asdu ≤ 249)
Fits (Supervisory nr) = IsNumber nr
Fits (Unnumbered signal) = Unit {0}
