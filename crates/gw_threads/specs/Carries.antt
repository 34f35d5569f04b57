-- What an APDU tells that is put out to a client.
use Rattle.std.specs.Prelude.{◌≡◌, ℕ, ◌%◌, Bool, true, ◌==◌, ◌||◌, IsSomeAnd}
use Rattle.std.specs.List.{AllByRecursion}
use Rattle.gw_model.specs.Fit.{IsFit}
use Rattle.gw_model.specs.Clocks.{Clocks}
use Rattle.iec_apci.specs.declared.buffer.ApduBuf.{ApduBuf}
use Rattle.gw_answers.specs.Meaning.{Meant, Tells, Commands, Unread}
use Rattle.gw_steps.specs.Said.{ApduMeaning, IFormat, SFormat, UFormat, said}

-- the causes of process information: spontaneous (3), request (5), interrogated by station interrogation (20) and
-- requested by general counter request (37)
abbrev pub is_reporting : ℕ → Bool
is_reporting cause = cause == 3 || cause == 5 || cause == 20 || cause == 37

-- process information with such a cause, in bits 0 to 5 of its octet, tells of fit observations alone, where clocks are
-- clocks minutes ahead of UTC
abbrev pub TellsFit : Clocks → Meant → Type 0
TellsFit clocks (Tells asdu) =
    is_reporting (asdu.cause % 64) ≡ true → AllByRecursion (IsFit clocks) asdu.observations
TellsFit clocks (Commands command) = Unit {0}
TellsFit clocks (Unread octets) = Unit {0}

abbrev pub SaysFit : Clocks → ApduMeaning → Type 0
SaysFit clocks (IFormat ns nr meant) = TellsFit clocks meant
SaysFit clocks (SFormat nr) = Unit {0}
SaysFit clocks (UFormat signal) = Unit {0}

-- the octets are one APDU, and its process information is so
abbrev pub CarriesFit : Clocks → ApduBuf → Type 0
CarriesFit clocks apdu = IsSomeAnd (said clocks apdu) (SaysFit clocks)
