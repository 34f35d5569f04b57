-- What an ASDU of a client gets for an answer at once (IEC 60870-5-101, 7.2.3 and 7.4), while a picture is shown, and an
-- interrogation is pending or not: by what it spells, apart from the code's look-ups.
use Rattle.std.specs.Prelude.{◌≡◌, ◌≢◌, ℕ, Bool, true, false, ◌⊎◌, List, ◌∷◌, slice_get, Some, Ok}
use Rattle.gw_model.specs.declared.observation.Observation.{Observation}
use Rattle.gw_entries.specs.declared.row.Row.{Row}
use Rattle.gw_model.specs.declared.point.ObjectKey.{ObjectKey}
use Rattle.gw_map.specs.Settings.{Setup, row_object, known_addresses}
use Rattle.iec_apci.specs.declared.apdu.Asdu.{Asdu}
use Rattle.iec_command.specs.declared.command.Command.{Command}
use Rattle.iec_command.specs.declared.command.Action.{Action}
use Rattle.iec_command.specs.declared.command.Action.TheVariants.{Interrogation, CounterInterrogation, Read}
use Rattle.iec_command.specs.Commands.{command_of}
use Rattle.gw_judge.specs.Acceptable.{IsAcceptable, object_for}
use Rattle.gw_judge.specs.Refusals.{ComesBackWith}
use Rattle.gw_answers.specs.declared.outgoing.AsduAnswer.{AsduAnswer}
use Rattle.gw_answers.specs.declared.outgoing.AsduAnswer.TheVariants.{Returned, Made}
use Rattle.gw_answers.specs.declared.outgoing.OwnAsdu.TheVariants as outgoing
use Rattle.gw_answers.specs.Octets.{octets_in}

-- ---- interrogations

abbrev pub IsInterrogation : Action → Type 0
IsInterrogation (Interrogation qualifier) = Unit {0}
IsInterrogation (CounterInterrogation qualifier) = Unit {0}
IsInterrogation _ = ⊥

-- the whole station (QOI 20), or all counters without freeze or reset (QCC 5)
abbrev pub IsGeneral : Action → Type 0
IsGeneral (Interrogation qualifier) = qualifier ≡ 20
IsGeneral (CounterInterrogation qualifier) = qualifier ≡ 5
IsGeneral _ = ⊥

-- the activation of such a one, while none is pending
pub record BeginsAnswer (pending : Bool) (c : Command) : Type 0 where
  pub activation : c.cause ≡ 6
  pub general : IsGeneral c.action
  pub alone : pending ≡ false

-- an activation (6) is confirmed with cause 7, a deactivation (8) with cause 9
abbrev pub IsConfirmedWith : ℕ → ℕ → Type 0
IsConfirmedWith cause confirmation =
    ((cause ≡ 6) × (confirmation ≡ 7)) ⊎ ((cause ≡ 8) × (confirmation ≡ 9))

-- by which common address what is for one, or for all stations (65535), is refused: by that one, or the first known one
abbrev pub IsRefusedBy : Setup → ℕ → ℕ → Type 0
IsRefusedBy setup common by =
    ((common ≢ 65535) × (by ≡ common))
    ⊎ ((common ≡ 65535) × ((more : List ℕ) × (known_addresses setup ≡ by ∷ more)))

-- an interrogation that begins no answer is confirmed negatively, and else as it came
pub record IsRefusedAct (setup : Setup) (pending : Bool) (octets : List ℕ) (told : Command) : Type 0 where
  pub act : Command
  pub spelled : command_of octets ≡ Ok act
  pub acceptable : IsAcceptable setup act
  pub interrogation : IsInterrogation act.action
  pub refused : BeginsAnswer pending act → ⊥
  pub cause : IsConfirmedWith act.cause told.cause
  pub by : IsRefusedBy setup act.common_address told.common_address
  pub else_as_it_came :
      told ≡ record act { cause = told.cause; negative = true; common_address = told.common_address }

-- ---- reads

-- the picture shows this of the row with an object
pub record IsShownAt (setup : Setup) (picture : List Observation) (object : ObjectKey) (x : Observation) : Type 0 where
  pub place : ℕ
  pub row : Row
  pub there : slice_get setup.rows place ≡ Some row
  pub has_object : row_object row ≡ object
  pub shown : slice_get picture place ≡ Some x

-- a row that is read is told with cause 5, and the originator of the request
pub record IsRead (setup : Setup) (picture : List Observation) (octets : List ℕ) (cause originator : ℕ)
    (x : Observation) : Type 0 where
  pub read : Command
  pub spelled : command_of octets ≡ Ok read
  pub acceptable : IsAcceptable setup read
  pub is_read : read.action ≡ Read
  pub requested : cause ≡ 5
  pub answered : originator ≡ read.originator
  pub shown : IsShownAt setup picture (object_for read) x

-- ---- all answers

abbrev pub Gets : Setup → List Observation → Bool → Asdu → AsduAnswer → Type 0
Gets setup picture pending asdu (Returned back cause) = (back ≡ asdu) × ComesBackWith setup (octets_in asdu) cause
Gets setup picture pending asdu (Made (outgoing.Command told)) = IsRefusedAct setup pending (octets_in asdu) told
Gets setup picture pending asdu (Made (outgoing.Observation cause originator x)) =
    IsRead setup picture (octets_in asdu) cause originator x
