-- Clients of the worked examples.
use Rattle.std.specs.Prelude.{ℕ, zero, suc, false, true, List, [], ◌∷◌, replicate}
use Rattle.std.proofs.Common.{lit≤}
use Rattle.gw_model.specs.declared.observation.Observation.{Observation}
use Rattle.gw_model.specs.declared.observation.Value.TheVariants.{Single}
use Rattle.gw_model.specs.declared.point.Stamp.TheVariants.{Untimed}
use Rattle.gw_model.specs.Clocks.{utc}
use Rattle.iec_apci.specs.declared.apdu.Asdu.{Asdu}
use Rattle.iec_apci.specs.declared.apdu.Apdu.{Apdu}
use Rattle.iec_apci.specs.declared.apdu.Apdu.TheVariants.{I, S, U}
use Rattle.iec_apci.specs.declared.apdu.Signal.TheVariants.{StartAct, TestAct}
use Rattle.iec_window.specs.Examples.{usual}
use Rattle.gw_map.specs.Settings.{Setup}
use Rattle.gw_judge.specs.Example.{of_two, setup}
use Rattle.gw_answers.specs.Example.{asdu_with, invalid, picture, shown_under}
use Rattle.gw_station.specs.Client.{Client, client_down, client_after_up, client_with_news}
use Rattle.gw_station.specs.Frames.{client_after_apdu}
use Rattle.gw_station.specs.Pump.{client_after_pump}

-- single-point 4101 is on
abbrev pub switched_on : Observation
switched_on = record {
  common = 1;
  address = 4101;
  value = Single true;
  quality = record { iv = false; nt = false; sb = false; bl = false; ov = false; cy = false; ca = false };
  stamp = Untimed;
}

-- so is that of common address 2
abbrev pub second_on : Observation
second_on = record switched_on { common = 2 }

-- ASDUs of 5 and of 6 octets, of a type that isn't known
abbrev pub cut : Asdu
cut = asdu_with (0 ∷ 0 ∷ 0 ∷ 0 ∷ 0 ∷ []) (lit≤ tt)

abbrev pub header_alone : Asdu
header_alone = asdu_with (0 ∷ 0 ∷ 0 ∷ 0 ∷ 0 ∷ 0 ∷ []) (lit≤ tt)

-- single-command 5001 is selected
abbrev pub command : Asdu
command = asdu_with (0x2D ∷ 1 ∷ 6 ∷ 0 ∷ 1 ∷ 0 ∷ 0x89 ∷ 0x13 ∷ 0 ∷ 0x81 ∷ []) (lit≤ tt)

-- the station interrogation, and a read of 4101
abbrev pub interrogation : Asdu
interrogation = asdu_with (0x64 ∷ 1 ∷ 6 ∷ 0 ∷ 1 ∷ 0 ∷ 0 ∷ 0 ∷ 0 ∷ 0x14 ∷ []) (lit≤ tt)

abbrev pub reading : Asdu
reading = asdu_with (0x66 ∷ 1 ∷ 5 ∷ 0 ∷ 1 ∷ 0 ∷ 5 ∷ 0x10 ∷ 0 ∷ []) (lit≤ tt)

-- k = 2 and w = 2
abbrev pub narrow : Client
narrow = client_down (record usual { k = 2; w = 2 }) 1000

abbrev pub connected : Client
connected = client_after_up 0 (client_down usual 1000)

-- these came at a moment, the first one first, while the picture of the settings showed this
abbrev pub taking_in : Setup → List Observation → ℕ → List Apdu → Client → Client
taking_in s rows moment [] c = c
taking_in s rows moment (apdu ∷ more) c = taking_in s rows moment more (client_after_apdu s rows moment apdu c)

abbrev pub taking : ℕ → List Apdu → Client → Client
taking moment apdus c = taking_in setup picture moment apdus c

-- so many pumps at a moment
abbrev pub pumped : ℕ → ℕ → Client → Client
pumped moment zero c = c
pumped moment (suc n) c = pumped moment n (client_after_pump utc moment c)

-- STARTDT was confirmed
abbrev pub started_from : Client → Client
started_from c = pumped 0 1 (taking 0 (U StartAct ∷ []) (client_after_up 0 c))

abbrev pub started : Client
started = started_from (client_down usual 1000)

-- one observation waits
abbrev pub waiting : Client
waiting = client_with_news (switched_on ∷ []) started

-- two news may wait; a third came
abbrev pub switched_off : Observation
switched_off = record switched_on { value = Single false }

abbrev pub overflown : Client
overflown = client_with_news (switched_on ∷ switched_off ∷ switched_off ∷ []) (started_from (client_down usual 2))

-- two news were put out at moment 0, one after the other, and a third and an I format came
abbrev pub narrow_full : Client
narrow_full =
    let first = pumped 0 1 (client_with_news (switched_on ∷ []) (started_from narrow)) in
    let second = pumped 0 1 (client_with_news (switched_on ∷ []) first) in
    taking 0 (I 0 0 command ∷ []) (client_with_news (switched_on ∷ []) second)

-- so many TESTFR acts came
abbrev pub tested : ℕ → Client → Client
tested n c = taking 0 (replicate n (U TestAct)) c

-- these were read, one after the other
abbrev pub reads : ℕ → Client → Client
reads zero c = c
reads (suc n) c = client_after_apdu setup picture 0 (I n 0 reading) (reads n c)

-- single-command 5001 is executed
abbrev pub execute : Asdu
execute = asdu_with (0x2D ∷ 1 ∷ 6 ∷ 0 ∷ 1 ∷ 0 ∷ 0x89 ∷ 0x13 ∷ 0 ∷ 1 ∷ []) (lit≤ tt)

-- 5004 is, of which there is no control
abbrev pub execute_unknown : Asdu
execute_unknown = asdu_with (0x2D ∷ 1 ∷ 6 ∷ 0 ∷ 1 ∷ 0 ∷ 0x8C ∷ 0x13 ∷ 0 ∷ 1 ∷ []) (lit≤ tt)

-- an interrogation came at moment 0
abbrev pub interrogated : Client → Client
interrogated c = taking 0 (I 0 0 interrogation ∷ []) c

-- of two news that may wait both came before an interrogation, and a third one behind it
abbrev pub pushed_out : Client
pushed_out =
    client_with_news (switched_on ∷ [])
    (interrogated (client_with_news (switched_on ∷ switched_off ∷ []) (started_from (client_down usual 2))))

-- ---- two outstations, with common addresses 1 and 2

-- single-point 4101 of each, of which nothing was reported yet
abbrev pub picture_of_both : List Observation
picture_of_both = shown_under 1 4101 (Single false) (invalid true) ∷ shown_under 2 4101 (Single false) (invalid true) ∷ []

-- these came at moment 0
abbrev pub taking_of_two : List Apdu → Client → Client
taking_of_two apdus c = taking_in of_two picture_of_both 0 apdus c

-- the station interrogation, of all stations and of address 2
abbrev pub interrogation_of_all : Asdu
interrogation_of_all = asdu_with (0x64 ∷ 1 ∷ 6 ∷ 0 ∷ 0xFF ∷ 0xFF ∷ 0 ∷ 0 ∷ 0 ∷ 0x14 ∷ []) (lit≤ tt)

abbrev pub interrogation_of_second : Asdu
interrogation_of_second = asdu_with (0x64 ∷ 1 ∷ 6 ∷ 0 ∷ 2 ∷ 0 ∷ 0 ∷ 0 ∷ 0 ∷ 0x14 ∷ []) (lit≤ tt)

-- an interrogation of all stations came
abbrev pub all_asked : Client → Client
all_asked c = taking_of_two (I 0 0 interrogation_of_all ∷ []) c

-- k = 1 and w = 1
abbrev pub narrowest : Client
narrowest = client_down (record usual { k = 1; w = 1 }) 1000

-- so many I formats were put out, each one once the one before was acknowledged
abbrev pub acknowledged : ℕ → Client → Client
acknowledged zero c = c
acknowledged (suc n) c = taking 0 (S (suc n) ∷ []) (pumped 0 1 (acknowledged n c))
