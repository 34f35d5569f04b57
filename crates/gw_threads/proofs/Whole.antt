-- What is put out is whole APDUs.
use Rattle.std.proofs.Common.{◌≡◌, ℕ, List, [], ◌∷◌, IsSomeAnd, option_map, refl}
use Rattle.gw_map.specs.Settings.{station_clocks}
use Rattle.gw_model.specs.Clocks.{Clocks}
use Rattle.iec_apci.specs.declared.buffer.ApduBuf.{ApduBuf}
use Rattle.iec_apci.specs.Apdu.{ApduContent}
use Rattle.iec_apci.specs.Stream.{Ending, Faulty, Open, reading}
use Rattle.gw_steps.specs.Said.{only_one, said_by}
use Rattle.iec_apci.specs.Joined.{octets_in}
use Rattle.gw_threads.specs.Carries.{SaysFit}
use Rattle.gw_threads.specs.Whole.{IsWhole}
use Rattle.gw_threads.specs.Written.{IsPutOut}

-- what says something is one APDU, with nothing behind it
one : (clocks : Clocks) (apdus : List ApduContent) (ending : Ending)
    → IsSomeAnd (option_map (said_by clocks) (only_one apdus ending)) (SaysFit clocks)
    → (c : ApduContent) × ((apdus ≡ c ∷ []) × (ending ≡ Open []))
one clocks [] ending fit = absurd fit
one clocks (c ∷ []) (Open []) fit = (c, (refl, refl))
one clocks (c ∷ []) (Open (x ∷ octets)) fit = absurd fit
one clocks (c ∷ []) (Faulty f) fit = absurd fit
one clocks (c ∷ d ∷ more) ending fit = absurd fit

pub put_out_whole : (client : ℕ) (apdu : ApduBuf) → IsPutOut client apdu → IsWhole (octets_in apdu)
put_out_whole client apdu is =
    one (station_clocks is.pumped.setup.station) (reading (octets_in apdu)).apdus (reading (octets_in apdu)).ending is.fit
