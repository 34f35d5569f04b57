-- What writing a request gives.
use Rattle.std.proofs.Common.{◌≡◌, ℕ, ◌+◌, ◌*◌, ◌/◌, ◌%◌, ◌<◌, List, ◌++◌}
use Rattle.std.proofs.Common.{length, drop, Option, Some, None, true, false, refl, ap, arith}
use Rattle.std.specs.Prelude.{replicate}
use Rattle.std.proofs.lemmas.List.{drop-replicate}
use Rattle.std.proofs.lemmas.Nat.{mod-pow-add}
use Rattle.dnp_objects.specs.Headers.{number}
use Rattle.dnp_app.specs.declared.response.ApplicationControl.{ApplicationControl}
use Rattle.dnp_app.specs.Control.{control_of}
use Rattle.dnp_app.specs.Requests.{octets_of, request, time_octets, write_time_octets}
use Rattle.dnp_app.specs.Asking.{Asking, Asks, asking_of, asks_for, WriteTime}

-- octets that were written over the front of zeros
pub request_is : (octets new zeros : List ℕ) → new ≡ octets → zeros ≡ replicate 32 0
    → record { octets = new ++ drop (length octets) zeros; len = length octets; bond = None } ≡ request octets
request_is octets new zeros e z = rw (e, z, drop-replicate {X = ℕ} (length octets) 32 0) refl

-- the octets of a number, added up one by one
added_up : (a b c d e f two three four five six : ℕ)
    → two ≡ b * 256 + a → three ≡ c * 65536 + two → four ≡ d * 16777216 + three → five ≡ e * 4294967296 + four
    → six ≡ f * 1099511627776 + five
    → a + 256 * (b + 256 * (c + 256 * (d + 256 * (e + 256 * (f + 256 * 0))))) ≡ six
added_up a b c d e f two three four five six second third fourth fifth sixth = omega arith

-- the octets of a time give its low 48 bits
number-time_octets : (time : ℕ) → number (time_octets time) ≡ time % 281474976710656
number-time_octets time =
    added_up (time % 256) (time / 256 % 256) (time / 65536 % 256) (time / 16777216 % 256) (time / 4294967296 % 256)
    (time / 1099511627776 % 256) (time % 65536) (time % 16777216) (time % 4294967296) (time % 1099511627776)
    (time % 281474976710656) (mod-pow-add time 8 8) (mod-pow-add time 8 16) (mod-pow-add time 8 24)
    (mod-pow-add time 8 32) (mod-pow-add time 8 40)

abbrev asking_with : ApplicationControl → Asks → Option Asking
asking_with control asks = Some (record { control = control; asks = asks })

asking_is : (read written : ApplicationControl) (asked asks : Asks) → read ≡ written → asked ≡ asks
    → asking_with read asked ≡ asking_with written asks
asking_is read written asked asks e f = rw (e, f) refl

-- the writing of a time asks for the low 48 bits of it
pub time_is_asked : (sequence time : ℕ) → sequence < 16
    → asking_of (octets_of (request (write_time_octets time sequence)))
    ≡ asks_for sequence (WriteTime (time % 281474976710656))
time_is_asked sequence time small =
    let control : control_of (192 + sequence)
    ≡ record { fir = true; fin = true; con = false; uns = false; sequence = sequence } =
    grind arith in
    asking_is (control_of (192 + sequence))
    (record { fir = true; fin = true; con = false; uns = false; sequence = sequence })
    (WriteTime (number (time_octets time))) (WriteTime (time % 281474976710656)) control
    (ap WriteTime (number-time_octets time))
