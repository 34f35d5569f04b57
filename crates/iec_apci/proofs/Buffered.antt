-- Octets at the front of a buffer of zeros.
use Rattle.std.proofs.Common.{◌≡◌, ℕ, List, ◌++◌, length, drop, refl}
use Rattle.std.specs.Prelude.{replicate}
use Rattle.std.proofs.lemmas.List.{drop-replicate}
use Rattle.iec_apci.specs.Buffer.{buffer}

-- octets that were written over the front of zeros
pub buffer_is : (octets new zeros : List ℕ) (n : ℕ) → new ≡ octets ++ drop n zeros → n ≡ length octets
    → zeros ≡ replicate 255 0
    → record { octets = new; len = n } ≡ buffer octets
buffer_is octets new zeros n e l z = rw (e, z, l, drop-replicate {X = ℕ} (length octets) 255 0) refl
