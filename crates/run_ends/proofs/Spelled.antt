-- The octets of APDUs are read back.
use Rattle.std.proofs.Common.{◌≡◌, ℕ, ◌-◌, List, [], ◌∷◌, ◌++◌, length, map, refl, ap, ◌∙◌}
use Rattle.std.specs.Prelude.{replicate}
use Rattle.std.specs.List.{AllByRecursion, flat_map}
use Rattle.std.proofs.Math.Seq.{take-append_seam}
use Rattle.iec_apci.specs.Apdu.{ApduContent, Fits, apdu}
use Rattle.iec_apci.specs.Buffer.{buffer_of}
use Rattle.iec_apci.specs.Laws.{reading_with_all_first}
use Rattle.iec_apci.specs.Stream.{reading}
use Rattle.iec_apci.proofs.Split.{reading-apdus}
use Rattle.iec_apci.specs.Joined.{joined, octets_in}

-- the octets in a buffer are those that were put into it
in_buffer : (c : ApduContent) → octets_in (buffer_of c) ≡ apdu c
in_buffer c = take-append_seam (apdu c) (replicate (255 - length (apdu c)) 0)

spelled : (cs : List ApduContent) → joined (map buffer_of cs) ≡ flat_map apdu cs
spelled [] = refl
spelled (c ∷ cs) =
    ap (λ (front : List ℕ). front ++ joined (map buffer_of cs)) (in_buffer c)
    ∙ ap (λ (back : List ℕ). apdu c ++ back) (spelled cs)

pub apdus_read : (cs : List ApduContent) (behind : List ℕ) → AllByRecursion Fits cs
    → reading (joined (map buffer_of cs) ++ behind) ≡ reading_with_all_first cs (reading behind)
apdus_read cs behind fits =
    ap (λ (octets : List ℕ). reading (octets ++ behind)) (spelled cs) ∙ reading-apdus cs behind fits
