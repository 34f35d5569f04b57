-- What is put out says what it was made of.
use Rattle.std.proofs.Common.{◌≡◌, ℕ, ◌-◌, List, [], ◌∷◌, ◌++◌, length, take, Option, Some, refl, sym, ap, ◌∙◌}
use Rattle.std.specs.Prelude.{option_map, replicate}
use Rattle.std.proofs.lemmas.List.{append-nil, take_at}
use Rattle.gw_model.specs.Clocks.{Clocks}
use Rattle.iec_apci.specs.Apdu.{ApduContent, Fits, apdu as octets_of}
use Rattle.iec_apci.specs.Buffer.{buffer_of}
use Rattle.iec_apci.specs.Stream.{Reading, Open, reading}
use Rattle.iec_apci.proofs.Drained.{reading_nil}
use Rattle.iec_apci.proofs.Round.{reading-apdu}
use Rattle.gw_steps.specs.Said.{ApduMeaning, said, said_by, only_one}

-- an APDU's octets, as they lie in their buffer
buffered : (octets : List ℕ) → take (length octets) (octets ++ replicate (255 - length octets) 0) ≡ octets
buffered octets = take_at octets (replicate (255 - length octets) 0) (length octets) refl

-- octets that are one APDU are read as what it carries, and nothing is left
one_apdu : (c : ApduContent) → Fits c → reading (octets_of c) ≡ record { apdus = c ∷ []; ending = Open [] }
one_apdu c fits =
    let alone : reading (octets_of c) ≡ record { apdus = c ∷ (reading []).apdus; ending = (reading []).ending } =
    ap reading (sym (append-nil (octets_of c))) ∙ reading-apdu c [] fits in
    alone ∙ ap (λ (r : Reading). record { apdus = c ∷ r.apdus; ending = r.ending }) reading_nil

pub said-content : (clocks : Clocks) (c : ApduContent) → Fits c → said clocks (buffer_of c) ≡ Some (said_by clocks c)
said-content clocks c fits =
    ap (λ (octets : List ℕ). said_in (reading octets)) (buffered (octets_of c)) ∙ ap said_in (one_apdu c fits)
  where
    said_in : Reading → Option ApduMeaning
    said_in read = option_map (said_by clocks) (only_one read.apdus read.ending)
