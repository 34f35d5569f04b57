-- The octets of some APDUs, and then of others.
use Rattle.std.proofs.Common.{◌≡◌, ℕ, List, [], ◌∷◌, ◌++◌, refl, sym, ap, ◌∙◌, append_assoc}
use Rattle.iec_apci.specs.declared.buffer.ApduBuf.{ApduBuf}
use Rattle.iec_apci.specs.Joined.{joined, octets_in}

pub joined-append : (a b : List ApduBuf) → joined (a ++ b) ≡ joined a ++ joined b
joined-append [] b = refl
joined-append (x ∷ a) b =
    ap (λ (octets : List ℕ). octets_in x ++ octets) (joined-append a b)
    ∙ sym (append_assoc (octets_in x) (joined a) (joined b))
