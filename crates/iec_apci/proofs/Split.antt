-- A stream is the APDUs that are read, one after another, and a rest that shows none.
use Rattle.std.proofs.Common.{◌≡◌, ℕ, zero, suc, ◌+◌, ◌≤◌, ◌<◌, List, [], ◌∷◌, ◌++◌, length, drop}
use Rattle.std.proofs.Common.{Option, Some, None, Ok, Err, refl, sym, ◌∙◌, ap, subst, arith, append_assoc}
use Rattle.std.specs.List.{AllByRecursion, flat_map}
use Rattle.std.proofs.lemmas.List.{drop_at, get_or-drop, length-drop}
use Rattle.iec_apci.specs.Apdu.{ApduContent, apdu, Fits}
use Rattle.iec_apci.specs.Stream.{answer_at_front, Reading, reading_with_first, reading}
use Rattle.gw_model.specs.Octets.{AreOctets}
use Rattle.iec_apci.specs.Laws.{Splits, reading_with_all_first}
use Rattle.iec_apci.proofs.Front.{Shown, front_taken}
use Rattle.iec_apci.proofs.Streams.{reading_apdu, reading_fault, reading_none}
use Rattle.iec_apci.proofs.Round.{reading-apdu}
use Rattle.iec_apci.proofs.Only.{begins}

octets-drop : (n : ℕ) (octets : List ℕ) → AreOctets octets → AreOctets (drop n octets)
octets-drop n octets h i = subst (λ (x : ℕ). x < 256) (sym (get_or-drop n octets i 0)) (h (n + i))

split_at : (octets : List ℕ) (o : Option Shown) → answer_at_front octets ≡ o → AreOctets octets
    → ((c : ApduContent) → o ≡ Some (Ok c)
    → Splits (drop (length (apdu c)) octets) (reading (drop (length (apdu c)) octets)))
    → Splits octets (reading octets)
split_at octets None e a h = subst (λ (r : Reading). Splits octets r) (sym (reading_none octets e))
    (record { rest = octets; whole = refl; each = tt; ends = (refl, e) })
split_at octets (Some (Err f)) e a h = subst (λ (r : Reading). Splits octets r) (sym (reading_fault octets f e))
    (record { rest = octets; whole = refl; each = tt; ends = e })
split_at octets (Some (Ok c)) e a h =
    let n = length (apdu c) in
    let b = begins octets c a e in
    let s = h c refl in
    let cut : drop n octets ≡ b.1.0 = ap (drop n) b.1.1 ∙ drop_at (apdu c) b.1.0 n refl in
    let parts : octets ≡ apdu c ++ drop n octets = b.1.1 ∙ ap (λ t. apdu c ++ t) (sym cut) in
    subst (λ (r : Reading). Splits octets r) (sym (reading_apdu octets c e)) (record {
      rest = s.rest;
      whole = parts ∙ (ap (λ t. apdu c ++ t) s.whole
          ∙ sym (append_assoc (apdu c) (flat_map apdu (reading (drop n octets)).apdus) s.rest));
      each = (b.0, s.each);
      ends = s.ends;
    })

split_within : (n : ℕ) (octets : List ℕ) → length octets ≤ n → AreOctets octets → Splits octets (reading octets)
split_within zero octets h a =
    split_at octets (answer_at_front octets) refl a (λ c e. absurd (let t = front_taken octets c e in omega arith))
split_within (suc n) octets h a = split_at octets (answer_at_front octets) refl a (λ c e.
    let t = front_taken octets c e in
    split_within n (drop (length (apdu c)) octets) (omega (arith, length-drop (length (apdu c)) octets))
    (octets-drop (length (apdu c)) octets a))

pub splits : (octets : List ℕ) → AreOctets octets → Splits octets (reading octets)
splits octets a = split_within (length octets) octets (omega arith) a

-- APDUs that were written one after another are read first, and then what follows them
pub reading-apdus : (cs : List ApduContent) (behind : List ℕ) → AllByRecursion Fits cs
    → reading (flat_map apdu cs ++ behind) ≡ reading_with_all_first cs (reading behind)
reading-apdus [] behind h = refl
reading-apdus (c ∷ cs) behind h =
    ap reading (append_assoc (apdu c) (flat_map apdu cs) behind)
    ∙ (reading-apdu c (flat_map apdu cs ++ behind) h.0
    ∙ ap (reading_with_first c) (reading-apdus cs behind h.1))
