-- What a feed holds back once it gave an APDU.
use Rattle.std.proofs.Common.{◌≡◌, ℕ, ◌≤◌, List, length, drop, Option, Some, None, Result, Ok, sym, ◌∙◌, ap, arith}
use Rattle.iec_apci.specs.declared.apdu.Apdu.{Apdu}
use Rattle.iec_apci.specs.declared.fault.ApciFault.{ApciFault}
use Rattle.iec_apci.specs.Apdu.{apdu}
use Rattle.iec_apci.specs.ApduContent.{content, content_if_ok}
use Rattle.iec_apci.specs.Stream.{answer_at_front, Ending, Open}
use Rattle.iec_apci.specs.Calls.{ending_of, ending_behind, ending_after_answer}
use Rattle.iec_apci.proofs.Front.{front_taken}

-- what was shown of the octets that are left
pub shown_left : (answer : Result Apdu ApciFault) (a : Apdu) (octets left : List ℕ) → answer ≡ Ok a → octets ≡ left
    → Some (content_if_ok answer) ≡ answer_at_front octets → answer_at_front left ≡ Some (Ok (content a))
shown_left answer a octets left is same shown =
    sym (ap answer_at_front same) ∙ (sym shown ∙ ap (λ r. Some (content_if_ok r)) is)

-- what was shown is there
pub taken_left : (a : Apdu) (left : List ℕ) (size : ℕ) → answer_at_front left ≡ Some (Ok (content a))
    → size ≡ length (apdu (content a)) → size ≤ length left
taken_left a left size shown s = omega (arith, front_taken left (content a) shown, s)

some_none : (f : ApciFault) → ◌≡◌ {A = Option ApciFault} (Some f) None → ⊥
some_none f h = cc

-- what is held back behind an APDU that was given
pub held_behind : (fault : Option ApciFault) (a : Apdu) (left more : List ℕ) (size : ℕ) (now : Ending) → fault ≡ None
    → ending_of fault left ≡ now
    → answer_at_front left ≡ Some (Ok (content a)) → size ≡ length (apdu (content a)) → more ≡ drop size left
    → ending_of fault more ≡ ending_after_answer now
held_behind (Some f) a left more size now none view shown s moved = absurd (some_none f none)
held_behind None a left more size now none view shown s moved =
    ap Open (moved ∙ ap (λ n. drop n left) s) ∙ (ap (ending_behind left) (sym shown) ∙ ap ending_after_answer view)
