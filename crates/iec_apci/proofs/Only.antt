-- What is read as an APDU was written so.
use Rattle.std.proofs.Common.{◌≡◌, ℕ, suc, ◌+◌, ◌*◌, ◌/◌, ◌%◌, ◌≤◌, ◌<◌, Bool, true}
use Rattle.std.proofs.Common.{false, not, List, [], ◌∷◌, ◌++◌, length, take, drop, Option, Some, None}
use Rattle.std.proofs.Common.{Ok, refl, sym, ◌∙◌, ap, subst, arith, if◌then◌else◌, eqb, inl, inr}
use Rattle.std.specs.Prelude.{option_map}
use Rattle.std.proofs.lemmas.List.{take-append-drop, length-take, length-take-le, get_or-take, get_or_past}
use Rattle.std.proofs.lemmas.Bool.{cases_lt, eqb-true}
use Rattle.iec_apci.specs.declared.apdu.Signal.{Signal}
use Rattle.iec_apci.specs.declared.apdu.Signal.TheVariants.{StartAct, StartCon, StopAct, StopCon, TestAct, TestCon}
use Rattle.iec_apci.specs.Apdu.{ApduContent, Information, Supervisory, Unnumbered, code_of, word, body, Fits}
use Rattle.iec_apci.specs.Stream.{signal_of, content_of, answer_at_front}
use Rattle.gw_model.specs.Octets.{AreOctets}
use Rattle.iec_apci.specs.Laws.{BeginsWith}
use Rattle.iec_apci.proofs.Front.{none_some, some_same, fields, not_false, shown_nil, shown_one, shown}
use Rattle.iec_apci.proofs.Round.{front_apdu-append}

octets-take : (n : ℕ) (octets : List ℕ) → AreOctets octets → AreOctets (take n octets)
octets-take n octets h i = elim (cases_lt i n) [
  | inl below ↦ subst (λ (x : ℕ). x < 256) (sym (get_or-take n octets i 0 below)) (h i)
  | inr past ↦ subst (λ (x : ℕ). x < 256)
      (sym (get_or_past (take n octets) i 0 (omega (arith, length-take n octets)))) (omega arith)
]

picked : (b : Bool) (n : ℕ) (y x : Signal) (more : Option Signal) → (b ≡ true → n ≡ code_of y)
    → (more ≡ Some x → n ≡ code_of x) → (if b then Some y else more) ≡ Some x → n ≡ code_of x
picked true n y x more here behind h = subst (λ (s : Signal). n ≡ code_of s) (some_same y x h) (here refl)
picked false n y x more here behind h = behind h

-- a function is found by its code
code_is : (n : ℕ) (x : Signal) → signal_of n ≡ Some x → n ≡ code_of x
code_is n x =
    picked (eqb n (code_of StartAct)) n StartAct x _ (eqb-true n (code_of StartAct))
    (picked (eqb n (code_of StartCon)) n StartCon x _ (eqb-true n (code_of StartCon))
    (picked (eqb n (code_of StopAct)) n StopAct x _ (eqb-true n (code_of StopAct))
    (picked (eqb n (code_of StopCon)) n StopCon x _ (eqb-true n (code_of StopCon))
    (picked (eqb n (code_of TestAct)) n TestAct x _ (eqb-true n (code_of TestAct))
    (picked (eqb n (code_of TestCon)) n TestCon x _ (eqb-true n (code_of TestCon)) (λ e. absurd (none_some x e)))))))

-- these octets are behind the length of what is carried
record IsBody (octets : List ℕ) (c : ApduContent) : Type 0 where
  pub same : octets ≡ body c
  pub fits : Fits c

function_is : (octets : List ℕ) (u : Option Signal) (c : ApduContent)
    → ((x : Signal) → u ≡ Some x → IsBody octets (Unnumbered x)) → option_map Unnumbered u ≡ Some c → IsBody octets c
function_is octets None c f h = absurd (none_some c h)
function_is octets (Some x) c f h = subst (IsBody octets) (some_same (Unnumbered x) c h) (f x refl)

fields_are : (odd information other supervisory busy : Bool) (i s : ApduContent) (u : Option Signal)
    (octets : List ℕ) (c : ApduContent)
    → (odd ≡ false → information ≡ true → IsBody octets i)
    → (odd ≡ false → other ≡ false → supervisory ≡ true → IsBody octets s)
    → (other ≡ false → busy ≡ false → (x : Signal) → u ≡ Some x → IsBody octets (Unnumbered x))
    → fields odd information other supervisory busy i s u ≡ Some c → IsBody octets c
fields_are true information other supervisory busy i s u octets c f g k h = absurd (none_some c h)
fields_are false true other supervisory busy i s u octets c f g k h =
    subst (IsBody octets) (some_same i c h) (f refl refl)
fields_are false false true supervisory busy i s u octets c f g k h = absurd (none_some c h)
fields_are false false false true busy i s u octets c f g k h =
    subst (IsBody octets) (some_same s c h) (g refl refl refl)
fields_are false false false false true i s u octets c f g k h = absurd (none_some c h)
fields_are false false false false false i s u octets c f g k h = function_is octets u c (k refl refl) h

even : (n : ℕ) → eqb (n % 2) 1 ≡ false → 2 * (n / 2) ≡ n
even n h = let odd : n % 2 ≡ 1 → ⊥ = λ e. (let no : true ≡ false → ⊥ = λ x. cc in no (rw e at h)) in omega arith

words_are : (a b d e f s : ℕ) (rest asdu : List ℕ) → a < 256 → d < 256 → f ≡ a + 256 * b → s ≡ d + 256 * e → rest ≡ asdu
    → a ∷ b ∷ d ∷ e ∷ rest ≡ word f ++ word s ++ asdu
words_are a b d e f s rest asdu la ld hf hs hr =
    let low : a ≡ f % 256 = omega arith in
    let high : b ≡ f / 256 = omega arith in
    let low' : d ≡ s % 256 = omega arith in
    let high' : e ≡ s / 256 = omega arith in
    rw (← low, ← high, ← low', ← high', ← hr) refl

nil_of : (rest : List ℕ) → length rest ≡ 0 → rest ≡ []
nil_of [] h = refl
nil_of (x ∷ rest) h = absurd (omega arith)

-- octets that are right are those of what they carry
content_is : (octets : List ℕ) (c : ApduContent) → 4 ≤ length octets → length octets ≤ 253 → AreOctets octets
    → content_of octets ≡ Some c → IsBody octets c
unfolding content_of
content_is [] c l m o h = absurd (omega arith)
content_is (a ∷ []) c l m o h = absurd (omega arith)
content_is (a ∷ b ∷ []) c l m o h = absurd (omega arith)
content_is (a ∷ b ∷ d ∷ []) c l m o h = absurd (omega arith)
content_is (a ∷ b ∷ d ∷ e ∷ rest) c l m o h =
    let octets : List ℕ = a ∷ b ∷ d ∷ e ∷ rest in
    let first = a + 256 * b in
    let second = d + 256 * e in
    let la : a < 256 = o 0 in
    let lb : b < 256 = o 1 in
    let ld : d < 256 = o 2 in
    let le : e < 256 = o 3 in
    fields_are (eqb (second % 2) 1) (eqb (first % 2) 0) (not (eqb (length octets) 4)) (eqb first 1) (not (eqb second 0))
    (Information (first / 2) (second / 2) rest) (Supervisory (second / 2)) (signal_of first) octets c
    (λ odd information.
    let send : 2 * (first / 2) ≡ first = let z : first % 2 ≡ 0 = eqb-true (first % 2) 0 information in omega arith in
    record {
      same = words_are a b d e (2 * (first / 2)) (2 * (second / 2)) rest rest la ld send (even second odd) refl;
      fits = (omega arith, omega arith, omega arith);
    })
    (λ odd other supervisory.
    let one : first ≡ 1 = eqb-true first 1 supervisory in
    let alone : rest ≡ [] =
    let four : length octets ≡ 4 = eqb-true (length octets) 4 (not_false (eqb (length octets) 4) other) in
    nil_of rest (omega arith) in
    record {
      same = words_are a b d e 1 (2 * (second / 2)) rest [] la ld (sym one) (even second odd) alone;
      fits = omega arith;
    })
    (λ other busy x u.
    let none : second ≡ 0 = eqb-true second 0 (not_false (eqb second 0) busy) in
    let alone : rest ≡ [] =
    let four : length octets ≡ 4 = eqb-true (length octets) 4 (not_false (eqb (length octets) 4) other) in
    nil_of rest (omega arith) in
    record {
      same = words_are a b d e (code_of x) 0 rest [] la ld (sym (code_is first x u)) (sym none) alone;
      fits = tt;
    })
    h

-- octets that show an APDU begin with it
pub begins : (octets : List ℕ) (c : ApduContent) → AreOctets octets → answer_at_front octets ≡ Some (Ok c)
    → BeginsWith octets c
begins [] c o h = absurd (shown_nil c h)
begins (start ∷ []) c o h = absurd (shown_one start c h)
begins (start ∷ size ∷ octets) c o h =
    let s = shown start size octets c h in
    let len : length (take size octets) ≡ size = length-take-le size octets s.there in
    let front : AreOctets octets = λ i. o (suc (suc i)) in
    let is = content_is (take size octets) c (omega (arith, s.at_least)) (omega (arith, s.at_most))
    (octets-take size octets front) s.carried in
    let parts : octets ≡ body c ++ drop size octets =
    sym (take-append-drop size octets) ∙ ap (λ t. t ++ drop size octets) is.same in (
      is.fits,
      (
        drop size octets,
        ap (λ n. n ∷ size ∷ octets) s.start_is
            ∙ (ap (λ n. 0x68 ∷ n ∷ octets) (sym s.sized) ∙ ap (λ t. 0x68 ∷ length (body c) ∷ t) parts),
      ),
    )

pub begins_shows : (octets : List ℕ) (c : ApduContent) → BeginsWith octets c → answer_at_front octets ≡ Some (Ok c)
begins_shows octets c h = ap answer_at_front h.1.1 ∙ front_apdu-append c h.1.0 h.0
