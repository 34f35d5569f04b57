-- The reading of a stream goes on APDU by APDU, and doesn't depend on how the stream is cut.
use Rattle.std.proofs.Common.{◌≡◌, ℕ, zero, suc, ◌≤◌, List, [], ◌∷◌, ◌++◌, length, drop}
use Rattle.std.proofs.Common.{Option, Some, None, Ok, Err, refl, sym, ◌∙◌, ap, arith, length-drop}
use Rattle.std.proofs.lemmas.List.{drop-append-le}
use Rattle.iec_apci.specs.declared.fault.ApciFault.{ApciFault}
use Rattle.iec_apci.specs.Apdu.{ApduContent, apdu}
use Rattle.iec_apci.specs.Stream.{answer_at_front, Ending, Open, Faulty, Reading, reading_with_first, reading_within, reading}
use Rattle.iec_apci.specs.Calls.{ending_after_piece, reading_of_ending}
use Rattle.iec_apci.specs.Laws.{joined_readings}
use Rattle.iec_apci.proofs.Front.{Shown, front_taken, front-append}

-- what the front makes of the reading
abbrev onward : ℕ → List ℕ → Option Shown → Reading
onward n octets None = record { apdus = []; ending = Open octets }
onward n octets (Some (Err f)) = record { apdus = []; ending = Faulty f }
onward n octets (Some (Ok c)) = reading_with_first c (reading_within n (drop (length (apdu c)) octets))

step : (n : ℕ) (octets : List ℕ) (o : Option Shown) → answer_at_front octets ≡ o
    → reading_within (suc n) octets ≡ onward n octets o
step n octets None e = rw (e, reading_within) refl
step n octets (Some (Err f)) e = rw (e, reading_within) refl
step n octets (Some (Ok c)) e = rw (e, reading_within) refl

front_nil : (octets : List ℕ) → length octets ≤ 0 → answer_at_front octets ≡ None
unfolding answer_at_front
front_nil [] h = refl
front_nil (x ∷ octets) h = absurd (omega arith)

-- more steps than octets change nothing
enough_at : (n m : ℕ) (octets : List ℕ) (o : Option Shown) → answer_at_front octets ≡ o
    → ((c : ApduContent) → o ≡ Some (Ok c)
    → reading_within n (drop (length (apdu c)) octets) ≡ reading_within m (drop (length (apdu c)) octets))
    → reading_within (suc n) octets ≡ reading_within (suc m) octets
enough_at n m octets None e h = step n octets None e ∙ sym (step m octets None e)
enough_at n m octets (Some (Err f)) e h = step n octets (Some (Err f)) e ∙ sym (step m octets (Some (Err f)) e)
enough_at n m octets (Some (Ok c)) e h =
    step n octets (Some (Ok c)) e ∙ (ap (reading_with_first c) (h c refl) ∙ sym (step m octets (Some (Ok c)) e))

enough : (n m : ℕ) (octets : List ℕ) → length octets ≤ n → length octets ≤ m
    → reading_within n octets ≡ reading_within m octets
enough zero zero octets h g = refl
enough zero (suc m) octets h g = sym (step m octets None (front_nil octets h))
enough (suc n) zero octets h g = step n octets None (front_nil octets g)
enough (suc n) (suc m) octets h g =
    enough_at n m octets (answer_at_front octets) refl (λ c e.
    let t = front_taken octets c e in
    enough n m (drop (length (apdu c)) octets) (omega (arith, length-drop (length (apdu c)) octets))
    (omega (arith, length-drop (length (apdu c)) octets)))

-- octets that show an APDU say it, and then what the octets behind it say
pub reading_apdu : (octets : List ℕ) (c : ApduContent) → answer_at_front octets ≡ Some (Ok c)
    → reading octets ≡ reading_with_first c (reading (drop (length (apdu c)) octets))
unfolding reading
reading_apdu octets c h =
    let t = front_taken octets c h in
    let behind = drop (length (apdu c)) octets in
    enough (length octets) (suc (length octets)) octets (omega arith) (omega arith)
    ∙ (step (length octets) octets (Some (Ok c)) h
    ∙ ap (reading_with_first c)
    (enough (length octets) (length behind) behind (omega (arith, length-drop (length (apdu c)) octets)) (omega arith)))

-- octets that show a fault end with it
pub reading_fault : (octets : List ℕ) (f : ApciFault) → answer_at_front octets ≡ Some (Err f)
    → reading octets ≡ record { apdus = []; ending = Faulty f }
unfolding reading
reading_fault octets f h = enough (length octets) (suc (length octets)) octets (omega arith) (omega arith)
    ∙ step (length octets) octets (Some (Err f)) h

-- octets that show nothing wait
pub reading_none : (octets : List ℕ) → answer_at_front octets ≡ None
    → reading octets ≡ record { apdus = []; ending = Open octets }
unfolding reading
reading_none octets h =
    enough (length octets) (suc (length octets)) octets (omega arith) (omega arith) ∙ step (length octets) octets None h

-- one reading, and then what it holds back with more octets
abbrev pub then : Reading → List ℕ → Reading
then r more = joined_readings r (reading_of_ending (ending_after_piece r.ending more))

cut_at : (n : ℕ) (a b : List ℕ) (o : Option Shown) → answer_at_front a ≡ o
    → ((c : ApduContent) → o ≡ Some (Ok c)
    → reading (drop (length (apdu c)) a ++ b) ≡ then (reading (drop (length (apdu c)) a)) b)
    → reading (a ++ b) ≡ then (reading a) b
cut_at n a b None e h = sym (ap (λ (r : Reading). then r b) (reading_none a e))
cut_at n a b (Some (Err f)) e h =
    reading_fault (a ++ b) f (front-append a b (Err f) e) ∙ sym (ap (λ (r : Reading). then r b) (reading_fault a f e))
cut_at n a b (Some (Ok c)) e h =
    reading_apdu (a ++ b) c (front-append a b (Ok c) e)
    ∙ (ap (λ t. reading_with_first c (reading t)) (drop-append-le (length (apdu c)) a b (front_taken a c e))
    ∙ (ap (reading_with_first c) (h c refl)
    ∙ sym (ap (λ (r : Reading). then r b) (reading_apdu a c e))))

cut_within : (n : ℕ) (a b : List ℕ) → length a ≤ n → reading (a ++ b) ≡ then (reading a) b
cut_within zero a b h = cut_at zero a b None (front_nil a h)
    (λ c e. absurd (let no : ◌≡◌ {A = Option Shown} None (Some (Ok c)) → ⊥ = λ x. cc in no e))
cut_within (suc n) a b h = cut_at n a b (answer_at_front a) refl (λ c e.
    let t = front_taken a c e in
    cut_within n (drop (length (apdu c)) a) b (omega (arith, length-drop (length (apdu c)) a)))

-- however a stream is cut, it says the same
pub reading-append : (a b : List ℕ)
    → reading (a ++ b) ≡ joined_readings (reading a) (reading_of_ending (ending_after_piece (reading a).ending b))
reading-append a b = cut_within (length a) a b (omega arith)

-- how many octets are held back
abbrev pub size_held : Ending → ℕ
size_held (Open octets) = length octets
size_held (Faulty f) = 0
