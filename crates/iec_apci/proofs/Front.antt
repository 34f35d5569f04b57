-- What the front of octets shows: how much it takes, and that octets behind it change nothing.
use Rattle.std.proofs.Common.{◌≡◌, ℕ, ◌/◌, ◌%◌, ◌≤◌, Bool, true, false, not, ◌||◌, List, [], ◌∷◌}
use Rattle.std.proofs.Common.{◌++◌, length, take, drop, Option, Some, None, Result, Ok, Err, refl, sym, ◌∙◌}
use Rattle.std.proofs.Common.{ap, subst, arith, length-append, nat_lt, if◌then◌else◌, ltb-false, le-ltb, eqb}
use Rattle.std.specs.Prelude.{option_map}
use Rattle.std.proofs.lemmas.List.{length-take-le, length-drop, take-append-le}
use Rattle.std.proofs.lemmas.Bool.{eqb-true}
use Rattle.iec_apci.specs.declared.apdu.Signal.{Signal}
use Rattle.iec_apci.specs.declared.fault.ApciFault.{ApciFault}
use Rattle.iec_apci.specs.declared.fault.ApciFault.TheVariants as faults
use Rattle.iec_apci.specs.Apdu.{ApduContent, Information, Supervisory, Unnumbered, body, apdu}
use Rattle.iec_apci.specs.Stream.{signal_of, word_at, content_of, content_or_fault, answer_at_front}

-- what an APDU or a fault is called
abbrev pub Shown : Type 0
Shown = Result ApduContent ApciFault

pub none_some : {A : Type 0} (x : A) → ◌≡◌ {A = Option A} None (Some x) → ⊥
none_some x h = cc

pub some_same : {A : Type 0} (x y : A) → Some x ≡ Some y → x ≡ y
some_same x y h = cc

-- the order of the tests of a control field
abbrev pub fields : (odd information other supervisory busy : Bool) (i s : ApduContent) (u : Option Signal)
    → Option ApduContent
fields odd information other supervisory busy i s u =
    if odd then None
    else if information then Some i
    else if other then None
    else if supervisory then Some s
    else if busy then None
    else option_map Unnumbered u

function_sized : (u : Option Signal) (c : ApduContent) → option_map Unnumbered u ≡ Some c → length (body c) ≡ 4
function_sized None c h = absurd (none_some c h)
function_sized (Some x) c h = subst (λ (y : ApduContent). length (body y) ≡ 4) (some_same (Unnumbered x) c h) refl

fields_sized : (odd information other supervisory busy : Bool) (i s : ApduContent) (u : Option Signal) (n : ℕ)
    (c : ApduContent)
    → length (body i) ≡ n → (other ≡ false → n ≡ 4) → length (body s) ≡ 4
    → fields odd information other supervisory busy i s u ≡ Some c → length (body c) ≡ n
fields_sized true information other supervisory busy i s u n c hi h4 hs h = absurd (none_some c h)
fields_sized false true other supervisory busy i s u n c hi h4 hs h =
    subst (λ (y : ApduContent). length (body y) ≡ n) (some_same i c h) hi
fields_sized false false true supervisory busy i s u n c hi h4 hs h = absurd (none_some c h)
fields_sized false false false true busy i s u n c hi h4 hs h =
    subst (λ (y : ApduContent). length (body y) ≡ n) (some_same s c h) (hs ∙ sym (h4 refl))
fields_sized false false false false true i s u n c hi h4 hs h = absurd (none_some c h)
fields_sized false false false false false i s u n c hi h4 hs h = function_sized u c h ∙ sym (h4 refl)

pub not_false : (p : Bool) → not p ≡ false → p ≡ true
not_false true h = refl
not_false false h = absurd (let no : true ≡ false → ⊥ = λ e. cc in no h)

-- as many octets are written again
pub content_sized : (octets : List ℕ) (c : ApduContent) → 4 ≤ length octets → content_of octets ≡ Some c
    → length (body c) ≡ length octets
unfolding content_of
content_sized octets c l h =
    let first = word_at 0 octets in
    let second = word_at 2 octets in
    fields_sized (eqb (second % 2) 1) (eqb (first % 2) 0) (not (eqb (length octets) 4)) (eqb first 1)
    (not (eqb second 0)) (Information (first / 2) (second / 2) (drop 4 octets)) (Supervisory (second / 2))
    (signal_of first) (length octets) c
    (let d = length-drop 4 octets in omega arith)
    (λ p. eqb-true (length octets) 4 (not_false (eqb (length octets) 4) p))
    refl
    h

-- the order of the tests at the front
abbrev pub chain : (wrong bad short : Bool) → Shown → Option Shown
chain wrong bad short r =
    if wrong then Some (Err faults.Start)
    else if bad then Some (Err faults.Length)
    else if short then None
    else Some r

-- what was found where an APDU is shown
pub record Passed (wrong bad short : Bool) (o : Option ApduContent) (c : ApduContent) : Type 0 where
  pub start : wrong ≡ false
  pub size : bad ≡ false
  pub whole : short ≡ false
  pub carried : o ≡ Some c

abbrev fault : ApciFault → Option Shown
fault f = Some (Err f)

abbrev given : ApduContent → Option Shown
given c = Some (Ok c)

fault_given : (f : ApciFault) (c : ApduContent) → fault f ≡ given c → ⊥
fault_given f c h = cc

controlled_given : (o : Option ApduContent) (c : ApduContent) → Some (content_or_fault o) ≡ given c → o ≡ Some c
controlled_given None c h = absurd (fault_given faults.Control c h)
controlled_given (Some x) c h =
    let e : given x ≡ given c = h in
    let same : x ≡ c = cc in
    ap (λ (y : ApduContent). Some y) same

pub chain_passed : (wrong bad short : Bool) (o : Option ApduContent) (c : ApduContent)
    → chain wrong bad short (content_or_fault o) ≡ given c → Passed wrong bad short o c
chain_passed true bad short o c h = absurd (fault_given faults.Start c h)
chain_passed false true short o c h = absurd (fault_given faults.Length c h)
chain_passed false false true o c h = absurd (none_some (let r : Shown = Ok c in r) h)
chain_passed false false false o c h =
    record { start = refl; size = refl; whole = refl; carried = controlled_given o c h }

or_false : (p q : Bool) → (p || q) ≡ false → (p ≡ false) × (q ≡ false)
or_false false q h = (refl, h)
or_false true q h = absurd (let no : true ≡ false → ⊥ = λ e. cc in no h)

-- an APDU at the front, in the octets' terms
pub record IsShown (start size : ℕ) (octets : List ℕ) (c : ApduContent) : Type 0 where
  pub start_is : start ≡ 0x68
  pub at_least : 4 ≤ size
  pub at_most : size ≤ 253
  pub there : size ≤ length octets
  pub carried : content_of (take size octets) ≡ Some c
  pub sized : length (body c) ≡ size

front_start : (start : ℕ) (c : ApduContent) (b : Bool) → (if b then None else fault faults.Start) ≡ given c → ⊥
front_start start c true h = none_some (let r : Shown = Ok c in r) h
front_start start c false h = fault_given faults.Start c h

pub shown_one : (start : ℕ) (c : ApduContent) → answer_at_front (start ∷ []) ≡ given c → ⊥
unfolding answer_at_front
shown_one start c h = front_start start c (eqb start 0x68) h

pub shown_nil : (c : ApduContent) → answer_at_front [] ≡ given c → ⊥
unfolding answer_at_front
shown_nil c h = none_some (let r : Shown = Ok c in r) h

pub shown : (start size : ℕ) (octets : List ℕ) (c : ApduContent) → answer_at_front (start ∷ size ∷ octets) ≡ given c
    → IsShown start size octets c
unfolding answer_at_front
shown start size octets c h =
    let p = chain_passed (not (eqb start 0x68)) (nat_lt size 4 || nat_lt 253 size) (nat_lt (length octets) size)
    (content_of (take size octets)) c h in
    let range = or_false (nat_lt size 4) (nat_lt 253 size) p.size in
    let low : 4 ≤ size = ltb-false size 4 range.0 in
    let high : size ≤ 253 = ltb-false 253 size range.1 in
    let whole : size ≤ length octets = ltb-false (length octets) size p.whole in
    let len : length (take size octets) ≡ size = length-take-le size octets whole in
    record {
      start_is = eqb-true start 0x68 (not_false (eqb start 0x68) p.start);
      at_least = low;
      at_most = high;
      there = whole;
      carried = p.carried;
      sized = content_sized (take size octets) c (omega arith) p.carried ∙ len;
    }

-- what an APDU uses up is there
pub front_taken : (octets : List ℕ) (c : ApduContent) → answer_at_front octets ≡ given c
    → length (apdu c) ≤ length octets
front_taken [] c h = absurd (shown_nil c h)
front_taken (start ∷ []) c h = absurd (shown_one start c h)
front_taken (start ∷ size ∷ octets) c h =
    let s = shown start size octets c h in omega (arith, s.sized, s.there)

chain_more : (wrong bad short short' : Bool) (r r' x : Shown) → (short ≡ false → short' ≡ false)
    → (short ≡ false → r' ≡ r) → chain wrong bad short r ≡ Some x → chain wrong bad short' r' ≡ Some x
chain_more true bad short short' r r' x f g h = h
chain_more false true short short' r r' x f g h = h
chain_more false false true short' r r' x f g h = absurd (none_some x h)
chain_more false false false short' r r' x f g h = rw (f refl, g refl) h

start_more : (b : Bool) (start : ℕ) (x : Shown) (more : Option Shown)
    → (if b then None else fault faults.Start) ≡ Some x → (if not b then fault faults.Start else more) ≡ Some x
start_more true start x more h = absurd (none_some x h)
start_more false start x more h = h

-- what octets show they show whatever follows them
pub front-append : (a b : List ℕ) (x : Shown) → answer_at_front a ≡ Some x → answer_at_front (a ++ b) ≡ Some x
unfolding answer_at_front
front-append [] b x h = absurd (none_some x h)
front-append (start ∷ []) [] x h = h
front-append (start ∷ []) (size ∷ b) x h = start_more (eqb start 0x68) start x _ h
front-append (start ∷ size ∷ a) b x h =
    chain_more (not (eqb start 0x68)) (nat_lt size 4 || nat_lt 253 size) (nat_lt (length a) size)
    (nat_lt (length (a ++ b)) size) (content_or_fault (content_of (take size a)))
    (content_or_fault (content_of (take size (a ++ b)))) x
    (λ p. le-ltb (length (a ++ b)) size (omega (arith, ltb-false (length a) size p, length-append a b)))
    (λ p. ap (λ t. content_or_fault (content_of t)) (take-append-le size a b (ltb-false (length a) size p)))
    h
