-- An APDU that was written is read back.
use Rattle.std.proofs.Common.{◌≡◌, ℕ, ◌+◌, ◌*◌, ◌/◌, ◌%◌, ◌≤◌, ◌<◌, Bool}
use Rattle.std.proofs.Common.{true, false, not, ◌||◌, List, [], ◌++◌, length, take, Option}
use Rattle.std.proofs.Common.{Some, Ok, refl, ◌∙◌, ap, arith, nat_lt, le-ltb, eqb, eq-eqb}
use Rattle.std.proofs.lemmas.List.{take_all, drop_at}
use Rattle.iec_apci.specs.declared.apdu.Signal.{Signal}
use Rattle.iec_apci.specs.declared.apdu.Signal.TheVariants.{StartAct, StartCon, StopAct, StopCon, TestAct, TestCon}
use Rattle.iec_apci.specs.Apdu.{ApduContent, Information, Supervisory, Unnumbered, body, apdu, Fits}
use Rattle.iec_apci.specs.Stream.{signal_of, word_at, content_of, content_or_fault, answer_at_front, reading_with_first, reading}
use Rattle.iec_apci.proofs.Front.{Shown, fields, chain, front-append}
use Rattle.iec_apci.proofs.Streams.{reading_apdu}

halved : (n : ℕ) → (2 * n) % 256 + 256 * (2 * n / 256) ≡ 2 * n
halved n = omega arith

fields_information : (odd information other supervisory busy : Bool) (i s : ApduContent) (u : Option Signal)
    (c : ApduContent)
    → odd ≡ false → information ≡ true → i ≡ c → fields odd information other supervisory busy i s u ≡ Some c
fields_information odd information other supervisory busy i s u c h1 h2 h3 = rw (h1, h2, h3) refl

fields_supervisory : (odd information other supervisory busy : Bool) (i s : ApduContent) (u : Option Signal)
    (c : ApduContent)
    → odd ≡ false → information ≡ false → other ≡ false → supervisory ≡ true → s ≡ c
    → fields odd information other supervisory busy i s u ≡ Some c
fields_supervisory odd information other supervisory busy i s u c h1 h2 h3 h4 h5 = rw (h1, h2, h3, h4, h5) refl

eqb_apart : (a b : ℕ) → a < b → eqb a b ≡ false
eqb_apart a b h = grind arith

-- what is behind the length is read back
pub content_of-body : (c : ApduContent) → content_of (body c) ≡ Some c
unfolding content_of
content_of-body (Information ns nr asdu) =
    let first : (2 * ns) % 256 + 256 * (2 * ns / 256) ≡ 2 * ns = halved ns in
    let second : (2 * nr) % 256 + 256 * (2 * nr / 256) ≡ 2 * nr = halved nr in
    let send : 2 * ns / 2 ≡ ns = omega arith in
    let receive : 2 * nr / 2 ≡ nr = omega arith in
    let f = word_at 0 (body (Information ns nr asdu)) in
    let s = word_at 2 (body (Information ns nr asdu)) in
    fields_information (eqb (s % 2) 1) (eqb (f % 2) 0) (not (eqb (length (body (Information ns nr asdu))) 4)) (eqb f 1)
    (not (eqb s 0)) (Information (f / 2) (s / 2) asdu) (Supervisory (s / 2)) (signal_of f) (Information ns nr asdu)
    (rw second (eqb_apart (2 * nr % 2) 1 (omega arith)))
    (rw first (eq-eqb (2 * ns % 2) 0 (omega arith)))
    (rw (first, second, send, receive) refl)
content_of-body (Supervisory nr) =
    let second : (2 * nr) % 256 + 256 * (2 * nr / 256) ≡ 2 * nr = halved nr in
    let receive : 2 * nr / 2 ≡ nr = omega arith in
    let s = word_at 2 (body (Supervisory nr)) in
    fields_supervisory (eqb (s % 2) 1) false false true (not (eqb s 0)) (Information 0 (s / 2) []) (Supervisory (s / 2))
    (signal_of 1) (Supervisory nr)
    (rw second (eqb_apart (2 * nr % 2) 1 (omega arith)))
    refl refl refl
    (rw (second, receive) refl)
content_of-body (Unnumbered StartAct) = refl
content_of-body (Unnumbered StartCon) = refl
content_of-body (Unnumbered StopAct) = refl
content_of-body (Unnumbered StopCon) = refl
content_of-body (Unnumbered TestAct) = refl
content_of-body (Unnumbered TestCon) = refl

pub body_sized : (c : ApduContent) → Fits c → (4 ≤ length (body c)) × (length (body c) ≤ 253)
body_sized (Information ns nr asdu) h = (omega arith, let l : length asdu ≤ 249 = h.2 in omega arith)
body_sized (Supervisory nr) h = (omega arith, omega arith)
body_sized (Unnumbered signal) h = (omega arith, omega arith)

chain_whole : (bad short : Bool) (r x : Shown) → bad ≡ false → short ≡ false → r ≡ x → chain false bad short r ≡ Some x
chain_whole bad short r x h1 h2 h3 = rw (h1, h2, h3) refl

or_both : (p q : Bool) → p ≡ false → q ≡ false → (p || q) ≡ false
or_both p q h g = rw (h, g) refl

-- the front of an APDU shows it
pub front_apdu : (c : ApduContent) → Fits c → answer_at_front (apdu c) ≡ Some (Ok c)
unfolding answer_at_front
front_apdu c h =
    let n = length (body c) in
    let size = body_sized c h in
    chain_whole (nat_lt n 4 || nat_lt 253 n) (nat_lt n n) (content_or_fault (content_of (take n (body c)))) (Ok c)
    (or_both (nat_lt n 4) (nat_lt 253 n) (le-ltb n 4 size.0) (le-ltb 253 n size.1))
    (le-ltb n n (omega arith))
    (ap (λ t. content_or_fault (content_of t)) (take_all n (body c) (omega arith))
    ∙ ap content_or_fault (content_of-body c))

-- whatever follows it
pub front_apdu-append : (c : ApduContent) (behind : List ℕ) → Fits c → answer_at_front (apdu c ++ behind) ≡ Some (Ok c)
front_apdu-append c behind h = front-append (apdu c) behind (Ok c) (front_apdu c h)

-- an APDU is read first, and then what follows it
pub reading-apdu : (c : ApduContent) (behind : List ℕ) → Fits c
    → reading (apdu c ++ behind) ≡ reading_with_first c (reading behind)
reading-apdu c behind h =
    reading_apdu (apdu c ++ behind) c (front_apdu-append c behind h)
    ∙ ap (λ t. reading_with_first c (reading t)) (drop_at (apdu c) behind (length (apdu c)) refl)
