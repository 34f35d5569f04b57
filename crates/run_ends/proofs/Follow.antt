-- What of octets was taken, whole or not, and how many segments they were.
use Rattle.std.proofs.Common.{◌≡◌, ℕ, ◌+◌, ◌%◌, ◌<◌, ◌≤◌, List, Option, Result}
use Rattle.std.proofs.Common.{Ok, Err, length, take, ap, subst, sym, ◌∙◌, arith, refl}
use Rattle.std.specs.Prelude.{OnErr, OnOk, if◌then◌else◌, is_ok}
use Rattle.std.proofs.lemmas.List.FromFn.{length-map-range_with_len}
use Rattle.dnp_transport.specs.Cut.{segment_count, segments_from, segments_of}
use Rattle.std.specs.Io.KnownBytes.{Appends}
use Rattle.dnp_app.specs.Requests.{octets_of}
use Rattle.run_ends.specs.Framed.{framed}
use Rattle.run_ends.specs.Sent.{Took, one_segment, part_of, sent_octets}
use Rattle.run_ends.specs.declared.sent.Sent.{Sent}
use Rattle.run_ends.specs.declared.sent.Sent.TheVariants.{Confirm, Reply, Request, Status}
use Rattle.run_ends.specs.declared.sent.Sending.{Sending}

pub took_part : {A E : Type 0} (before after : Option (List ℕ)) (octets : List ℕ) (r : Result A E)
    → OnOk r (Appends before after octets) → OnErr r ((n : ℕ) × Appends before after (take n octets))
    → (count : ℕ) × Appends before after (part_of (is_ok r) count octets)
took_part before after octets (Ok x) whole front = (0, whole)
took_part before after octets (Err e) whole front = front

-- as many segments as carry so many octets
pub length-segments : (fragment : List ℕ) (first : ℕ) → length (segments_of fragment first) ≡ segment_count (length fragment)
unfolding segments_from
length-segments fragment first = length-map-range_with_len _ 0 (segment_count (length fragment))

-- nothing was counted
pub numbers_kept : {A E : Type 0} (old new : ℕ) (r : Result A E) → new ≡ old
    → new % 64 ≡ (old + (if is_ok r then 0 else 0)) % 64
numbers_kept old new (Ok x) same = omega (arith, same)
numbers_kept old new (Err e) same = omega (arith, same)

-- of a fragment that one segment carries, that was counted, or none
pub numbers_next : {A E : Type 0} (old new : ℕ) (fragment : List ℕ) (r : Result A E)
    → OnOk r (new % 64 ≡ (old + length (segments_of fragment (old % 64))) % 64)
    → OnErr r ((taken : ℕ) × ((taken < length (segments_of fragment (old % 64))) × (new % 64 ≡ (old + taken) % 64)))
    → length fragment ≤ 249
    → new % 64 ≡ (old + (if is_ok r then segment_count (length fragment) else 0)) % 64
numbers_next old new fragment (Ok x) whole front one =
    whole ∙ ap (λ (n : ℕ). (old + n) % 64) (length-segments fragment (old % 64))
numbers_next old new fragment (Err e) whole front one =
    let none : front.0 ≡ 0 = omega (arith, front.1.0, length-segments fragment (old % 64), one) in
    front.1.1 ∙ ap (λ (n : ℕ). (old + n) % 64) none

-- what is sent behind so many segments is also sent behind others, where the next number is the same
same_octets : (own peer n m : ℕ) (what : Sent) → n % 64 ≡ m % 64 → sent_octets own peer n what ≡ sent_octets own peer m what
same_octets own peer n m (Reply frame) same = refl
same_octets own peer n m Status same = refl
same_octets own peer n m (Confirm octets) same = ap (λ (k : ℕ). framed own peer (segments_of octets k)) same
same_octets own peer n m (Request request) same =
    ap (λ (k : ℕ). framed own peer (segments_of (one_segment (octets_of request)) k)) same

-- a writer took what was sent on the line, whose addresses and number these are
pub took_on_line : (own peer n o p m : ℕ) (before after : Option (List ℕ)) (sending : Sending) → o ≡ own → p ≡ peer
    → m % 64 ≡ n % 64 → Took o p m before after sending → Took own peer n before after sending
took_on_line own peer n o p m before after sending own_is peer_is same took =
    subst (λ (octets : List ℕ). (count : ℕ) × Appends before after (part_of sending.whole count octets))
    (ap (λ (k : ℕ). sent_octets k p m sending.what) own_is
    ∙ (ap (λ (k : ℕ). sent_octets own k m sending.what) peer_is ∙ same_octets own peer m n sending.what same))
    took

-- so many more were counted
pub counts_on : (old new n more : ℕ) → new % 64 ≡ (old + more) % 64 → old % 64 ≡ n % 64 → new % 64 ≡ (n + more) % 64
counts_on old new n more is same = omega (arith, is, same)
