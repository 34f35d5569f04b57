-- Blocks of user data, one at a time.
use Rattle.std.proofs.Common.{◌≡◌, ℕ, suc, ◌+◌, ◌-◌, ◌*◌, ◌≤◌, ◌<◌, min, true, false, ◌&&◌, List}
use Rattle.std.proofs.Common.{◌++◌, length, take, drop, refl, sym, ◌∙◌, ap, arith, append_assoc, length-append}
use Rattle.std.proofs.lemmas.List.{take-take, length-take-le, length-take, length-drop, append-nil}
use Rattle.std.proofs.lemmas.List.{drop_all, take_at, drop_at, drop-drop, take_rest, take_min, drop_min}
use Rattle.std.proofs.lemmas.Slice.{take-put_mid}
use borrow.Rule.Slice.PartMut.{put_mid}
use Rattle.dnp_link.specs.Frame.{block_count, octets_with_crc, blocks, is_sealed, are_sealed, user_data_in_blocks}

pub block_count_next : (u : ℕ) → 0 < u → block_count u ≡ suc (block_count (u - 16))
block_count_next u h = omega arith

-- the first block, and those behind it
pub are_sealed_next : (u size : ℕ) (octets : List ℕ) → 0 < u → size ≡ min u 16 → are_sealed (block_count u) u octets
    ≡ is_sealed (take (size + 2) octets) && are_sealed (block_count (u - size)) (u - size) (drop (size + 2) octets)
are_sealed_next u size octets h e =
    let m : min 16 u ≡ size = omega arith in
    let r : u - 16 ≡ u - size = omega arith in
    ap (λ n. are_sealed n u octets) (block_count_next u h) ∙ rw (m, r) refl

pub unsealed_next : (u size : ℕ) (octets : List ℕ) → 0 < u → size ≡ min u 16
    → user_data_in_blocks (block_count u) u octets
    ≡ take size octets ++ user_data_in_blocks (block_count (u - size)) (u - size) (drop (size + 2) octets)
unsealed_next u size octets h e =
    let m : min 16 u ≡ size = omega arith in
    let r : u - 16 ≡ u - size = omega arith in
    ap (λ n. user_data_in_blocks n u octets) (block_count_next u h) ∙ rw (m, r) refl

-- how far blocks of len octets of user data have been read: the octets before at were copied to user,
-- and what is left decides
pub record IsRead (len at : ℕ) (rest user octets : List ℕ) : Type 0 where
  pub long : length user ≡ len
  pub within : at ≤ len
  pub enough : len - at + 2 * block_count (len - at) ≤ length rest
  pub right : are_sealed (block_count (len - at)) (len - at) rest ≡ are_sealed (block_count len) len octets
  pub copied : take at user ++ user_data_in_blocks (block_count (len - at)) (len - at) rest
      ≡ user_data_in_blocks (block_count len) len octets

pub wrong_block : (len at size : ℕ) (rest user octets block : List ℕ) → IsRead len at rest user octets → at < len
    → size ≡ min (len - at) 16 → block ≡ take (size + 2) rest → is_sealed block ≡ false
    → false ≡ are_sealed (block_count len) len octets
wrong_block len at size rest user octets block r h e b w =
    sym (sym r.right ∙ (are_sealed_next (len - at) size rest (omega arith) e ∙ ap (λ t. t
    && are_sealed (block_count (len - at - size)) (len - at - size) (drop (size + 2) rest)) (ap is_sealed (sym b) ∙ w)))

pub right_block : (len at size : ℕ) (rest user octets block behind new : List ℕ) → IsRead len at rest user octets
    → at < len → size ≡ min (len - at) 16 → block ≡ take (size + 2) rest → behind ≡ drop (size + 2) rest
    → is_sealed block ≡ true → new ≡ take size block
    → IsRead len (at + size) behind (put_mid at (at + size - at) user new) octets
right_block len at size rest user octets block behind new r h e b d w n =
    let left : len - (at + size) ≡ len - at - size = omega arith in
    let piece : new ≡ take size rest = n ∙ (ap (take size) b ∙ take-take size (size + 2) rest (omega arith)) in
    let size_is : length new ≡ size = ap length piece ∙ length-take-le size rest (omega (arith, r.enough, h, e)) in
    record {
      long = omega (
        arith,
        length-append (take at user) (new ++ drop (at + size - at) (drop at user)),
        length-append new (drop (at + size - at) (drop at user)),
        length-take at user,
        length-drop at user,
        length-drop (at + size - at) (drop at user),
        size_is,
        r.long,
      );
      within = omega arith;
      enough = omega (arith, ap length d, length-drop (size + 2) rest, r.enough);
      right = rw (left, d) (sym (are_sealed_next (len - at) size rest (omega arith) e
          ∙ ap (λ t. t && are_sealed (block_count (len - at - size)) (len - at - size) (drop (size + 2) rest))
          (ap is_sealed (sym b) ∙ w)) ∙ r.right);
      copied =
          ap (λ n. take (at + size) (put_mid at (at + size - at) user new)
          ++ user_data_in_blocks (block_count n) n behind) left
          ∙ (ap (λ t. take (at + size) (put_mid at (at + size - at) user new)
          ++ user_data_in_blocks (block_count (len - at - size)) (len - at - size) t) d
          ∙ (ap (λ t. t ++ user_data_in_blocks (block_count (len - at - size)) (len - at - size) (drop (size + 2) rest))
          (take-put_mid at (at + size - at) user new (at + size) (omega arith) (omega (arith, r.long))
          ∙ ap (λ t. take at user ++ t) piece)
          ∙ (append_assoc (take at user) (take size rest)
          (user_data_in_blocks (block_count (len - at - size)) (len - at - size) (drop (size + 2) rest))
          ∙ (ap (λ t. take at user ++ t) (sym (unsealed_next (len - at) size rest (omega arith) e)) ∙ r.copied))));
    }

-- how far user data has been written to out, which was before: the blocks before at are there, and what is
-- left goes behind them
pub record IsWritten (at : ℕ) (rest user out before : List ℕ) : Type 0 where
  pub length_left : at + length rest + 2 * block_count (length rest) ≡ length user + 2 * block_count (length user)
  pub written : take at out ++ blocks (block_count (length rest)) rest ≡ blocks (block_count (length user)) user
  pub behind : drop at out ≡ drop at before
  pub long : length out ≡ length before

-- the blocks of user data, the first one apart
pub blocks_next : (size : ℕ) (user : List ℕ) → 0 < length user → size ≡ min (length user) 16
    → blocks (block_count (length user)) user
    ≡ octets_with_crc (take size user) ++ blocks (block_count (length (drop size user))) (drop size user)
blocks_next size user h s =
    let m : min 16 (length user) ≡ size = omega arith in
    let here : take 16 user ≡ take size user = sym (take_min 16 user) ∙ ap (λ n. take n user) m in
    let behind : drop 16 user ≡ drop size user = sym (drop_min 16 user) ∙ ap (λ n. drop n user) m in
    let count : block_count (length user - 16) ≡ block_count (length (drop size user)) =
    ap block_count (omega (arith, length-drop size user)) in
    ap (λ n. blocks n user) (block_count_next (length user) h) ∙ rw (here, behind, count) refl

pub length-octets_with_crc : (octets : List ℕ) → length (octets_with_crc octets) ≡ length octets + 2
unfolding octets_with_crc
length-octets_with_crc octets = length-append octets _

pub next_written : (at size : ℕ) (rest user out before block behind new : List ℕ) → IsWritten at rest user out before
    → length user + 2 * block_count (length user) ≤ length before → 0 < length rest → size ≡ min (length rest) 16
    → block ≡ take size rest → behind ≡ drop size rest
    → new ≡ octets_with_crc block ++ drop (length block + 2) (take (length out - at) (drop at out))
    → IsWritten (at + (length block + 2)) behind user (put_mid at (length out - at) out new) before
next_written at size rest user out before block behind new w fits h s b d n =
    let long : length block ≡ size = ap length b ∙ length-take-le size rest (omega arith) in
    let left : length behind ≡ length rest - size = ap length d ∙ length-drop size rest in
    let front : length (take at out) ≡ at = length-take-le at out (omega (arith, w.length_left, w.long)) in
    let step = length block + 2 in
    let tail = drop step (drop at out) in
    let new_is : new ≡ octets_with_crc block ++ tail =
    n ∙ ap (λ t. octets_with_crc block ++ drop step t) (take_rest out at) in
    let whole : put_mid at (length out - at) out new ≡ (take at out ++ octets_with_crc block) ++ tail =
    ap (λ t. take at out ++ (new ++ t)) (drop_all (length out - at) (drop at out) (omega (arith, length-drop at out)))
    ∙ (ap (λ t. take at out ++ t) (append-nil new ∙ new_is)
    ∙ sym (append_assoc (take at out) (octets_with_crc block) tail)) in
    let ahead : length (take at out ++ octets_with_crc block) ≡ at + step =
    length-append (take at out) (octets_with_crc block) ∙ omega (arith, front, length-octets_with_crc block) in
    let next : blocks (block_count (length rest)) rest
    ≡ octets_with_crc block ++ blocks (block_count (length behind)) behind =
    blocks_next size rest h s ∙ rw (b, d) refl in
    record {
      length_left = omega (arith, w.length_left, long, left, s, h);
      written =
          ap (λ t. take (at + step) t ++ blocks (block_count (length behind)) behind) whole
          ∙ (ap (λ t. t ++ blocks (block_count (length behind)) behind)
          (take_at (take at out ++ octets_with_crc block) tail (at + step) ahead)
          ∙ (append_assoc (take at out) (octets_with_crc block) (blocks (block_count (length behind)) behind)
          ∙ (ap (λ t. take at out ++ t) (sym next) ∙ w.written)));
      behind = ap (drop (at + step)) whole ∙ (drop_at (take at out ++ octets_with_crc block) tail (at + step) ahead
          ∙ (ap (drop step) w.behind ∙ drop-drop step at before));
      long = ap length whole ∙ (length-append (take at out ++ octets_with_crc block) tail ∙ omega
          (arith, ahead, length-drop step (drop at out), length-drop at out, w.long, w.length_left, long, s, h, fits));
    }
