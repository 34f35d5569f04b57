-- A frame that was written is read back, and what is read as a frame was written so.
use Rattle.std.proofs.Common.{◌≡◌, ℕ, zero, suc, ◌+◌, ◌-◌, ◌*◌, ◌/◌, ◌%◌, min, Bool, true}
use Rattle.std.proofs.Common.{false, not, List, [], ◌∷◌, ◌++◌, length, get_or, take, drop, Some, refl}
use Rattle.std.proofs.Common.{sym, ◌∙◌, ap, arith, append_assoc, length-append, nat_lt, le-ltb, eq-eqb}
use Rattle.std.proofs.lemmas.List.{length-take, length-drop, take_at, drop_at, get_or_at}
use Rattle.std.proofs.lemmas.List.{get_or-append-add, take-append-drop, nil_from_length}
use Rattle.dnp_link.specs.Crc.{crc_of}
use Rattle.dnp_link.specs.Frame.{FrameContent, block_count, header, octets_with_crc, blocks}
use Rattle.dnp_link.specs.Frame.{frame, frame_length, is_sealed, are_sealed, user_data_in_blocks}
use Rattle.dnp_link.specs.Stream.{Framed, octets_used_by, content_at, event_at_front, reading_with_first, reading}
use Rattle.dnp_link.proofs.Blocks.{length-octets_with_crc}
use Rattle.dnp_link.proofs.Front.{chain, front-append}
use Rattle.dnp_link.proofs.Streams.{reading_event}

-- what is sealed is found sealed
pub is_sealed-octets_with_crc : (octets : List ℕ) → is_sealed (octets_with_crc octets) ≡ true
unfolding is_sealed octets_with_crc
is_sealed-octets_with_crc octets =
    let lo = crc_of octets % 256 in
    let hi = crc_of octets / 256 in
    let size : length (octets ++ lo ∷ hi ∷ []) - 2 ≡ length octets =
    omega (arith, length-append octets (lo ∷ hi ∷ [])) in
    let here : take (length octets) (octets ++ lo ∷ hi ∷ []) ≡ octets =
    take_at octets (lo ∷ hi ∷ []) (length octets) refl in
    let low : get_or (octets ++ lo ∷ hi ∷ []) (length octets) 0 ≡ lo =
    get_or_at octets lo (hi ∷ []) 0 (length octets) refl in
    let high : get_or (octets ++ lo ∷ hi ∷ []) (length octets + 1) 0 ≡ hi =
    get_or-append-add octets (lo ∷ hi ∷ []) 1 0 in
    rw (size, here, low, high) (eq-eqb _ _ (omega arith))

-- the blocks that user data is written to are right, and carry it
pub are_sealed-blocks : (n : ℕ) (user : List ℕ) → n ≡ block_count (length user)
    → are_sealed n (length user) (blocks n user) ≡ true
are_sealed-blocks zero user e = refl
are_sealed-blocks (suc n) user e =
    let size : length (take 16 user) ≡ min 16 (length user) = length-take 16 user in
    let whole : length (octets_with_crc (take 16 user)) ≡ min 16 (length user) + 2 =
    length-octets_with_crc (take 16 user) ∙ omega (arith, size) in
    let left : length user - 16 ≡ length (drop 16 user) = sym (length-drop 16 user) in
    let here = take_at (octets_with_crc (take 16 user)) (blocks n (drop 16 user)) (min 16 (length user) + 2) whole in
    let behind = drop_at (octets_with_crc (take 16 user)) (blocks n (drop 16 user)) (min 16 (length user) + 2) whole in
    rw (here, behind, is_sealed-octets_with_crc (take 16 user), left)
    (are_sealed-blocks n (drop 16 user) (omega (arith, left)))

take_sealed : (octets rest : List ℕ) (n : ℕ) → length octets ≡ n → take n (octets_with_crc octets ++ rest) ≡ octets
unfolding octets_with_crc
take_sealed octets rest n h = ap (take n) (append_assoc octets _ rest) ∙ take_at octets _ n h

pub user_data_in_blocks-blocks : (n : ℕ) (user : List ℕ) → n ≡ block_count (length user)
    → user_data_in_blocks n (length user) (blocks n user) ≡ user
user_data_in_blocks-blocks zero user e = sym (nil_from_length user (omega arith))
user_data_in_blocks-blocks (suc n) user e =
    let size : length (take 16 user) ≡ min 16 (length user) = length-take 16 user in
    let whole : length (octets_with_crc (take 16 user)) ≡ min 16 (length user) + 2 =
    length-octets_with_crc (take 16 user) ∙ omega (arith, size) in
    let left : length user - 16 ≡ length (drop 16 user) = sym (length-drop 16 user) in
    let here = take_sealed (take 16 user) (blocks n (drop 16 user)) (min 16 (length user)) size in
    let behind = drop_at (octets_with_crc (take 16 user)) (blocks n (drop 16 user)) (min 16 (length user) + 2) whole in
    rw (here, behind, left, user_data_in_blocks-blocks n (drop 16 user) (omega (arith, left)))
    (take-append-drop 16 user)

pub length-blocks : (n : ℕ) (user : List ℕ) → n ≡ block_count (length user)
    → length (blocks n user) ≡ length user + 2 * n
length-blocks zero user e = omega arith
length-blocks (suc n) user e =
    let left : length (drop 16 user) ≡ length user - 16 = length-drop 16 user in
    let rest = length-blocks n (drop 16 user) (omega (arith, left)) in
    omega (
      arith,
      length-append (octets_with_crc (take 16 user)) (blocks n (drop 16 user)),
      length-octets_with_crc (take 16 user),
      length-take 16 user,
      left,
      rest,
    )

pub length-frame : (c : FrameContent) → length (frame c) ≡ frame_length (length c.user)
unfolding frame
length-frame c = omega (
  arith,
  length-append (octets_with_crc (header c)) (blocks (block_count (length c.user)) c.user),
  length-octets_with_crc (header c),
  length-blocks (block_count (length c.user)) c.user refl,
)

chain_frame : (bad short3 low short10 wrong short broken : Bool) (c c' : FrameContent) → bad ≡ false → short3 ≡ false
    → low ≡ false → short10 ≡ false → wrong ≡ false → short ≡ false → broken ≡ false → c ≡ c'
    → chain bad short3 low short10 wrong short broken c ≡ Some (Framed c')
chain_frame bad short3 low short10 wrong short broken c c' h1 h2 h3 h4 h5 h6 h7 h8 =
    rw (h1, h2, h3, h4, h5, h6, h7, h8) refl

-- the front of a frame shows it
pub front_frame : (c : FrameContent) → event_at_front (frame c) ≡ Some (Framed c)
unfolding event_at_front frame octets_with_crc
front_frame c =
    let n = length c.user in
    let body = blocks (block_count n) c.user in
    let octets = octets_with_crc (header c) ++ body in
    let size : length body ≡ n + 2 * block_count n = length-blocks (block_count n) c.user refl in
    let told : 5 + n - 5 ≡ n = omega arith in
    let destination : c.destination % 256 + 256 * (c.destination / 256) ≡ c.destination = omega arith in
    let source : c.source % 256 + 256 * (c.source / 256) ≡ c.source = omega arith in
    chain_frame false (nat_lt (length octets) 3) (nat_lt (5 + n) 5) (nat_lt (length octets) 10)
    (not (is_sealed (octets_with_crc (header c)))) (nat_lt (length octets) (frame_length (5 + n - 5)))
    (not (are_sealed (block_count (5 + n - 5)) (5 + n - 5) body)) (content_at octets) c
    refl
    (le-ltb (length octets) 3 (omega arith))
    (le-ltb (5 + n) 5 (omega arith))
    (le-ltb (length octets) 10 (omega arith))
    (ap not (is_sealed-octets_with_crc (header c)))
    (le-ltb (length octets) (frame_length (5 + n - 5)) (omega (arith, size)))
    (rw told (ap not (are_sealed-blocks (block_count n) c.user refl)))
    (rw (told, destination, source, user_data_in_blocks-blocks (block_count n) c.user refl) refl)

-- whatever follows it
pub front_frame-append : (c : FrameContent) (behind : List ℕ) → event_at_front (frame c ++ behind) ≡ Some (Framed c)
front_frame-append c behind = front-append (frame c) behind (Framed c) (front_frame c)

-- a frame is read first, and then what follows it
pub reading-frame : (c : FrameContent) (behind : List ℕ)
    → reading (frame c ++ behind) ≡ reading_with_first (Framed c) (reading behind)
reading-frame c behind =
    reading_event (frame c ++ behind) (Framed c) (front_frame-append c behind)
    ∙ ap (λ t. reading_with_first (Framed c) (reading t))
    (drop_at (frame c) behind (octets_used_by (Framed c)) (length-frame c))
