-- What is read as a frame was written so.
use Rattle.std.proofs.Common.{◌≡◌, ℕ, zero, suc, ◌+◌, ◌-◌, ◌*◌, ◌/◌, ◌%◌, ◌≤◌, ◌<◌, min, Bool, true}
use Rattle.std.proofs.Common.{false, not, ◌&&◌, ◌||◌, List, [], ◌∷◌, ◌++◌, length, take, drop, Option, Some, None, refl}
use Rattle.std.proofs.Common.{sym, ◌∙◌, ap, arith, append_assoc, nat_lt, slice_index, subst, ltb-false, eqb, inl, inr}
use Rattle.std.proofs.lemmas.List.{take-take, length-take-le, length-take, length-drop, take_at}
use Rattle.std.proofs.lemmas.List.{drop_at, get_or-take, get_or-drop, take_all, take-append-drop}
use Rattle.std.proofs.lemmas.List.{nil_from_length, drop_more, drop_all, append-nil, get_or_past}
use Rattle.std.proofs.lemmas.Bool.{cases_lt, eqb-true}
use Rattle.std.proofs.Math.Seq.{take-add}
use Rattle.dnp_link.specs.declared.event.SkipReason.{SkipReason}
use Rattle.dnp_link.specs.Crc.{crc_of}
use Rattle.dnp_link.specs.Frame.{FrameContent, block_count, header, octets_with_crc, blocks}
use Rattle.dnp_link.specs.Frame.{frame, frame_length, is_sealed, are_sealed, user_data_in_blocks}
use Rattle.dnp_link.specs.Stream.{Event, Framed, Dropped, is_bad_start, user_length, content_at, event_at_front}
use Rattle.gw_model.specs.Octets.{AreOctets}
use Rattle.dnp_link.specs.Laws.{BeginsWith}
use Rattle.dnp_link.proofs.Front.{chain, length-user_data_in_blocks}
use Rattle.dnp_link.proofs.Round.{front_frame-append}

octets-take : (n : ℕ) (octets : List ℕ) → AreOctets octets → AreOctets (take n octets)
octets-take n octets h i = elim (cases_lt i n) [
  | inl below ↦ subst (λ (x : ℕ). x < 256) (sym (get_or-take n octets i 0 below)) (h i)
  | inr past ↦ subst (λ (x : ℕ). x < 256)
      (sym (get_or_past (take n octets) i 0 (omega (arith, length-take n octets)))) (omega arith)
]

octets-drop : (n : ℕ) (octets : List ℕ) → AreOctets octets → AreOctets (drop n octets)
octets-drop n octets h i = subst (λ (x : ℕ). x < 256) (sym (get_or-drop n octets i 0)) (h (n + i))

last_two : (n : ℕ) (octets : List ℕ) → length octets ≡ n + 2
    → octets ≡ take n octets ++ slice_index octets n ∷ slice_index octets (n + 1) ∷ []
last_two n octets h =
    let one = drop_more octets n 0 (omega arith) in
    let two = drop_more octets (n + 1) 0 (omega arith) in
    let none : drop (n + 1 + 1) octets ≡ [] = drop_all (n + 1 + 1) octets (omega arith) in
    sym (take-append-drop n octets) ∙ ap (λ t. take n octets ++ t) (one
    ∙ ap (λ t. slice_index octets n ∷ t) (two ∙ ap (λ t. slice_index octets (n + 1) ∷ t) none))

-- octets that are found sealed are what sealing gives
sealed_is : (n : ℕ) (octets : List ℕ) → length octets ≡ n + 2 → AreOctets octets → is_sealed octets ≡ true
    → octets ≡ octets_with_crc (take n octets)
unfolding is_sealed octets_with_crc
sealed_is n octets h o s =
    let size : length octets - 2 ≡ n = omega arith in
    let crc : crc_of (take n octets) ≡ slice_index octets n + 256 * slice_index octets (n + 1) =
    eqb-true _ _ (rw size at s) in
    let low : slice_index octets n ≡ crc_of (take n octets) % 256 = omega (arith, crc, o n) in
    let high : slice_index octets (n + 1) ≡ crc_of (take n octets) / 256 = omega (arith, crc, o n) in
    last_two n octets h ∙ ap (λ x. take n octets ++ x ∷ slice_index octets (n + 1) ∷ []) low
    ∙ ap (λ x. take n octets ++ crc_of (take n octets) % 256 ∷ x ∷ []) high

and_first : (a b : Bool) → (a && b) ≡ true → a ≡ true
and_first true b h = refl
and_first false b h = h

and_second : (a b : Bool) → (a && b) ≡ true → b ≡ true
and_second true b h = h
and_second false b h = absurd (let no : false ≡ true → ⊥ = λ e. cc in no h)

-- sixteen octets, or fewer where none are behind them
cut_16 : (u : ℕ) (x y : List ℕ) → length x ≡ min 16 u → length y ≡ u - 16
    → (take 16 (x ++ y) ≡ x) × (drop 16 (x ++ y) ≡ y)
cut_16 u x y h g = elim (cases_lt u 16) [
  | inl below ↦
      let none : y ≡ [] = nil_from_length y (omega arith) in
      rw (none, append-nil x) (take_all 16 x (omega arith), drop_all 16 x (omega arith))
  | inr from ↦ (take_at x y 16 (omega arith), drop_at x y 16 (omega arith))
]

blocks_are : (n u : ℕ) (octets : List ℕ) → n ≡ block_count u → u + 2 * n ≤ length octets → AreOctets octets
    → are_sealed n u octets ≡ true → take (u + 2 * n) octets ≡ blocks n (user_data_in_blocks n u octets)
blocks_are zero u octets e l o h = ap (λ k. take k octets) (let z : u + 2 * 0 ≡ 0 = omega arith in z)
blocks_are (suc n) u octets e l o h =
    let s = min 16 u in
    let behind = drop (s + 2) octets in
    let sealed_first = and_first (is_sealed (take (s + 2) octets)) (are_sealed n (u - 16) behind) h in
    let sealed_rest = and_second (is_sealed (take (s + 2) octets)) (are_sealed n (u - 16) behind) h in
    let count : n ≡ block_count (u - 16) = omega arith in
    let room : u - 16 + 2 * n ≤ length behind = omega (arith, length-drop (s + 2) octets) in
    let block : take (s + 2) octets ≡ octets_with_crc (take s octets) =
    sealed_is s (take (s + 2) octets) (length-take-le (s + 2) octets (omega arith))
    (octets-take (s + 2) octets o) sealed_first
    ∙ ap octets_with_crc (take-take s (s + 2) octets (omega arith)) in
    let rest = user_data_in_blocks n (u - 16) behind in
    let cut = cut_16 u (take s octets) rest (length-take-le s octets (omega arith))
    (length-user_data_in_blocks n (u - 16) behind count room) in
    let split : u + 2 * suc n ≡ s + 2 + (u - 16 + 2 * n) = omega arith in
    ap (λ k. take k octets) split
    ∙ (take-add (s + 2) (u - 16 + 2 * n) octets
    ∙ (ap (λ t. t ++ take (u - 16 + 2 * n) behind) block
    ∙ (ap (λ t. octets_with_crc (take s octets) ++ t)
    (blocks_are n (u - 16) behind count room (octets-drop (s + 2) octets o) sealed_rest)
    ∙ rw (cut.0, cut.1) refl)))

or_false : (p q : Bool) → (p || q) ≡ false → (p ≡ false) × (q ≡ false)
or_false false q h = (refl, h)
or_false true q h = absurd (let no : true ≡ false → ⊥ = λ e. cc in no h)

not_false : (p : Bool) → not p ≡ false → p ≡ true
not_false true h = refl
not_false false h = absurd (let no : true ≡ false → ⊥ = λ e. cc in no h)

same_number : (m n : ℕ) → not (eqb m n) ≡ false → m ≡ n
same_number m n h = eqb-true m n (not_false (eqb m n) h)

-- the first eight octets are the header that their fields make
header_is : (octets : List ℕ) → 8 ≤ length octets → AreOctets octets → is_bad_start octets ≡ false
    → 5 ≤ slice_index octets 2 → length (content_at octets).user ≡ user_length octets
    → take 8 octets ≡ header (content_at octets)
header_is [] l o b f u = absurd (omega arith)
header_is (a0 ∷ []) l o b f u = absurd (omega arith)
header_is (a0 ∷ a1 ∷ []) l o b f u = absurd (omega arith)
header_is (a0 ∷ a1 ∷ a2 ∷ []) l o b f u = absurd (omega arith)
header_is (a0 ∷ a1 ∷ a2 ∷ a3 ∷ []) l o b f u = absurd (omega arith)
header_is (a0 ∷ a1 ∷ a2 ∷ a3 ∷ a4 ∷ []) l o b f u = absurd (omega arith)
header_is (a0 ∷ a1 ∷ a2 ∷ a3 ∷ a4 ∷ a5 ∷ []) l o b f u = absurd (omega arith)
header_is (a0 ∷ a1 ∷ a2 ∷ a3 ∷ a4 ∷ a5 ∷ a6 ∷ []) l o b f u = absurd (omega arith)
header_is (a0 ∷ a1 ∷ a2 ∷ a3 ∷ a4 ∷ a5 ∷ a6 ∷ a7 ∷ rest) l o b f u =
    let start = or_false (not (eqb a0 5)) (not (eqb a1 100)) b in
    let first : a0 ≡ 5 = same_number a0 5 start.0 in
    let second : a1 ≡ 100 = same_number a1 100 start.1 in
    let told : 5 + length (content_at (a0 ∷ a1 ∷ a2 ∷ a3 ∷ a4 ∷ a5 ∷ a6 ∷ a7 ∷ rest)).user ≡ a2 = omega (arith, u, f) in
    let low4 : a4 < 256 = o 4 in
    let low6 : a6 < 256 = o 6 in
    let four : (a4 + 256 * a5) % 256 ≡ a4 = omega arith in
    let five : (a4 + 256 * a5) / 256 ≡ a5 = omega arith in
    let six : (a6 + 256 * a7) % 256 ≡ a6 = omega arith in
    let seven : (a6 + 256 * a7) / 256 ≡ a7 = omega arith in
    rw (told, four, five, six, seven, first, second) refl

record Passed (bad short3 low short10 wrong short broken : Bool) (c c' : FrameContent) : Type 0 where
  pub start : bad ≡ false
  pub length : low ≡ false
  pub header : short10 ≡ false
  pub right : wrong ≡ false
  pub whole : short ≡ false
  pub blocks_right : broken ≡ false
  pub same : c ≡ c'

dropped : (why : SkipReason) (c : FrameContent) → ◌≡◌ {A = Option Event} (Some (Dropped why)) (Some (Framed c)) → ⊥
dropped why c h = cc

nothing : (c : FrameContent) → ◌≡◌ {A = Option Event} None (Some (Framed c)) → ⊥
nothing c h = cc

same_content : (c c' : FrameContent) → ◌≡◌ {A = Option Event} (Some (Framed c)) (Some (Framed c')) → c ≡ c'
same_content c c' h = cc

passed : (bad short3 low short10 wrong short broken : Bool) (c c' : FrameContent)
    → chain bad short3 low short10 wrong short broken c ≡ Some (Framed c')
    → Passed bad short3 low short10 wrong short broken c c'
passed true short3 low short10 wrong short broken c c' h = absurd (dropped _ c' h)
passed false true low short10 wrong short broken c c' h = absurd (nothing c' h)
passed false false true short10 wrong short broken c c' h = absurd (dropped _ c' h)
passed false false false true wrong short broken c c' h = absurd (nothing c' h)
passed false false false false true short broken c c' h = absurd (dropped _ c' h)
passed false false false false false true broken c c' h = absurd (nothing c' h)
passed false false false false false false true c c' h = absurd (dropped _ c' h)
passed false false false false false false false c c' h = record {
  start = refl;
  length = refl;
  header = refl;
  right = refl;
  whole = refl;
  blocks_right = refl;
  same = same_content c c' h;
}

-- octets whose tests all pass begin with the frame of their fields
begins_here : (octets : List ℕ) → AreOctets octets → is_bad_start octets ≡ false → 5 ≤ slice_index octets 2
    → 10 ≤ length octets → is_sealed (take 10 octets) ≡ true → frame_length (user_length octets) ≤ length octets
    → are_sealed (block_count (user_length octets)) (user_length octets) (drop 10 octets) ≡ true
    → BeginsWith octets (content_at octets)
unfolding frame
begins_here octets o start five ten right whole blocks_right =
    let u = user_length octets in
    let m = u + 2 * block_count u in
    let body = drop 10 octets in
    let room : m ≤ length body = omega (arith, length-drop 10 octets) in
    let size : length (content_at octets).user ≡ u = length-user_data_in_blocks (block_count u) u body refl room in
    let head : take 10 octets ≡ octets_with_crc (header (content_at octets)) =
    sealed_is 8 (take 10 octets) (length-take-le 10 octets ten) (octets-take 10 octets o) right
    ∙ ap octets_with_crc (take-take 8 10 octets (omega arith) ∙ header_is octets (omega arith) o start five size) in
    let data_blocks : take m body ≡ blocks (block_count (length (content_at octets).user)) (content_at octets).user =
    blocks_are (block_count u) u body refl room (octets-drop 10 octets o) blocks_right
    ∙ ap (λ k. blocks (block_count k) (content_at octets).user) (sym size) in (
      omega (arith, size, o 2),
      (
        drop m body,
        sym (take-append-drop 10 octets)
            ∙ (ap (λ t. t ++ body) head
            ∙ (ap (λ t. octets_with_crc (header (content_at octets)) ++ t)
            (sym (take-append-drop m body) ∙ ap (λ t. t ++ drop m body) data_blocks)
            ∙ sym (append_assoc (octets_with_crc (header (content_at octets))) _ (drop m body)))),
      ),
    )

-- what octets show as a frame, they begin with
pub begins : (octets : List ℕ) (c : FrameContent) → AreOctets octets → event_at_front octets ≡ Some (Framed c)
    → BeginsWith octets c
unfolding event_at_front
begins octets c o h =
    let u = user_length octets in
    let p = passed (is_bad_start octets) (nat_lt (length octets) 3) (nat_lt (slice_index octets 2) 5)
    (nat_lt (length octets) 10) (not (is_sealed (take 10 octets))) (nat_lt (length octets) (frame_length u))
    (not (are_sealed (block_count u) u (drop 10 octets))) (content_at octets) c h in
    subst (BeginsWith octets) p.same (begins_here octets o p.start (ltb-false (slice_index octets 2) 5 p.length)
    (ltb-false (length octets) 10 p.header) (not_false (is_sealed (take 10 octets)) p.right)
    (ltb-false (length octets) (frame_length u) p.whole) (not_false _ p.blocks_right))

-- and the other way round
pub begins_shows : (octets : List ℕ) (c : FrameContent) → BeginsWith octets c → event_at_front octets ≡ Some (Framed c)
begins_shows octets c b = ap event_at_front b.1.1 ∙ front_frame-append c b.1.0
