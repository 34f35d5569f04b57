-- What the front of octets shows: how much it takes, and that octets behind it change nothing.
use Rattle.std.proofs.Common.{◌≡◌, ℕ, zero, suc, ◌+◌, ◌-◌, ◌*◌, ◌≤◌, ◌<◌, min, Bool, true, false, not}
use Rattle.std.proofs.Common.{◌||◌, List, [], ◌∷◌, ◌++◌, length, take, drop, Option, Some, None, refl, ap, arith}
use Rattle.std.proofs.Common.{length-append, nat_lt, slice_index, if◌then◌else◌, IfSome, subst, ltb-false, le-ltb, eqb}
use Rattle.std.proofs.lemmas.List.{length-take, length-drop, take-append-le, drop-append-le, get_or_append_left}
use Rattle.dnp_link.specs.Frame.{FrameContent, block_count, frame_length, is_sealed, are_sealed, user_data_in_blocks}
use Rattle.dnp_link.specs.Stream.{Event, Framed, Dropped, octets_used_by, is_bad_start, user_length, content_at, event_at_front}
use Rattle.dnp_link.specs.declared.event.SkipReason.TheVariants.{BadStart, BadLength, BadHeaderCrc, BadBlockCrc}

-- n blocks of u octets of user data carry u octets
pub length-user_data_in_blocks : (n u : ℕ) (octets : List ℕ) → n ≡ block_count u → u + 2 * n ≤ length octets
    → length (user_data_in_blocks n u octets) ≡ u
length-user_data_in_blocks zero u octets e h = omega arith
length-user_data_in_blocks (suc n) u octets e h =
    let rest : length (user_data_in_blocks n (u - 16) (drop (min 16 u + 2) octets)) ≡ u - 16 =
    length-user_data_in_blocks n (u - 16) (drop (min 16 u + 2) octets) (omega arith)
    (omega (arith, length-drop (min 16 u + 2) octets)) in
    omega (
      arith,
      length-append (take (min 16 u) octets) (user_data_in_blocks n (u - 16) (drop (min 16 u + 2) octets)),
      length-take (min 16 u) octets,
      rest,
    )

-- blocks that are there stay what they are, whatever follows
pub are_sealed-append : (n u : ℕ) (a b : List ℕ) → n ≡ block_count u → u + 2 * n ≤ length a
    → are_sealed n u (a ++ b) ≡ are_sealed n u a
are_sealed-append zero u a b e h = refl
are_sealed-append (suc n) u a b e h =
    let here : take (min 16 u + 2) (a ++ b) ≡ take (min 16 u + 2) a = take-append-le (min 16 u + 2) a b (omega arith) in
    let behind : drop (min 16 u + 2) (a ++ b) ≡ drop (min 16 u + 2) a ++ b =
    drop-append-le (min 16 u + 2) a b (omega arith) in
    rw (
      here,
      behind,
      are_sealed-append n (u - 16) (drop (min 16 u + 2) a) b (omega arith)
          (omega (arith, length-drop (min 16 u + 2) a)),
    ) refl

pub user_data_in_blocks-append : (n u : ℕ) (a b : List ℕ) → n ≡ block_count u → u + 2 * n ≤ length a
    → user_data_in_blocks n u (a ++ b) ≡ user_data_in_blocks n u a
user_data_in_blocks-append zero u a b e h = refl
user_data_in_blocks-append (suc n) u a b e h =
    let here : take (min 16 u) (a ++ b) ≡ take (min 16 u) a = take-append-le (min 16 u) a b (omega arith) in
    let behind : drop (min 16 u + 2) (a ++ b) ≡ drop (min 16 u + 2) a ++ b =
    drop-append-le (min 16 u + 2) a b (omega arith) in
    rw (
      here,
      behind,
      user_data_in_blocks-append n (u - 16) (drop (min 16 u + 2) a) b (omega arith)
          (omega (arith, length-drop (min 16 u + 2) a)),
    ) refl

none_some : {e : Event} → ◌≡◌ {A = Option Event} None (Some e) → ⊥
none_some h = cc

some_taken : (x e : Event) (n : ℕ) → Some x ≡ Some e → octets_used_by x ≤ n → octets_used_by e ≤ n
some_taken x e n h t = let P : Option Event → Type 0 = λ o. IfSome o (λ y. octets_used_by y ≤ n) in subst P h t

some_none : {e : Event} → ◌≡◌ {A = Option Event} (Some e) None → ⊥
some_none h = cc

-- the order of the tests
abbrev pub chain : (bad short3 low short10 wrong short broken : Bool) → FrameContent → Option Event
chain bad short3 low short10 wrong short broken c =
    if bad then Some (Dropped BadStart)
    else if short3 then None
    else if low then Some (Dropped BadLength)
    else if short10 then None
    else if wrong then Some (Dropped BadHeaderCrc)
    else if short then None
    else if broken then Some (Dropped BadBlockCrc)
    else Some (Framed c)

-- what the tests have in common at octets and at octets that go on
record Same3 (bad short3 low bad' short3' low' : Bool) : Type 0 where
  pub bad_same : bad' ≡ bad
  pub long : short3' ≡ false
  pub low_same : low' ≡ low

record Same10 (wrong wrong' short10' : Bool) : Type 0 where
  pub long : short10' ≡ false
  pub wrong_same : wrong' ≡ wrong

record SameFrame (broken broken' short' : Bool) (c c' : FrameContent) : Type 0 where
  pub long : short' ≡ false
  pub broken_same : broken' ≡ broken
  pub content_same : c' ≡ c

chain-append : (bad short3 low short10 wrong short broken : Bool) (c : FrameContent)
    (bad' short3' low' short10' wrong' short' broken' : Bool) (c' : FrameContent) (e : Event)
    → (bad ≡ true → bad' ≡ true)
    → (short3 ≡ false → Same3 bad short3 low bad' short3' low')
    → (short10 ≡ false → Same10 wrong wrong' short10')
    → (short10 ≡ false → short ≡ false → SameFrame broken broken' short' c c')
    → chain bad short3 low short10 wrong short broken c ≡ Some e
    → chain bad' short3' low' short10' wrong' short' broken' c' ≡ Some e
chain-append true short3 low short10 wrong short broken c bad' short3' low' short10' wrong' short' broken'
    c' e f g k m h =
    rw (f refl) h
chain-append false true low short10 wrong short broken c bad' short3' low' short10' wrong' short' broken'
    c' e f g k m h =
    absurd (none_some h)
chain-append false false true short10 wrong short broken c bad' short3' low' short10' wrong' short' broken'
    c' e f g k m h =
    let s = g refl in rw (s.bad_same, s.long, s.low_same) h
chain-append false false false true wrong short broken c bad' short3' low' short10' wrong' short' broken'
    c' e f g k m h =
    absurd (none_some h)
chain-append false false false false true short broken c bad' short3' low' short10' wrong' short' broken'
    c' e f g k m h =
    let s = g refl in let t = k refl in rw (s.bad_same, s.long, s.low_same, t.long, t.wrong_same) h
chain-append false false false false false true broken c bad' short3' low' short10' wrong' short' broken'
    c' e f g k m h =
    absurd (none_some h)
chain-append false false false false false false true c bad' short3' low' short10' wrong' short' broken'
    c' e f g k m h =
    let s = g refl in
    let t = k refl in
    let u = m refl refl in
    rw (s.bad_same, s.long, s.low_same, t.long, t.wrong_same, u.long, u.broken_same) h
chain-append false false false false false false false c bad' short3' low' short10' wrong' short' broken'
    c' e f g k m h =
    let s = g refl in
    let t = k refl in
    let u = m refl refl in
    rw (s.bad_same, s.long, s.low_same, t.long, t.wrong_same, u.long, u.broken_same, u.content_same) h

-- an event uses up octets that are there
chain_taken : (bad short3 low short10 wrong short broken : Bool) (c : FrameContent) (n : ℕ) (e : Event)
    → (bad ≡ true → 0 < n)
    → (short3 ≡ false → 0 < n)
    → (short10 ≡ false → short ≡ false → octets_used_by (Framed c) ≤ n)
    → chain bad short3 low short10 wrong short broken c ≡ Some e
    → octets_used_by e ≤ n
chain_taken true short3 low short10 wrong short broken c n e f g k h = some_taken _ e n h (f refl)
chain_taken false true low short10 wrong short broken c n e f g k h = absurd (none_some h)
chain_taken false false true short10 wrong short broken c n e f g k h = some_taken _ e n h (g refl)
chain_taken false false false true wrong short broken c n e f g k h = absurd (none_some h)
chain_taken false false false false true short broken c n e f g k h = some_taken _ e n h (g refl)
chain_taken false false false false false true broken c n e f g k h = absurd (none_some h)
chain_taken false false false false false false true c n e f g k h = some_taken _ e n h (g refl)
chain_taken false false false false false false false c n e f g k h = some_taken _ e n h (k refl refl)

bad_some : (a : List ℕ) → is_bad_start a ≡ true → 0 < length a
bad_some [] h = absurd (let no : false ≡ true → ⊥ = λ e. cc in no h)
bad_some (x ∷ a) h = omega arith

or_more : (p q : Bool) → p ≡ true → (p || q) ≡ true
or_more true q h = refl
or_more false q h = absurd (let no : false ≡ true → ⊥ = λ e. cc in no h)

bad_more : (a b : List ℕ) → is_bad_start a ≡ true → is_bad_start (a ++ b) ≡ true
bad_more [] b h = absurd (let no : false ≡ true → ⊥ = λ e. cc in no h)
bad_more (x ∷ []) [] h = h
bad_more (x ∷ []) (y ∷ b) h = or_more (not (eqb x 5)) (not (eqb y 100)) h
bad_more (x ∷ y ∷ a) b h = h

bad_same : (a b : List ℕ) → 3 ≤ length a → is_bad_start (a ++ b) ≡ is_bad_start a
bad_same [] b h = absurd (omega arith)
bad_same (x ∷ []) b h = absurd (omega arith)
bad_same (x ∷ y ∷ a) b h = refl

-- what an event uses up is there
pub front_taken : (a : List ℕ) (e : Event) → event_at_front a ≡ Some e → octets_used_by e ≤ length a
unfolding event_at_front
front_taken a e h =
    let u = user_length a in
    chain_taken (is_bad_start a) (nat_lt (length a) 3) (nat_lt (slice_index a 2) 5) (nat_lt (length a) 10)
    (not (is_sealed (take 10 a))) (nat_lt (length a) (frame_length u)) (not (are_sealed (block_count u) u (drop 10 a)))
    (content_at a) (length a) e
    (bad_some a)
    (λ p. omega (arith, ltb-false (length a) 3 p))
    (λ p q. omega (
      arith,
      ltb-false (length a) (frame_length u) q,
      length-user_data_in_blocks (block_count u) u (drop 10 a) refl
          (omega (arith, ltb-false (length a) (frame_length u) q, length-drop 10 a)),
    ))
    h

front-append_3 : (a b : List ℕ) → nat_lt (length a) 3 ≡ false
    → Same3 (is_bad_start a) (nat_lt (length a) 3) (nat_lt (slice_index a 2) 5) (is_bad_start (a ++ b))
    (nat_lt (length (a ++ b)) 3) (nat_lt (slice_index (a ++ b) 2) 5)
front-append_3 a b p =
    let long : 3 ≤ length a = ltb-false (length a) 3 p in
    record {
      bad_same = bad_same a b long;
      long = le-ltb (length (a ++ b)) 3 (omega (arith, length-append a b));
      low_same = ap (λ n. nat_lt n 5) (get_or_append_left a b 0 2 (omega arith));
    }

front-append_10 : (a b : List ℕ) → nat_lt (length a) 10 ≡ false
    → Same10 (not (is_sealed (take 10 a))) (not (is_sealed (take 10 (a ++ b)))) (nat_lt (length (a ++ b)) 10)
front-append_10 a b p =
    let long : 10 ≤ length a = ltb-false (length a) 10 p in
    record {
      long = le-ltb (length (a ++ b)) 10 (omega (arith, length-append a b));
      wrong_same = ap (λ l. not (is_sealed l)) (take-append-le 10 a b long);
    }

front-append_frame : (a b : List ℕ) → nat_lt (length a) 10 ≡ false
    → nat_lt (length a) (frame_length (user_length a)) ≡ false
    → SameFrame (not (are_sealed (block_count (user_length a)) (user_length a) (drop 10 a)))
    (not (are_sealed (block_count (user_length (a ++ b))) (user_length (a ++ b)) (drop 10 (a ++ b))))
    (nat_lt (length (a ++ b)) (frame_length (user_length (a ++ b)))) (content_at a) (content_at (a ++ b))
front-append_frame a b p q =
    let long : 10 ≤ length a = ltb-false (length a) 10 p in
    let whole : frame_length (user_length a) ≤ length a = ltb-false (length a) (frame_length (user_length a)) q in
    let same : (i : ℕ) → i < 10 → slice_index (a ++ b) i ≡ slice_index a i =
    λ i l. get_or_append_left a b 0 i (omega arith) in
    let u : user_length (a ++ b) ≡ user_length a = ap (λ n. n - 5) (same 2 (omega arith)) in
    let behind : drop 10 (a ++ b) ≡ drop 10 a ++ b = drop-append-le 10 a b long in
    record {
      long = rw u (le-ltb (length (a ++ b)) (frame_length (user_length a)) (omega (arith, length-append a b)));
      broken_same = rw (u, behind) (ap not (are_sealed-append (block_count (user_length a)) (user_length a)
          (drop 10 a) b refl (omega (arith, length-drop 10 a))));
      content_same = rw (
        same 3 (omega arith),
        same 4 (omega arith),
        same 5 (omega arith),
        same 6 (omega arith),
        same 7 (omega arith),
        u,
        behind,
        user_data_in_blocks-append (block_count (user_length a)) (user_length a) (drop 10 a) b refl
            (omega (arith, length-drop 10 a)),
      ) refl;
    }

-- what octets show they show whatever follows them
pub front-append : (a b : List ℕ) (e : Event) → event_at_front a ≡ Some e → event_at_front (a ++ b) ≡ Some e
unfolding event_at_front
front-append a b e h =
    let u = user_length a in
    let v = user_length (a ++ b) in
    chain-append (is_bad_start a) (nat_lt (length a) 3) (nat_lt (slice_index a 2) 5) (nat_lt (length a) 10)
    (not (is_sealed (take 10 a))) (nat_lt (length a) (frame_length u))
    (not (are_sealed (block_count u) u (drop 10 a))) (content_at a)
    (is_bad_start (a ++ b)) (nat_lt (length (a ++ b)) 3) (nat_lt (slice_index (a ++ b) 2) 5)
    (nat_lt (length (a ++ b)) 10) (not (is_sealed (take 10 (a ++ b)))) (nat_lt (length (a ++ b)) (frame_length v))
    (not (are_sealed (block_count v) v (drop 10 (a ++ b)))) (content_at (a ++ b)) e
    (bad_more a b) (front-append_3 a b) (front-append_10 a b) (front-append_frame a b) h
