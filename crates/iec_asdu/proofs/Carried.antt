-- What one ASDU carries of a list: observations of one type, at consecutive addresses under SQ 1, and never too many.
use Rattle.std.proofs.Common.{◌≡◌, if◌then◌else◌, ℕ, zero, suc, ◌+◌, ◌-◌, ◌*◌, ◌/◌, ◌<◌, ◌≤◌}
use Rattle.std.proofs.Common.{◌&&◌, min, nat_le, Bool, true, false, cond, List, [], ◌∷◌, ◌++◌, length, get_or, take}
use Rattle.std.proofs.Common.{drop, Option, Some, None, refl, sym, ap, subst, ◌∙◌, arith, is_some, length-append}
use Rattle.std.specs.Int.{w16, to_le_bytes}
use Rattle.std.specs.Prelude.{IfSome, All}
use Rattle.std.specs.List.{flat_map}
use Rattle.std.proofs.Math.Nat.{le-div_iff_mul-le, mul-le-mul_left}
use Rattle.std.proofs.lemmas.Bool.Decides.{nat_tests}
use Rattle.std.proofs.lemmas.List.{append-nil, length-take, length-take-le, take-take, take_all}
use Rattle.std.proofs.lemmas.Nat.{div_below}
use Rattle.gw_model.specs.declared.observation.Observation.{Observation}
use Rattle.gw_model.specs.Clocks.{Clocks}
use Rattle.gw_time.specs.Spelling.{tag_of}
use Rattle.iec_asdu.specs.declared.types.ElementKind.{ElementKind}
use Rattle.iec_asdu.specs.declared.types.MonitorType.{MonitorType}
use Rattle.iec_asdu.specs.Types.{identification_by, type_length}
use Rattle.iec_asdu.specs.Spelling.{element_kind, element_octets, tag_octets, identification_at}
use Rattle.iec_asdu.specs.Spelling.{address_octets, information_octets, object_octets, objects_octets}
use Rattle.iec_asdu.specs.Spelling.{qualifier_of, header_octets, list_spelling, spelling}
use Rattle.iec_asdu.specs.Fitting.{AreAlike, AreConsecutive, FitsAsdu}
use Rattle.iec_asdu.specs.Packing.{type_at, is_alike, alike_count, consecutive_count, apart_count}
use Rattle.iec_asdu.specs.Packing.{in_sequence_count, is_in_sequence, room_in_sequence, taken_of, packed_spelling}
use Rattle.iec_asdu.proofs.Lengths.{information_long}
use Rattle.iec_asdu.proofs.Known.{same_type, type_short}
use Rattle.iec_asdu.proofs.Counts.{nothing, like_itself, alike_are, alike_within, alike_longest}
use Rattle.iec_asdu.proofs.Counts.{alike_under, consecutive_are, consecutive_within, consecutive_longest}

-- ---- how many octets they have

-- element and time tag of any that is of the first one's type
abbrev size_at : Clocks → Observation → ℕ
size_at clocks x = type_length (type_at clocks x)

same_size : (clocks : Clocks) (x y : Observation) → identification_at clocks y ≡ identification_at clocks x
    → length (information_octets clocks y) ≡ size_at clocks x
same_size clocks x y same =
    information_long clocks y
    ∙ ap (λ (t : MonitorType). type_length t)
    (same_type (element_kind y.value) (element_kind x.value) (is_some (tag_of clocks y.stamp))
    (is_some (tag_of clocks x.stamp)) same)

elements_long : (clocks : Clocks) (x : Observation) (ys : List Observation)
    → AreAlike clocks x ys
    → length (flat_map (information_octets clocks) ys) ≡ length ys * size_at clocks x
elements_long clocks x [] alike = omega arith
elements_long clocks x (y ∷ ys) alike =
    omega (
      arith,
      length-append (information_octets clocks y) (flat_map (information_octets clocks) ys),
      same_size clocks x y alike.0.0,
      elements_long clocks x ys alike.1,
    )

objects_long : (clocks : Clocks) (x : Observation) (ys : List Observation)
    → AreAlike clocks x ys
    → length (flat_map (object_octets clocks) ys) ≡ length ys * (3 + size_at clocks x)
objects_long clocks x [] alike = omega arith
objects_long clocks x (y ∷ ys) alike =
    omega (
      arith,
      length-append (information_octets clocks y) (flat_map (object_octets clocks) ys),
      length-append (object_octets clocks y) (flat_map (object_octets clocks) ys),
      same_size clocks x y alike.0.0,
      objects_long clocks x ys alike.1,
    )

sequence_long : (clocks : Clocks) (ys : List Observation)
    → length (objects_octets clocks true ys) ≤ 3 + length (flat_map (information_octets clocks) ys)
sequence_long clocks [] = omega arith
sequence_long clocks (y ∷ ys) = omega arith

sequence_whole : (clocks : Clocks) (ys : List Observation) → 0 < length ys
    → length (objects_octets clocks true ys) ≡ 3 + length (flat_map (information_octets clocks) ys)
sequence_whole clocks [] some = absurd (omega arith)
sequence_whole clocks (y ∷ ys) some = omega arith

-- ---- what is carried

-- so many from the front of a list with this first one, under this SQ
pub record Carries (clocks : Clocks) (x : Observation) (xs : List Observation) (sequence : Bool) (n : ℕ) : Type 0 where
  pub some : 0 < n
  pub within : n ≤ length (x ∷ xs)
  pub few : n ≤ 127
  pub two : sequence ≡ true → 2 ≤ n
  pub alike : AreAlike clocks x (take n (x ∷ xs))
  pub untimed : sequence ≡ true → is_some (tag_of clocks x.stamp) ≡ false
  pub consecutive : sequence ≡ true → AreConsecutive x.address (take n (x ∷ xs))
  pub room : 6 + length (objects_octets clocks sequence (take n (x ∷ xs))) ≤ 249

first_counted : (clocks : Clocks) (x : Observation) (xs : List Observation) (room : ℕ) → 0 < room
    → 0 < alike_count clocks x (take room (x ∷ xs))
unfolding alike_count
first_counted clocks x xs zero some = absurd (omega arith)
first_counted clocks x xs (suc room) some =
    counted (is_alike clocks x x) (alike_count clocks x (take room xs)) (like_itself clocks x)
  where
    counted : (b : Bool) (n : ℕ) → b ≡ true → 0 < cond b (suc n) 0
    counted true n e = omega arith
    counted false n e = absurd cc

apart_carries : (clocks : Clocks) (x : Observation) (xs : List Observation)
    → Carries clocks x xs false (apart_count clocks (x ∷ xs))
unfolding apart_count
apart_carries clocks x xs =
    let size = size_at clocks x in
    let short = type_short (element_kind x.value) (is_some (tag_of clocks x.stamp)) in
    let room = 243 / (3 + size) in
    let front = take room (x ∷ xs) in
    let n = alike_count clocks x front in
    let most : room ≤ 127 = omega (arith, div_below 243 (3 + size) 127 (omega arith) (omega (arith, short.0))) in
    let some : 0 < room = (le-div_iff_mul-le {k = 3 + size} (omega arith)).1 (omega (arith, short.1)) in
    let inside : n ≤ min room (length (x ∷ xs)) =
    omega (arith, alike_within clocks x front, length-take room (x ∷ xs)) in
    let alike : AreAlike clocks x (take n (x ∷ xs)) =
    subst (AreAlike clocks x) (take-take n room (x ∷ xs) (omega (arith, inside))) (alike_are clocks x front) in
    let fits : n * (3 + size) ≤ 243 = (le-div_iff_mul-le {k = 3 + size} (omega arith)).0 (omega (arith, inside)) in
    let long : length (flat_map (object_octets clocks) (take n (x ∷ xs))) ≡ n * (3 + size) =
    objects_long clocks x (take n (x ∷ xs)) alike
    ∙ ap (λ (k : ℕ). k * (3 + size)) (length-take-le n (x ∷ xs) (omega (arith, inside))) in
    let whole : 6 + length (objects_octets clocks false (take n (x ∷ xs))) ≤ 249 = omega (arith, long, fits) in
    record {
      some = first_counted clocks x xs room some;
      within = omega (arith, inside);
      few = omega (arith, inside, most);
      two = λ e. absurd cc;
      alike = alike;
      untimed = λ e. absurd cc;
      consecutive = λ e. absurd cc;
      room = whole;
    }

sequence_carries : (clocks : Clocks) (x : Observation) (xs : List Observation)
    → 2 ≤ in_sequence_count clocks (x ∷ xs) → Carries clocks x xs true (in_sequence_count clocks (x ∷ xs))
unfolding in_sequence_count
sequence_carries clocks x xs two = by_time (is_some (tag_of clocks x.stamp)) refl two
  where
    size : ℕ
    size = size_at clocks x

    room : ℕ
    room = min 127 (240 / size)

    n : ℕ
    n = consecutive_count clocks x x.address (take room (x ∷ xs))

    by_time : (timed : Bool) → is_some (tag_of clocks x.stamp) ≡ timed → 2 ≤ cond timed 0 n
        → Carries clocks x xs true (cond timed 0 n)
    by_time true is two = absurd (omega arith)
    by_time false is two =
        let short = type_short (element_kind x.value) (is_some (tag_of clocks x.stamp)) in
        let front = take room (x ∷ xs) in
        let inside : n ≤ min room (length (x ∷ xs)) =
        omega (arith, consecutive_within clocks x x.address front, length-take room (x ∷ xs)) in
        let same : take n front ≡ take n (x ∷ xs) = take-take n room (x ∷ xs) (omega (arith, inside)) in
        let row = consecutive_are clocks x x.address front in
        let alike : AreAlike clocks x (take n (x ∷ xs)) = subst (AreAlike clocks x) same row.0 in
        let fits : n * size ≤ 240 = (le-div_iff_mul-le short.0).0 (omega (arith, inside)) in
        let long : length (flat_map (information_octets clocks) (take n (x ∷ xs))) ≡ n * size =
        elements_long clocks x (take n (x ∷ xs)) alike
        ∙ ap (λ (k : ℕ). k * size) (length-take-le n (x ∷ xs) (omega (arith, inside))) in
        let whole : 6 + length (objects_octets clocks true (take n (x ∷ xs))) ≤ 249 =
        omega (arith, sequence_long clocks (take n (x ∷ xs)), long, fits) in
        record {
          some = omega (arith, two);
          within = omega (arith, inside);
          few = omega (arith, inside);
          two = λ e. two;
          alike = alike;
          untimed = λ e. is;
          consecutive = λ e. subst (AreConsecutive x.address) same row.1;
          room = whole;
        }

pub carried : (clocks : Clocks) (x : Observation) (xs : List Observation)
    → Carries clocks x xs (is_in_sequence clocks (x ∷ xs)) (taken_of clocks (x ∷ xs))
unfolding is_in_sequence taken_of
carried clocks x xs = choose (nat_le 2 m && nat_le n m) (λ e. grind (arith, nat_tests))
  where
    n : ℕ
    n = apart_count clocks (x ∷ xs)

    m : ℕ
    m = in_sequence_count clocks (x ∷ xs)

    choose : (sequence : Bool) → (sequence ≡ true → 2 ≤ m) → Carries clocks x xs sequence (cond sequence m n)
    choose true two = sequence_carries clocks x xs (two refl)
    choose false two = apart_carries clocks x xs

-- ---- how many are taken

-- of a list that is not empty one at least
pub taken_of_some : (clocks : Clocks) (xs : List Observation) → 0 < length xs → 0 < taken_of clocks xs
taken_of_some clocks [] some = absurd (omega arith)
taken_of_some clocks (x ∷ xs) some = (carried clocks x xs).some

-- no more than there are
pub taken_of_within : (clocks : Clocks) (xs : List Observation) → taken_of clocks xs ≤ length xs
unfolding taken_of is_in_sequence apart_count in_sequence_count
taken_of_within clocks [] = omega arith
taken_of_within clocks (x ∷ xs) = (carried clocks x xs).within

-- no more than 127
pub taken_of_few : (clocks : Clocks) (xs : List Observation) → taken_of clocks xs ≤ 127
unfolding taken_of is_in_sequence apart_count in_sequence_count
taken_of_few clocks [] = omega arith
taken_of_few clocks (x ∷ xs) = (carried clocks x xs).few

-- all under the common address of the first one
pub taken_under : (clocks : Clocks) (x : Observation) (xs : List Observation)
    → All (λ y. y.common ≡ x.common) (take (taken_of clocks (x ∷ xs)) (x ∷ xs))
taken_under clocks x xs = alike_under clocks x _ (carried clocks x xs).alike

-- of one observation that one
pub taken_of_one : (clocks : Clocks) (x : Observation) → taken_of clocks (x ∷ []) ≡ 1
taken_of_one clocks x = omega (arith, (carried clocks x []).some, (carried clocks x []).within)

below_two : (m : ℕ) → m ≤ 1 → nat_le 2 m ≡ false
below_two zero small = refl
below_two (suc zero) small = refl
below_two (suc (suc m)) small = absurd (omega (arith, small))

consecutive_few : (clocks : Clocks) (first : Observation) (address n : ℕ) (x : Observation)
    → nat_le 2 (consecutive_count clocks first address (take n (x ∷ []))) ≡ false
consecutive_few clocks first address n x =
    let within = consecutive_within clocks first address (take n (x ∷ [])) in
    let taken = length-take n (x ∷ []) in
    below_two _ (omega (arith, within, taken))

and_no : (a b : Bool) → a ≡ false → (a && b) ≡ false
and_no false b same = refl
and_no true b same = absurd cc

few_or_none : (b : Bool) (n : ℕ) → nat_le 2 n ≡ false → nat_le 2 (if b then 0 else n) ≡ false
few_or_none true n few = refl
few_or_none false n few = few

few_in_sequence : (clocks : Clocks) (x : Observation) → nat_le 2 (in_sequence_count clocks (x ∷ [])) ≡ false
unfolding in_sequence_count
few_in_sequence clocks x =
    few_or_none (is_some (tag_of clocks x.stamp)) _
    (consecutive_few clocks x x.address (room_in_sequence (type_length (type_at clocks x))) x)

-- one alone stands under SQ 0
pub alone_apart : (clocks : Clocks) (x : Observation) → is_in_sequence clocks (x ∷ []) ≡ false
unfolding is_in_sequence
alone_apart clocks x = and_no _ _ (few_in_sequence clocks x)

-- ---- behind the first one

-- the first one and so many behind it fit under SQ 0
pub room_behind : (size room behind : ℕ) → room ≡ 243 / (3 + size) → 1 ≤ room → behind ≤ room - 1
    → 6 + (3 + size) + behind * (3 + size) ≤ 249
room_behind size room behind is some few =
    let fits : (behind + 1) * (3 + size) ≤ 243 =
    (le-div_iff_mul-le {k = 3 + size} (omega arith)).0 (omega (arith, is, some, few)) in
    omega (arith, fits)

-- where so many of a size have room, there is room for one more behind fewer
pub room_more : (start i n size : ℕ) → i < n → start + n * (3 + size) ≤ 249 → start + i * (3 + size) + (3 + size) ≤ 249
room_more start i n size less room =
    let more : (3 + size) * (i + 1) ≤ (3 + size) * n = mul-le-mul_left (3 + size) (omega arith) in
    omega (arith, more, room)

-- a list by its first one and those behind it
pub by_first : (xs : List Observation) → 0 < length xs
    → get_or xs 0 nothing ∷ take (length xs - 1) (drop 1 xs) ≡ xs
by_first [] some = absurd (omega arith)
by_first (x ∷ xs) some =
    let less : suc (length xs) - 1 ≡ length xs = omega arith in
    rw (less, take_all (length xs) xs (omega arith)) refl

-- the first one and so many of a front
pub taken_first : (k n : ℕ) (x : Observation) (xs front : List Observation) → front ≡ take k xs → n ≤ length front
    → take (1 + n) (x ∷ xs) ≡ x ∷ take n front
taken_first k n x xs front is few =
    let more : 1 + n ≡ suc n = omega arith in
    let long : length front ≡ min k (length xs) = ap (λ (o : List Observation). length o) is ∙ length-take k xs in
    rw (more, is, take-take n k xs (omega (arith, few, long))) refl

untimed_octets : (clocks : Clocks) (y : Observation) → is_some (tag_of clocks y.stamp) ≡ false
    → information_octets clocks y ≡ element_octets y
untimed_octets clocks y none = ap (λ (o : List ℕ). element_octets y ++ o) (no_tag (tag_of clocks y.stamp) none)
    ∙ append-nil (element_octets y)
  where
    no_tag : (tag : Option (List ℕ)) → is_some tag ≡ false → tag_octets tag ≡ []
    no_tag None none = refl
    no_tag (Some tag) none = absurd cc

-- of one type without time elements alone are written
pub elements_alone : (clocks : Clocks) (x : Observation) (ys : List Observation)
    → is_some (tag_of clocks x.stamp) ≡ false → AreAlike clocks x ys
    → flat_map (information_octets clocks) ys ≡ flat_map element_octets ys
elements_alone clocks x [] none alike = refl
elements_alone clocks x (y ∷ ys) none alike =
    let same = same_type (element_kind y.value) (element_kind x.value) (is_some (tag_of clocks y.stamp))
    (is_some (tag_of clocks x.stamp)) alike.0.0 in
    let untimed : is_some (tag_of clocks y.stamp) ≡ false = ap (λ (t : MonitorType). t.timed) same ∙ none in
    rw (untimed_octets clocks y untimed, elements_alone clocks x ys none alike.1) refl

-- with no more octets than fit behind the header
pub packed_room : (clocks : Clocks) (xs : List Observation) (sequence : Bool) (taken : ℕ) → 0 < length xs
    → sequence ≡ is_in_sequence clocks xs → taken ≡ taken_of clocks xs
    → 6 + length (objects_octets clocks sequence (take taken xs)) ≤ 249
packed_room clocks [] sequence taken some chosen is = absurd (omega arith)
packed_room clocks (x ∷ xs) sequence taken some chosen is = rw (chosen, is) (carried clocks x xs).room

-- ---- how they are spelled

-- header and objects, one behind the other
pub packed_parts : (clocks : Clocks) (cause : ℕ) (xs : List Observation) (sequence : Bool) (taken : ℕ)
    → sequence ≡ is_in_sequence clocks xs → taken ≡ taken_of clocks xs
    → header_octets clocks sequence cause (take taken xs) ++ objects_octets clocks sequence (take taken xs)
    ≡ packed_spelling clocks cause xs
unfolding packed_spelling list_spelling
packed_parts clocks cause xs sequence taken chosen is = rw (chosen, is) refl

-- one object under SQ 0
pub spelled_alone : (clocks : Clocks) (cause : ℕ) (x : Observation)
    → list_spelling clocks false cause (x ∷ []) ≡ spelling clocks cause x
unfolding list_spelling
spelled_alone clocks cause x = rw (append-nil (information_octets clocks x)) refl

-- where one is taken, as that one
pub packed_spelling_first : (clocks : Clocks) (cause : ℕ) (x : Observation) (xs : List Observation)
    → taken_of clocks (x ∷ xs) ≡ 1 → packed_spelling clocks cause (x ∷ xs) ≡ spelling clocks cause x
unfolding packed_spelling
packed_spelling_first clocks cause x xs one =
    rw one (alone (is_in_sequence clocks (x ∷ xs)) (carried clocks x xs).two)
  where
    alone : (sequence : Bool) → (sequence ≡ true → 2 ≤ taken_of clocks (x ∷ xs))
        → list_spelling clocks sequence cause (x ∷ []) ≡ spelling clocks cause x
    alone true two = absurd (omega (arith, two refl, one))
    alone false two = spelled_alone clocks cause x

-- one observation as that one
pub packed_spelling_one : (clocks : Clocks) (cause : ℕ) (x : Observation)
    → packed_spelling clocks cause (x ∷ []) ≡ spelling clocks cause x
packed_spelling_one clocks cause x = packed_spelling_first clocks cause x [] (taken_of_one clocks x)

header_short : (clocks : Clocks) (sequence : Bool) (cause : ℕ) (xs : List Observation)
    → length (header_octets clocks sequence cause xs) ≤ 6
header_short clocks sequence cause [] = omega arith
header_short clocks sequence cause (x ∷ xs) = omega arith

-- never more octets than an ASDU may have
pub packed_short : (clocks : Clocks) (cause : ℕ) (xs : List Observation)
    → length (packed_spelling clocks cause xs) ≤ 249
unfolding packed_spelling list_spelling taken_of is_in_sequence apart_count in_sequence_count
packed_short clocks cause [] = omega arith
packed_short clocks cause (x ∷ xs) =
    let sequence = is_in_sequence clocks (x ∷ xs) in
    let taken = take (taken_of clocks (x ∷ xs)) (x ∷ xs) in
    omega (
      arith,
      length-append (header_octets clocks sequence cause taken) (objects_octets clocks sequence taken),
      header_short clocks sequence cause taken,
      (carried clocks x xs).room,
    )

-- ---- what it begins with

-- the header of so many
pub header_first : (clocks : Clocks) (sequence : Bool) (cause : ℕ) (x : Observation) (xs : List Observation) (n : ℕ)
    → 0 < n → n ≤ length (x ∷ xs)
    → header_octets clocks sequence cause (take n (x ∷ xs))
    ≡ identification_at clocks x ∷ qualifier_of sequence n ∷ cause ∷ 0 ∷ to_le_bytes w16 x.common
header_first clocks sequence cause x xs zero some within = absurd (omega arith)
header_first clocks sequence cause x xs (suc n) some within = rw (length-take-le n xs (omega arith)) refl

pub packed_header : (clocks : Clocks) (cause : ℕ) (x : Observation) (xs : List Observation)
    → (rest : List ℕ) × (packed_spelling clocks cause (x ∷ xs)
    ≡ identification_at clocks x ∷ qualifier_of (is_in_sequence clocks (x ∷ xs)) (taken_of clocks (x ∷ xs))
    ∷ cause ∷ 0 ∷ (to_le_bytes w16 x.common ++ rest))
unfolding packed_spelling list_spelling
packed_header clocks cause x xs =
    let sequence = is_in_sequence clocks (x ∷ xs) in
    let n = taken_of clocks (x ∷ xs) in
    let c = carried clocks x xs in (
      objects_octets clocks sequence (take n (x ∷ xs)),
      ap (λ (o : List ℕ). o ++ objects_octets clocks sequence (take n (x ∷ xs)))
          (header_first clocks sequence cause x xs n c.some c.within),
    )

-- a header, and the objects
pub packed_whole : (clocks : Clocks) (cause : ℕ) (x : Observation) (xs : List Observation) (element : ElementKind)
    (timed sequence : Bool) (n : ℕ) → element ≡ element_kind x.value → timed ≡ is_some (tag_of clocks x.stamp)
    → sequence ≡ is_in_sequence clocks (x ∷ xs) → n ≡ taken_of clocks (x ∷ xs)
    → (identification_by element timed ∷ qualifier_of sequence n ∷ cause ∷ 0 ∷ to_le_bytes w16 x.common)
    ++ objects_octets clocks (is_in_sequence clocks (x ∷ xs)) (take (taken_of clocks (x ∷ xs)) (x ∷ xs))
    ≡ packed_spelling clocks cause (x ∷ xs)
packed_whole clocks cause x xs element timed sequence n kind tagged chosen taken =
    let c = carried clocks x xs in
    rw (kind, tagged, chosen, taken) (
    ap (λ (o : List ℕ). o ++ objects_octets clocks (is_in_sequence clocks (x ∷ xs))
    (take (taken_of clocks (x ∷ xs)) (x ∷ xs)))
    (sym (header_first clocks (is_in_sequence clocks (x ∷ xs)) cause x xs (taken_of clocks (x ∷ xs)) c.some
    c.within))
    ∙ packed_parts clocks cause (x ∷ xs) _ _ refl refl
    )

-- ---- under each SQ

-- under SQ 0
pub apart_octets : (clocks : Clocks) (x : Observation) (xs : List Observation) (n : ℕ)
    → is_in_sequence clocks (x ∷ xs) ≡ false → n ≡ apart_count clocks (x ∷ xs)
    → (n ≡ taken_of clocks (x ∷ xs))
    × (flat_map (object_octets clocks) (take n (x ∷ xs))
    ≡ objects_octets clocks (is_in_sequence clocks (x ∷ xs)) (take (taken_of clocks (x ∷ xs)) (x ∷ xs)))
unfolding taken_of
apart_octets clocks x xs n chosen is = (rw chosen is, rw (chosen, is) refl)

-- under SQ 1 the first one and so many behind it
pub record InSequence (clocks : Clocks) (x : Observation) (xs : List Observation) (behind : ℕ) : Type 0 where
  pub taken : behind + 1 ≡ taken_of clocks (x ∷ xs)
  pub within : behind ≤ length xs
  pub list : x ∷ take behind xs ≡ take (taken_of clocks (x ∷ xs)) (x ∷ xs)
  pub octets : address_octets x.address ++ flat_map element_octets (x ∷ take behind xs)
      ≡ objects_octets clocks (is_in_sequence clocks (x ∷ xs)) (take (taken_of clocks (x ∷ xs)) (x ∷ xs))
  pub room : 9 + length (flat_map element_octets (x ∷ take behind xs)) ≤ 249

chosen_taken : (clocks : Clocks) (xs : List Observation) → is_in_sequence clocks xs ≡ true
    → taken_of clocks xs ≡ in_sequence_count clocks xs
unfolding taken_of
chosen_taken clocks xs chosen = rw chosen refl

pub in_sequence : (clocks : Clocks) (x : Observation) (xs : List Observation) (sequence : Option ℕ) (behind : ℕ)
    → sequence ≡ Some behind → is_some sequence ≡ is_in_sequence clocks (x ∷ xs)
    → IfSome sequence (λ n. n + 1 ≡ in_sequence_count clocks (x ∷ xs)) → InSequence clocks x xs behind
in_sequence clocks x xs sequence behind is told counted =
    let c = carried clocks x xs in
    let chosen : is_in_sequence clocks (x ∷ xs) ≡ true = sym told ∙ ap (λ (o : Option ℕ). is_some o) is in
    let count : behind + 1 ≡ in_sequence_count clocks (x ∷ xs) = rw is at counted in
    let taken : behind + 1 ≡ taken_of clocks (x ∷ xs) = count ∙ sym (chosen_taken clocks (x ∷ xs) chosen) in
    let one : taken_of clocks (x ∷ xs) ≡ suc behind = omega (arith, taken) in
    let list : x ∷ take behind xs ≡ take (taken_of clocks (x ∷ xs)) (x ∷ xs) = rw one refl in
    let alike : AreAlike clocks x (x ∷ take behind xs) =
    subst (AreAlike clocks x) (sym list) c.alike in
    let plain : flat_map (information_octets clocks) (x ∷ take behind xs)
    ≡ flat_map element_octets (x ∷ take behind xs) =
    elements_alone clocks x (x ∷ take behind xs) (c.untimed chosen) alike in
    let octets : address_octets x.address ++ flat_map element_octets (x ∷ take behind xs)
    ≡ objects_octets clocks (is_in_sequence clocks (x ∷ xs)) (take (taken_of clocks (x ∷ xs)) (x ∷ xs)) =
    rw (chosen, one) (ap (λ (o : List ℕ). address_octets x.address ++ o) (sym plain)) in
    let room : 6 + length (objects_octets clocks (is_in_sequence clocks (x ∷ xs))
    (take (taken_of clocks (x ∷ xs)) (x ∷ xs))) ≤ 249 = c.room in
    record {
      taken = taken;
      within = omega (arith, one, c.within);
      list = list;
      octets = octets;
      room = omega (
        arith,
        room,
        ap (λ (o : List ℕ). length o) octets,
        length-append (address_octets x.address) (flat_map element_octets (x ∷ take behind xs)),
      );
    }

-- ---- what it hangs on

apart_front : (clocks : Clocks) (xs : List Observation) → apart_count clocks (take 127 xs) ≡ apart_count clocks xs
unfolding apart_count
apart_front clocks [] = refl
apart_front clocks (x ∷ xs) =
    let size = size_at clocks x in
    let few : 243 / (3 + size) ≤ 127 = omega (
      arith,
      div_below 243 (3 + size) 127 (omega arith)
          (omega (arith, (type_short (element_kind x.value) (is_some (tag_of clocks x.stamp))).0)),
    ) in
    ap (λ (o : List Observation). alike_count clocks x o)
    (take-take (243 / (3 + size)) 127 (x ∷ xs) few)

sequence_front : (clocks : Clocks) (xs : List Observation)
    → in_sequence_count clocks (take 127 xs) ≡ in_sequence_count clocks xs
unfolding in_sequence_count
sequence_front clocks [] = refl
sequence_front clocks (x ∷ xs) =
    let room = min 127 (240 / size_at clocks x) in
    ap (λ (o : List Observation). cond (is_some (tag_of clocks x.stamp)) 0
    (consecutive_count clocks x x.address o))
    (take-take room 127 (x ∷ xs) (omega arith))

chosen_front : (clocks : Clocks) (xs : List Observation) → is_in_sequence clocks (take 127 xs) ≡ is_in_sequence clocks xs
unfolding is_in_sequence
chosen_front clocks xs = rw (apart_front clocks xs, sequence_front clocks xs) refl

-- on the first 127 at most
pub taken_of_front : (clocks : Clocks) (xs : List Observation) → taken_of clocks (take 127 xs) ≡ taken_of clocks xs
unfolding taken_of
taken_of_front clocks xs = rw (chosen_front clocks xs, apart_front clocks xs, sequence_front clocks xs) refl

pub packed_spelling_front : (clocks : Clocks) (cause : ℕ) (xs : List Observation)
    → packed_spelling clocks cause (take 127 xs) ≡ packed_spelling clocks cause xs
unfolding packed_spelling
packed_spelling_front clocks cause xs =
    rw (
      chosen_front clocks xs,
      taken_of_front clocks xs,
      take-take (taken_of clocks xs) 127 xs (taken_of_few clocks xs),
    ) refl

-- ---- it is the longest prefix that fits

-- what is taken fits
pub taken_fits : (clocks : Clocks) (x : Observation) (xs : List Observation)
    → FitsAsdu clocks (is_in_sequence clocks (x ∷ xs)) x (take (taken_of clocks (x ∷ xs)) (x ∷ xs))
taken_fits clocks x xs =
    let c = carried clocks x xs in
    record {
      alike = c.alike;
      untimed = c.untimed;
      consecutive = c.consecutive;
      few = omega (arith, c.few, length-take (taken_of clocks (x ∷ xs)) (x ∷ xs));
      room = c.room;
    }

apart_longest : (clocks : Clocks) (x : Observation) (xs : List Observation) (k : ℕ) → k ≤ length (x ∷ xs)
    → FitsAsdu clocks false x (take k (x ∷ xs)) → k ≤ apart_count clocks (x ∷ xs)
unfolding apart_count
apart_longest clocks x xs k within fits =
    let size = size_at clocks x in
    let room = 243 / (3 + size) in
    let long : length (flat_map (object_octets clocks) (take k (x ∷ xs))) ≡ k * (3 + size) =
    objects_long clocks x (take k (x ∷ xs)) fits.alike
    ∙ ap (λ (n : ℕ). n * (3 + size)) (length-take-le k (x ∷ xs) within) in
    let enough : 6 + length (flat_map (object_octets clocks) (take k (x ∷ xs))) ≤ 249 = fits.room in
    let inside : k ≤ room = (le-div_iff_mul-le {k = 3 + size} (omega arith)).1 (omega (arith, long, enough)) in
    alike_longest clocks x (take room (x ∷ xs)) k (omega (arith, within, inside, length-take room (x ∷ xs)))
    (subst (AreAlike clocks x) (sym (take-take k room (x ∷ xs) inside)) fits.alike)

untimed_count : (timed : Bool) (k n : ℕ) → timed ≡ false → k ≤ n → k ≤ cond timed 0 n
untimed_count false k n e le = le
untimed_count true k n e le = absurd cc

sequence_longest : (clocks : Clocks) (x : Observation) (xs : List Observation) (k : ℕ) → k ≤ length (x ∷ xs)
    → FitsAsdu clocks true x (take k (x ∷ xs)) → k ≤ in_sequence_count clocks (x ∷ xs)
unfolding in_sequence_count
sequence_longest clocks x xs zero within fits = omega arith
sequence_longest clocks x xs (suc j) within fits =
    let k = suc j in
    let size = size_at clocks x in
    let room = min 127 (240 / size) in
    let short = type_short (element_kind x.value) (is_some (tag_of clocks x.stamp)) in
    let taken : length (take k (x ∷ xs)) ≡ k = length-take-le k (x ∷ xs) within in
    let long : length (flat_map (information_octets clocks) (take k (x ∷ xs))) ≡ k * size =
    elements_long clocks x (take k (x ∷ xs)) fits.alike ∙ ap (λ (n : ℕ). n * size) taken in
    let enough : k * size ≤ 240 =
    omega (arith, fits.room, sequence_whole clocks (take k (x ∷ xs)) (omega (arith, taken)), long) in
    let fit : k ≤ 240 / size = (le-div_iff_mul-le {k = size} short.0).1 enough in
    let inside : k ≤ room = omega (arith, fit, fits.few, taken) in
    let same = sym (take-take k room (x ∷ xs) inside) in
    untimed_count (is_some (tag_of clocks x.stamp)) k _ (fits.untimed refl)
    (consecutive_longest clocks x x.address (take room (x ∷ xs)) k
    (omega (arith, within, inside, length-take room (x ∷ xs)))
    (subst (AreAlike clocks x) same fits.alike) (subst (AreConsecutive x.address) same (fits.consecutive refl)))

taken_most : (clocks : Clocks) (x : Observation) (xs : List Observation)
    → (apart_count clocks (x ∷ xs) ≤ taken_of clocks (x ∷ xs))
    × (in_sequence_count clocks (x ∷ xs) ≤ taken_of clocks (x ∷ xs))
unfolding is_in_sequence taken_of
taken_most clocks x xs =
    choose (nat_le 2 m && nat_le n m) (λ e. grind (arith, nat_tests)) (λ e. grind (arith, nat_tests, some))
  where
    n : ℕ
    n = apart_count clocks (x ∷ xs)

    m : ℕ
    m = in_sequence_count clocks (x ∷ xs)

    some : 0 < n
    some = (apart_carries clocks x xs).some

    choose : (sequence : Bool) → (sequence ≡ true → n ≤ m) → (sequence ≡ false → m ≤ n)
        → (n ≤ cond sequence m n) × (m ≤ cond sequence m n)
    choose true more less = (more refl, omega arith)
    choose false more less = (omega arith, less refl)

-- what fits, under SQ 0 or SQ 1, is no longer
pub taken_longest : (clocks : Clocks) (x : Observation) (xs : List Observation) (sequence : Bool) (k : ℕ)
    → k ≤ length (x ∷ xs) → FitsAsdu clocks sequence x (take k (x ∷ xs)) → k ≤ taken_of clocks (x ∷ xs)
taken_longest clocks x xs false k within fits =
    omega (arith, apart_longest clocks x xs k within fits, (taken_most clocks x xs).0)
taken_longest clocks x xs true k within fits =
    omega (arith, sequence_longest clocks x xs k within fits, (taken_most clocks x xs).1)
