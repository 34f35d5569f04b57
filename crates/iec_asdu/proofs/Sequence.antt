-- Whether an ASDU stands under SQ 1: where those behind the first one go on from it, and SQ 0 carries no more.
use Rattle.std.proofs.Common.{◌≡◌, ℕ, suc, ◌+◌, ◌-◌, ◌<◌, ◌≤◌, ◌&&◌, nat_le, true, false}
use Rattle.std.proofs.Common.{List, [], ◌∷◌, length, get_or, take, refl, sym, ap, subst, ◌∙◌, arith}
use Rattle.std.proofs.lemmas.Bool.Decides.{nat_tests}
use Rattle.std.proofs.lemmas.List.{length-take, take-take}
use Rattle.gw_model.specs.declared.observation.Observation.{Observation}
use Rattle.gw_model.specs.Clocks.{Clocks}
use Rattle.iec_asdu.specs.declared.types.MonitorType.{MonitorType}
use Rattle.iec_asdu.specs.Types.{type_length}
use Rattle.iec_asdu.specs.Fitting.{AreAlike}
use Rattle.iec_asdu.specs.Packing.{type_at, room_apart, room_in_sequence, is_alike}
use Rattle.iec_asdu.specs.Packing.{consecutive_count, apart_count, in_sequence_count, is_in_sequence}
use Rattle.iec_asdu.proofs.Carried.{alone_apart}
use Rattle.iec_asdu.proofs.Counts.{sequence_counted, timed_counted, consecutive_are, consecutive_within}
use Rattle.iec_asdu.proofs.Counts.{alike_within, alike_ends, alike_fewer, alike_more, alike_longest}

-- so many go on from the first one, and fit behind it under SQ 1
pub record GoOn (clocks : Clocks) (x : Observation) (xs : List Observation) (behind : ℕ) : Type 0 where
  pub counted : behind + 1 ≡ in_sequence_count clocks (x ∷ xs)
  pub within : behind ≤ length xs
  pub alike : AreAlike clocks x (take behind xs)

pub they_go_on : (clocks : Clocks) (x : Observation) (xs within : List Observation) (kind : MonitorType) (room behind : ℕ)
    → kind ≡ type_at clocks x → kind.timed ≡ false → room ≡ room_in_sequence (type_length kind) → 1 ≤ room
    → within ≡ take (room - 1) xs → behind ≡ consecutive_count clocks x (x.address + 1) within
    → GoOn clocks x xs behind
they_go_on clocks x xs within kind room behind of plain long some front is =
    let few : behind ≤ length within = rw is (consecutive_within clocks x (x.address + 1) within) in
    let long_within : length within ≤ length xs = rw front (omega (arith, length-take (room - 1) xs)) in
    let less : behind ≤ room - 1 = omega (
      arith,
      few,
      ap (λ (o : List Observation). length o) front,
      length-take (room - 1) xs,
    ) in
    let same : take behind within ≡ take behind xs =
    ap (λ (o : List Observation). take behind o) front ∙ take-take behind (room - 1) xs less in
    let row : AreAlike clocks x (take behind within) =
    rw is (consecutive_are clocks x (x.address + 1) within).0 in
    record {
      counted = sequence_counted clocks x xs within kind room behind of plain long some front is;
      within = omega (arith, few, long_within);
      alike = subst (AreAlike clocks x) same row;
    }

-- ---- how many SQ 0 carries at most

-- no more than there is room for
pub apart_fills : (clocks : Clocks) (x : Observation) (xs : List Observation)
    → apart_count clocks (x ∷ xs) ≤ room_apart (type_length (type_at clocks x))
unfolding apart_count
apart_fills clocks x xs =
    let room = room_apart (type_length (type_at clocks x)) in
    omega (
      arith,
      alike_within clocks x (take room (x ∷ xs)),
      length-take room (x ∷ xs),
    )

-- no more than there are
pub apart_within : (clocks : Clocks) (x : Observation) (xs : List Observation)
    → apart_count clocks (x ∷ xs) ≤ length xs + 1
unfolding apart_count
apart_within clocks x xs =
    let room = room_apart (type_length (type_at clocks x)) in
    omega (
      arith,
      alike_within clocks x (take room (x ∷ xs)),
      length-take room (x ∷ xs),
    )

-- none from one on that is not like the first one
pub apart_ends : (clocks : Clocks) (x : Observation) (xs : List Observation) (i : ℕ) (d : Observation) → i < length xs
    → is_alike clocks x (get_or xs i d) ≡ false → apart_count clocks (x ∷ xs) ≤ i + 1
unfolding apart_count
apart_ends clocks x xs i d inside other =
    let room = room_apart (type_length (type_at clocks x)) in
    omega (
      arith,
      alike_fewer clocks x room (x ∷ xs),
      alike_ends clocks x (x ∷ xs) (suc i) d (omega arith) other,
    )

-- more, where one more is like the first one, and fits
pub apart_goes_on : (clocks : Clocks) (x : Observation) (xs : List Observation) (behind : ℕ) (d : Observation)
    → AreAlike clocks x (take behind xs)
    → behind + 1 < room_apart (type_length (type_at clocks x)) → behind < length xs
    → is_alike clocks x (get_or xs behind d) ≡ true → behind + 1 < apart_count clocks (x ∷ xs)
unfolding apart_count
apart_goes_on clocks x xs behind d alike fits inside is =
    let room = room_apart (type_length (type_at clocks x)) in
    let k = suc (suc behind) in
    let all : AreAlike clocks x (take k (x ∷ xs)) =
    ((refl, refl), alike_more clocks x xs behind d inside alike is) in
    let same : take k (take room (x ∷ xs)) ≡ take k (x ∷ xs) = take-take k room (x ∷ xs) (omega arith) in
    let long : k ≤ length (take room (x ∷ xs)) = omega (arith, length-take room (x ∷ xs)) in
    let longest = alike_longest clocks x (take room (x ∷ xs)) k long (subst (AreAlike clocks x) (sym same) all) in
    omega (arith, longest)

-- ---- the choice

-- with time
pub timed_apart : (clocks : Clocks) (x : Observation) (xs : List Observation) (kind : MonitorType)
    → kind ≡ type_at clocks x → kind.timed ≡ true → is_in_sequence clocks (x ∷ xs) ≡ false
unfolding is_in_sequence
timed_apart clocks x xs kind of timed = rw (timed_counted clocks x xs kind of timed) refl

-- where none is behind it
pub alone_in_list : (clocks : Clocks) (x : Observation) (xs : List Observation) → length xs ≡ 0
    → is_in_sequence clocks (x ∷ xs) ≡ false
alone_in_list clocks x [] none = alone_apart clocks x
alone_in_list clocks x (y ∷ ys) none = absurd cc

-- where none goes on
pub single_apart : (clocks : Clocks) (x : Observation) (xs : List Observation) (behind : ℕ) → GoOn clocks x xs behind
    → behind ≡ 0 → is_in_sequence clocks (x ∷ xs) ≡ false
unfolding is_in_sequence
single_apart clocks x xs behind go none =
    no_more (in_sequence_count clocks (x ∷ xs)) (apart_count clocks (x ∷ xs)) (omega (arith, go.counted, none))
  where
    no_more : (m n : ℕ) → m ≡ 1 → (nat_le 2 m && nat_le n m) ≡ false
    no_more m n one = grind (arith, nat_tests)

-- where SQ 0 carries more
pub more_apart : (clocks : Clocks) (x : Observation) (xs : List Observation) (behind : ℕ) → GoOn clocks x xs behind
    → behind + 1 < apart_count clocks (x ∷ xs) → is_in_sequence clocks (x ∷ xs) ≡ false
unfolding is_in_sequence
more_apart clocks x xs behind go more =
    fewer (in_sequence_count clocks (x ∷ xs)) (apart_count clocks (x ∷ xs)) (omega (arith, go.counted, more))
  where
    fewer : (m n : ℕ) → m < n → (nat_le 2 m && nat_le n m) ≡ false
    fewer m n less = grind (arith, nat_tests)

-- where it carries no more
pub enough_in_sequence : (clocks : Clocks) (x : Observation) (xs : List Observation) (behind : ℕ)
    → GoOn clocks x xs behind → 0 < behind → apart_count clocks (x ∷ xs) ≤ behind + 1
    → is_in_sequence clocks (x ∷ xs) ≡ true
unfolding is_in_sequence
enough_in_sequence clocks x xs behind go some most =
    enough (in_sequence_count clocks (x ∷ xs)) (apart_count clocks (x ∷ xs)) (omega (arith, go.counted, some))
    (omega (arith, go.counted, most))
  where
    enough : (m n : ℕ) → 2 ≤ m → n ≤ m → (nat_le 2 m && nat_le n m) ≡ true
    enough m n two most = grind (arith, nat_tests)
