-- The prefixes of a list that an ASDU carries: what is counted at each place, and what holds of what is counted.
use Rattle.std.proofs.Common.{◌≡◌, ◌≢◌, ℕ, zero, suc, ◌+◌, ◌-◌, ◌<◌, ◌≤◌}
use Rattle.std.proofs.Common.{◌==◌, ◌&&◌, Bool, true, false, cond, List, [], ◌∷◌, length}
use Rattle.std.proofs.Common.{get_or, take, drop, refl, sym, ap, ◌∙◌, arith, is_some}
use Rattle.std.proofs.lemmas.Bool.{and_from, and_parts, eqb-true, eq-eqb, ne_eqb}
use Rattle.std.proofs.lemmas.List.{at_drop_more, drop_all}
use Rattle.std.proofs.lemmas.List.Elements.{All-nil, All-cons}
use Rattle.std.specs.Prelude.{All}
use Rattle.gw_model.specs.declared.point.Stamp.TheVariants.{Untimed}
use Rattle.gw_model.specs.declared.observation.Value.TheVariants.{Single}
use Rattle.gw_model.specs.declared.observation.Observation.{Observation}
use Rattle.gw_model.specs.Clocks.{Clocks}
use Rattle.gw_time.specs.Spelling.{tag_of}
use Rattle.iec_asdu.specs.declared.types.MonitorType.{MonitorType}
use Rattle.iec_asdu.specs.Types.{identification_by, type_length}
use Rattle.iec_asdu.specs.Spelling.{identification_at}
use Rattle.iec_asdu.specs.Fitting.{IsAlike, AreAlike, AreConsecutive}
use Rattle.iec_asdu.specs.Packing.{type_at, room_apart, room_in_sequence, is_alike, alike_count}
use Rattle.iec_asdu.specs.Packing.{consecutive_count, apart_count, in_sequence_count}

-- ---- like the first one

and_false : (b c : Bool) → c ≡ false → (b && c) ≡ false
and_false false c off = refl
and_false true c off = off

false_and : (b c : Bool) → b ≡ false → (b && c) ≡ false
false_and false c off = refl
false_and true c off = absurd cc

-- what the test tells
pub alike_is : (clocks : Clocks) (first x : Observation) → is_alike clocks first x ≡ true → IsAlike clocks first x
alike_is clocks first x e =
    let parts = and_parts (identification_at clocks x == identification_at clocks first) (x.common == first.common) e in
    (eqb-true _ _ parts.0, eqb-true _ _ parts.1)

pub is_like : (clocks : Clocks) (first x : Observation) → IsAlike clocks first x → is_alike clocks first x ≡ true
is_like clocks first x like = and_from _ _ (eq-eqb _ _ like.0) (eq-eqb _ _ like.1)

-- one of another type is not like the first one, nor is one under another common address
pub other_type : (clocks : Clocks) (first x : Observation) → identification_at clocks x ≢ identification_at clocks first
    → is_alike clocks first x ≡ false
other_type clocks first x other = false_and _ _ (ne_eqb _ _ other)

pub other_common : (clocks : Clocks) (first x : Observation) → x.common ≢ first.common → is_alike clocks first x ≡ false
other_common clocks first x other = and_false _ _ (ne_eqb _ _ other)

-- the first one is like itself
pub like_itself : (clocks : Clocks) (x : Observation) → is_alike clocks x x ≡ true
like_itself clocks x = is_like clocks x x (refl, refl)

-- ---- place by place

-- what a read past the end would give
abbrev pub nothing : Observation
nothing = record {
  common = 0;
  address = 0;
  value = Single false;
  quality = record { iv = false; nt = false; sb = false; bl = false; ov = false; cy = false; ca = false };
  stamp = Untimed;
}

stopped : (b : Bool) (n : ℕ) → b ≡ false → cond b n 0 ≡ 0
stopped false n e = refl
stopped true n e = absurd cc

gone_on : (b : Bool) (n : ℕ) → b ≡ true → cond b n 0 ≡ n
gone_on true n e = refl
gone_on false n e = absurd cc

alike_next : (clocks : Clocks) (first : Observation) (xs : List Observation) (i : ℕ) (d : Observation) → i < length xs
    → alike_count clocks first (drop i xs)
    ≡ cond (is_alike clocks first (get_or xs i d)) (suc (alike_count clocks first (drop (i + 1) xs))) 0
unfolding alike_count
alike_next clocks first xs i d inside = at_drop_more (alike_count clocks first) xs i d inside

-- the next one is not like the first one
pub alike_stops : (clocks : Clocks) (first : Observation) (xs : List Observation) (i : ℕ) (d : Observation) → i < length xs
    → is_alike clocks first (get_or xs i d) ≡ false → alike_count clocks first (drop i xs) ≡ 0
alike_stops clocks first xs i d inside other = alike_next clocks first xs i d inside ∙ stopped _ _ other

-- the next one is
pub alike_goes_on : (clocks : Clocks) (first : Observation) (xs : List Observation) (i : ℕ) (d : Observation)
    → i < length xs → is_alike clocks first (get_or xs i d) ≡ true
    → alike_count clocks first (drop i xs) ≡ suc (alike_count clocks first (drop (i + 1) xs))
alike_goes_on clocks first xs i d inside same = alike_next clocks first xs i d inside ∙ gone_on _ _ same

pub alike_none : (clocks : Clocks) (first : Observation) (xs : List Observation) (i : ℕ) → length xs ≤ i
    → alike_count clocks first (drop i xs) ≡ 0
unfolding alike_count
alike_none clocks first xs i past = ap (alike_count clocks first) (drop_all i xs past)

consecutive_next : (clocks : Clocks) (first : Observation) (address : ℕ) (xs : List Observation) (i : ℕ) (d : Observation)
    → i < length xs
    → consecutive_count clocks first address (drop i xs)
    ≡ cond (is_alike clocks first (get_or xs i d) && (get_or xs i d).address == address)
    (suc (consecutive_count clocks first (address + 1) (drop (i + 1) xs))) 0
unfolding consecutive_count
consecutive_next clocks first address xs i d inside =
    at_drop_more (consecutive_count clocks first address) xs i d inside

-- the next one is not like the first one
pub consecutive_stops : (clocks : Clocks) (first : Observation) (address : ℕ) (alike : Bool) (xs : List Observation) (i : ℕ)
    (d : Observation) → i < length xs → alike ≡ is_alike clocks first (get_or xs i d) → alike ≡ false
    → consecutive_count clocks first address (drop i xs) ≡ 0
consecutive_stops clocks first address alike xs i d inside is other =
    consecutive_next clocks first address xs i d inside ∙ stopped _ _ (false_and _ _ (sym is ∙ other))

-- the next one stands at another address
pub consecutive_leaves : (clocks : Clocks) (first : Observation) (address place : ℕ) (xs : List Observation) (i : ℕ)
    (d : Observation) → i < length xs → place ≡ (get_or xs i d).address → place ≢ address
    → consecutive_count clocks first address (drop i xs) ≡ 0
consecutive_leaves clocks first address place xs i d inside at other =
    let elsewhere : ((get_or xs i d).address == address) ≡ false = rw (← at) (ne_eqb place address other) in
    consecutive_next clocks first address xs i d inside ∙ stopped _ _ (and_false _ _ elsewhere)

pub consecutive_goes_on : (clocks : Clocks) (first : Observation) (address place : ℕ) (alike : Bool) (xs : List Observation)
    (i : ℕ) (d : Observation) → i < length xs → place ≡ (get_or xs i d).address → place ≡ address
    → alike ≡ is_alike clocks first (get_or xs i d) → alike ≡ true
    → consecutive_count clocks first address (drop i xs)
    ≡ suc (consecutive_count clocks first (address + 1) (drop (i + 1) xs))
consecutive_goes_on clocks first address place alike xs i d inside at here is same =
    consecutive_next clocks first address xs i d inside
    ∙ gone_on _ _ (and_from _ _ (sym is ∙ same) (eq-eqb (get_or xs i d).address address (sym at ∙ here)))

pub consecutive_none : (clocks : Clocks) (first : Observation) (address : ℕ) (xs : List Observation) (i : ℕ) → length xs ≤ i
    → consecutive_count clocks first address (drop i xs) ≡ 0
unfolding consecutive_count
consecutive_none clocks first address xs i past = ap (consecutive_count clocks first address) (drop_all i xs past)

-- ---- of a list by its first one

pub first_named : (clocks : Clocks) (x : Observation) (kind : MonitorType) → kind ≡ type_at clocks x
    → identification_by kind.element kind.timed ≡ identification_at clocks x
first_named clocks x kind of = ap (λ (k : MonitorType). identification_by k.element k.timed) of

-- under SQ 0 the first one, and those behind it that are like it, and fit
pub apart_counted : (clocks : Clocks) (x : Observation) (xs within : List Observation) (kind : MonitorType)
    (room behind : ℕ) → kind ≡ type_at clocks x → room ≡ room_apart (type_length kind) → 1 ≤ room
    → within ≡ take (room - 1) xs → behind ≡ alike_count clocks x within
    → 1 + behind ≡ apart_count clocks (x ∷ xs)
unfolding apart_count alike_count
apart_counted clocks x xs within kind zero behind of long some front is = absurd (omega arith)
apart_counted clocks x xs within kind (suc k) behind of long some front is =
    let same : room_apart (type_length (type_at clocks x)) ≡ suc k =
    sym (long ∙ ap (λ (t : MonitorType). room_apart (type_length t)) of) in
    let less : suc k - 1 ≡ k = omega arith in
    let counted : behind ≡ alike_count clocks x (take k xs) = is ∙ rw (front, less) refl in
    rw same (omega (arith, counted) ∙ sym (gone_on _ (suc (alike_count clocks x (take k xs))) (like_itself clocks x)))

-- under SQ 1 the first one, and those behind it that go on from it, and fit
pub sequence_counted : (clocks : Clocks) (x : Observation) (xs within : List Observation) (kind : MonitorType)
    (room behind : ℕ) → kind ≡ type_at clocks x → kind.timed ≡ false → room ≡ room_in_sequence (type_length kind)
    → 1 ≤ room → within ≡ take (room - 1) xs → behind ≡ consecutive_count clocks x (x.address + 1) within
    → behind + 1 ≡ in_sequence_count clocks (x ∷ xs)
unfolding in_sequence_count consecutive_count
sequence_counted clocks x xs within kind zero behind of plain long some front is = absurd (omega arith)
sequence_counted clocks x xs within kind (suc k) behind of plain long some front is =
    let same : room_in_sequence (type_length (type_at clocks x)) ≡ suc k =
    sym (long ∙ ap (λ (t : MonitorType). room_in_sequence (type_length t)) of) in
    let untagged : is_some (tag_of clocks x.stamp) ≡ false = sym (ap (λ (t : MonitorType). t.timed) of) ∙ plain in
    let less : suc k - 1 ≡ k = omega arith in
    let counted : behind ≡ consecutive_count clocks x (x.address + 1) (take k xs) = is ∙ rw (front, less) refl in
    let whole : behind + 1 ≡ cond (is_alike clocks x x && x.address == x.address)
    (suc (consecutive_count clocks x (x.address + 1) (take k xs))) 0 =
    omega (arith, counted)
    ∙ sym (gone_on _ (suc (consecutive_count clocks x (x.address + 1) (take k xs)))
    (and_from _ _ (like_itself clocks x) (eq-eqb x.address x.address refl))) in
    rw same (chosen (is_some (tag_of clocks x.stamp)) untagged _ whole)
  where
    chosen : (b : Bool) → b ≡ false → (n : ℕ) → behind + 1 ≡ n → behind + 1 ≡ cond b 0 n
    chosen false e n is = is
    chosen true e n is = absurd cc

-- with time none go under SQ 1
pub timed_counted : (clocks : Clocks) (x : Observation) (xs : List Observation) (kind : MonitorType)
    → kind ≡ type_at clocks x → kind.timed ≡ true → in_sequence_count clocks (x ∷ xs) ≡ 0
unfolding in_sequence_count
timed_counted clocks x xs kind of timed =
    let tagged : is_some (tag_of clocks x.stamp) ≡ true = sym (ap (λ (t : MonitorType). t.timed) of) ∙ timed in
    rw tagged refl

-- ---- what holds of them

alike_step : (clocks : Clocks) (first : Observation) (b : Bool) (n : ℕ) (x : Observation) (xs : List Observation)
    → (b ≡ true → IsAlike clocks first x) → AreAlike clocks first (take n xs)
    → AreAlike clocks first (take (cond b (suc n) 0) (x ∷ xs))
alike_step clocks first true n x xs is others = (is refl, others)
alike_step clocks first false n x xs is others = tt

pub alike_are : (clocks : Clocks) (first : Observation) (xs : List Observation)
    → AreAlike clocks first (take (alike_count clocks first xs) xs)
unfolding alike_count
alike_are clocks first [] = tt
alike_are clocks first (x ∷ xs) =
    alike_step clocks first (is_alike clocks first x) (alike_count clocks first xs) x xs (alike_is clocks first x)
    (alike_are clocks first xs)

count_within : (b : Bool) (n m : ℕ) → n ≤ m → cond b (suc n) 0 ≤ suc m
count_within true n m le = omega arith
count_within false n m le = omega arith

pub alike_within : (clocks : Clocks) (first : Observation) (xs : List Observation)
    → alike_count clocks first xs ≤ length xs
unfolding alike_count
alike_within clocks first [] = omega arith
alike_within clocks first (x ∷ xs) =
    count_within (is_alike clocks first x) _ _ (alike_within clocks first xs)

-- one that is not like the first one ends it
pub alike_ends : (clocks : Clocks) (first : Observation) (xs : List Observation) (i : ℕ) (d : Observation) → i < length xs
    → is_alike clocks first (get_or xs i d) ≡ false → alike_count clocks first xs ≤ i
unfolding alike_count
alike_ends clocks first [] i d inside other = absurd (omega arith)
alike_ends clocks first (x ∷ xs) zero d inside other =
    omega (arith, stopped (is_alike clocks first x) (suc (alike_count clocks first xs)) other)
alike_ends clocks first (x ∷ xs) (suc i) d inside other =
    count_within (is_alike clocks first x) _ _ (alike_ends clocks first xs i d (omega arith) other)

counts_fewer : (b : Bool) (n m : ℕ) → n ≤ m → cond b (suc n) 0 ≤ cond b (suc m) 0
counts_fewer true n m le = omega arith
counts_fewer false n m le = omega arith

-- of fewer no more
pub alike_fewer : (clocks : Clocks) (first : Observation) (k : ℕ) (xs : List Observation)
    → alike_count clocks first (take k xs) ≤ alike_count clocks first xs
unfolding alike_count
alike_fewer clocks first zero xs = omega arith
alike_fewer clocks first (suc k) [] = omega arith
alike_fewer clocks first (suc k) (x ∷ xs) =
    counts_fewer (is_alike clocks first x) _ _ (alike_fewer clocks first k xs)

-- one more that is like the first one
pub alike_more : (clocks : Clocks) (first : Observation) (xs : List Observation) (n : ℕ) (d : Observation)
    → n < length xs → AreAlike clocks first (take n xs) → is_alike clocks first (get_or xs n d) ≡ true
    → AreAlike clocks first (take (suc n) xs)
alike_more clocks first [] n d inside alike is = absurd (omega arith)
alike_more clocks first (x ∷ xs) zero d inside alike is = (alike_is clocks first x is, tt)
alike_more clocks first (x ∷ xs) (suc n) d inside alike is =
    (alike.0, alike_more clocks first xs n d (omega arith) alike.1 is)

-- all of them are under the first one's common address
pub alike_under : (clocks : Clocks) (first : Observation) (xs : List Observation) → AreAlike clocks first xs
    → All (λ x. x.common ≡ first.common) xs
alike_under clocks first [] alike = All-nil (λ x. x.common ≡ first.common)
alike_under clocks first (x ∷ xs) alike =
    All-cons (λ x. x.common ≡ first.common) x xs alike.0.1 (alike_under clocks first xs alike.1)

-- both of it
abbrev InRow : Clocks → Observation → ℕ → List Observation → Type 0
InRow clocks first address xs = AreAlike clocks first xs × AreConsecutive address xs

row_step : (clocks : Clocks) (first : Observation) (address : ℕ) (b c : Bool) (n : ℕ) (x : Observation)
    (xs : List Observation) → (b ≡ true → IsAlike clocks first x) → (c ≡ true → x.address ≡ address)
    → InRow clocks first (address + 1) (take n xs)
    → InRow clocks first address (take (cond (b && c) (suc n) 0) (x ∷ xs))
row_step clocks first address true true n x xs is at others = ((is refl, others.0), (at refl, others.1))
row_step clocks first address true false n x xs is at others = (tt, tt)
row_step clocks first address false c n x xs is at others = (tt, tt)

pub consecutive_are : (clocks : Clocks) (first : Observation) (address : ℕ) (xs : List Observation)
    → InRow clocks first address (take (consecutive_count clocks first address xs) xs)
unfolding consecutive_count
consecutive_are clocks first address [] = (tt, tt)
consecutive_are clocks first address (x ∷ xs) =
    row_step clocks first address (is_alike clocks first x) (x.address == address)
    (consecutive_count clocks first (address + 1) xs) x xs (alike_is clocks first x) (eqb-true x.address address)
    (consecutive_are clocks first (address + 1) xs)

pub consecutive_within : (clocks : Clocks) (first : Observation) (address : ℕ) (xs : List Observation)
    → consecutive_count clocks first address xs ≤ length xs
unfolding consecutive_count
consecutive_within clocks first address [] = omega arith
consecutive_within clocks first address (x ∷ xs) =
    count_within (is_alike clocks first x && x.address == address) _ _
    (consecutive_within clocks first (address + 1) xs)

-- ---- no longer prefix is so

counts_on : (b : Bool) (k n : ℕ) → b ≡ true → k ≤ n → suc k ≤ cond b (suc n) 0
counts_on true k n is le = omega arith
counts_on false k n is le = absurd cc

pub alike_longest : (clocks : Clocks) (first : Observation) (xs : List Observation) (k : ℕ) → k ≤ length xs
    → AreAlike clocks first (take k xs) → k ≤ alike_count clocks first xs
unfolding alike_count
alike_longest clocks first xs zero within alike = omega arith
alike_longest clocks first [] (suc k) within alike = absurd (omega arith)
alike_longest clocks first (x ∷ xs) (suc k) within alike =
    counts_on (is_alike clocks first x) k _ (is_like clocks first x alike.0)
    (alike_longest clocks first xs k (omega arith) alike.1)

pub consecutive_longest : (clocks : Clocks) (first : Observation) (address : ℕ) (xs : List Observation) (k : ℕ)
    → k ≤ length xs → AreAlike clocks first (take k xs) → AreConsecutive address (take k xs)
    → k ≤ consecutive_count clocks first address xs
unfolding consecutive_count
consecutive_longest clocks first address xs zero within alike row = omega arith
consecutive_longest clocks first address [] (suc k) within alike row = absurd (omega arith)
consecutive_longest clocks first address (x ∷ xs) (suc k) within alike row =
    counts_on (is_alike clocks first x && x.address == address) k _
    (and_from _ _ (is_like clocks first x alike.0) (eq-eqb x.address address row.0))
    (consecutive_longest clocks first (address + 1) xs k (omega arith) alike.1 row.1)
