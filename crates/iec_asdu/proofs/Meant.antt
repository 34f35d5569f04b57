-- What is spelled for fit observations means these observations.
use Rattle.std.proofs.Common.{◌≡◌, ℕ, zero, suc, true, false, Bool, ◌^◌, ◌+◌, ◌/◌}
use Rattle.std.proofs.Common.{◌%◌, ◌<◌, ◌≤◌, ◌∙◌, List, [], ◌∷◌, length, take}
use Rattle.std.proofs.Common.{Option, Some, None, refl, sym, ap, subst, arith, is_some}
use Rattle.std.specs.Prelude.{option_map, IsTrue, IsSomeAnd, All}
use Rattle.std.specs.List.{flat_map}
use Rattle.std.specs.Result.{result_ok}
use Rattle.std.proofs.lemmas.Bool.{eq-eqb, ne_eqb}
use Rattle.std.proofs.lemmas.List.{length-take}
use Rattle.std.proofs.lemmas.List.Elements.{All-head, All-tail, All-nil, All-cons}
use Rattle.gw_model.specs.declared.point.Stamp.{Stamp}
use Rattle.gw_model.specs.declared.point.Stamp.TheVariants.{Untimed, At, Doubtful}
use Rattle.gw_model.specs.declared.observation.Value.{Value}
use Rattle.gw_model.specs.declared.observation.Value.TheVariants.{Single, Double, Scaled, Word, Total}
use Rattle.gw_model.specs.declared.observation.Quality.{Quality}
use Rattle.gw_model.specs.declared.observation.Observation.{Observation}
use Rattle.gw_model.specs.Bits.{is_set}
use Rattle.gw_model.specs.Fit.{is_of_element, HasWidth, IsFit, IsInWindow}
use Rattle.gw_model.specs.Clocks.{Clocks}
use Rattle.gw_time.specs.Spelling.{tag_of}
use Rattle.gw_time.proofs.Century.{window_is_century}
use Rattle.gw_time.proofs.Spelled.{IsTagOf, tag_in_window}
use Rattle.iec_asdu.specs.declared.types.MonitorType.{MonitorType}
use Rattle.iec_asdu.specs.Laws.{single_again, double_again, word_again, scaled_again, counter_again}
use Rattle.iec_asdu.specs.Types.{element_value, tag_stamp, layout_at}
use Rattle.iec_asdu.specs.Asdu.{Asdu, monitor_types, asdu_meaning}
use Rattle.iec_asdu.specs.Grammar.{IsAddress, IsInformation, AreApart, AreInSequence, AreObjects}
use Rattle.iec_asdu.specs.Spelling.{element_kind, type_of, element_spelling, tag_octets, spelling}
use Rattle.iec_asdu.specs.Spelling.{address_octets, information_octets, object_octets}
use Rattle.iec_asdu.specs.Spelling.{objects_octets, identification_at, qualifier_of, list_spelling}
use Rattle.iec_asdu.specs.Fitting.{AreAlike, AreConsecutive}
use Rattle.iec_asdu.specs.Packing.{type_at, is_in_sequence, taken_of, packed_spelling}
use Rattle.iec_asdu.proofs.Lengths.{element_long, tag_long}
use Rattle.iec_asdu.proofs.Known.{same_type, type_known}
use Rattle.iec_asdu.proofs.Carried.{Carries, carried, taken_under, spelled_alone}
use Rattle.iec_asdu.proofs.Counts.{alike_under}
use Rattle.iec_asdu.proofs.Spelled.{meaning_is_spelled}

-- ---- an object

-- its element is read again
value_again : (value : Value) (quality : Quality) → HasWidth value → IsTrue (is_of_element value quality)
    → element_value (element_kind value) (element_spelling value quality) ≡ Some (value, quality)
value_again (Single on) quality width fit =
    ap (option_map (λ x. (Single x.on, x.quality))) (single_again (record { on = on; quality = quality }) fit)
value_again (Double state) quality width fit =
    ap (option_map (λ x. (Double x.state, x.quality))) (double_again (record { state = state; quality = quality }) fit)
value_again (Word n) quality width fit =
    ap (option_map (λ x. (Word x.word, x.quality))) (word_again (record { word = n; quality = quality }) (fit, width))
value_again (Scaled z) quality width fit =
    ap (option_map (λ x. (Scaled x.value, x.quality))) (scaled_again (record { value = z; quality = quality })
    (fit, width))
value_again (Total n) quality width fit =
    ap (option_map (λ x. (Total x.count, x.quality))) (counter_again (record { count = n; quality = quality })
    (fit, width))

tag_again : (clocks : Clocks) (stamp : Stamp) (tag : Option (List ℕ)) → IsSomeAnd tag (IsTagOf clocks stamp)
    → tag_stamp clocks (is_some tag) (tag_octets tag) ≡ Some stamp
tag_again clocks stamp None h = absurd h
tag_again clocks stamp (Some tag) h = ap (λ r. result_ok r) h.meant

-- its time tag is read again, and no tag means no time
stamp_again : (clocks : Clocks) (stamp : Stamp) → IsInWindow clocks stamp
    → tag_stamp clocks (is_some (tag_of clocks stamp)) (tag_octets (tag_of clocks stamp)) ≡ Some stamp
stamp_again clocks Untimed h = refl
stamp_again clocks (At t) h =
    tag_again clocks (At t) (tag_of clocks (At t)) (tag_in_window clocks false t ((window_is_century clocks t).1 h))
stamp_again clocks (Doubtful t) h =
    tag_again clocks (Doubtful t) (tag_of clocks (Doubtful t))
    (tag_in_window clocks true t ((window_is_century clocks t).1 h))

informs : (clocks : Clocks) (x : Observation) → HasWidth x.value → IsFit clocks x
    → IsInformation (layout_at clocks (type_at clocks x)) (information_octets clocks x) x
informs clocks x width fit = record {
  element = element_spelling x.value x.quality;
  tag = tag_octets (tag_of clocks x.stamp);
  text = refl;
  element_length = element_long x.value x.quality;
  tag_length = tag_long clocks x.stamp;
  valued = value_again x.value x.quality width fit.element;
  stamped = stamp_again clocks x.stamp fit.stamp;
}

-- by the type of the first
informs_as : (clocks : Clocks) (x y : Observation) → identification_at clocks y ≡ identification_at clocks x
    → HasWidth y.value → IsFit clocks y
    → IsInformation (layout_at clocks (type_at clocks x)) (information_octets clocks y) y
informs_as clocks x y same width fit =
    subst (λ (t : MonitorType). IsInformation (layout_at clocks t) (information_octets clocks y) y)
    (same_type (element_kind y.value) (element_kind x.value) (is_some (tag_of clocks y.stamp))
    (is_some (tag_of clocks x.stamp)) same) (informs clocks y width fit)

addressed : (address : ℕ) → address ≤ 16777215 → IsAddress (address_octets address) address
addressed address low = record {
  low = address % 256;
  middle = address / 256 % 256;
  high = address / 65536 % 256;
  text = refl;
  number = omega arith;
}

-- ---- the objects

are_apart : (clocks : Clocks) (x : Observation) (ys : List Observation)
    → AreAlike clocks x ys
    → All (λ y. HasWidth y.value) ys → All (IsFit clocks) ys
    → AreApart (layout_at clocks (type_at clocks x)) (flat_map (object_octets clocks) ys) ys
are_apart clocks x [] alike widths fits = refl
are_apart clocks x (y ∷ ys) alike widths fits =
    let width : HasWidth y.value = All-head (λ y. HasWidth y.value) y ys widths in
    let fit : IsFit clocks y = All-head (IsFit clocks) y ys fits in (
      address_octets y.address,
      information_octets clocks y,
      flat_map (object_octets clocks) ys,
      refl,
      addressed y.address fit.address.1,
      informs_as clocks x y alike.0.0 width fit,
      are_apart clocks x ys alike.1 (All-tail (λ y. HasWidth y.value) y ys widths) (All-tail (IsFit clocks) y ys fits),
    )

are_in_sequence : (clocks : Clocks) (x : Observation) (address : ℕ) (ys : List Observation)
    → AreAlike clocks x ys → AreConsecutive address ys
    → All (λ y. HasWidth y.value) ys → All (IsFit clocks) ys
    → AreInSequence (layout_at clocks (type_at clocks x)) address (flat_map (information_octets clocks) ys) ys
are_in_sequence clocks x address [] alike row widths fits = refl
are_in_sequence clocks x address (y ∷ ys) alike row widths fits =
    let width : HasWidth y.value = All-head (λ y. HasWidth y.value) y ys widths in
    let fit : IsFit clocks y = All-head (IsFit clocks) y ys fits in (
      information_octets clocks y,
      flat_map (information_octets clocks) ys,
      refl,
      row.0,
      informs_as clocks x y alike.0.0 width fit,
      are_in_sequence clocks x (address + 1) ys alike.1 row.1 (All-tail (λ y. HasWidth y.value) y ys widths)
          (All-tail (IsFit clocks) y ys fits),
    )

are_objects : (clocks : Clocks) (x : Observation) (sequence : Bool) (xs : List Observation)
    → AreAlike clocks x (x ∷ xs)
    → (sequence ≡ true → AreConsecutive x.address (x ∷ xs))
    → All (λ y. HasWidth y.value) (x ∷ xs) → All (IsFit clocks) (x ∷ xs)
    → AreObjects (layout_at clocks (type_at clocks x)) sequence (objects_octets clocks sequence (x ∷ xs)) (x ∷ xs)
are_objects clocks x false xs alike row widths fits = are_apart clocks x (x ∷ xs) alike widths fits
are_objects clocks x true xs alike row widths fits =
    let fit : IsFit clocks x = All-head (IsFit clocks) x xs fits in (
      address_octets x.address,
      x.address,
      flat_map (information_octets clocks) (x ∷ xs),
      refl,
      addressed x.address fit.address.1,
      are_in_sequence clocks x x.address (x ∷ xs) alike (row refl) widths fits,
    )

-- ---- the whole

sequence_told : (sequence : Bool) (n : ℕ) → n ≤ 127 → is_set 7 (qualifier_of sequence n) ≡ sequence
sequence_told true n few = eq-eqb ((128 + n) / 2 ^ 7 % 2) 1 (omega arith)
sequence_told false n few = ne_eqb (n / 2 ^ 7 % 2) 1 (λ e. omega arith)

number_told : (sequence : Bool) (n : ℕ) → n ≤ 127 → qualifier_of sequence n % 128 ≡ n
number_told true n few = omega arith
number_told false n few = omega arith

-- an ASDU of these observations, originator 0
abbrev pub asdu_of : Clocks → ℕ → Observation → List Observation → Asdu
asdu_of clocks cause x xs =
    record {
      identification = type_of x.value (is_some (tag_of clocks x.stamp));
      cause = cause;
      originator = 0;
      common_address = x.common;
      observations = x ∷ xs;
    }

list_means : (clocks : Clocks) (sequence : Bool) (cause : ℕ) (x : Observation) (xs : List Observation)
    → length (x ∷ xs) ≤ 127 → AreAlike clocks x (x ∷ xs)
    → (sequence ≡ true → AreConsecutive x.address (x ∷ xs))
    → All (λ y. HasWidth y.value) (x ∷ xs) → All (IsFit clocks) (x ∷ xs)
    → asdu_meaning (monitor_types clocks) (list_spelling clocks sequence cause (x ∷ xs))
    ≡ Some (asdu_of clocks cause x xs)
unfolding list_spelling
list_means clocks sequence cause x xs few alike row widths fits =
    let types = monitor_types clocks in
    let small : x.common ≤ 65534 = (All-head (IsFit clocks) x xs fits).common.1 in
    let layout = layout_at clocks (type_at clocks x) in
    let qualifier = qualifier_of sequence (length (x ∷ xs)) in
    let objects = objects_octets clocks sequence (x ∷ xs) in
    let are : AreObjects layout (is_set 7 qualifier) objects (x ∷ xs) =
    subst (λ (s : Bool). AreObjects layout s objects (x ∷ xs)) (sym (sequence_told sequence (length (x ∷ xs)) few))
    (are_objects clocks x sequence xs alike row widths fits) in
    (meaning_is_spelled types (list_spelling clocks sequence cause (x ∷ xs))
    (asdu_of clocks cause x xs)).1 (record {
      qualifier = qualifier;
      low = x.common % 256;
      high = x.common / 256 % 256;
      objects = objects;
      text = refl;
      common = omega (arith, small);
      layout = layout;
      known = type_known clocks (element_kind x.value) (is_some (tag_of clocks x.stamp));
      number = sym (number_told sequence (length (x ∷ xs)) few);
      some = omega arith;
      are = are;
      under = alike_under clocks x (x ∷ xs) alike;
    })

-- what is spelled for a fit observation means it, with the cause and its common address
pub meant : (clocks : Clocks) (cause : ℕ) (x : Observation) → HasWidth x.value → IsFit clocks x
    → asdu_meaning (monitor_types clocks) (spelling clocks cause x)
    ≡ Some (asdu_of clocks cause x [])
meant clocks cause x width fit =
    ap (λ (o : List ℕ). asdu_meaning (monitor_types clocks) o) (sym (spelled_alone clocks cause x))
    ∙ list_means clocks false cause x [] (omega arith) ((refl, refl), tt) (λ e. absurd cc)
    (All-cons (λ y. HasWidth y.value) x [] width (All-nil (λ y. HasWidth y.value)))
    (All-cons (IsFit clocks) x [] fit (All-nil (IsFit clocks)))

-- what is spelled for a list means the observations that are taken
pub packed_is_meant : (clocks : Clocks) (cause : ℕ) (x : Observation) (xs : List Observation)
    → let taken = take (taken_of clocks (x ∷ xs)) (x ∷ xs) in
    All (λ y. HasWidth y.value) taken → All (IsFit clocks) taken
    → asdu_meaning (monitor_types clocks) (packed_spelling clocks cause (x ∷ xs))
    ≡ Some (record {
      identification = identification_at clocks x;
      cause = cause;
      originator = 0;
      common_address = x.common;
      observations = taken;
    })
unfolding packed_spelling
packed_is_meant clocks cause x xs widths fits =
    go (taken_of clocks (x ∷ xs)) c.some c.few c.alike c.consecutive widths fits
  where
    sequence : Bool
    sequence = is_in_sequence clocks (x ∷ xs)

    c : Carries clocks x xs sequence (taken_of clocks (x ∷ xs))
    c = carried clocks x xs

    go : (n : ℕ) → 0 < n → n ≤ 127 → AreAlike clocks x (take n (x ∷ xs))
        → (sequence ≡ true → AreConsecutive x.address (take n (x ∷ xs)))
        → All (λ y. HasWidth y.value) (take n (x ∷ xs)) → All (IsFit clocks) (take n (x ∷ xs))
        → asdu_meaning (monitor_types clocks) (list_spelling clocks sequence cause (take n (x ∷ xs)))
        ≡ Some (record {
          identification = identification_at clocks x;
          cause = cause;
          originator = 0;
          common_address = x.common;
          observations = take n (x ∷ xs);
        })
    go zero some few alike row widths fits = absurd (omega arith)
    go (suc n) some few alike row widths fits =
        list_means clocks sequence cause x (take n xs) (omega (arith, length-take n xs)) alike row widths
        fits

pub packed_meant : (clocks : Clocks) (cause : ℕ) (xs : List Observation) → 0 < length xs
    → All (λ y. HasWidth y.value) (take (taken_of clocks xs) xs) → All (IsFit clocks) (take (taken_of clocks xs) xs)
    → IsSomeAnd (asdu_meaning (monitor_types clocks) (packed_spelling clocks cause xs)) (λ asdu.
    (asdu.cause ≡ cause) × (asdu.originator ≡ 0)
    × All (λ x. x.common ≡ asdu.common_address) (take (taken_of clocks xs) xs)
    × (asdu.observations ≡ take (taken_of clocks xs) xs))
packed_meant clocks cause [] some widths fits = absurd (omega arith)
packed_meant clocks cause (x ∷ xs) some widths fits =
    rw (packed_is_meant clocks cause x xs widths fits) (refl, refl, taken_under clocks x xs, refl)

-- the same of what was written
pub written_meant : (clocks : Clocks) (cause : ℕ) (xs : List Observation) (octets : List ℕ) (taken : ℕ)
    → 0 < length xs → taken ≡ taken_of clocks xs
    → octets ≡ packed_spelling clocks cause xs
    → All (λ y. HasWidth y.value) (take taken xs) → All (IsFit clocks) (take taken xs)
    → IsSomeAnd (asdu_meaning (monitor_types clocks) octets) (λ asdu.
    (asdu.cause ≡ cause) × (asdu.originator ≡ 0) × All (λ x. x.common ≡ asdu.common_address) (take taken xs)
    × (asdu.observations ≡ take taken xs))
written_meant clocks cause xs octets taken some is spelled = rw (is, spelled) (packed_meant clocks cause xs some)
