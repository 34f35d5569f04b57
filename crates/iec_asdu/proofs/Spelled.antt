-- What octets mean is what they spell.
use Rattle.std.proofs.Common.{◌≡◌, ◌↔◌, ℕ, zero, suc, ◌+◌, ◌*◌, ◌%◌, ◌<◌, ◌≤◌}
use Rattle.std.proofs.Common.{◌==◌, Bool, true, false, cond, List, [], ◌∷◌, ◌++◌, length, take}
use Rattle.std.proofs.Common.{drop, Option, Some, None, refl, sym, ap, ◌∙◌, arith, length-append}
use Rattle.std.proofs.lemmas.Bool.{eqb-true, eq-eqb}
use Rattle.std.specs.Prelude.{All}
use Rattle.std.proofs.lemmas.List.Elements.{All-head, All-tail, All-nil, All-cons}
use Rattle.std.proofs.lemmas.List.{take_at, drop_at, take-append-drop, drop-drop, length-take, length-drop}
use Rattle.gw_model.specs.declared.point.Stamp.{Stamp}
use Rattle.gw_model.specs.declared.observation.Value.{Value}
use Rattle.gw_model.specs.declared.observation.Quality.{Quality}
use Rattle.gw_model.specs.declared.observation.Observation.{Observation}
use Rattle.gw_model.specs.Bits.{is_set}
use Rattle.gw_model.specs.Optional.{◌>>=◌}
use Rattle.iec_asdu.specs.Types.{Layout}
use Rattle.iec_asdu.specs.Asdu.{Asdu, layout_of, size_of, address_at, observation_of, observation_at}
use Rattle.iec_asdu.specs.Asdu.{objects_apart, objects_in_sequence, objects_of, asdu_meaning}
use Rattle.iec_asdu.specs.Grammar.{IsAddress, IsInformation, AreApart, AreInSequence, AreObjects, IsAsdu}

-- ---- steps of a reading

bind_some : {A B : Type 0} (o : Option A) (f : A → Option B) (y : B) → (o >>= f) ≡ Some y
    → (x : A) × (o ≡ Some x) × (f x ≡ Some y)
bind_some (Some x) f y e = (x, refl, e)
bind_some None f y e = absurd cc

when_some : {A : Type 0} (b : Bool) (o : Option A) (x : A) → cond b o None ≡ Some x → (b ≡ true) × (o ≡ Some x)
when_some true o x e = (refl, e)
when_some false o x e = absurd cc

-- ---- an address

pub address_takes : (octets : List ℕ) → 3 ≤ length octets → IsAddress (take 3 octets) (address_at octets)
address_takes (a ∷ b ∷ c ∷ octets) long = record { low = a; middle = b; high = c; text = refl; number = refl }
address_takes _ long = absurd (omega arith)

pub address_again : (octets : List ℕ) (address : ℕ) (rest : List ℕ) → IsAddress octets address
    → (address_at (octets ++ rest) ≡ address) × (length octets ≡ 3)
address_again octets address rest a = rw a.text (sym a.number, refl)

-- ---- information

information_takes : (common address : ℕ) (layout : Layout) (octets : List ℕ) (x : Observation)
    → length octets ≡ size_of layout → observation_at common address layout octets ≡ Some x
    → IsInformation layout octets x × (x.address ≡ address) × (x.common ≡ common)
information_takes common address layout octets x long e =
    let s = bind_some (layout.value (take layout.element octets)) _ x e in
    let t = bind_some (layout.stamp (drop layout.element octets)) _ x s.2 in
    let is : observation_of common address s.0 t.0 ≡ x = cc (t.2) in
    rw (← is) (
      record {
        element = take layout.element octets;
        tag = drop layout.element octets;
        text = sym (take-append-drop layout.element octets);
        element_length = omega (arith, length-take layout.element octets);
        tag_length = omega (arith, length-drop layout.element octets);
        valued = s.1;
        stamped = t.1;
      },
      refl,
      refl,
    )

made : (o : Option (Value × Quality)) (t : Option Stamp) (x : Observation) → o ≡ Some (x.value, x.quality)
    → t ≡ Some x.stamp
    → (o >>= λ s. (t >>= λ stamp. Some (observation_of x.common x.address s stamp))) ≡ Some x
made o t x e f = rw (e, f) refl

information_again : (layout : Layout) (octets : List ℕ) (x : Observation) → IsInformation layout octets x
    → (observation_at x.common x.address layout octets ≡ Some x) × (length octets ≡ size_of layout)
information_again layout octets x i =
    let front : take layout.element octets ≡ i.element =
    ap (λ (o : List ℕ). take layout.element o) i.text ∙ take_at i.element i.tag layout.element i.element_length in
    let back : drop layout.element octets ≡ i.tag =
    ap (λ (o : List ℕ). drop layout.element o) i.text ∙ drop_at i.element i.tag layout.element i.element_length in (
      made (layout.value (take layout.element octets)) (layout.stamp (drop layout.element octets)) x
          (ap (λ (o : List ℕ). layout.value o) front ∙ i.valued) (ap (λ (o : List ℕ). layout.stamp o) back ∙ i.stamped),
      ap length i.text ∙ omega (arith, length-append i.element i.tag, i.element_length, i.tag_length),
    )

-- ---- objects

empty : (octets : List ℕ) → length octets ≡ 0 → octets ≡ []
empty [] e = refl
empty (b ∷ octets) e = absurd (omega arith)

regroup : (m n : ℕ) (octets : List ℕ) → octets ≡ take m octets ++ (take n (drop m octets) ++ drop (m + n) octets)
regroup m n octets =
    sym (take-append-drop m octets)
    ∙ ap (λ (o : List ℕ). take m octets ++ o)
    (sym (take-append-drop n (drop m octets)) ∙ ap (λ (o : List ℕ). take n (drop m octets) ++ o) (drop-drop n m octets))

front_information : (layout : Layout) (octets : List ℕ) → 3 + size_of layout ≤ length octets
    → length (take (size_of layout) (drop 3 octets)) ≡ size_of layout
front_information layout octets long = omega (arith, length-take (size_of layout) (drop 3 octets), length-drop 3 octets)

-- each under this common address
abbrev AreUnder : ℕ → List Observation → Type 0
AreUnder common xs = All (λ x. x.common ≡ common) xs

apart_takes : (common : ℕ) (layout : Layout) (n : ℕ) (octets : List ℕ) (xs : List Observation)
    → length octets ≡ n * (3 + size_of layout) → objects_apart common layout n octets ≡ Some xs
    → AreApart layout octets xs × (length xs ≡ n) × AreUnder common xs
unfolding objects_apart
apart_takes common layout zero octets [] long e =
    (empty octets (omega (arith, long)), refl, All-nil (λ x. x.common ≡ common))
apart_takes common layout zero octets (x ∷ xs) long e = absurd cc
apart_takes common layout (suc n) octets xs long e =
    let first =
    bind_some (observation_at common (address_at octets) layout (take (size_of layout) (drop 3 octets))) _ xs e in
    let others = bind_some (objects_apart common layout n (drop (3 + size_of layout) octets)) _ xs first.2 in
    let is : first.0 ∷ others.0 ≡ xs = cc (others.2) in
    let room : 3 + size_of layout ≤ length octets = omega (arith, long) in
    let information =
    information_takes common (address_at octets) layout (take (size_of layout) (drop 3 octets)) first.0
    (front_information layout octets room) first.1 in
    let behind = apart_takes common layout n (drop (3 + size_of layout) octets) others.0
    (omega (arith, long, length-drop (3 + size_of layout) octets)) others.1 in
    let address : IsAddress (take 3 octets) first.0.address = rw information.1 (address_takes octets (omega arith)) in
    rw (← is) (
      (
        take 3 octets,
        take (size_of layout) (drop 3 octets),
        drop (3 + size_of layout) octets,
        regroup 3 (size_of layout) octets,
        address,
        information.0,
        behind.0,
      ),
      omega (arith, behind.1),
      All-cons (λ x. x.common ≡ common) first.0 others.0 information.2 behind.2,
    )

apart_again : (common : ℕ) (layout : Layout) (octets : List ℕ) (xs : List Observation) → AreApart layout octets xs
    → AreUnder common xs
    → (objects_apart common layout (length xs) octets ≡ Some xs) × (length octets ≡ length xs * (3 + size_of layout))
unfolding objects_apart
apart_again common layout octets [] none under = (refl, ap length none ∙ omega arith)
apart_again common layout octets (x ∷ xs) (address, information, rest, text, is_address, is_information, others) under =
    let a = address_again address x.address (information ++ rest) is_address in
    let i = information_again layout information x is_information in
    let o = apart_again common layout rest xs others (All-tail (λ x. x.common ≡ common) x xs under) in
    let at : address_at octets ≡ x.address = ap (λ (o : List ℕ). address_at o) text ∙ a.0 in
    let back : drop 3 octets ≡ information ++ rest =
    ap (λ (o : List ℕ). drop 3 o) text ∙ drop_at address (information ++ rest) 3 a.1 in
    let front : take (size_of layout) (drop 3 octets) ≡ information =
    ap (λ (o : List ℕ). take (size_of layout) o) back ∙ take_at information rest (size_of layout) i.1 in
    let behind : drop (3 + size_of layout) octets ≡ rest =
    sym (drop-drop (size_of layout) 3 octets)
    ∙ (ap (λ (o : List ℕ). drop (size_of layout) o) back ∙ drop_at information rest (size_of layout) i.1) in
    let long : length octets ≡ 3 + size_of layout + length rest =
    ap length text
    ∙ omega (arith, length-append address (information ++ rest), length-append information rest, a.1, i.1) in
    let same : x.common ≡ common = All-head (λ x. x.common ≡ common) x xs under in
    let first : observation_at common (address_at octets) layout (take (size_of layout) (drop 3 octets)) ≡ Some x =
    rw (at, front, ← same) i.0 in
    (rw (first, behind, o.0) refl, omega (arith, long, o.1))

sequence_takes : (common : ℕ) (layout : Layout) (n address : ℕ) (octets : List ℕ) (xs : List Observation)
    → length octets ≡ n * size_of layout → objects_in_sequence common layout n address octets ≡ Some xs
    → AreInSequence layout address octets xs × (length xs ≡ n) × AreUnder common xs
unfolding objects_in_sequence
sequence_takes common layout zero address octets [] long e =
    (empty octets (omega (arith, long)), refl, All-nil (λ x. x.common ≡ common))
sequence_takes common layout zero address octets (x ∷ xs) long e = absurd cc
sequence_takes common layout (suc n) address octets xs long e =
    let first = bind_some (observation_at common address layout (take (size_of layout) octets)) _ xs e in
    let others =
    bind_some (objects_in_sequence common layout n (address + 1) (drop (size_of layout) octets)) _ xs first.2 in
    let is : first.0 ∷ others.0 ≡ xs = cc (others.2) in
    let room : length (take (size_of layout) octets) ≡ size_of layout =
    omega (arith, long, length-take (size_of layout) octets) in
    let information = information_takes common address layout (take (size_of layout) octets) first.0 room first.1 in
    let behind = sequence_takes common layout n (address + 1) (drop (size_of layout) octets) others.0
    (omega (arith, long, length-drop (size_of layout) octets)) others.1 in
    rw (← is) (
      (
        take (size_of layout) octets,
        drop (size_of layout) octets,
        sym (take-append-drop (size_of layout) octets),
        information.1,
        information.0,
        behind.0,
      ),
      omega (arith, behind.1),
      All-cons (λ x. x.common ≡ common) first.0 others.0 information.2 behind.2,
    )

sequence_again : (common : ℕ) (layout : Layout) (address : ℕ) (octets : List ℕ) (xs : List Observation)
    → AreInSequence layout address octets xs → AreUnder common xs
    → (objects_in_sequence common layout (length xs) address octets ≡ Some xs)
    × (length octets ≡ length xs * size_of layout)
unfolding objects_in_sequence
sequence_again common layout address octets [] none under = (refl, ap length none ∙ omega arith)
sequence_again common layout address octets (x ∷ xs) (information, rest, text, at, is_information, others) under =
    let i = information_again layout information x is_information in
    let o = sequence_again common layout (address + 1) rest xs others
    (All-tail (λ x. x.common ≡ common) x xs under) in
    let same : x.common ≡ common = All-head (λ x. x.common ≡ common) x xs under in
    let front : take (size_of layout) octets ≡ information =
    ap (λ (o : List ℕ). take (size_of layout) o) text ∙ take_at information rest (size_of layout) i.1 in
    let behind : drop (size_of layout) octets ≡ rest =
    ap (λ (o : List ℕ). drop (size_of layout) o) text ∙ drop_at information rest (size_of layout) i.1 in
    let long : length octets ≡ size_of layout + length rest =
    ap length text ∙ omega (arith, length-append information rest, i.1) in
    let first : observation_at common address layout (take (size_of layout) octets) ≡ Some x =
    rw (front, ← at, ← same) i.0 in
    (rw (first, behind, o.0) refl, omega (arith, long, o.1))

-- so many objects by SQ, at least one
pub record HasObjects (common : ℕ) (layout : Layout) (sequence : Bool) (n : ℕ) (octets : List ℕ)
    (xs : List Observation) : Type 0 where
  pub are : AreObjects layout sequence octets xs
  pub number : length xs ≡ n
  pub some : 0 < n
  pub under : AreUnder common xs

objects_take : (common : ℕ) (layout : Layout) (sequence : Bool) (n : ℕ) (octets : List ℕ) (xs : List Observation)
    → objects_of common layout sequence n octets ≡ Some xs → HasObjects common layout sequence n octets xs
unfolding objects_of
objects_take common layout sequence zero octets xs e = absurd cc
objects_take common layout false (suc n) octets xs e =
    let w =
    when_some (length octets == suc n * (3 + size_of layout)) (objects_apart common layout (suc n) octets) xs e in
    let t = apart_takes common layout (suc n) octets xs (eqb-true _ _ w.0) w.1 in
    record { are = t.0; number = t.1; some = omega arith; under = t.2 }
objects_take common layout true (suc n) octets xs e =
    let w = when_some (length octets == 3 + suc n * size_of layout)
    (objects_in_sequence common layout (suc n) (address_at octets) (drop 3 octets)) xs e in
    let long : length octets ≡ 3 + suc n * size_of layout = eqb-true _ _ w.0 in
    let t = sequence_takes common layout (suc n) (address_at octets) (drop 3 octets) xs
    (omega (arith, long, length-drop 3 octets)) w.1 in
    record {
      are = (
        take 3 octets,
        address_at octets,
        drop 3 octets,
        sym (take-append-drop 3 octets),
        address_takes octets (omega (arith, long)),
        t.0,
      );
      number = t.1;
      some = omega arith;
      under = t.2;
    }

chosen : {A : Type 0} (b : Bool) (o : Option A) (x : A) → b ≡ true → o ≡ Some x → cond b o None ≡ Some x
chosen true o x t e = e
chosen false o x t e = absurd cc

objects_again : (common : ℕ) (layout : Layout) (sequence : Bool) (octets : List ℕ) (xs : List Observation)
    → 0 < length xs → AreObjects layout sequence octets xs → AreUnder common xs
    → objects_of common layout sequence (length xs) octets ≡ Some xs
unfolding objects_of
objects_again common layout sequence octets [] some are under = absurd (omega arith)
objects_again common layout false octets (x ∷ xs) some are under =
    let o = apart_again common layout octets (x ∷ xs) are under in
    chosen (length octets == length (x ∷ xs) * (3 + size_of layout)) _ (x ∷ xs) (eq-eqb _ _ o.1) o.0
objects_again common layout true octets (x ∷ xs) some (address, first, rest, text, is_address, are) under =
    let a = address_again address first rest is_address in
    let o = sequence_again common layout first rest (x ∷ xs) are under in
    let at : address_at octets ≡ first = ap (λ (o : List ℕ). address_at o) text ∙ a.0 in
    let back : drop 3 octets ≡ rest = ap (λ (o : List ℕ). drop 3 o) text ∙ drop_at address rest 3 a.1 in
    let long : length octets ≡ 3 + length (x ∷ xs) * size_of layout =
    ap length text ∙ (length-append address rest ∙ omega (arith, a.1, o.1)) in
    chosen (length octets == 3 + length (x ∷ xs) * size_of layout) _ (x ∷ xs) (eq-eqb _ _ long) (rw (at, back) o.0)

-- ---- the whole

abbrev asdu_with : ℕ → ℕ → ℕ → ℕ → List Observation → Asdu
asdu_with identification cause originator common xs =
    record {
      identification = identification;
      cause = cause;
      originator = originator;
      common_address = common;
      observations = xs;
    }

no_header : (asdu : Asdu) → None ≡ Some asdu → ⊥
no_header asdu e = absurd cc

whole_takes : (types : List Layout) (octets : List ℕ) (asdu : Asdu) → asdu_meaning types octets ≡ Some asdu
    → IsAsdu types octets asdu
unfolding asdu_meaning
whole_takes types (identification ∷ qualifier ∷ cause ∷ originator ∷ low ∷ high ∷ objects) asdu e =
    let l = bind_some (layout_of identification types) _ asdu e in
    let o = bind_some (objects_of (low + 256 * high) l.0 (is_set 7 qualifier) (qualifier % 128) objects) _ asdu l.2 in
    let is : asdu_with identification cause originator (low + 256 * high) o.0 ≡ asdu = cc (o.2) in
    let t = objects_take (low + 256 * high) l.0 (is_set 7 qualifier) (qualifier % 128) objects o.0 o.1 in
    rw (← is) (record {
      qualifier = qualifier;
      low = low;
      high = high;
      objects = objects;
      text = refl;
      common = refl;
      layout = l.0;
      known = l.1;
      number = t.number;
      some = omega (arith, t.number, t.some);
      are = t.are;
      under = t.under;
    })
whole_takes types [] asdu e = absurd (no_header asdu e)
whole_takes types (a ∷ []) asdu e = absurd (no_header asdu e)
whole_takes types (a ∷ b ∷ []) asdu e = absurd (no_header asdu e)
whole_takes types (a ∷ b ∷ c ∷ []) asdu e = absurd (no_header asdu e)
whole_takes types (a ∷ b ∷ c ∷ d ∷ []) asdu e = absurd (no_header asdu e)
whole_takes types (a ∷ b ∷ c ∷ d ∷ f ∷ []) asdu e = absurd (no_header asdu e)

header_again : (types : List Layout) (qualifier low high : ℕ) (objects : List ℕ) (asdu : Asdu) (layout : Layout)
    → asdu.common_address ≡ low + 256 * high
    → layout_of asdu.identification types ≡ Some layout
    → objects_of asdu.common_address layout (is_set 7 qualifier) (qualifier % 128) objects ≡ Some asdu.observations
    → asdu_meaning types (asdu.identification ∷ qualifier ∷ asdu.cause ∷ asdu.originator ∷ low ∷ high ∷ objects)
    ≡ Some asdu
unfolding asdu_meaning
header_again types qualifier low high objects asdu layout common known are = rw (known, ← common, are) refl

whole_again : (types : List Layout) (octets : List ℕ) (asdu : Asdu) → IsAsdu types octets asdu
    → asdu_meaning types octets ≡ Some asdu
whole_again types octets asdu h =
    let are : objects_of asdu.common_address h.layout (is_set 7 h.qualifier) (h.qualifier % 128) h.objects
    ≡ Some asdu.observations =
    ap (λ (n : ℕ). objects_of asdu.common_address h.layout (is_set 7 h.qualifier) n h.objects) (sym h.number)
    ∙ objects_again asdu.common_address h.layout (is_set 7 h.qualifier) h.objects asdu.observations h.some h.are
    h.under in
    ap (λ (o : List ℕ). asdu_meaning types o) h.text
    ∙ header_again types h.qualifier h.low h.high h.objects asdu h.layout h.common h.known are

pub meaning_is_spelled : (types : List Layout) (octets : List ℕ) (asdu : Asdu)
    → asdu_meaning types octets ≡ Some asdu ↔ IsAsdu types octets asdu
meaning_is_spelled types octets asdu = (whole_takes types octets asdu, whole_again types octets asdu)
