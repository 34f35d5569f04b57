-- What the table of variations says of the objects of a header.
use Rattle.std.proofs.Common.{◌≡◌, ◌≢◌, ℕ, zero, suc, ◌+◌, Bool, true, false, cond, eqb}
use Rattle.std.proofs.Common.{◌&&◌, ◌||◌, List, [], ◌∷◌, ◌++◌, take, drop, Option, Some}
use Rattle.std.proofs.Common.{None, ◌⊎◌, inl, inr, refl, sym, ap, subst, ◌∙◌, arith}
use Rattle.std.specs.Prelude.{not, nat_lt}
use Rattle.std.proofs.lemmas.Bool.{eqb-true, ne_eqb, and_parts, or_cases}
use Rattle.std.proofs.lemmas.List.{append-nil}
use Rattle.gw_model.specs.declared.point.Stamp.{Stamp}
use Rattle.gw_model.specs.declared.point.Report.{Report}
use Rattle.dnp_objects.specs.declared.header.Header.{Header}
use Rattle.dnp_objects.specs.declared.object.Size.{Size}
use Rattle.dnp_objects.specs.declared.object.Size.TheVariants.{Octets, Bits}
use Rattle.dnp_objects.specs.declared.object.Access.TheVariants.{RangesAndIndexes}
use Rattle.dnp_objects.specs.Library.{Role, Point, CommonTime, Echo, SteppedOver, Timeless, Parts, Whole, Variation}
use Rattle.dnp_objects.specs.Library.{entry, plain, objects, object_among, octet_string, object_of, size_of}
use Rattle.dnp_objects.specs.Headers.{is_among}
use Rattle.dnp_points.specs.Values.{bits_of}
use Rattle.dnp_points.specs.Objects.{reports_by_role, packed_reports_by_role, object_reports}
use Rattle.dnp_points.specs.Objects.{packed_reports, index_of, whole_from, packed_from}
use Rattle.dnp_points.specs.Meaning.{IsWithin, octets_of_objects, times_by_role, times_of, sized_reports, header_reports}

some_is : {A : Type 0} (x y : A) → Some x ≡ Some y → x ≡ y
some_is x y e = cc

-- ---- rows

abbrev all_rows : (Variation → Bool) → List Variation → Bool
all_rows test [] = true
all_rows test (v ∷ vs) = test v && all_rows test vs

-- a row that is found passes a test that all rows pass, or it is an octet string
abbrev Found : (Variation → Bool) → ℕ → ℕ → Variation → Type 0
Found test group number v = ((test v ≡ true) × (group ≡ v.group) × (number ≡ v.number))
    ⊎ (octet_string group number ≡ Some v)

row_here : (test : Variation → Bool) (w : Variation) (rest : Option Variation) (group number : ℕ)
    (v : Variation) (b : Bool)
    → (b ≡ true → (group ≡ w.group) × (number ≡ w.number)) → test w ≡ true
    → (rest ≡ Some v → Found test group number v) → cond b (Some w) rest ≡ Some v → Found test group number v
row_here test w rest group number v true same here others e =
    let is : w ≡ v = some_is w v e in
    let both = same refl in
    inl (subst (λ (x : Variation). (test x ≡ true) × (group ≡ x.group) × (number ≡ x.number)) is (here, both.0, both.1))
row_here test w rest group number v false same here others e = others e

same_row : (a b c d : ℕ) → (eqb a b && eqb c d) ≡ true → (a ≡ b) × (c ≡ d)
same_row a b c d e =
    let parts = and_parts (eqb a b) (eqb c d) e in
    (eqb-true a b parts.0, eqb-true c d parts.1)

row_tested : (test : Variation → Bool) (vs : List Variation) (group number : ℕ) (v : Variation)
    → all_rows test vs ≡ true
    → object_among vs group number ≡ Some v → Found test group number v
row_tested test [] group number v all e = inr e
row_tested test (w ∷ vs) group number v all e =
    let parts = and_parts (test w) (all_rows test vs) all in
    row_here test w (object_among vs group number) group number v (eqb group w.group && eqb number w.number)
    (same_row group w.group number w.number) parts.0 (row_tested test vs group number v parts.1) e

tested : (test : Variation → Bool) (group number : ℕ) (v : Variation) → all_rows test objects ≡ true
    → object_of group number ≡ Some v → Found test group number v
unfolding object_of
tested test group number v all e = row_tested test objects group number v all e

string_here : (group number : ℕ) (v w : Variation) (b : Bool) → cond b (Some w) None ≡ Some v → (b ≡ true) × (w ≡ v)
string_here group number v w true e = (refl, some_is w v e)
string_here group number v w false e = absurd cc

-- an octet string is stepped over
string_is : (group number : ℕ) (v : Variation) → octet_string group number ≡ Some v
    → ((group ≡ 110) ⊎ (group ≡ 111)) × (v.role ≡ SteppedOver)
string_is group number v e =
    let w : Variation = entry group number SteppedOver (eqb group 111) (Whole plain number Timeless) RangesAndIndexes in
    let here = string_here group number v w ((eqb group 110 || eqb group 111) && nat_lt 0 number) e in
    let either = and_parts (eqb group 110 || eqb group 111) (nat_lt 0 number) here.0 in (
      elim (or_cases (eqb group 110) (eqb group 111) either.0) [
        | inl a ↦ inl (eqb-true group 110 a)
        | inr b ↦ inr (eqb-true group 111 b)
      ],
      sym (ap (λ (x : Variation). x.role) here.1),
    )

-- ---- objects that report nothing

abbrev pub IsQuiet : Role → Type 0
IsQuiet (Point kind) = ⊥
IsQuiet CommonTime = Unit {0}
IsQuiet Echo = Unit {0}
IsQuiet SteppedOver = Unit {0}

told_quiet : (role : Role) (parts : Parts) (event : Bool) (outstation index : ℕ) (common : Stamp) (text : List ℕ)
    → IsQuiet role → reports_by_role role parts event outstation index common text ≡ []
told_quiet (Point kind) parts event outstation index common text q = absurd q
told_quiet CommonTime parts event outstation index common text q = refl
told_quiet Echo parts event outstation index common text q = refl
told_quiet SteppedOver parts event outstation index common text q = refl

packed_told_quiet : (role : Role) (event : Bool) (outstation index state : ℕ) → IsQuiet role
    → packed_reports_by_role role event outstation index state ≡ []
packed_told_quiet (Point kind) event outstation index state q = absurd q
packed_told_quiet CommonTime event outstation index state q = refl
packed_told_quiet Echo event outstation index state q = refl
packed_told_quiet SteppedOver event outstation index state q = refl

both_nil : (xs ys : List Report) → xs ≡ [] → ys ≡ [] → xs ++ ys ≡ []
both_nil xs ys e f = rw (e, f) refl

whole_quiet : (v : Variation) (long outstation : ℕ) (common : Stamp) (prefix next n : ℕ) (octets : List ℕ)
    → IsQuiet v.role → whole_from v long outstation common prefix next n octets ≡ []
whole_quiet v long outstation common prefix next zero octets q = refl
whole_quiet v long outstation common prefix next (suc n) octets q =
    let behind : List ℕ = drop prefix octets in
    both_nil (object_reports v outstation (index_of next (take prefix octets)) common (take long behind))
    (whole_from v long outstation common prefix (next + 1) n (drop long behind))
    (told_quiet v.role v.parts v.event outstation (index_of next (take prefix octets)) common (take long behind) q)
    (whole_quiet v long outstation common prefix (next + 1) n (drop long behind) q)

packed_quiet : (v : Variation) (width outstation next n : ℕ) (bits : List ℕ) → IsQuiet v.role
    → packed_from v width outstation next n bits ≡ []
packed_quiet v width outstation next zero bits q = refl
packed_quiet v width outstation next (suc n) bits q =
    both_nil (packed_reports v outstation next (take width bits))
    (packed_from v width outstation (next + 1) n (drop width bits))
    (packed_told_quiet v.role v.event outstation next _ q)
    (packed_quiet v width outstation (next + 1) n (drop width bits) q)

sized_quiet : (size : Size) (v : Variation) (outstation : ℕ) (common : Stamp) (h : Header) (body : List ℕ)
    → IsQuiet v.role → sized_reports size v outstation common h body ≡ []
sized_quiet (Octets long) v outstation common h body q =
    whole_quiet v long outstation common h.prefix h.first h.count body q
sized_quiet (Bits width) v outstation common h body q = packed_quiet v width outstation h.first h.count (bits_of body) q

header_quiet : (part : List ℕ) (h : Header) (outstation : ℕ) (common : Stamp) (w : IsWithin part h)
    → IsQuiet w.variation.role
    → header_reports part (object_of h.group h.variation) outstation common h ≡ []
header_quiet part h outstation common w q =
    subst (λ (o : Option Variation). header_reports part o outstation common h ≡ []) (sym w.known)
    (sized_quiet (size_of w.variation) w.variation outstation common h (octets_of_objects part w.variation h) q)

-- where the variations of points stand in the table
abbrev point_row : Role → ℕ → ℕ → Bool
point_row (Point kind) group number =
    is_among group (1 ∷ 2 ∷ 3 ∷ 4 ∷ 10 ∷ 11 ∷ 20 ∷ 22 ∷ 30 ∷ 32 ∷ [])
    && (not (is_among group (30 ∷ 32 ∷ [])) || is_among number (1 ∷ 2 ∷ 3 ∷ 4 ∷ []))
point_row CommonTime group number = true
point_row Echo group number = true
point_row SteppedOver group number = true

not_both : (b : Bool) → b ≡ true → b ≡ false → ⊥
not_both true yes' no' = cc
not_both false yes' no' = cc

implied : (a b : Bool) → (not a || b) ≡ true → a ≡ true → b ≡ true
implied true b e here = e
implied false b e here = absurd cc

other_group : (role : Role) (group number : ℕ) → point_row role group number ≡ true
    → is_among group (1 ∷ 2 ∷ 3 ∷ 4 ∷ 10 ∷ 11 ∷ 20 ∷ 22 ∷ 30 ∷ 32 ∷ []) ≡ false → IsQuiet role
other_group (Point kind) group number row other =
    let both = and_parts (is_among group (1 ∷ 2 ∷ 3 ∷ 4 ∷ 10 ∷ 11 ∷ 20 ∷ 22 ∷ 30 ∷ 32 ∷ []))
    (not (is_among group (30 ∷ 32 ∷ [])) || is_among number (1 ∷ 2 ∷ 3 ∷ 4 ∷ [])) row in
    absurd (not_both (is_among group (1 ∷ 2 ∷ 3 ∷ 4 ∷ 10 ∷ 11 ∷ 20 ∷ 22 ∷ 30 ∷ 32 ∷ [])) both.0 other)
other_group CommonTime group number row other = tt
other_group Echo group number row other = tt
other_group SteppedOver group number row other = tt

other_number : (role : Role) (group number : ℕ) → point_row role group number ≡ true
    → is_among group (30 ∷ 32 ∷ []) ≡ true → is_among number (1 ∷ 2 ∷ 3 ∷ 4 ∷ []) ≡ false → IsQuiet role
other_number (Point kind) group number row analog other =
    let both = and_parts (is_among group (1 ∷ 2 ∷ 3 ∷ 4 ∷ 10 ∷ 11 ∷ 20 ∷ 22 ∷ 30 ∷ 32 ∷ []))
    (not (is_among group (30 ∷ 32 ∷ [])) || is_among number (1 ∷ 2 ∷ 3 ∷ 4 ∷ [])) row in
    absurd (not_both (is_among number (1 ∷ 2 ∷ 3 ∷ 4 ∷ []))
    (implied (is_among group (30 ∷ 32 ∷ [])) (is_among number (1 ∷ 2 ∷ 3 ∷ 4 ∷ [])) both.1 analog) other)
other_number CommonTime group number row analog other = tt
other_number Echo group number row analog other = tt
other_number SteppedOver group number row analog other = tt

string_quiet : (role : Role) → role ≡ SteppedOver → IsQuiet role
string_quiet role e = subst IsQuiet (sym e) tt

abbrev row_of_point : Variation → Bool
row_of_point v = point_row v.role v.group v.number

quiet_group : (group number : ℕ) (v : Variation) → object_of group number ≡ Some v
    → is_among group (1 ∷ 2 ∷ 3 ∷ 4 ∷ 10 ∷ 11 ∷ 20 ∷ 22 ∷ 30 ∷ 32 ∷ []) ≡ false → IsQuiet v.role
quiet_group group number v known other =
    elim (tested row_of_point group number v refl known) [
      | inl row ↦ other_group v.role v.group v.number row.0 (rw row.1 at other)
      | inr string ↦ string_quiet v.role (string_is group number v string).1
    ]

quiet_number : (group number : ℕ) (v : Variation) → object_of group number ≡ Some v
    → is_among group (30 ∷ 32 ∷ []) ≡ true → is_among number (1 ∷ 2 ∷ 3 ∷ 4 ∷ []) ≡ false → IsQuiet v.role
quiet_number group number v known analog other =
    elim (tested row_of_point group number v refl known) [
      | inl row ↦ other_number v.role v.group v.number row.0 (rw row.1 at analog) (rw row.2 at other)
      | inr string ↦ string_quiet v.role (string_is group number v string).1
    ]

added : (front reports : List Report) → reports ≡ [] → front ≡ front ++ reports
added front reports e = rw e (sym (append-nil front))

-- of a group without points nothing is reported
pub no_points : (part : List ℕ) (h : Header) (outstation : ℕ) (common : Stamp) (front : List Report) → IsWithin part h
    → h.group ≢ 1 → h.group ≢ 2 → h.group ≢ 3 → h.group ≢ 4 → h.group ≢ 10 → h.group ≢ 11 → h.group ≢ 20 → h.group ≢ 22
    → h.group ≢ 30 → h.group ≢ 32
    → front ≡ front ++ header_reports part (object_of h.group h.variation) outstation common h
no_points part h outstation common front w n1 n2 n3 n4 n10 n11 n20 n22 n30 n32 =
    let e1 : eqb h.group 1 ≡ false = ne_eqb h.group 1 n1 in
    let e2 : eqb h.group 2 ≡ false = ne_eqb h.group 2 n2 in
    let e3 : eqb h.group 3 ≡ false = ne_eqb h.group 3 n3 in
    let e4 : eqb h.group 4 ≡ false = ne_eqb h.group 4 n4 in
    let e10 : eqb h.group 10 ≡ false = ne_eqb h.group 10 n10 in
    let e11 : eqb h.group 11 ≡ false = ne_eqb h.group 11 n11 in
    let e20 : eqb h.group 20 ≡ false = ne_eqb h.group 20 n20 in
    let e22 : eqb h.group 22 ≡ false = ne_eqb h.group 22 n22 in
    let e30 : eqb h.group 30 ≡ false = ne_eqb h.group 30 n30 in
    let e32 : eqb h.group 32 ≡ false = ne_eqb h.group 32 n32 in
    let other : is_among h.group (1 ∷ 2 ∷ 3 ∷ 4 ∷ 10 ∷ 11 ∷ 20 ∷ 22 ∷ 30 ∷ 32 ∷ []) ≡ false =
    rw (e1, e2, e3, e4, e10, e11, e20, e22, e30, e32) refl in
    added front (header_reports part (object_of h.group h.variation) outstation common h)
    (header_quiet part h outstation common w (quiet_group h.group h.variation w.variation w.known other))

floats : (part : List ℕ) (h : Header) (outstation : ℕ) (common : Stamp) (front : List Report) → IsWithin part h
    → is_among h.group (30 ∷ 32 ∷ []) ≡ true → h.variation ≢ 1 → h.variation ≢ 2 → h.variation ≢ 3 → h.variation ≢ 4
    → front ≡ front ++ header_reports part (object_of h.group h.variation) outstation common h
floats part h outstation common front w analog n1 n2 n3 n4 =
    let e1 : eqb h.variation 1 ≡ false = ne_eqb h.variation 1 n1 in
    let e2 : eqb h.variation 2 ≡ false = ne_eqb h.variation 2 n2 in
    let e3 : eqb h.variation 3 ≡ false = ne_eqb h.variation 3 n3 in
    let e4 : eqb h.variation 4 ≡ false = ne_eqb h.variation 4 n4 in
    let other : is_among h.variation (1 ∷ 2 ∷ 3 ∷ 4 ∷ []) ≡ false = rw (e1, e2, e3, e4) refl in
    added front (header_reports part (object_of h.group h.variation) outstation common h)
    (header_quiet part h outstation common w (quiet_number h.group h.variation w.variation w.known analog other))

-- floating point numbers are stepped over
pub no_floats : (part : List ℕ) (h : Header) (outstation : ℕ) (common : Stamp) (front : List Report) → IsWithin part h
    → h.group ≡ 30 → h.variation ≢ 1 → h.variation ≢ 2 → h.variation ≢ 3 → h.variation ≢ 4
    → front ≡ front ++ header_reports part (object_of h.group h.variation) outstation common h
no_floats part h outstation common front w is n1 n2 n3 n4 =
    floats part h outstation common front w (ap (λ (n : ℕ). is_among n (30 ∷ 32 ∷ [])) is) n1 n2 n3 n4

pub no_float_events : (part : List ℕ) (h : Header) (outstation : ℕ) (common : Stamp) (front : List Report)
    → IsWithin part h
    → h.group ≡ 32 → h.variation ≢ 1 → h.variation ≢ 2 → h.variation ≢ 3 → h.variation ≢ 4
    → front ≡ front ++ header_reports part (object_of h.group h.variation) outstation common h
no_float_events part h outstation common front w is n1 n2 n3 n4 =
    floats part h outstation common front w (ap (λ (n : ℕ). is_among n (30 ∷ 32 ∷ [])) is) n1 n2 n3 n4

-- ---- common times

-- where common times stand in the table
abbrev six_octets : Size → Bool
six_octets (Octets n) = eqb n 6
six_octets (Bits n) = false

abbrev time_row : Role → ℕ → Size → Bool
time_row CommonTime group size = eqb group 51 && six_octets size
time_row (Point kind) group size = not (eqb group 51)
time_row Echo group size = not (eqb group 51)
time_row SteppedOver group size = not (eqb group 51)

abbrev row_of_time : Variation → Bool
row_of_time v = time_row v.role v.group (size_of v)

no_time_told : (role : Role) (group : ℕ) (size : Size) (h : Header) (body : List ℕ) → time_row role group size ≡ true
    → eqb group 51 ≡ false → times_by_role role h body ≡ []
no_time_told CommonTime group size h body row other =
    absurd (cc ((and_parts (eqb group 51) (six_octets size) row).0, other))
no_time_told (Point kind) group size h body row other = refl
no_time_told Echo group size h body row other = refl
no_time_told SteppedOver group size h body row other = refl

string_no_time : (role : Role) (h : Header) (body : List ℕ) → role ≡ SteppedOver → times_by_role role h body ≡ []
string_no_time role h body e = ap (λ (r : Role). times_by_role r h body) e

-- objects of another group give no common time
pub no_times : (part : List ℕ) (h : Header) → IsWithin part h → h.group ≢ 51
    → times_of part (object_of h.group h.variation) h ≡ []
no_times part h w other =
    let v : Variation = w.variation in
    subst (λ (o : Option Variation). times_of part o h ≡ []) (sym w.known)
    (elim (tested row_of_time h.group h.variation v refl w.known) [
      | inl row ↦ no_time_told v.role v.group (size_of v) h (octets_of_objects part v h) row.0
          (rw row.1 at (ne_eqb h.group 51 other))
      | inr string ↦ string_no_time v.role h (octets_of_objects part v h) (string_is h.group h.variation v string).1
    ])

six_is : (size : Size) → six_octets size ≡ true → size ≡ Octets 6
six_is (Octets n) e = ap (λ (k : ℕ). Octets k) (eqb-true n 6 e)
six_is (Bits n) e = absurd cc

time_is : (role : Role) (group : ℕ) (size : Size) → time_row role group size ≡ true → eqb group 51 ≡ true
    → (role ≡ CommonTime) × (size ≡ Octets 6)
time_is CommonTime group size row here = (refl, six_is size (and_parts (eqb group 51) (six_octets size) row).1)
time_is (Point kind) group size row here = absurd cc
time_is Echo group size row here = absurd cc
time_is SteppedOver group size row here = absurd cc

not_string : (group : ℕ) → (group ≡ 110) ⊎ (group ≡ 111) → group ≡ 51 → ⊥
not_string group (inl a) here = omega arith
not_string group (inr b) here = omega arith

-- the objects of group 51 are common times of six octets
pub are_times : (part : List ℕ) (h : Header) (w : IsWithin part h) → h.group ≡ 51
    → (w.variation.role ≡ CommonTime) × (size_of w.variation ≡ Octets 6)
are_times part h w here =
    let v : Variation = w.variation in
    elim (tested row_of_time h.group h.variation v refl w.known) [
      | inl row ↦ time_is v.role v.group (size_of v) row.0 (ap (λ (n : ℕ). eqb n 51) (sym row.1 ∙ here))
      | inr string ↦ absurd (not_string h.group (string_is h.group h.variation v string).0 here)
    ]
