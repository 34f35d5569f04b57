-- What is read of objects is spelled so, and what is spelled so is read.
use Rattle.std.proofs.Common.{◌≡◌, ℕ, zero, suc, ◌+◌, ◌*◌, ◌≤◌, Bool, true, false, List}
use Rattle.std.proofs.Common.{[], ◌∷◌, ◌++◌, length, take, drop, refl, sym, ap, ◌∙◌, arith}
use Rattle.std.proofs.lemmas.List.{take_at, drop_at, take-append-drop, length-take, length-drop, nil_from_length}
use Rattle.gw_model.specs.declared.point.Kind.{Kind}
use Rattle.gw_model.specs.declared.point.Stamp.{Stamp}
use Rattle.gw_model.specs.declared.point.Report.{Report}
use Rattle.dnp_objects.specs.declared.object.Size.{Size}
use Rattle.dnp_objects.specs.declared.object.Size.TheVariants.{Octets, Bits}
use Rattle.dnp_objects.specs.Library.{Role, Point, CommonTime, Echo, SteppedOver, Time, time_octets}
use Rattle.dnp_objects.specs.Library.{Parts, Packed, Whole, Variation, size_of, size_of_parts}
use Rattle.dnp_points.specs.Values.{flags_of, stamp_of, report_of}
use Rattle.dnp_points.specs.Objects.{flags_octets, IsPointText, IsTextOf, IsObjectText}
use Rattle.dnp_points.specs.Objects.{packed_reports, index_of, AreWhole, ArePacked, point_report}
use Rattle.dnp_points.specs.Objects.{reports_by_role, object_reports, whole_from, packed_from}

-- ---- one object

point_found : (kind : Kind) (event has_flags : Bool) (width : ℕ) (time : Time) (outstation index : ℕ)
    (common : Stamp) (text : List ℕ)
    → length text ≡ flags_octets has_flags + width + time_octets time
    → IsPointText kind event has_flags width time outstation index common text
    (point_report kind event has_flags width time outstation index common text)
unfolding point_report
point_found kind event has_flags width time outstation index common text e =
    let f : ℕ = flags_octets has_flags in
    let behind : List ℕ = drop f text in
    let whole : text ≡ take f text ++ (take width behind ++ drop width behind) =
    sym (take-append-drop f text) ∙ ap (λ (t : List ℕ). take f text ++ t) (sym (take-append-drop width behind)) in
    record {
      flags = take f text;
      value = take width behind;
      instant = drop width behind;
      parts = whole;
      flags_long = omega (arith, length-take f text);
      value_long = omega (arith, length-take width behind, length-drop f text);
      instant_long = omega (arith, length-drop width behind, length-drop f text);
      told = refl;
    }

point_only : (kind : Kind) (event has_flags : Bool) (width : ℕ) (time : Time) (outstation index : ℕ) (common : Stamp)
    (text : List ℕ) (r : Report)
    → IsPointText kind event has_flags width time outstation index common text r
    → r ≡ point_report kind event has_flags width time outstation index common text
unfolding point_report
point_only kind event has_flags width time outstation index common text r is =
    let f : ℕ = flags_octets has_flags in
    let rest : List ℕ = is.value ++ is.instant in
    let front : take f text ≡ is.flags = ap (take f) is.parts ∙ take_at is.flags rest f is.flags_long in
    let behind : drop f text ≡ rest = ap (drop f) is.parts ∙ drop_at is.flags rest f is.flags_long in
    let value : take width (drop f text) ≡ is.value =
    ap (take width) behind ∙ take_at is.value is.instant width is.value_long in
    let instant : drop width (drop f text) ≡ is.instant =
    ap (drop width) behind ∙ drop_at is.value is.instant width is.value_long in
    is.told ∙ (ap (λ (t : List ℕ).
    report_of outstation index kind event (flags_of t) is.value (stamp_of time common is.instant)) (sym front)
    ∙ (ap (λ (t : List ℕ).
    report_of outstation index kind event (flags_of (take f text)) t (stamp_of time common is.instant)) (sym value)
    ∙ ap (λ (t : List ℕ). report_of outstation index kind event (flags_of (take f text)) (take width (drop f text))
    (stamp_of time common t)) (sym instant)))

abbrev octets_or : ℕ → Size → ℕ
octets_or other (Octets n) = n
octets_or other (Bits n) = other

octets_are : (m n : ℕ) → Octets m ≡ Octets n → m ≡ n
octets_are m n e = ap (octets_or 0) e

layout_long : (has_flags : Bool) (width : ℕ) (time : Time) (long : ℕ)
    → size_of_parts (Whole has_flags width time) ≡ Octets long
    → long ≡ flags_octets has_flags + width + time_octets time
layout_long true width time long e = sym (octets_are (1 + width + time_octets time) long e)
layout_long false width time long e = omega (arith, octets_are (width + time_octets time) long e)

told_found : (role : Role) (parts : Parts) (event : Bool) (outstation index : ℕ) (common : Stamp) (text : List ℕ)
    → size_of_parts parts ≡ Octets (length text)
    → IsTextOf role parts event outstation index common text
    (reports_by_role role parts event outstation index common text)
told_found (Point kind) (Packed bits) event outstation index common text e = absurd cc
told_found (Point kind) (Whole has_flags width time) event outstation index common text e = (
  point_report kind event has_flags width time outstation index common text,
  point_found kind event has_flags width time outstation index common text
      (layout_long has_flags width time (length text) e),
  refl,
)
told_found CommonTime parts event outstation index common text e = refl
told_found Echo parts event outstation index common text e = refl
told_found SteppedOver parts event outstation index common text e = refl

told_only : (role : Role) (parts : Parts) (event : Bool) (outstation index : ℕ) (common : Stamp) (text : List ℕ)
    (rs : List Report)
    → IsTextOf role parts event outstation index common text rs
    → rs ≡ reports_by_role role parts event outstation index common text
told_only (Point kind) (Packed bits) event outstation index common text rs is = absurd is
told_only (Point kind) (Whole has_flags width time) event outstation index common text rs is =
    is.2
    ∙ ap (λ (r : Report). r ∷ []) (point_only kind event has_flags width time outstation index common text is.0 is.1)
told_only CommonTime parts event outstation index common text rs is = is
told_only Echo parts event outstation index common text rs is = is
told_only SteppedOver parts event outstation index common text rs is = is

object_found : (v : Variation) (long outstation index : ℕ) (common : Stamp) (text : List ℕ) → size_of v ≡ Octets long
    → length text ≡ long
    → IsObjectText v outstation index common text (object_reports v outstation index common text)
object_found v long outstation index common text size e =
    told_found v.role v.parts v.event outstation index common text (size ∙ ap (λ (n : ℕ). Octets n) (sym e))

object_only : (v : Variation) (outstation index : ℕ) (common : Stamp) (text : List ℕ) (rs : List Report)
    → IsObjectText v outstation index common text rs
    → rs ≡ object_reports v outstation index common text
object_only v outstation index common text rs is = told_only v.role v.parts v.event outstation index common text rs is

-- ---- objects of whole octets, one after the other

pub whole_found : (v : Variation) (long outstation : ℕ) (common : Stamp) (prefix next n : ℕ) (octets : List ℕ)
    → size_of v ≡ Octets long
    → length octets ≡ n * (prefix + long)
    → AreWhole v long outstation common prefix next n octets (whole_from v long outstation common prefix next n octets)
whole_found v long outstation common prefix next zero octets size e = (nil_from_length octets (omega (arith, e)), refl)
whole_found v long outstation common prefix next (suc n) octets size e =
    let behind : List ℕ = drop prefix octets in
    let enough : length octets ≡ n * (prefix + long) + (prefix + long) = omega (arith, e) in
    let behind_length : length behind ≡ n * (prefix + long) + long = omega (arith, enough, length-drop prefix octets) in
    let rest_length : length (drop long behind) ≡ n * (prefix + long) =
    omega (arith, behind_length, length-drop long behind) in
    let text_length : length (take long behind) ≡ long = omega (arith, behind_length, length-take long behind) in
    let index_length : length (take prefix octets) ≡ prefix = omega (arith, enough, length-take prefix octets) in
    let parts : octets ≡ take prefix octets ++ (take long behind ++ drop long behind) =
    sym (take-append-drop prefix octets)
    ∙ ap (λ (t : List ℕ). take prefix octets ++ t) (sym (take-append-drop long behind)) in (
      take prefix octets,
      take long behind,
      drop long behind,
      object_reports v outstation (index_of next (take prefix octets)) common (take long behind),
      whole_from v long outstation common prefix (next + 1) n (drop long behind),
      parts,
      index_length,
      text_length,
      object_found v long outstation (index_of next (take prefix octets)) common (take long behind) size text_length,
      refl,
      whole_found v long outstation common prefix (next + 1) n (drop long behind) size rest_length,
    )

pub whole_only : (v : Variation) (long outstation : ℕ) (common : Stamp) (prefix next n : ℕ) (octets : List ℕ)
    (rs : List Report)
    → AreWhole v long outstation common prefix next n octets rs
    → rs ≡ whole_from v long outstation common prefix next n octets
whole_only v long outstation common prefix next zero octets rs are = are.1
whole_only v long outstation common prefix next (suc n) octets rs are =
    let index = are.0 in
    let text = are.1 in
    let rest = are.2 in
    let front : take prefix octets ≡ index = ap (take prefix) are.5 ∙ take_at index (text ++ rest) prefix are.6 in
    let behind : drop prefix octets ≡ text ++ rest =
    ap (drop prefix) are.5 ∙ drop_at index (text ++ rest) prefix are.6 in
    let own : take long (drop prefix octets) ≡ text = ap (take long) behind ∙ take_at text rest long are.7 in
    let after : drop long (drop prefix octets) ≡ rest = ap (drop long) behind ∙ drop_at text rest long are.7 in
    let one : are.3
    ≡ object_reports v outstation (index_of next (take prefix octets)) common (take long (drop prefix octets)) =
    object_only v outstation (index_of next index) common text are.3 are.8
    ∙ (ap (λ (t : List ℕ). object_reports v outstation (index_of next t) common text) (sym front)
    ∙ ap (λ (t : List ℕ). object_reports v outstation (index_of next (take prefix octets)) common t) (sym own)) in
    let others : are.4 ≡ whole_from v long outstation common prefix (next + 1) n (drop long (drop prefix octets)) =
    whole_only v long outstation common prefix (next + 1) n rest are.4 are.10
    ∙ ap (whole_from v long outstation common prefix (next + 1) n) (sym after) in
    are.9 ∙ (ap (λ (x : List Report). x ++ are.4) one
    ∙ ap (λ (x : List Report). object_reports v outstation (index_of next (take prefix octets)) common
    (take long (drop prefix octets)) ++ x) others)

-- ---- packed objects

pub packed_found : (v : Variation) (width outstation next n : ℕ) (bits : List ℕ) → n * width ≤ length bits
    → ArePacked v width outstation next n bits (packed_from v width outstation next n bits)
packed_found v width outstation next zero bits le = refl
packed_found v width outstation next (suc n) bits le =
    let enough : n * width + width ≤ length bits = omega (arith, le) in (
      take width bits,
      drop width bits,
      packed_from v width outstation (next + 1) n (drop width bits),
      sym (take-append-drop width bits),
      omega (arith, enough, length-take width bits),
      refl,
      packed_found v width outstation (next + 1) n (drop width bits) (omega (arith, enough, length-drop width bits)),
    )

pub packed_only : (v : Variation) (width outstation next n : ℕ) (bits : List ℕ) (rs : List Report)
    → ArePacked v width outstation next n bits rs → rs ≡ packed_from v width outstation next n bits
packed_only v width outstation next zero bits rs are = are
packed_only v width outstation next (suc n) bits rs are =
    let own : take width bits ≡ are.0 = ap (take width) are.3 ∙ take_at are.0 are.1 width are.4 in
    let after : drop width bits ≡ are.1 = ap (drop width) are.3 ∙ drop_at are.0 are.1 width are.4 in
    let others : are.2 ≡ packed_from v width outstation (next + 1) n (drop width bits) =
    packed_only v width outstation (next + 1) n are.1 are.2 are.6
    ∙ ap (packed_from v width outstation (next + 1) n) (sym after) in
    are.5 ∙ (ap (λ (t : List ℕ). packed_reports v outstation next t ++ are.2) (sym own)
    ∙ ap (λ (x : List Report). packed_reports v outstation next (take width bits) ++ x) others)
