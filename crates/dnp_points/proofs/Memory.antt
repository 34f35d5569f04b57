-- Where memory runs out, something is reported.
use Rattle.std.proofs.Common.{◌≡◌, ◌≢◌, ℕ, suc, ◌+◌, ◌-◌, ◌*◌, ◌<◌, ◌≤◌, List, [], ◌∷◌, ◌++◌}
use Rattle.std.proofs.Common.{length, get_or, take, drop, Some, Result, Ok, Err, refl, sym, ap, ◌∙◌, drop-cons, arith}
use Rattle.std.specs.Prelude.{OnErr}
use Rattle.std.proofs.lemmas.List.{length-append}
use Rattle.gw_model.specs.declared.point.Stamp.{Stamp}
use Rattle.gw_model.specs.declared.point.Report.{Report}
use Rattle.dnp_objects.specs.declared.header.Header.{Header}
use Rattle.dnp_objects.specs.declared.object.Size.TheVariants.{Octets, Bits}
use Rattle.dnp_objects.specs.Library.{Variation, object_of, size_of}
use Rattle.dnp_points.specs.Values.{bits_of}
use Rattle.dnp_points.specs.Objects.{object_reports, packed_reports, index_of, whole_from, packed_from}
use Rattle.dnp_points.specs.Meaning.{octets_of_objects, times_of, last_or, header_reports, reports_from, reports_of}
use Rattle.dnp_points.proofs.Steps.{header_is, whole_turn, packed_turn}

-- a list stays as long as one before it, where one more report is stored
pub grown : (found items before : List Report) (r : Report) → items ≡ found ++ r ∷ [] → length before ≤ length found
    → length before ≤ length items
grown found items before r pushed le = omega (arith, ap length pushed, length-append found (r ∷ []))

-- what is told behind a list is not empty, where a longer list and one more report begin the same whole
told_more : (found others before told : List Report) (r : Report) → length before ≤ length found
    → (found ++ r ∷ []) ++ others ≡ before ++ told → told ≢ []
told_more found others before told r le e = λ none.
    let same : length ((found ++ r ∷ []) ++ others) ≡ length (before ++ told) = ap length e in
    let empty : length told ≡ 0 = ap length none in
    omega (
      arith,
      same,
      empty,
      length-append (found ++ r ∷ []) others,
      length-append found (r ∷ []),
      length-append before told,
    )

-- objects of whole octets, where the report of one of them isn't stored
pub one_whole_told : (part : List ℕ) (h : Header) (v : Variation) (long long' outstation : ℕ) (common : Stamp)
    (prefix' first' turn : ℕ)
    (rest index behind object : List ℕ) (at : ℕ) (found before : List Report) (r : Report)
    → object_of h.group h.variation ≡ Some v → size_of v ≡ Octets long → turn < h.count → prefix' ≡ h.prefix
    → first' ≡ h.first → long' ≡ long
    → index ≡ take prefix' rest → behind ≡ drop prefix' rest → object ≡ take long' behind
    → at ≡ index_of (first' + turn) index → object_reports v outstation at common object ≡ r ∷ []
    → length before ≤ length found
    → found ++ whole_from v long outstation common h.prefix (h.first + turn) (h.count - turn) rest
    ≡ before ++ whole_from v long outstation common h.prefix h.first h.count (octets_of_objects part v h)
    → header_reports part (object_of h.group h.variation) outstation common h ≢ []
one_whole_told part h v long long' outstation common prefix' first' turn rest index behind object at found before r
    known sized lt ep ef el ei eb eo ex told le so_far =
    λ none.
    let further = whole_turn v long long' outstation common h.prefix prefix' h.first first' turn h.count rest index
    behind object (drop long' behind) at
    found (found ++ r ∷ []) before (octets_of_objects part v h) r lt ep ef el ei eb eo refl ex told refl so_far in
    told_more found (whole_from v long outstation common h.prefix (h.first + (turn + 1)) (h.count - (turn + 1))
    (drop long' behind)) before
    (whole_from v long outstation common h.prefix h.first h.count (octets_of_objects part v h)) r le further
    (sym (header_is part h v outstation common (Octets long) known sized) ∙ none)

-- packed objects, where the report of one of them isn't stored
pub one_packed_told : (part : List ℕ) (h : Header) (v : Variation) (width width' outstation : ℕ) (common : Stamp)
    (first' turn : ℕ) (body own : List ℕ) (at : ℕ) (found before : List Report) (r : Report)
    → object_of h.group h.variation ≡ Some v → size_of v ≡ Bits width → turn < h.count → width' ≡ width
    → first' ≡ h.first → at ≡ first' + turn
    → body ≡ octets_of_objects part v h → own ≡ take width' (drop (turn * width') (bits_of body))
    → packed_reports v outstation at own ≡ r ∷ [] → length before ≤ length found
    → found ++ packed_from v width outstation (h.first + turn) (h.count - turn) (drop (turn * width) (bits_of body))
    ≡ before ++ packed_from v width outstation h.first h.count (bits_of body)
    → header_reports part (object_of h.group h.variation) outstation common h ≢ []
one_packed_told part h v width width' outstation common first' turn body own at found before r known sized lt ew ef ex
    all eo told le so_far =
    λ none.
    let further = packed_turn v width width' outstation h.first first' turn h.count (bits_of body) own at found
    (found ++ r ∷ []) before r lt ew ef ex eo told refl so_far in
    told_more found (packed_from v width outstation (h.first + (turn + 1)) (h.count - (turn + 1))
    (drop ((turn + 1) * width) (bits_of body))) before
    (packed_from v width outstation h.first h.count (bits_of body)) r le further
    (ap (λ (t : List ℕ). packed_from v width outstation h.first h.count (bits_of t)) all
    ∙ (sym (header_is part h v outstation common (Bits width) known sized) ∙ none))

nil_behind : (xs ys : List Report) → xs ++ ys ≡ [] → ys ≡ []
nil_behind [] ys e = e
nil_behind (x ∷ xs) ys e = absurd cc

nil_before : (xs ys : List Report) → xs ++ ys ≡ [] → xs ≡ []
nil_before [] ys e = refl
nil_before (x ∷ xs) ys e = absurd cc

-- a part, where the objects of one of its headers report something
pub part_told : (outstation : ℕ) (part : List ℕ) (common : Stamp) (hs : List Header) (i : ℕ) (h d : Header)
    (found : List Report) → i < length hs → h ≡ get_or hs i d
    → found ++ reports_from outstation part common (drop i hs) ≡ reports_of outstation part hs
    → header_reports part (object_of h.group h.variation) outstation common h ≢ [] → reports_of outstation part hs ≢ []
part_told outstation part common hs i h d found lt at so_far some = λ none.
    let here : drop i hs ≡ h ∷ drop (suc i) hs =
    drop-cons hs i d lt ∙ ap (λ (x : Header). x ∷ drop (suc i) hs) (sym at) in
    let left : reports_from outstation part common (drop i hs) ≡ [] =
    nil_behind found (reports_from outstation part common (drop i hs)) (so_far ∙ none) in
    let own : reports_from outstation part common (h ∷ drop (suc i) hs) ≡ [] =
    ap (reports_from outstation part common) (sym here) ∙ left in
    some (nil_before (header_reports part (object_of h.group h.variation) outstation common h)
    (reports_from outstation part (last_or common (times_of part (object_of h.group h.variation) h)) (drop (suc i) hs))
    own)

-- what holds, holds on an error
pub on_error : {X Y : Type 0} (r : Result X Y) (P : Type 0) → P → OnErr r P
on_error (Ok x) P p = tt
on_error (Err e) P p = p
