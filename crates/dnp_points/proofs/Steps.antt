-- Reading a header's objects, and a part's headers, one after the other, as a loop does.
use Rattle.std.proofs.Common.{length-drop, ◌≡◌, ◌≢◌, ℕ, zero, suc, ◌+◌, ◌-◌, ◌*◌, ◌/◌}
use Rattle.std.proofs.Common.{◌<◌, ◌≤◌, List, [], ◌∷◌, ◌++◌, length, get_or, take, drop, drop-cons}
use Rattle.std.proofs.Common.{add-one, Option, Some, refl, sym, ap, subst, ◌∙◌, append_assoc, arith}
use Rattle.std.proofs.lemmas.List.{append-nil, drop_all, drop-drop, take-take, drop-take, length-take}
use Rattle.std.proofs.lemmas.Bool.{ne_eqb}
use Rattle.gw_model.specs.declared.point.Stamp.{Stamp}
use Rattle.gw_model.specs.declared.point.Stamp.TheVariants.{At, Doubtful}
use Rattle.gw_model.specs.declared.point.Report.{Report}
use Rattle.dnp_objects.specs.declared.header.Header.{Header}
use Rattle.dnp_objects.specs.declared.object.Size.{Size}
use Rattle.dnp_objects.specs.declared.object.Size.TheVariants.{Octets, Bits}
use Rattle.dnp_objects.specs.Library.{Role, Point, CommonTime, Echo, SteppedOver, Variation, object_of, size_of}
use Rattle.dnp_objects.specs.Headers.{number, body_length}
use Rattle.dnp_points.specs.Values.{bits_of}
use Rattle.dnp_points.specs.Objects.{object_reports, packed_reports, index_of, whole_from, packed_from}
use Rattle.dnp_points.specs.Meaning.{IsWithin, octets_of_objects, time_by, times_from, times_by_role}
use Rattle.dnp_points.specs.Meaning.{times_of, last_or, sized_reports, header_reports, reports_from}
use Rattle.dnp_points.proofs.Table.{are_times}

some_is : {A : Type 0} (x y : A) → Some x ≡ Some y → x ≡ y
some_is x y e = cc

-- ---- objects of whole octets

-- one more object
pub whole_goes_on : (v : Variation) (long outstation : ℕ) (common : Stamp) (prefix next after n m : ℕ) (octets : List ℕ)
    (front whole : List Report) (r : Report)
    → n ≡ suc m → after ≡ next + 1
    → object_reports v outstation (index_of next (take prefix octets)) common (take long (drop prefix octets)) ≡ r ∷ []
    → front ++ whole_from v long outstation common prefix next n octets ≡ whole
    → (front ++ r ∷ []) ++ whole_from v long outstation common prefix after m (drop long (drop prefix octets)) ≡ whole
whole_goes_on v long outstation common prefix next after n m octets front whole r e f at so_far =
    let others : List Report =
    whole_from v long outstation common prefix (next + 1) m (drop long (drop prefix octets)) in
    let one : whole_from v long outstation common prefix next (suc m) octets ≡ r ∷ others =
    ap (λ (rs : List Report). rs ++ others) at in
    rw f (append_assoc front (r ∷ []) others ∙ (ap (λ (rs : List Report). front ++ rs) (sym one)
    ∙ (ap (λ (k : ℕ). front ++ whole_from v long outstation common prefix next k octets) (sym e) ∙ so_far)))

pub header_is : (part : List ℕ) (h : Header) (v : Variation) (outstation : ℕ) (common : Stamp) (size : Size)
    → object_of h.group h.variation ≡ Some v → size_of v ≡ size
    → header_reports part (object_of h.group h.variation) outstation common h
    ≡ sized_reports size v outstation common h (octets_of_objects part v h)
header_is part h v outstation common size known sized =
    ap (λ (o : Option Variation). header_reports part o outstation common h) known
    ∙ ap (λ (s : Size). sized_reports s v outstation common h (octets_of_objects part v h)) sized

-- all objects
pub whole_is_done : (part : List ℕ) (h : Header) (v : Variation) (long outstation : ℕ) (common : Stamp) (next n : ℕ)
    (rest : List ℕ) (front before : List Report)
    → object_of h.group h.variation ≡ Some v → size_of v ≡ Octets long → n ≡ 0
    → front ++ whole_from v long outstation common h.prefix next n rest
    ≡ before ++ whole_from v long outstation common h.prefix h.first h.count (octets_of_objects part v h)
    → front ≡ before ++ header_reports part (object_of h.group h.variation) outstation common h
whole_is_done part h v long outstation common next n rest front before known sized e so_far =
    let none : front ++ whole_from v long outstation common h.prefix next 0 rest
    ≡ before ++ whole_from v long outstation common h.prefix h.first h.count (octets_of_objects part v h) =
    ap (λ (k : ℕ). front ++ whole_from v long outstation common h.prefix next k rest) (sym e) ∙ so_far in
    sym (append-nil front) ∙ (none
    ∙ ap (λ (rs : List Report). before ++ rs) (sym (header_is part h v outstation common (Octets long) known sized)))

-- the objects stand within the part
pub whole_inside : (part : List ℕ) (h : Header) (v : Variation) (long : ℕ) (w : IsWithin part h)
    → object_of h.group h.variation ≡ Some v → size_of v ≡ Octets long
    → h.start + h.count * (h.prefix + long) ≤ length part
whole_inside part h v long w known sized =
    let same : w.variation ≡ v = some_is w.variation v (sym w.known ∙ known) in
    let size : size_of w.variation ≡ Octets long = ap size_of same ∙ sized in
    rw (ap (λ (s : Size). body_length s h.count h.prefix) size) at w.inside

pub whole_fits : (part : List ℕ) (h : Header) (v : Variation) (long long' prefix' : ℕ) (w : IsWithin part h)
    → object_of h.group h.variation ≡ Some v → size_of v ≡ Octets long → long' ≡ long → prefix' ≡ h.prefix
    → h.start + h.count * (prefix' + long') ≤ length part
whole_fits part h v long long' prefix' w known sized el ep = rw (ep, el) (whole_inside part h v long w known sized)

whole_octets : (part : List ℕ) (h : Header) (v : Variation) (long long' prefix' : ℕ) → size_of v ≡ Octets long
    → long' ≡ long → prefix' ≡ h.prefix
    → take (h.start + h.count * (prefix' + long') - h.start) (drop h.start part) ≡ octets_of_objects part v h
whole_octets part h v long long' prefix' sized el ep =
    let each : prefix' + long' ≡ h.prefix + long = omega arith in
    let same : h.count * (prefix' + long') ≡ h.count * (h.prefix + long) = ap (λ (n : ℕ). h.count * n) each in
    let size : h.start + h.count * (prefix' + long') - h.start ≡ h.count * (h.prefix + long) = omega (arith, same) in
    ap (λ (n : ℕ). take n (drop h.start part)) size
    ∙ sym (ap (λ (s : Size). take (body_length s h.count h.prefix) (drop h.start part)) sized)

-- before the first object nothing was read
pub whole_at_first : (part : List ℕ) (h : Header) (v : Variation) (long long' prefix' outstation : ℕ) (common : Stamp)
    → size_of v ≡ Octets long → long' ≡ long → prefix' ≡ h.prefix
    → whole_from v long outstation common h.prefix (h.first + 0) (h.count - 0)
    (take (h.start + h.count * (prefix' + long') - h.start) (drop h.start part))
    ≡ whole_from v long outstation common h.prefix h.first h.count (octets_of_objects part v h)
whole_at_first part h v long long' prefix' outstation common sized el ep =
    let next : h.first + 0 ≡ h.first = omega arith in
    let all : h.count - 0 ≡ h.count = omega arith in
    rw (next, all, whole_octets part h v long long' prefix' sized el ep) refl

pub whole_left_first : (part : List ℕ) (h : Header) (v : Variation) (long long' prefix' : ℕ) (w : IsWithin part h)
    → object_of h.group h.variation ≡ Some v → size_of v ≡ Octets long → long' ≡ long → prefix' ≡ h.prefix
    → length (take (h.start + h.count * (prefix' + long') - h.start) (drop h.start part))
    ≡ (h.count - 0) * (h.prefix + long)
whole_left_first part h v long long' prefix' w known sized el ep =
    let inside = whole_inside part h v long w known sized in
    let each : prefix' + long' ≡ h.prefix + long = omega arith in
    let same : h.count * (prefix' + long') ≡ h.count * (h.prefix + long) = ap (λ (n : ℕ). h.count * n) each in
    let all : (h.count - 0) * (h.prefix + long) ≡ h.count * (h.prefix + long) =
    ap (λ (n : ℕ). n * (h.prefix + long)) (omega arith) in
    simp (length-take, length-drop) (omega (arith, same, all, inside))

-- ---- packed objects

pub packed_goes_on : (v : Variation) (width outstation next after n m place further : ℕ) (bits : List ℕ)
    (front whole : List Report) (r : Report)
    → n ≡ suc m → after ≡ next + 1 → further ≡ place + width
    → packed_reports v outstation next (take width (drop place bits)) ≡ r ∷ []
    → front ++ packed_from v width outstation next n (drop place bits) ≡ whole
    → (front ++ r ∷ []) ++ packed_from v width outstation after m (drop further bits) ≡ whole
packed_goes_on v width outstation next after n m place further bits front whole r e f g at so_far =
    let others : List Report = packed_from v width outstation (next + 1) m (drop width (drop place bits)) in
    let one : packed_from v width outstation next (suc m) (drop place bits) ≡ r ∷ others =
    ap (λ (rs : List Report). rs ++ others) at in
    let behind : drop width (drop place bits) ≡ drop (place + width) bits = drop-drop width place bits in
    let next_is : (front ++ r ∷ []) ++ others ≡ whole =
    append_assoc front (r ∷ []) others ∙ (ap (λ (rs : List Report). front ++ rs) (sym one)
    ∙ (ap (λ (k : ℕ). front ++ packed_from v width outstation next k (drop place bits)) (sym e) ∙ so_far)) in
    rw (f, g)
    (subst (λ (t : List ℕ). (front ++ r ∷ []) ++ packed_from v width outstation (next + 1) m t ≡ whole) behind next_is)

pub packed_is_done : (part : List ℕ) (h : Header) (v : Variation) (width outstation : ℕ) (common : Stamp) (next n : ℕ)
    (rest : List ℕ) (front before : List Report)
    → object_of h.group h.variation ≡ Some v → size_of v ≡ Bits width → n ≡ 0
    → front ++ packed_from v width outstation next n rest ≡ before
    ++ packed_from v width outstation h.first h.count (bits_of (take ((h.count * width + 7) / 8) (drop h.start part)))
    → front ≡ before ++ header_reports part (object_of h.group h.variation) outstation common h
packed_is_done part h v width outstation common next n rest front before known sized e so_far =
    let body : octets_of_objects part v h ≡ take ((h.count * width + 7) / 8) (drop h.start part) =
    ap (λ (s : Size). take (body_length s h.count h.prefix) (drop h.start part)) sized in
    let none : front ++ packed_from v width outstation next 0 rest ≡ before
    ++ packed_from v width outstation h.first h.count (bits_of (take ((h.count * width + 7) / 8) (drop h.start part))) =
    ap (λ (k : ℕ). front ++ packed_from v width outstation next k rest) (sym e) ∙ so_far in
    sym (append-nil front)
    ∙ (none ∙ (ap (λ (t : List ℕ). before ++ packed_from v width outstation h.first h.count (bits_of t)) (sym body)
    ∙ ap (λ (rs : List Report). before ++ rs) (sym (header_is part h v outstation common (Bits width) known sized))))

-- ---- common times

last_time : (variation n m place : ℕ) (other : Stamp) (octets : List ℕ) → n ≡ suc m → place ≡ 6 * m
    → last_or other (times_from variation n octets) ≡ time_by variation (number (take 6 (drop place octets)))
last_time variation n zero place other octets e f = rw (e, f) refl
last_time variation n (suc m) place other octets e f =
    let more : last_or other (times_from variation (suc (suc m)) octets)
    ≡ last_or (time_by variation (number (take 6 octets))) (times_from variation (suc m) (drop 6 octets)) =
    refl in
    let behind : drop (6 * m) (drop 6 octets) ≡ drop (6 + 6 * m) octets = drop-drop (6 * m) 6 octets in
    let place_is : place ≡ 6 + 6 * m = omega (arith, f) in
    rw (e, place_is) (more
    ∙ (last_time variation (suc m) m (6 * m) (time_by variation (number (take 6 octets))) (drop 6 octets) refl refl
    ∙ ap (λ (t : List ℕ). time_by variation (number (take 6 t))) behind))

-- six octets within a body, by their place in the part
six_at : (place start long : ℕ) (part : List ℕ) → place + 6 ≤ long
    → take 6 (drop place (take long (drop start part))) ≡ take 6 (drop (start + place) part)
six_at place start long part le =
    let split : long ≡ place + (long - place) = omega arith in
    let short : 6 ≤ long - place = omega arith in
    rw split (ap (take 6) (drop-take place (long - place) (drop start part))
    ∙ (take-take 6 (long - place) (drop place (drop start part)) short ∙ ap (take 6) (drop-drop place start part)))

pub time_inside : (part : List ℕ) (h : Header) → IsWithin part h → h.group ≡ 51 → h.count ≢ 0
    → h.start + 6 * (h.count - 1) + 6 ≤ length part
time_inside part h w here some =
    let inside : h.start + h.count * (h.prefix + 6) ≤ length part =
    whole_inside part h w.variation 6 w w.known (are_times part h w here).1 in
    let all : h.count * (h.prefix + 6) ≡ h.count * h.prefix + h.count * 6 = omega arith in
    omega (arith, inside, all, some)

-- the last of a header's common times
pub last_told : (part : List ℕ) (h : Header) (common : Stamp) → IsWithin part h → h.group ≡ 51 → h.count ≢ 0
    → last_or common (times_of part (object_of h.group h.variation) h)
    ≡ time_by h.variation (number (take 6 (drop (h.start + 6 * (h.count - 1)) part)))
last_told part h common w here some =
    let v : Variation = w.variation in
    let are = are_times part h w here in
    let long : ℕ = h.count * (h.prefix + 6) in
    let body : octets_of_objects part v h ≡ take long (drop h.start part) =
    ap (λ (s : Size). take (body_length s h.count h.prefix) (drop h.start part)) are.1 in
    let all : long ≡ h.count * h.prefix + h.count * 6 = omega arith in
    let enough : 6 * (h.count - 1) + 6 ≤ long = omega (arith, all, some) in
    let one_less : h.count ≡ suc (h.count - 1) = omega (arith, some) in
    ap (λ (o : Option Variation). last_or common (times_of part o h)) w.known
    ∙ (ap (λ r. last_or common (times_by_role r h (octets_of_objects part v h))) are.0
    ∙ (ap (λ (t : List ℕ). last_or common (times_from h.variation h.count t)) body
    ∙ (last_time h.variation h.count (h.count - 1) (6 * (h.count - 1)) common
    (take long (drop h.start part)) one_less refl
    ∙ ap (λ (t : List ℕ). time_by h.variation (number t)) (six_at (6 * (h.count - 1)) h.start long part enough))))

times_nil : (role : Role) (h : Header) (body : List ℕ) → h.count ≡ 0 → times_by_role role h body ≡ []
times_nil CommonTime h body e = ap (λ (n : ℕ). times_from h.variation n body) e
times_nil (Point kind) h body e = refl
times_nil Echo h body e = refl
times_nil SteppedOver h body e = refl

no_count : (part : List ℕ) (h : Header) (v : Variation) → h.count ≡ 0 → times_of part (Some v) h ≡ []
no_count part h v e = times_nil v.role h (octets_of_objects part v h) e

-- a header without objects gives none
pub no_objects : (part : List ℕ) (h : Header) → IsWithin part h → h.count ≡ 0
    → times_of part (object_of h.group h.variation) h ≡ []
no_objects part h w e =
    subst (λ (o : Option Variation). times_of part o h ≡ []) (sym w.known) (no_count part h w.variation e)

by_synchronized : (variation milliseconds : ℕ) → variation ≡ 1 → time_by variation milliseconds ≡ At milliseconds
by_synchronized variation milliseconds e = rw e refl

by_other : (variation milliseconds : ℕ) → variation ≢ 1 → time_by variation milliseconds ≡ Doubtful milliseconds
by_other variation milliseconds other = rw (ne_eqb variation 1 other) refl

-- six octets from a place on
abbrev six_from : ℕ → List ℕ → List ℕ
six_from place octets = take (place + 6 - place) (drop place octets)

six_long : (place : ℕ) (octets : List ℕ) → six_from place octets ≡ take 6 (drop place octets)
six_long place octets =
    let six : place + 6 - place ≡ 6 = omega arith in
    ap (λ (n : ℕ). take n (drop place octets)) six

pub synchronized_last : (part : List ℕ) (h : Header) (common : Stamp) (milliseconds : ℕ) → IsWithin part h
    → h.group ≡ 51 → h.count ≢ 0 → h.variation ≡ 1
    → milliseconds ≡ number (six_from (h.start + 6 * (h.count - 1)) part)
    → At milliseconds ≡ last_or common (times_of part (object_of h.group h.variation) h)
synchronized_last part h common milliseconds w here some one e =
    let place : ℕ = h.start + 6 * (h.count - 1) in
    ap (λ (n : ℕ). At n) (e ∙ ap number (six_long place part))
    ∙ (sym (by_synchronized h.variation (number (take 6 (drop place part))) one)
    ∙ sym (last_told part h common w here some))

pub other_last : (part : List ℕ) (h : Header) (common : Stamp) (milliseconds : ℕ) → IsWithin part h → h.group ≡ 51
    → h.count ≢ 0 → h.variation ≢ 1
    → milliseconds ≡ number (six_from (h.start + 6 * (h.count - 1)) part)
    → Doubtful milliseconds ≡ last_or common (times_of part (object_of h.group h.variation) h)
other_last part h common milliseconds w here some other e =
    let place : ℕ = h.start + 6 * (h.count - 1) in
    ap (λ (n : ℕ). Doubtful n) (e ∙ ap number (six_long place part))
    ∙ (sym (by_other h.variation (number (take 6 (drop place part))) other) ∙ sym (last_told part h common w here some))

-- one more object, as a loop reads it
pub whole_turn : (v : Variation) (long long' outstation : ℕ) (common : Stamp)
    (prefix prefix' first first' turn count : ℕ) (rest index behind object after : List ℕ) (at : ℕ)
    (found items before : List Report) (body : List ℕ) (r : Report)
    → turn < count → prefix' ≡ prefix → first' ≡ first → long' ≡ long
    → index ≡ take prefix' rest → behind ≡ drop prefix' rest → object ≡ take long' behind → after ≡ drop long' behind
    → at ≡ index_of (first' + turn) index → object_reports v outstation at common object ≡ r ∷ []
    → items ≡ found ++ r ∷ []
    → found ++ whole_from v long outstation common prefix (first + turn) (count - turn) rest
    ≡ before ++ whole_from v long outstation common prefix first count body
    → items ++ whole_from v long outstation common prefix (first + (turn + 1)) (count - (turn + 1)) after
    ≡ before ++ whole_from v long outstation common prefix first count body
whole_turn v long long' outstation common prefix prefix' first first' turn count rest index behind object after at found
    items before body r lt ep ef el ei eb eo ea ex told pushed so_far =
    let more : count - turn ≡ suc (count - (turn + 1)) = omega arith in
    let further : first + (turn + 1) ≡ (first + turn) + 1 = omega arith in
    let i : index ≡ take prefix rest = ei ∙ ap (λ (n : ℕ). take n rest) ep in
    let b : behind ≡ drop prefix rest = eb ∙ ap (λ (n : ℕ). drop n rest) ep in
    let o : object ≡ take long (drop prefix rest) = eo ∙ (ap (λ (n : ℕ). take n behind) el ∙ ap (take long) b) in
    let a : after ≡ drop long (drop prefix rest) = ea ∙ (ap (λ (n : ℕ). drop n behind) el ∙ ap (drop long) b) in
    let x : at ≡ index_of (first + turn) (take prefix rest) =
    ex ∙ (ap (λ (n : ℕ). index_of (n + turn) index) ef ∙ ap (index_of (first + turn)) i) in
    let one : object_reports v outstation (index_of (first + turn) (take prefix rest)) common
    (take long (drop prefix rest)) ≡ r ∷ [] =
    ap (λ (n : ℕ). object_reports v outstation n common (take long (drop prefix rest))) (sym x)
    ∙ (ap (object_reports v outstation at common) (sym o) ∙ told) in
    rw (pushed, a) (whole_goes_on v long outstation common prefix (first + turn) (first + (turn + 1)) (count - turn)
    (count - (turn + 1)) rest found
    (before ++ whole_from v long outstation common prefix first count body) r more further one so_far)

-- enough octets are left for one more object
pub left_enough : (long prefix turn count : ℕ) (rest : List ℕ) → turn < count
    → length rest ≡ (count - turn) * (prefix + long) → prefix + long ≤ length rest
left_enough long prefix turn count rest lt left =
    let more : count - turn ≡ suc (count - (turn + 1)) = omega arith in
    let all : (count - turn) * (prefix + long) ≡ suc (count - (turn + 1)) * (prefix + long) =
    ap (λ (n : ℕ). n * (prefix + long)) more in
    let split : suc (count - (turn + 1)) * (prefix + long) ≡ (count - (turn + 1)) * (prefix + long) + (prefix + long) =
    omega arith in
    omega (arith, left, all, split)

pub left_behind : (long long' prefix prefix' turn count : ℕ) (rest index behind object after : List ℕ)
    → turn < count → prefix' ≡ prefix → long' ≡ long → length behind + prefix' ≡ length rest
    → length after + long' ≡ length behind
    → length rest ≡ (count - turn) * (prefix + long) → length after ≡ (count - (turn + 1)) * (prefix + long)
left_behind long long' prefix prefix' turn count rest index behind object after lt ep el eb ea left =
    let more : count - turn ≡ suc (count - (turn + 1)) = omega arith in
    let all : (count - turn) * (prefix + long) ≡ suc (count - (turn + 1)) * (prefix + long) =
    ap (λ (n : ℕ). n * (prefix + long)) more in
    let split : suc (count - (turn + 1)) * (prefix + long) ≡ (count - (turn + 1)) * (prefix + long) + (prefix + long) =
    omega arith in
    omega (arith, ep, el, eb, ea, left, all, split)

pub packed_turn : (v : Variation) (width width' outstation first first' turn count : ℕ) (bits own : List ℕ) (at : ℕ)
    (found items before : List Report) (r : Report)
    → turn < count → width' ≡ width → first' ≡ first
    → at ≡ first' + turn → own ≡ take width' (drop (turn * width') bits) → packed_reports v outstation at own ≡ r ∷ []
    → items ≡ found ++ r ∷ []
    → found ++ packed_from v width outstation (first + turn) (count - turn) (drop (turn * width) bits)
    ≡ before ++ packed_from v width outstation first count bits
    → items ++ packed_from v width outstation (first + (turn + 1)) (count - (turn + 1)) (drop ((turn + 1) * width) bits)
    ≡ before ++ packed_from v width outstation first count bits
packed_turn v width width' outstation first first' turn count bits own at found items before r lt ew ef ex eo
    told pushed so_far =
    let more : count - turn ≡ suc (count - (turn + 1)) = omega arith in
    let further : first + (turn + 1) ≡ (first + turn) + 1 = omega arith in
    let place : (turn + 1) * width ≡ turn * width + width = omega arith in
    let x : at ≡ first + turn = ex ∙ ap (λ (n : ℕ). n + turn) ef in
    let o : own ≡ take width (drop (turn * width) bits) = eo ∙ ap (λ (n : ℕ). take n (drop (turn * n) bits)) ew in
    let one : packed_reports v outstation (first + turn) (take width (drop (turn * width) bits)) ≡ r ∷ [] =
    ap (λ (n : ℕ). packed_reports v outstation n (take width (drop (turn * width) bits))) (sym x)
    ∙ (ap (packed_reports v outstation at) (sym o) ∙ told) in
    rw pushed (packed_goes_on v width outstation (first + turn) (first + (turn + 1)) (count - turn) (count - (turn + 1))
    (turn * width) ((turn + 1) * width) bits found
    (before ++ packed_from v width outstation first count bits) r more further place one so_far)

-- packed objects stand within the part, and their octets are these
pub packed_inside : (part : List ℕ) (h : Header) (v : Variation) (width width' : ℕ) (w : IsWithin part h)
    → object_of h.group h.variation ≡ Some v → size_of v ≡ Bits width → width' ≡ width
    → h.start + (h.count * width' + 7) / 8 ≤ length part
packed_inside part h v width width' w known sized e =
    let same : w.variation ≡ v = some_is w.variation v (sym w.known ∙ known) in
    let size : size_of w.variation ≡ Bits width = ap size_of same ∙ sized in
    rw e (rw (ap (λ (s : Size). body_length s h.count h.prefix) size) at w.inside)

pub packed_octets : (part : List ℕ) (h : Header) (v : Variation) (width width' : ℕ) → size_of v ≡ Bits width
    → width' ≡ width
    → take (h.start + (h.count * width' + 7) / 8 - h.start) (drop h.start part) ≡ octets_of_objects part v h
packed_octets part h v width width' sized e =
    let same : h.count * width' ≡ h.count * width = ap (λ (n : ℕ). h.count * n) e in
    let long : h.start + (h.count * width' + 7) / 8 - h.start ≡ (h.count * width + 7) / 8 = omega (arith, same) in
    ap (λ (n : ℕ). take n (drop h.start part)) long
    ∙ sym (ap (λ (s : Size). take (body_length s h.count h.prefix) (drop h.start part)) sized)

pub packed_ends : (part : List ℕ) (h : Header) (v : Variation) (width outstation : ℕ) (common : Stamp) (next n : ℕ)
    (body rest : List ℕ) (front before : List Report)
    → object_of h.group h.variation ≡ Some v → size_of v ≡ Bits width → n ≡ 0 → body ≡ octets_of_objects part v h
    → front ++ packed_from v width outstation next n rest
    ≡ before ++ packed_from v width outstation h.first h.count (bits_of body)
    → front ≡ before ++ header_reports part (object_of h.group h.variation) outstation common h
packed_ends part h v width outstation common next n body rest front before known sized none all so_far =
    packed_is_done part h v width outstation common next n rest front before known sized none
    (so_far ∙ ap (λ (t : List ℕ). before ++ packed_from v width outstation h.first h.count (bits_of t)) (all ∙ body_is))
  where
    body_is : octets_of_objects part v h ≡ take ((h.count * width + 7) / 8) (drop h.start part)
    body_is = ap (λ (s : Size). take (body_length s h.count h.prefix) (drop h.start part)) sized

-- before the first of packed objects nothing was read
pub packed_at_first : (v : Variation) (width outstation first count : ℕ) (bits : List ℕ)
    → packed_from v width outstation (first + 0) (count - 0) (drop (0 * width) bits)
    ≡ packed_from v width outstation first count bits
packed_at_first v width outstation first count bits =
    let next : first + 0 ≡ first = omega arith in
    let all : count - 0 ≡ count = omega arith in
    let place : 0 * width ≡ 0 = omega arith in
    rw (next, all, place) refl

-- ---- the headers of a part

-- one more header, as a loop reads it
pub header_turn : (outstation : ℕ) (part : List ℕ) (common further : Stamp) (hs : List Header) (i : ℕ) (h d : Header)
    (found items whole : List Report) → i < length hs → h ≡ get_or hs i d
    → items ≡ found ++ header_reports part (object_of h.group h.variation) outstation common h
    → further ≡ last_or common (times_of part (object_of h.group h.variation) h)
    → found ++ reports_from outstation part common (drop i hs) ≡ whole
    → items ++ reports_from outstation part further (drop (i + 1) hs) ≡ whole
header_turn outstation part common further hs i h d found items whole lt at pushed last so_far =
    let own : List Report = header_reports part (object_of h.group h.variation) outstation common h in
    let here : drop i hs ≡ h ∷ drop (suc i) hs =
    drop-cons hs i d lt ∙ ap (λ (x : Header). x ∷ drop (suc i) hs) (sym at) in
    let others : List Report =
    reports_from outstation part (last_or common (times_of part (object_of h.group h.variation) h)) (drop (suc i) hs) in
    rw (pushed, last, add-one) (append_assoc found own others
    ∙ (ap (λ (rest : List Header). found ++ reports_from outstation part common rest) (sym here) ∙ so_far))

-- behind the last header
pub headers_end : (outstation : ℕ) (part : List ℕ) (common : Stamp) (hs : List Header) (i : ℕ)
    (found whole : List Report) → length hs ≤ i
    → found ++ reports_from outstation part common (drop i hs) ≡ whole → found ≡ whole
headers_end outstation part common hs i found whole le so_far =
    sym (append-nil found)
    ∙ (ap (λ (rest : List Header). found ++ reports_from outstation part common rest) (sym (drop_all i hs le)) ∙ so_far)
