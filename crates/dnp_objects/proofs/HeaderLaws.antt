-- The two laws of headers: what is read is spelled so, and what is spelled so is read.
use Rattle.std.proofs.Common.{◌≡◌, ℕ, zero, suc, ◌+◌, ◌-◌, ◌<◌, ◌≤◌, false, ltb, List, [], ◌∷◌, ◌++◌}
use Rattle.std.proofs.Common.{length, take, drop, Some, Result, Ok, Err, refl, sym, ap, subst, ◌∙◌, append_assoc, arith}
use Rattle.std.specs.Global.{Vec}
use Rattle.std.specs.Prelude.{IfOk, is_ok}
use Rattle.std.proofs.lemmas.Bool.{ltb-false, le-ltb}
use Rattle.std.proofs.lemmas.List.{take_at, drop_at, take-append-drop, length-append, length-take, length-drop, drop-drop}
use Rattle.gw_model.specs.Outcome.{◌>>=◌, Gives}
use Rattle.dnp_objects.specs.declared.fault.ObjectFault.{ObjectFault}
use Rattle.dnp_objects.specs.declared.fault.HeaderFault.TheVariants.{UnknownObject, UnknownQualifier}
use Rattle.dnp_objects.specs.declared.fault.HeaderFault.TheVariants.{ShortRange, StopBeforeStart, ShortData}
use Rattle.dnp_objects.specs.declared.header.Header.{Header}
use Rattle.dnp_objects.specs.declared.object.Form.{Form}
use Rattle.dnp_objects.specs.declared.range.Range.{Range}
use Rattle.dnp_objects.specs.declared.range.Range.TheVariants.{StartStop, Count}
use Rattle.dnp_objects.specs.declared.range.RangeField.{RangeField}
use Rattle.dnp_objects.specs.Library.{Variation, object_of, form_of, form_of_row, size_of}
use Rattle.dnp_objects.specs.Headers.{is_memory, some_or, number, octets_of, codes_of, is_among, qualifiers}
use Rattle.dnp_objects.specs.Headers.{range_of, range_for, start_stop, range_at, header_and_rest}
use Rattle.dnp_objects.specs.Headers.{header_with, header_at, headers_from, headers_of, body_length}
use Rattle.dnp_objects.specs.Headers.{octets_after, IsRange, StandsAt, AreHeaders, IsPart, IsStoredAt}
use Rattle.dnp_objects.proofs.Results.{bind_ok, guard_ok, otherwise_ok, some_ok, map_some, when_some}
use Rattle.dnp_objects.proofs.HeaderLoop.{step}

-- ---- one header

-- a range that was read is the one that the octets in front give
record Takes (range : Range) (field : List ℕ) (r : RangeField) : Type 0 where
  front : List ℕ
  parts : field ≡ front ++ drop r.octets field
  long : length front ≡ r.octets
  given : (group variation place start : ℕ)
      → IsRange range (header_with group variation r.first r.count r.prefix place start) front

range_taken : (place : ℕ) (range : Range) (field : List ℕ) (r : RangeField) → range_at place range field ≡ Ok r
    → Takes range field r
range_taken place (StartStop width) field r e =
    let n : ℕ = octets_of width in
    let first : ℕ = number (take n field) in
    let last : ℕ = number (take n (drop n field)) in
    let made : RangeField = record { octets = n + n; first = first; count = last - first + 1; prefix = 0 } in
    let g = otherwise_ok (ltb (length field) (n + n)) (record { why = ShortRange; place = place })
    (start_stop place (n + n) first last) r e in
    let long : n + n ≤ length field = ltb-false _ _ g.0 in
    let g2 = guard_ok (ltb last first) (record { why = StopBeforeStart; place = place }) made r g.1 in
    let le : first ≤ last = ltb-false _ _ g2.0 in
    let one : length (take n field) ≡ n = omega (arith, length-take n field) in
    let two : length (take n (drop n field)) ≡ n = omega (arith, length-take n (drop n field), length-drop n field) in
    let rest : drop n field ≡ take n (drop n field) ++ drop (n + n) field =
    sym (take-append-drop n (drop n field)) ∙ ap (λ (t : List ℕ). take n (drop n field) ++ t) (drop-drop n n field) in
    let whole : field ≡ (take n field ++ take n (drop n field)) ++ drop (n + n) field =
    sym (take-append-drop n field) ∙ (ap (λ (t : List ℕ). take n field ++ t) rest
    ∙ sym (append_assoc (take n field) (take n (drop n field)) (drop (n + n) field))) in
    subst (λ (x : RangeField). Takes (StartStop width) field x) g2.1
    (record {
      front = take n field ++ take n (drop n field);
      parts = whole;
      long = omega (arith, length-append (take n field) (take n (drop n field)), one, two);
      given =
          λ group variation place start. (take n field, take n (drop n field), refl, one, two, le, refl, refl, refl);
    })
range_taken place (Count width prefix) field r e =
    let n : ℕ = octets_of width in
    let made : RangeField = record { octets = n; first = 0; count = number (take n field); prefix = prefix } in
    let g = guard_ok (ltb (length field) n) (record { why = ShortRange; place = place }) made r e in
    let long : n ≤ length field = ltb-false _ _ g.0 in
    let len : length (take n field) ≡ n = omega (arith, length-take n field) in
    subst (λ (x : RangeField). Takes (Count width prefix) field x) g.1
    (record {
      front = take n field;
      parts = sym (take-append-drop n field);
      long = len;
      given = λ group variation place start. (len, refl, refl, refl);
    })

-- what is left to read once the variation is known
abbrev read_under : ℕ → ℕ → ℕ → ℕ → List ℕ → Form → Result (Header × List ℕ) ObjectFault
read_under place group variation code field form =
    some_or place UnknownQualifier (range_for form.access code) >>= λ range. range_at place range field
    >>= λ r. header_and_rest place group variation form.size r (drop r.octets field)

found_row : (place group variation code : ℕ) (field : List ℕ) (v : Variation) (x : Header × List ℕ)
    → object_of group variation ≡ Some v
    → read_under place group variation code field (form_of_row v) ≡ Ok x
    → StandsAt place (group ∷ variation ∷ code ∷ field) x.0 x.1
found_row place group variation code field v x known e =
    let two = bind_ok (some_or place UnknownQualifier (range_for v.access code)) (λ range. range_at place range field
    >>= λ r. header_and_rest place group variation (size_of v) r (drop r.octets field)) x e in
    let range = two.0 in
    let three = bind_ok (range_at place range field)
    (λ r. header_and_rest place group variation (size_of v) r (drop r.octets field)) x two.2 in
    let r = three.0 in
    let may = when_some (is_among code (codes_of v.access)) (range_of qualifiers code) range
    (some_ok place UnknownQualifier (range_for v.access code) range two.1) in
    let took = range_taken place range field r three.1 in
    let objects : List ℕ = drop r.octets field in
    let body : ℕ = body_length (size_of v) r.count r.prefix in
    let made : Header = header_with group variation r.first r.count r.prefix place (place + (3 + r.octets)) in
    let pair : Header × List ℕ = (made, drop body objects) in
    let g = guard_ok (ltb (length objects) body) (record { why = ShortData; place = place }) pair x three.2 in
    let long : body ≤ length objects = ltb-false _ _ g.0 in
    let text : List ℕ = group ∷ variation ∷ code ∷ took.front in
    let halves : take body objects ++ drop body objects ≡ objects = take-append-drop body objects in
    subst (λ (y : Header × List ℕ). StandsAt place (group ∷ variation ∷ code ∷ field) y.0 y.1) g.1 (record {
      variation = v;
      text = text;
      body = take body objects;
      parts = ap (λ (t : List ℕ). group ∷ variation ∷ code ∷ t)
          (took.parts ∙ ap (λ (t : List ℕ). took.front ++ t) (sym halves));
      spelled = record {
        code = code;
        range = range;
        field = took.front;
        octets = refl;
        known = known;
        allowed = may.0;
        qualified = may.1;
        ranged = took.given group variation place (place + (3 + r.octets));
      };
      at = refl;
      starts = omega (arith, took.long);
      sized = omega (arith, length-take body objects);
    })

pub found_at : (place : ℕ) (front : List ℕ) (x : Header × List ℕ) → header_at place front ≡ Ok x
    → StandsAt place front x.0 x.1
found_at place [] x e = absurd cc
found_at place (a ∷ []) x e = absurd cc
found_at place (a ∷ b ∷ []) x e = absurd cc
found_at place (group ∷ variation ∷ code ∷ field) x e =
    let one =
    bind_ok (some_or place UnknownObject (form_of group variation)) (read_under place group variation code field) x e in
    let row = map_some form_of_row (object_of group variation) one.0
    (some_ok place UnknownObject (form_of group variation) one.0 one.1) in
    found_row place group variation code field row.0 x row.1
    (subst (λ (form : Form). read_under place group variation code field form ≡ Ok x) (sym row.2) one.2)

again_range : (range : Range) (place : ℕ) (h : Header) (field tail : List ℕ) → IsRange range h field
    → range_at place range (field ++ tail)
    ≡ Ok (record { octets = length field; first = h.first; count = h.count; prefix = h.prefix })
again_range (StartStop width) place h field tail (start, stop, is, one, two, le, first, count, prefix) =
    let n : ℕ = octets_of width in
    let whole : field ++ tail ≡ start ++ (stop ++ tail) =
    ap (λ (t : List ℕ). t ++ tail) is ∙ append_assoc start stop tail in
    let lens : length field ≡ n + n = omega (arith, ap length is, length-append start stop, one, two) in
    let long : ltb (length (start ++ (stop ++ tail))) (n + n) ≡ false =
    le-ltb _ _ (omega (arith, length-append start (stop ++ tail), length-append stop tail, one, two)) in
    let order : ltb (number stop) (number start) ≡ false = le-ltb _ _ le in
    rw (
      whole,
      long,
      take_at start (stop ++ tail) n one,
      drop_at start (stop ++ tail) n one,
      take_at stop tail n two,
      order,
      lens,
      first,
      count,
      prefix,
    ) refl
again_range (Count width prefix) place h field tail given =
    let long : ltb (length (field ++ tail)) (octets_of width) ≡ false =
    le-ltb _ _ (omega (arith, length-append field tail, given.0)) in
    rw (long, take_at field tail (octets_of width) given.0, given.0, given.1, given.2, given.3) refl

headers_equal : (h : Header) (group variation first count prefix place start : ℕ) → h.group ≡ group
    → h.variation ≡ variation → h.first ≡ first → h.count ≡ count
    → h.prefix ≡ prefix → h.place ≡ place → h.start ≡ start
    → header_with group variation first count prefix place start ≡ h
headers_equal h group variation first count prefix place start eg ev ef ec ep el es =
    rw (← eg, ← ev, ← ef, ← ec, ← ep, ← el, ← es) refl

again_at : (place : ℕ) (front : List ℕ) (h : Header) (rest : List ℕ) → StandsAt place front h rest
    → header_at place front ≡ Ok (h, rest)
again_at place front h rest s =
    let v = s.variation in
    let t = s.spelled in
    let whole : front ≡ h.group ∷ h.variation ∷ t.code ∷ (t.field ++ (s.body ++ rest)) =
    s.parts ∙ ap (λ (x : List ℕ). x ++ (s.body ++ rest)) t.octets in
    let known : form_of h.group h.variation ≡ Some (form_of_row v) = rw (t.known) refl in
    let may : range_for v.access t.code ≡ Some t.range = rw (t.allowed) t.qualified in
    let ranged = again_range t.range place h t.field (s.body ++ rest) t.ranged in
    let behind : drop (length t.field) (t.field ++ (s.body ++ rest)) ≡ s.body ++ rest =
    drop_at t.field (s.body ++ rest) _ refl in
    let long : ltb (length (s.body ++ rest)) (octets_after v h) ≡ false =
    le-ltb _ _ (omega (arith, length-append s.body rest, s.sized)) in
    let after : drop (octets_after v h) (s.body ++ rest) ≡ rest = drop_at s.body rest _ s.sized in
    let start : h.start ≡ place + (3 + length t.field) = omega (arith, s.starts, ap length t.octets) in
    let same = headers_equal h h.group h.variation h.first h.count h.prefix place
    (place + (3 + length t.field)) refl refl refl refl refl s.at start in
    rw (whole, known, may, ranged, behind, long, after, same) refl

-- ---- whole parts

abbrev done : {A : Type 0} → A → Result A ObjectFault
done x = Ok x

ok_is : {A : Type 0} (x y : A) → done x ≡ done y → x ≡ y
ok_is x y e = cc

-- the octets of a header, of its objects and of what follows
pub parts_length : (place : ℕ) (octets : List ℕ) (h : Header) (rest : List ℕ) (s : StandsAt place octets h rest)
    → (length octets ≡ length s.text + (octets_after s.variation h + length rest)) × (2 < length s.text)
parts_length place octets h rest s = (
  ap length s.parts ∙ length-append s.text (s.body ++ rest)
      ∙ ap (λ (n : ℕ). length s.text + n) (length-append s.body rest ∙ ap (λ (n : ℕ). n + length rest) s.sized),
  omega (arith, ap length s.spelled.octets),
)

pub AreHeaders-found : (total more : ℕ) (octets : List ℕ) (hs : List Header) → length octets ≤ total
    → headers_from total more octets ≡ Ok hs → AreHeaders (total - length octets) octets hs × (length hs ≤ more)
unfolding headers_from
AreHeaders-found total more [] hs le e =
    subst (λ (xs : List Header). AreHeaders (total - 0) [] xs × (length xs ≤ more)) (ok_is [] hs e) (refl, omega arith)
AreHeaders-found total zero (b ∷ bs) hs le e = absurd cc
AreHeaders-found total (suc more) (b ∷ bs) hs le e =
    let place : ℕ = total - length (b ∷ bs) in
    let one = bind_ok (header_at place (b ∷ bs)) (λ h. headers_from total more h.1 >>= λ xs. Ok (h.0 ∷ xs)) hs e in
    let two = bind_ok (headers_from total more one.0.1) (λ xs. Ok (one.0.0 ∷ xs)) hs one.2 in
    let at = found_at place (b ∷ bs) one.0 one.1 in
    let lens = parts_length place (b ∷ bs) one.0.0 one.0.1 at in
    let rest_le : length one.0.1 ≤ total = omega (arith, lens.0) in
    let others = AreHeaders-found total more one.0.1 two.0 rest_le two.1 in
    let next : total - length one.0.1 ≡ one.0.0.start + octets_after at.variation one.0.0 =
    omega (arith, lens.0, at.starts) in
    let rest_are : AreHeaders (one.0.0.start + octets_after at.variation one.0.0) one.0.1 two.0 =
    subst (λ (n : ℕ). AreHeaders n one.0.1 two.0) next others.0 in
    subst (λ (xs : List Header). AreHeaders place (b ∷ bs) xs × (length xs ≤ suc more))
    (ok_is (one.0.0 ∷ two.0) hs two.2) ((one.0.1, at, rest_are), omega (arith, others.1))

pub AreHeaders-again : (total more place : ℕ) (octets : List ℕ) (hs : List Header) → place + length octets ≡ total
    → length hs ≤ more
    → AreHeaders place octets hs → headers_from total more octets ≡ Ok hs
unfolding headers_from
AreHeaders-again total more place octets [] at le are = rw are refl
AreHeaders-again total more place octets (h ∷ hs) at le are =
    let rest = are.0 in
    let front = are.1 in
    let lens = parts_length place octets h rest front in
    let next : (h.start + octets_after front.variation h) + length rest ≡ total = omega (arith, lens.0, front.starts) in
    let others =
    AreHeaders-again total (more - 1) (h.start + octets_after front.variation h) rest hs next (omega arith) are.2 in
    let here : place ≡ total - length octets = omega arith in
    let first : header_at (total - length octets) octets ≡ Ok (h, rest) =
    subst (λ (n : ℕ). header_at n octets ≡ Ok (h, rest)) here (again_at place octets h rest front) in
    step total more (more - 1) octets (Ok (h, rest)) (omega arith) (omega (arith, lens.0, lens.1)) first
    ∙ rw others refl

-- what is read is a part
pub IsPart-found : (part : List ℕ) (hs : List Header) → headers_of part ≡ Ok hs → IsPart part hs
IsPart-found part hs e =
    let are = AreHeaders-found (length part) 512 part hs (omega arith) e in
    let none : length part - length part ≡ 0 = omega arith in
    (subst (λ (n : ℕ). AreHeaders n part hs) none are.0, are.1)

-- a part is read
pub IsPart-again : (part : List ℕ) (hs : List Header) → IsPart part hs → headers_of part ≡ Ok hs
IsPart-again part hs is = AreHeaders-again (length part) 512 0 part hs (omega arith) is.1 is.0

-- the first header of a part is stored
pub first_stored : (part : List ℕ) (h : Header) (hs : List Header) → headers_of part ≡ Ok (h ∷ hs) → IsStoredAt part 0
first_stored part h hs e =
    let are = (IsPart-found part (h ∷ hs) e).0 in
    record { before = []; are = refl; fewer = omega arith; here = ap is_ok (again_at 0 part h are.0 are.1) }

-- the same of what a function returned
pub part_found : (part : List ℕ) (r : Result (Vec Header) ObjectFault)
    → Gives is_memory (λ v. v.items) r (headers_of part) → IfOk r (λ v. IsPart part v.items)
part_found part (Ok v) e = IsPart-found part v.items e
part_found part (Err f) e = tt
