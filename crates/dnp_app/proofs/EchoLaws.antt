-- The two laws of an echo: what is read stands so, and what stands so is read.
use Rattle.std.proofs.Common.{◌≡◌, ℕ, ◌+◌, ◌-◌, ◌*◌, ◌<◌, ◌≤◌, true, eqb, List}
use Rattle.std.proofs.Common.{[], ◌∷◌, ◌++◌, length, take, drop, Option, Some, None, Result}
use Rattle.std.proofs.Common.{Ok, Err, refl, sym, ap, subst, ◌∙◌, append_assoc, arith}
use Rattle.std.specs.Prelude.{option_and_then, slice_index, IfSome}
use Rattle.std.specs.Result.{result_unwrap_or}
use Rattle.std.specs.List.{AllByRecursion, filter_map, cons_option}
use Rattle.std.proofs.lemmas.Bool.{eqb-true, eq-eqb, ltb-true}
use Rattle.std.proofs.lemmas.List.{take_at, drop_at, take_all, take_more, take-append-drop, length-append}
use Rattle.std.proofs.lemmas.List.{length-take-le, length-drop, drop-drop, get_or-append-add}
use Rattle.std.proofs.lemmas.List.Elements.{recursion_from_All, All-from_recursion, filter_map-append}
use Rattle.dnp_objects.specs.declared.fault.ObjectFault.{ObjectFault}
use Rattle.dnp_objects.specs.declared.header.Header.{Header}
use Rattle.dnp_objects.specs.declared.object.Size.{Size}
use Rattle.dnp_objects.specs.declared.object.Size.TheVariants.{Octets, Bits}
use Rattle.dnp_objects.specs.Library.{Variation, Role, Point, CommonTime, Echo as Command, SteppedOver, object_of, size_of}
use Rattle.dnp_objects.specs.Headers.{number, headers_of, IsPart}
use Rattle.dnp_objects.proofs.Results.{map_some, when_some}
use Rattle.dnp_objects.proofs.HeaderLaws.{IsPart-found, IsPart-again}
use Rattle.dnp_app.specs.declared.echoed.Echo.{Echo}
use Rattle.dnp_app.specs.Echo.{body_of, StandsAlone, IsEcho, command_octets, command_length, echo_with}
use Rattle.dnp_app.specs.Echo.{first_echo, lone_echo, lone_echoes, only_one, echo_of, HasCommandsWithin}
use Rattle.dnp_app.proofs.Rows.{is_long, object_of-long}
use Rattle.dnp_app.proofs.Within.{all_within}

-- ---- one header

then_some : {A B : Type 0} (f : A → Option B) (o : Option A) (y : B) → option_and_then f o ≡ Some y
    → (x : A) × (o ≡ Some x) × (f x ≡ Some y)
then_some f None y e = absurd cc
then_some f (Some x) y e = (x, refl, e)

command_sized : (role : Role) (size : Size) (n : ℕ) → command_octets role size ≡ Some n
    → (role ≡ Command) × (size ≡ Octets n)
command_sized Command (Octets octets) n e = (refl, cc)
command_sized Command (Bits bits) n e = absurd cc
command_sized (Point kind) size n e = absurd cc
command_sized CommonTime size n e = absurd cc
command_sized SteppedOver size n e = absurd cc

positive : (role : Role) (size : Size) (n : ℕ) → command_octets role size ≡ Some n → is_long role size ≡ true → 0 < n
positive Command (Octets octets) n e long = let is : octets ≡ n = cc in omega (arith, ltb-true 0 octets long, is)
positive Command (Bits bits) n e long = absurd cc
positive (Point kind) size n e long = absurd cc
positive CommonTime size n e long = absurd cc
positive SteppedOver size n e long = absurd cc

-- a list of one octet at least is what stands before the last, and the last
last_behind : (octets : List ℕ) → 0 < length octets
    → octets ≡ take (length octets - 1) octets ++ slice_index octets (length octets - 1) ∷ []
last_behind octets lt =
    sym (take_all (length octets - 1 + 1) octets (omega arith)) ∙ take_more octets (length octets - 1) 0 (omega arith)

stands_first : (part : List ℕ) (h : Header) (v : Variation) (n : ℕ) → object_of h.group h.variation ≡ Some v
    → v.role ≡ Command → size_of v ≡ Octets n → h.count ≡ 1 → 0 < n
    → h.start + (h.prefix + n) ≤ length part → StandsAlone part h (first_echo part h n)
stands_first part h v n known command sized single long within =
    let body : List ℕ = drop h.start part in
    let index : List ℕ = take h.prefix body in
    let behind : List ℕ = drop (h.start + h.prefix) part in
    let object : List ℕ = take n behind in
    let rest : List ℕ = drop n behind in
    let octets : List ℕ = take (length object - 1) object in
    let status : ℕ = slice_index object (length object - 1) in
    let prefixed : length index ≡ h.prefix = length-take-le h.prefix body (omega (arith, length-drop h.start part)) in
    let whole : length object ≡ n = length-take-le n behind (omega (arith, length-drop (h.start + h.prefix) part)) in
    let value : length octets + 1 ≡ n = omega (arith, length-take-le (length object - 1) object (omega arith), whole) in
    let last : object ≡ octets ++ status ∷ [] = last_behind object (omega (arith, whole)) in
    let objects : behind ≡ octets ++ (status ∷ rest) =
    sym (take-append-drop n behind) ∙ (ap (λ (t : List ℕ). t ++ rest) last ∙ append_assoc octets (status ∷ []) rest) in
    let parts : body ≡ index ++ (octets ++ (status ∷ rest)) =
    sym (take-append-drop h.prefix body)
    ∙ ap (λ (t : List ℕ). index ++ t) (drop-drop h.prefix h.start part ∙ objects) in
    record {
      variation = v;
      index = index;
      octets = octets;
      rest = rest;
      known = known;
      command = command;
      single = single;
      parts = parts;
      prefixed = prefixed;
      sized = sized ∙ ap Octets (sym value);
      numbered = refl;
      grouped = refl;
      told = refl;
    }

-- what is read under a header stands there alone
pub lone_echo-stands : (part : List ℕ) (h : Header) (e : Echo) → HasCommandsWithin part h → lone_echo part h ≡ Some e
    → StandsAlone part h e
lone_echo-stands part h e w read =
    let one = when_some (eqb h.count 1) _ e read in
    let single : h.count ≡ 1 = eqb-true h.count 1 one.0 in
    let found = map_some (first_echo part h) (command_length h.group h.variation) e one.1 in
    let n : ℕ = found.0 in
    let row =
    then_some (λ (v : Variation). command_octets v.role (size_of v)) (object_of h.group h.variation) n found.1 in
    let v : Variation = row.0 in
    let is = command_sized v.role (size_of v) n row.2 in
    let inside : h.start + h.count * (h.prefix + n) ≤ length part = subst
    (λ (o : Option ℕ). IfSome o (λ octets. h.start + h.count * (h.prefix + octets) ≤ length part)) found.1 w.inside in
    let once : h.start + 1 * (h.prefix + n) ≤ length part =
    subst (λ (c : ℕ). h.start + c * (h.prefix + n) ≤ length part) single inside in
    let long : 0 < n = positive v.role (size_of v) n row.2 (object_of-long h.group h.variation v row.1) in
    subst (λ (x : Echo). StandsAlone part h x) found.2
    (stands_first part h v n row.1 is.0 is.1 single long (omega arith))

abbrev made : ℕ → ℕ → List ℕ → ℕ → Echo
made index group body status = record { index = index; group = group; body = body; status = status }

echoes_equal : (e : Echo) (index group status : ℕ) (body : List ℕ) → e.index ≡ index → e.group ≡ group
    → e.status ≡ status → e.body ≡ body → made index group body status ≡ e
echoes_equal e index group status body ei eg es eb = rw (← ei, ← eg, ← es, ← eb) refl

-- what stands alone under a header is read there
pub lone_echo-again : (part : List ℕ) (h : Header) (e : Echo) → StandsAlone part h e → lone_echo part h ≡ Some e
lone_echo-again part h e s =
    let n : ℕ = length s.octets + 1 in
    let object : List ℕ = s.octets ++ e.status ∷ [] in
    let known : command_length h.group h.variation ≡ Some n = rw (s.known) (rw (s.command, s.sized) refl) in
    let index : take h.prefix (drop h.start part) ≡ s.index =
    ap (take h.prefix) s.parts ∙ take_at s.index _ h.prefix s.prefixed in
    let behind : drop (h.start + h.prefix) part ≡ object ++ s.rest =
    sym (drop-drop h.prefix h.start part) ∙ (ap (drop h.prefix) s.parts
    ∙ (drop_at s.index _ h.prefix s.prefixed ∙ sym (append_assoc s.octets (e.status ∷ []) s.rest))) in
    let long : length object ≡ n = length-append s.octets (e.status ∷ []) in
    let whole : take n (drop (h.start + h.prefix) part) ≡ object = ap (take n) behind ∙ take_at object s.rest n long in
    let last : length object - 1 ≡ length s.octets = omega (arith, long) in
    let value : take (length object - 1) object ≡ s.octets =
    take_at s.octets (e.status ∷ []) (length object - 1) (sym last) in
    let end : length object - 1 ≡ length s.octets + 0 = omega (arith, long) in
    let status : slice_index object (length object - 1) ≡ e.status =
    rw end (get_or-append-add s.octets (e.status ∷ []) 0 0) in
    let is : echo_with h.group s.index object ≡ e = echoes_equal e (number s.index) h.group
    (slice_index object (length object - 1)) (body_of (take (length object - 1) object))
    s.numbered s.grouped (sym status) (s.told ∙ ap body_of (sym value)) in
    let one : eqb h.count 1 ≡ true = eq-eqb h.count 1 s.single in
    rw (one, known, index, whole) (ap Some is)

-- ---- one thing in a list

-- where a list gives one thing
record Split {X Y : Type 0} (f : X → Option Y) (xs : List X) (y : Y) : Type 0 where
  before : List X
  here : X
  after : List X
  parts : xs ≡ before ++ here ∷ after
  gives : f here ≡ Some y
  others : filter_map f (before ++ after) ≡ []

split_here : {X Y : Type 0} (f : X → Option Y) (x : X) (o : Option Y) (xs : List X) (y : Y) → f x ≡ o
    → (filter_map f xs ≡ y ∷ [] → Split f xs y) → cons_option o (filter_map f xs) ≡ y ∷ [] → Split f (x ∷ xs) y
split_here f x None xs y is later e =
    let r = later e in
    record {
      before = x ∷ r.before;
      here = r.here;
      after = r.after;
      parts = ap (λ t. x ∷ t) r.parts;
      gives = r.gives;
      others = rw is r.others;
    }
split_here f x (Some z) xs y is later e =
    record { before = []; here = x; after = xs; parts = refl; gives = is ∙ cc; others = cc }

split : {X Y : Type 0} (f : X → Option Y) (xs : List X) (y : Y) → filter_map f xs ≡ y ∷ [] → Split f xs y
split f [] y e = absurd cc
split f (x ∷ xs) y e = split_here f x (f x) xs y refl (split f xs y) e

nil_parts : {X : Type 0} (xs ys : List X) → xs ++ ys ≡ [] → (xs ≡ []) × (ys ≡ [])
nil_parts [] ys e = (refl, e)
nil_parts (x ∷ xs) ys e = absurd cc

joined : {X Y : Type 0} (f : X → Option Y) (before : List X) (x : X) (after : List X) (y : Y) → f x ≡ Some y
    → filter_map f (before ++ after) ≡ [] → filter_map f (before ++ x ∷ after) ≡ y ∷ []
joined f before x after y gives others =
    let both = nil_parts (filter_map f before) (filter_map f after) (sym (filter_map-append f before after) ∙ others) in
    filter_map-append f before (x ∷ after) ∙ rw (both.0, gives, both.1) refl

behind : {X : Type 0} (P : X → Type 0) (before after : List X) → AllByRecursion P (before ++ after)
    → AllByRecursion P after
behind P [] after all = all
behind P (b ∷ before) after all = behind P before after all.1

without : {X : Type 0} (P : X → Type 0) (before : List X) (x : X) (after : List X)
    → AllByRecursion P (before ++ x ∷ after) → AllByRecursion P (before ++ after)
without P [] x after all = all.1
without P (b ∷ before) x after all = (all.0, without P before x after all.1)

only_one-some : {X : Type 0} (xs : List X) (x : X) → only_one xs ≡ Some x → xs ≡ x ∷ []
only_one-some [] x e = absurd cc
only_one-some (a ∷ []) x e = cc
only_one-some (a ∷ b ∷ rest) x e = absurd cc

-- ---- all headers

abbrev NoneStands : List ℕ → Header → Type 0
NoneStands part h = (x : Echo) → StandsAlone part h x → ⊥

none_here : (part : List ℕ) (h : Header) (o : Option Echo) (others : List Echo) → lone_echo part h ≡ o
    → cons_option o others ≡ [] → NoneStands part h × (others ≡ [])
none_here part h None others is e = (λ x s. absurd (cc (is, lone_echo-again part h x s)), e)
none_here part h (Some y) others is e = absurd cc

none_stands : (part : List ℕ) (hs : List Header) → lone_echoes part hs ≡ [] → AllByRecursion (NoneStands part) hs
none_stands part [] e = tt
none_stands part (h ∷ hs) e =
    let one = none_here part h (lone_echo part h) (lone_echoes part hs) refl e in
    (one.0, none_stands part hs one.1)

none_read_here : (part : List ℕ) (h : Header) (o : Option Echo) (others : List Echo) → lone_echo part h ≡ o
    → HasCommandsWithin part h → NoneStands part h → others ≡ [] → cons_option o others ≡ []
none_read_here part h None others is w none e = e
none_read_here part h (Some y) others is w none e = absurd (none y (lone_echo-stands part h y w is))

none_read : (part : List ℕ) (hs : List Header) → AllByRecursion (HasCommandsWithin part) hs
    → AllByRecursion (NoneStands part) hs → lone_echoes part hs ≡ []
none_read part [] within none = refl
none_read part (h ∷ hs) within none = none_read_here part h (lone_echo part h)
    (lone_echoes part hs) refl within.0 none.0 (none_read part hs within.1 none.1)

is_echo : (part : List ℕ) (hs : List Header) (e : Echo) → IsPart part hs
    → only_one (lone_echoes part hs) ≡ Some e → IsEcho part e
is_echo part hs e is read =
    let s = split (lone_echo part) hs e (only_one-some (lone_echoes part hs) e read) in
    let part_of : IsPart part (s.before ++ s.here ∷ s.after) = subst (IsPart part) s.parts is in
    let within : AllByRecursion (HasCommandsWithin part) (s.here ∷ s.after) = behind (HasCommandsWithin part) s.before
    (s.here ∷ s.after) (all_within part (s.before ++ s.here ∷ s.after) part_of) in
    record {
      before = s.before;
      header = s.here;
      after = s.after;
      headers = part_of;
      alone = lone_echo-stands part s.here e within.0 s.gives;
      no_other =
          All-from_recursion (NoneStands part) (s.before ++ s.after) (none_stands part (s.before ++ s.after) s.others);
    }

is_echo_read : (part : List ℕ) (r : Result (List Header) ObjectFault) (e : Echo) → headers_of part ≡ r
    → only_one (lone_echoes part (result_unwrap_or r [])) ≡ Some e → IsEcho part e
is_echo_read part (Ok hs) e is read = is_echo part hs e (IsPart-found part hs is) read
is_echo_read part (Err fault) e is read = absurd cc

-- what is read is the echo
pub echo_of_is : (octets : List ℕ) (e : Echo) → echo_of octets ≡ Some e → IsEcho (drop 4 octets) e
echo_of_is octets e read = is_echo_read (drop 4 octets) (headers_of (drop 4 octets)) e refl read

-- the echo is read
pub echo_of_again : (octets : List ℕ) (e : Echo) → IsEcho (drop 4 octets) e → echo_of octets ≡ Some e
echo_of_again octets e is =
    let part : List ℕ = drop 4 octets in
    let hs : List Header = is.before ++ is.header ∷ is.after in
    let read : headers_of part ≡ Ok hs = IsPart-again part hs is.headers in
    let within : AllByRecursion (HasCommandsWithin part) (is.before ++ is.after) =
    without (HasCommandsWithin part) is.before is.header is.after (all_within part hs is.headers) in
    let others : lone_echoes part (is.before ++ is.after) ≡ [] = none_read part (is.before ++ is.after) within
    (recursion_from_All (NoneStands part) (is.before ++ is.after) is.no_other) in
    let one : lone_echoes part hs ≡ e ∷ [] =
    joined (lone_echo part) is.before is.header is.after e (lone_echo-again part is.header e is.alone) others in
    rw (read, one) refl

-- ---- of what was kept of a fragment

pub echo_found : (octets : List ℕ) (kept : Option Echo) → kept ≡ echo_of octets → IfSome kept (IsEcho (drop 4 octets))
echo_found octets None e = tt
echo_found octets (Some x) e = echo_of_is octets x (sym e)

pub echo_only : (octets : List ℕ) (kept : Option Echo) → kept ≡ echo_of octets → (x : Echo)
    → IsEcho (drop 4 octets) x → kept ≡ Some x
echo_only octets kept e x is = e ∙ echo_of_again octets x is
