-- Where nothing is wrong with a table, its numbers are in their ranges.
use Prim.Native.String.{String as Name}
use Rattle.std.proofs.Common.{◌≡◌, cond, is_some, sym, ℕ, pos, negsuc, nat_abs, ◌<◌, ◌≤◌, ◌≤ℤ◌}
use Rattle.std.proofs.Common.{◌&&◌, arith, List, [], ◌∷◌, ◌++◌, map, min, filter_map, find, codes, bytes_eq}
use Rattle.std.proofs.Common.{Option, Some, None, option_map, Bool, true, false, refl, rules, Fits, w8}
use Rattle.std.specs.Prelude.{ℤ, int_le, int_lt}
use Rattle.std.proofs.lemmas.Int.{ints, to_z-of_z}
use mir.Val.{SFits, to_z, of_z}
use mir.Syntax.{w16, w64}
use Rattle.std.proofs.lemmas.Bool.{true≢false}
use Rattle.std.proofs.lemmas.Option.{same_Some}
use Rattle.toml.specs.Data.{Data, Members, get_member}
use Rattle.gw_model.specs.Rule.{IsRuleOrNone}
use Rattle.gw_entries.specs.declared.fault.Fault.TheVariants.{Missing}
use Rattle.gw_entries.specs.declared.fault.Section.{Section}
use Rattle.gw_entries.specs.declared.fault.Section.TheVariants.{Station, Outstation, Point, Control}
use Rattle.gw_entries.specs.Complaints.{complaint, placed, is_allowed, fault_of, fault_there, wrong_by, rules_wrongs, key_wrongs}
use Rattle.gw_entries.specs.Ranges.{IsWithin, IsStation, IsOutstation}
use Rattle.gw_entries.specs.Tables.{KeyRule, Absence, required, default, usual_type, of_station}
use Rattle.gw_entries.specs.Tables.{no_rule, whole, whole_to, whole_below, outstation_position, rule}
use Rattle.gw_entries.specs.Tables.{number, station_keys, outstation_keys, point_keys, control_keys}
use Rattle.gw_entries.specs.Values.{value_or, rule_named, value_at, as_signed, as_rule, number_in, station_of, outstation_of}

-- ---- one key

none_of : {A B : Type 0} (f : A → Option B) (p : A → Bool) (xs : List A) (x : A) → filter_map f xs ≡ []
    → find p xs ≡ Some x → f x ≡ None
none_of f p [] x none found = absurd cc
none_of {A} {B} f p (y ∷ ys) x none found = by (f y) (p y) refl refl (none_of f p ys x)
  where
    by : (o : Option B) (b : Bool) → f y ≡ o → p y ≡ b
        → (filter_map f ys ≡ [] → find p ys ≡ Some x → f x ≡ None) → f x ≡ None
    by (Some z) b e is more = absurd (not_none (filter_map f ys) z (rw e at none))
      where
        not_none : (zs : List B) (z : B) → z ∷ zs ≡ [] → ⊥
        not_none zs z h = cc
    by None true e is more = rw (← same_Some y x (rw is at found)) e
    by None false e is more = more (rw e at none) (rw is at found)

-- a key that is left out means something
abbrev pub is_meant : Absence → Bool
is_meant usual_type = false
is_meant of_station = false
is_meant no_rule = false
is_meant _ = true

meant : (absence : Absence) (key : List ℕ) (ms : Members) → is_meant absence ≡ true → value_or absence key ms ≡ None
    → absence ≡ required
unfolding value_or
meant required key ms is none = refl
meant usual_type key ms is none = absurd cc
meant of_station key ms is none = absurd cc
meant no_rule key ms is none = absurd cc
meant (default d) key ms is none = by (get_member key ms) refl
  where
    by : (o : Option Data) → get_member key ms ≡ o → default d ≡ required
    by None e = absurd (impossible (rw e at none))
      where
        impossible : Some d ≡ None → ⊥
        impossible h = cc
    by (Some x) e = absurd (impossible (rw e at none))
      where
        impossible : Some x ≡ None → ⊥
        impossible h = cc

-- so does one that stands there
there : (absence : Absence) (key : List ℕ) (ms : Members) → is_some (get_member key ms) ≡ true
    → value_or absence key ms ≡ None → absence ≡ required
unfolding value_or
there absence key ms is none = by (get_member key ms) refl
  where
    by : (o : Option Data) → get_member key ms ≡ o → absence ≡ required
    by None e = absurd (true≢false (sym (rw e at is)))
    by (Some x) e = absurd (impossible (rw e at none))
      where
        impossible : Some x ≡ None → ⊥
        impossible h = cc

allowed_there : (typed allowed : Bool) → fault_there typed allowed ≡ None → allowed ≡ true
allowed_there true true e = refl
allowed_there true false e = absurd cc
allowed_there false allowed e = absurd cc

nothing_mapped : {A B : Type 0} (f : A → B) (o : Option A) → option_map f o ≡ None → o ≡ None
nothing_mapped f None e = refl
nothing_mapped f (Some x) e = absurd cc

allowed : (outstations : ℕ) (rules : List KeyRule) (ms : Members) (rule : KeyRule)
    → (value_or rule.absence rule.key ms ≡ None → rule.absence ≡ required)
    → wrong_by outstations rules ms rule ≡ None
    → is_allowed outstations rules ms rule.content (value_or rule.absence rule.key ms) ≡ true
unfolding wrong_by
allowed outstations rules ms rule is fine = by (value_or rule.absence rule.key ms) refl (nothing_mapped
    (λ fault. (fault, rule.key)) (fault_of outstations rules ms rule (value_or rule.absence rule.key ms)) fine)
  where
    by : (o : Option Data) → value_or rule.absence rule.key ms ≡ o → fault_of outstations rules ms rule o ≡ None
        → is_allowed outstations rules ms rule.content o ≡ true
    by None e none = absurd (missing (rw (is e) at none))
      where
        missing : Some Missing ≡ None → ⊥
        missing h = cc
    by (Some d) e none = allowed_there _ _ none

-- what stands at a key where nothing is wrong may stand there
allowed_at : (outstations : ℕ) (rules : List KeyRule) (ms : Members) (key : List ℕ) (rule : KeyRule)
    → rules_wrongs outstations rules ms ≡ []
    → rule_named rules key ≡ Some rule → (value_or rule.absence rule.key ms ≡ None → rule.absence ≡ required)
    → is_allowed outstations rules ms rule.content (value_or rule.absence rule.key ms) ≡ true
unfolding rules_wrongs
allowed_at outstations rules ms key rule none named is =
    allowed outstations rules ms rule is
    (none_of (wrong_by outstations rules ms) (λ rule. bytes_eq rule.key key) rules rule none named)

between : (first last z : ℤ) → (int_le first z && int_le z last) ≡ true → (first ≤ℤ z) × (z ≤ℤ last)
between first last z h = grind (arith, ints)

within : (first last : ℕ) (z : ℤ) → (int_le (pos first) z && int_le z (pos last)) ≡ true
    → IsWithin first last (nat_abs z)
within first last (pos n) h = grind (arith, ints)
within first last (negsuc n) h = grind (arith, ints)

within_to : (last z : ℤ) → (int_le (pos 1) z && int_le z last) ≡ true → IsWithin 1 (nat_abs last) (nat_abs z)
within_to (pos m) (pos n) h = grind (arith, ints)
within_to (negsuc m) (pos n) h = grind (arith, ints)
within_to last (negsuc n) h = absurd (grind (arith, ints))

below : (end z : ℤ) → (int_le (pos 1) z && int_lt z end) ≡ true → (1 ≤ nat_abs z) × (nat_abs z < nat_abs end)
below (pos m) (pos n) h = grind (arith, ints)
below (negsuc m) (pos n) h = grind (arith, ints)
below end (negsuc n) h = absurd (grind (arith, ints))

position : (outstations : ℕ) (z : ℤ) → (int_le (pos 0) z && int_lt z (pos outstations)) ≡ true → nat_abs z < outstations
position outstations (pos n) h = grind (arith, ints)
position outstations (negsuc n) h = absurd (grind (arith, ints))

-- ---- keys by name, where nothing is wrong

module _ (outstations : ℕ) (rules : List KeyRule) (ms : Members) (none : rules_wrongs outstations rules ms ≡ []) where
  pub signed_within : (name : Name) (first last : ℤ) (absence : Absence)
      → rule_named rules (codes name) ≡ Some (rule name (whole first last) absence) → is_meant absence ≡ true
      → (first ≤ℤ as_signed (value_at rules (codes name) ms)) × (as_signed (value_at rules (codes name) ms) ≤ℤ last)
  signed_within name first last absence named is =
      rw named (between first last (as_signed (value_or absence (codes name) ms))
      (allowed_at outstations rules ms (codes name) (rule name (whole first last) absence) none named
      (meant absence (codes name) ms is)))

  pub number_within : (name : Name) (first last : ℕ) (absence : Absence)
      → rule_named rules (codes name) ≡ Some (rule name (number first last) absence) → is_meant absence ≡ true
      → IsWithin first last (number_in rules name ms)
  number_within name first last absence named is =
      rw named (within first last (as_signed (value_or absence (codes name) ms))
      (allowed_at outstations rules ms (codes name) (rule name (number first last) absence) none named
      (meant absence (codes name) ms is)))

  pub number_within_there : (name : Name) (first last : ℕ) (absence : Absence)
      → rule_named rules (codes name) ≡ Some (rule name (number first last) absence)
      → is_some (get_member (codes name) ms) ≡ true → IsWithin first last (number_in rules name ms)
  number_within_there name first last absence named is =
      rw named (within first last (as_signed (value_or absence (codes name) ms))
      (allowed_at outstations rules ms (codes name) (rule name (number first last) absence) none named
      (there absence (codes name) ms is)))

  pub number_within_to : (name key : Name) (absence : Absence)
      → rule_named rules (codes name) ≡ Some (rule name (whole_to (pos 1) (codes key)) absence)
      → is_meant absence ≡ true
      → IsWithin 1 (number_in rules key ms) (number_in rules name ms)
  number_within_to name key absence named is =
      rw named (within_to (as_signed (value_at rules (codes key) ms)) (as_signed (value_or absence (codes name) ms))
      (allowed_at outstations rules ms (codes name) (rule name (whole_to (pos 1) (codes key)) absence) none named
      (meant absence (codes name) ms is)))

  pub number_below : (name key : Name) (absence : Absence)
      → rule_named rules (codes name) ≡ Some (rule name (whole_below (pos 1) (codes key)) absence)
      → is_meant absence ≡ true
      → (1 ≤ number_in rules name ms) × (number_in rules name ms < number_in rules key ms)
  number_below name key absence named is =
      rw named (below (as_signed (value_at rules (codes key) ms)) (as_signed (value_or absence (codes name) ms))
      (allowed_at outstations rules ms (codes name)
      (rule name (whole_below (pos 1) (codes key)) absence) none named (meant absence (codes name) ms is)))

  pub position_below : (name : Name) → rule_named rules (codes name) ≡ Some (rule name outstation_position required)
      → number_in rules name ms < outstations
  position_below name named =
      rw named (position outstations (as_signed (value_or required (codes name) ms))
      (allowed_at outstations rules ms (codes name) (rule name outstation_position required) none named (λ _. refl)))

-- ---- the tables

nothing_after : {A : Type 0} (xs ys : List A) → xs ++ ys ≡ [] → ys ≡ []
nothing_after [] ys e = e
nothing_after (x ∷ xs) ys e = absurd cc

nothing_of : {A B : Type 0} (f : A → B) (xs : List A) → map f xs ≡ [] → xs ≡ []
nothing_of f [] e = refl
nothing_of f (x ∷ xs) e = absurd cc

no_wrongs : (section : Section) (position outstations : ℕ) (known : List (List ℕ)) (rules : List KeyRule) (ms : Members)
    → placed section position (key_wrongs outstations known rules ms) ≡ [] → rules_wrongs outstations rules ms ≡ []
unfolding key_wrongs
no_wrongs section position outstations known rules ms e =
    nothing_after _ _ (nothing_of (complaint section position) _ e)

own_within : (own : Bool) (n common : ℕ) → IsWithin 1 65534 common → (own ≡ true → IsWithin 1 65534 n)
    → IsWithin 1 65534 (cond own n common)
own_within true n common within there = there refl
own_within false n common within there = within

pub own_fits : (own : Bool) (n m common : ℕ) → n ≡ cond own (min m 65535) common → cond own m common ≤ 65534
    → n ≡ cond own m common
own_fits true n m common e h = grind arith
own_fits false n m common e h = e

pub outstation_within : (common position : ℕ) (known : List (List ℕ)) (ms : Members) → IsWithin 1 65534 common
    → placed Outstation position (key_wrongs 0 known outstation_keys ms) ≡ []
    → IsOutstation (outstation_of common ms)
unfolding outstation_of
outstation_within common position known ms within fine =
    let none = no_wrongs Outstation position 0 known outstation_keys ms fine in record {
      address = (number_within 0 outstation_keys ms none "address" _ _ _ refl refl).1;
      poll_ms = number_within 0 outstation_keys ms none "poll_ms" _ _ _ refl refl;
      integrity_ms = (number_within 0 outstation_keys ms none "integrity_ms" _ _ _ refl refl).1;
      response_ms = number_within 0 outstation_keys ms none "response_ms" _ _ _ refl refl;
      common_address = own_within (is_some (get_member (codes "common_address") ms))
          (number_in outstation_keys "common_address" ms) common within
          (number_within_there 0 outstation_keys ms none "common_address" _ _ _ refl);
    }

pub minutes_within : (position : ℕ) (known : List (List ℕ)) (ms : Members)
    → placed Station position (key_wrongs 0 known station_keys ms) ≡ []
    → (negsuc 839 ≤ℤ as_signed (value_at station_keys (codes "offset_minutes") ms))
    × (as_signed (value_at station_keys (codes "offset_minutes") ms) ≤ℤ pos 840)
minutes_within position known ms fine =
    signed_within 0 station_keys ms (no_wrongs Station position 0 known station_keys ms fine) "offset_minutes" _ _ _ refl
    refl

pub station_within : (position : ℕ) (known : List (List ℕ)) (ms : Members)
    → placed Station position (key_wrongs 0 known station_keys ms) ≡ []
    → IsRuleOrNone (as_rule (value_at station_keys (codes "rule") ms)) → IsStation (station_of ms)
unfolding station_of
station_within position known ms fine rule_in =
    let none = no_wrongs Station position 0 known station_keys ms fine in record {
      common_address = number_within 0 station_keys ms none "common_address" _ _ _ refl refl;
      master_address = (number_within 0 station_keys ms none "master_address" _ _ _ refl refl).1;
      offset_from = (minutes_within position known ms fine).0;
      offset_to = (minutes_within position known ms fine).1;
      rule = rule_in;
      k = number_within 0 station_keys ms none "k" _ _ _ refl refl;
      w = number_within_to 0 station_keys ms none "w" "k" _ refl refl;
      t1_ms = number_within 0 station_keys ms none "t1_ms" _ _ _ refl refl;
      t2_ms = number_below 0 station_keys ms none "t2_ms" "t1_ms" _ refl refl;
      t3_ms = number_within 0 station_keys ms none "t3_ms" _ _ _ refl refl;
      queue = number_within 0 station_keys ms none "queue" _ _ _ refl refl;
      select_ms = number_within 0 station_keys ms none "select_ms" _ _ _ refl refl;
      recorder = number_within 0 station_keys ms none "recorder" _ _ _ refl refl;
    }

pub record PointRanges (outstations : ℕ) (ms : Members) : Type 0 where
  pub outstation : number_in point_keys "outstation" ms < outstations
  pub index : number_in point_keys "index" ms ≤ 65535
  pub address : IsWithin 1 16777215 (number_in point_keys "address" ms)
  pub num : IsWithin 1 32767 (number_in point_keys "num" ms)
  pub den : IsWithin 1 32767 (number_in point_keys "den" ms)

pub point_within : (position : ℕ) (outstations : ℕ) (known : List (List ℕ)) (ms : Members)
    → placed Point position (key_wrongs outstations known point_keys ms) ≡ [] → PointRanges outstations ms
point_within position outstations known ms fine =
    let none = no_wrongs Point position outstations known point_keys ms fine in record {
      outstation = position_below outstations point_keys ms none "outstation" refl;
      index = (number_within outstations point_keys ms none "index" _ _ _ refl refl).1;
      address = number_within outstations point_keys ms none "address" _ _ _ refl refl;
      num = number_within outstations point_keys ms none "num" _ _ _ refl refl;
      den = number_within outstations point_keys ms none "den" _ _ _ refl refl;
    }

pub record ControlRanges (outstations : ℕ) (ms : Members) : Type 0 where
  pub outstation : number_in control_keys "outstation" ms < outstations
  pub index : number_in control_keys "index" ms ≤ 65535
  pub address : IsWithin 1 16777215 (number_in control_keys "address" ms)
  pub short_ms : IsWithin 1 3600000 (number_in control_keys "short_ms" ms)
  pub long_ms : IsWithin 1 3600000 (number_in control_keys "long_ms" ms)
  pub num : IsWithin 1 32767 (number_in control_keys "num" ms)
  pub den : IsWithin 1 32767 (number_in control_keys "den" ms)

pub control_within : (position : ℕ) (outstations : ℕ) (known : List (List ℕ)) (ms : Members)
    → placed Control position (key_wrongs outstations known control_keys ms) ≡ [] → ControlRanges outstations ms
control_within position outstations known ms fine =
    let none = no_wrongs Control position outstations known control_keys ms fine in record {
      outstation = position_below outstations control_keys ms none "outstation" refl;
      index = (number_within outstations control_keys ms none "index" _ _ _ refl refl).1;
      address = number_within outstations control_keys ms none "address" _ _ _ refl refl;
      short_ms = number_within outstations control_keys ms none "short_ms" _ _ _ refl refl;
      long_ms = number_within outstations control_keys ms none "long_ms" _ _ _ refl refl;
      num = number_within outstations control_keys ms none "num" _ _ _ refl refl;
      den = number_within outstations control_keys ms none "den" _ _ _ refl refl;
    }

-- ---- numbers of fewer bits

pub fits_within : (n m first last limit : ℕ) → n ≡ min m limit → IsWithin first last m → last ≤ limit
    → IsWithin first last n
fits_within n m first last limit e h k = grind arith

pub fits_min : (n m last limit : ℕ) → n ≡ min m limit → m ≤ last → last ≤ limit → n ≡ m
fits_min n m last limit e h k = grind arith

-- the position of an outstation, among so many
pub position_cast : (n m outstations : ℕ) → n ≡ min m 65535 → m < min outstations 255 → Fits w8 n
position_cast n m outstations e h = let fits : n < 256 = grind arith in search rules

pub position_fits : (n m outstations : ℕ) → n ≡ min m 65535 → m < min outstations 255 → n ≡ m
position_fits n m outstations e h = grind arith

pub position_within : (n m outstations : ℕ) → n ≡ min m 65535 → m < min outstations 255 → n < outstations
position_within n m outstations e h = grind arith

pub up_to : (a b last : ℕ) → a ≤ b → b ≤ last → a ≤ last
up_to a b last h k = omega arith

pub below_to : (a b last : ℕ) → a < b → b ≤ last → a ≤ last
below_to a b last h k = omega arith

signed_in_16 : (z : ℤ) → (negsuc 839 ≤ℤ z) × (z ≤ℤ pos 840) → SFits w16 z
signed_in_16 z within = let (low, high) = within in omega (arith, ints)

signed_in_64 : (z : ℤ) → (negsuc 839 ≤ℤ z) × (z ≤ℤ pos 840) → SFits w64 z
signed_in_64 z within = let (low, high) = within in omega (arith, ints)

-- minutes that fit 16 bits are the same in them
pub minutes_fit : (z w : ℤ) → z ≡ w → (negsuc 839 ≤ℤ w) × (w ≤ℤ pos 840)
    → to_z w16 (of_z w16 (to_z w64 (of_z w64 z))) ≡ w
minutes_fit z w same within =
    rw same (rw (to_z-of_z w64 w (signed_in_64 w within)) (to_z-of_z w16 w (signed_in_16 w within)))

pub minutes_cast : (z w : ℤ) → z ≡ w → (negsuc 839 ≤ℤ w) × (w ≤ℤ pos 840) → SFits w16 (to_z w64 (of_z w64 z))
minutes_cast z w same within = rw same (rw (to_z-of_z w64 w (signed_in_64 w within)) (signed_in_16 w within))
