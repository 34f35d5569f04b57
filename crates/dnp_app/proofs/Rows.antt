-- What follows from the rows of the object library, one by one.
use Rattle.std.proofs.Common.{◌≡◌, ℕ, Bool, true, false, ◌&&◌, ◌||◌, List}
use Rattle.std.proofs.Common.{[], ◌∷◌, Option, Some, None, refl, arith, cond}
use Rattle.std.specs.Prelude.{◌==◌, nat_lt}
use Rattle.std.proofs.lemmas.Bool.{and_parts}
use Rattle.dnp_objects.specs.declared.object.Size.{Size}
use Rattle.dnp_objects.specs.declared.object.Size.TheVariants.{Octets, Bits}
use Rattle.dnp_objects.specs.declared.object.Access.TheVariants.{RangesAndIndexes}
use Rattle.dnp_objects.specs.Library.{Variation, Role, Point, CommonTime, Echo, SteppedOver, Whole}
use Rattle.dnp_objects.specs.Library.{Timeless, entry, plain, objects, object_among, object_of, size_of}

-- a command has an octet at least
abbrev pub is_long : Role → Size → Bool
is_long Echo (Octets octets) = nat_lt 0 octets
is_long Echo (Bits bits) = true
is_long (Point kind) size = true
is_long CommonTime size = true
is_long SteppedOver size = true

abbrev are_long : List Variation → Bool
are_long [] = true
are_long (v ∷ vs) = is_long v.role (size_of v) && are_long vs

chosen_long : (b : Bool) (x : Variation) (o : Option Variation) (v : Variation) → is_long x.role (size_of x) ≡ true
    → (o ≡ Some v → is_long v.role (size_of v) ≡ true) → cond b (Some x) o ≡ Some v
    → is_long v.role (size_of v) ≡ true
chosen_long true x o v one others e = grind arith
chosen_long false x o v one others e = others e

string_long : (b : Bool) (x v : Variation) → is_long x.role (size_of x) ≡ true → cond b (Some x) None ≡ Some v
    → is_long v.role (size_of v) ≡ true
string_long b x v one e = chosen_long b x None v one (λ d. absurd cc) e

among_long : (vs : List Variation) (group number : ℕ) (v : Variation) → are_long vs ≡ true
    → object_among vs group number ≡ Some v → is_long v.role (size_of v) ≡ true
among_long [] group number v all e =
    string_long (((group == 110) || (group == 111)) && nat_lt 0 number)
    (entry group number SteppedOver (group == 111) (Whole plain number Timeless) RangesAndIndexes) v refl e
among_long (x ∷ vs) group number v all e =
    let both = and_parts (is_long x.role (size_of x)) (are_long vs) all in
    chosen_long ((group == x.group) && (number == x.number)) x (object_among vs group number) v both.0
    (among_long vs group number v both.1) e

-- what is known of a group and a number has an octet at least, where it is a command
pub object_of-long : (group number : ℕ) (v : Variation) → object_of group number ≡ Some v
    → is_long v.role (size_of v) ≡ true
unfolding object_of
object_of-long group number v e = among_long objects group number v refl e
