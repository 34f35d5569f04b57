-- Steps of a reading that did not fail, and what was not asked where memory ran out.
use Rattle.std.proofs.Common.{◌≡◌, Bool, true, false, cond, Option, Some, None, Result, Ok, Err, refl}
use Rattle.std.specs.Option.{option_map}
use Rattle.gw_model.specs.Outcome.{◌>>=◌, UnlessMemory}
use Rattle.dnp_objects.specs.declared.fault.ObjectFault.{ObjectFault}
use Rattle.dnp_objects.specs.declared.fault.HeaderFault.{HeaderFault}
use Rattle.dnp_objects.specs.Headers.{some_or}

pub bind_ok : {A B : Type 0} (r : Result A ObjectFault) (f : A → Result B ObjectFault) (y : B) → (r >>= f) ≡ Ok y
    → (x : A) × (r ≡ Ok x) × (f x ≡ Ok y)
bind_ok (Ok x) f y e = (x, refl, e)
bind_ok (Err d) f y e = absurd cc

pub guard_ok : {A : Type 0} (b : Bool) (d : ObjectFault) (x y : A) → cond b (Err d) (Ok x) ≡ Ok y
    → (b ≡ false) × (x ≡ y)
guard_ok true d x y e = absurd cc
guard_ok false d x y e = (refl, cc)

pub otherwise_ok : {A : Type 0} (b : Bool) (d : ObjectFault) (r : Result A ObjectFault) (y : A)
    → cond b (Err d) r ≡ Ok y → (b ≡ false) × (r ≡ Ok y)
otherwise_ok true d r y e = absurd cc
otherwise_ok false d r y e = (refl, e)

pub some_ok : {A : Type 0} (place : _) (why : HeaderFault) (o : Option A) (x : A) → some_or place why o ≡ Ok x
    → o ≡ Some x
some_ok place why None x e = absurd cc
some_ok place why (Some y) x e = cc

pub map_some : {A B : Type 0} (f : A → B) (o : Option A) (y : B) → option_map f o ≡ Some y
    → (x : A) × (o ≡ Some x) × (f x ≡ y)
map_some f None y e = absurd cc
map_some f (Some x) y e = (x, refl, cc)

pub when_some : {A : Type 0} (b : Bool) (o : Option A) (x : A) → cond b o None ≡ Some x → (b ≡ true) × (o ≡ Some x)
when_some true o x e = (refl, e)
when_some false o x e = absurd cc

pub UnlessMemory-map : {P Q : Type 0} (is_memory : Bool) → (P → Q) → UnlessMemory is_memory P → UnlessMemory is_memory Q
UnlessMemory-map true f p = tt
UnlessMemory-map false f p = f p
