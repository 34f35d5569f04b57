-- Reading objects one after the other, as a loop does.
use Rattle.std.proofs.Common.{◌≡◌, ℕ, zero, suc, ◌+◌, ◌≤◌, Bool, true, false, ◌||◌, List}
use Rattle.std.proofs.Common.{[], ◌∷◌, ◌++◌, length, take, drop, Option, Some, None, Result}
use Rattle.std.proofs.Common.{Ok, Err, IsOk, refl, sym, ap, ◌∙◌, append_assoc, arith}
use Rattle.std.specs.Prelude.{ok_or}
use Rattle.std.proofs.lemmas.List.{append-nil, drop-drop}
use Rattle.gw_model.specs.declared.observation.Observation.{Observation}
use Rattle.iec_asdu.specs.declared.fault.AsduFault.{AsduFault}
use Rattle.gw_model.specs.Outcome.{◌>>=◌, UnlessMemory}
use Rattle.iec_asdu.specs.Types.{Layout}
use Rattle.iec_asdu.specs.Asdu.{size_of, address_at, observation_of}
use Rattle.iec_asdu.specs.Reading.{is_memory, object_read, read_apart, read_in_sequence}
use Rattle.iec_asdu.specs.declared.fault.AsduFault.TheVariants.{Short, Long, UnknownType, ZeroObjects, Reserved, Tag, Memory}

-- what was read before, and what is still read
abbrev pub with_front : List Observation → Result (List Observation) AsduFault → Result (List Observation) AsduFault
with_front front read = read >>= λ xs. Ok (front ++ xs)

regroup : (front : List Observation) (x : Observation) (read : Result (List Observation) AsduFault)
    → with_front front (read >>= λ xs. Ok (x ∷ xs)) ≡ with_front (front ++ x ∷ []) read
regroup front x (Ok xs) = ap (λ (ys : List Observation). Ok ys) (simp append_assoc)
regroup front x (Err e) = refl

-- what holds of a fault is told of it
pub told_of : {P : Type 0} (f : AsduFault) → P → UnlessMemory (is_memory f) P
told_of Memory p = tt
told_of Short p = p
told_of Long p = p
told_of UnknownType p = p
told_of ZeroObjects p = p
told_of Reserved p = p
told_of Tag p = p

-- ---- how far the loop is

-- the observations read so far, with those still to be read, are those of the objects; they are stored, unless
-- memory was refused
pub record Progress (is_refused : Bool) (stored : List Observation) (rest whole : Result (List Observation) AsduFault)
    : Type 0 where
  pub front : List Observation
  pub read : with_front front rest ≡ whole
  pub kept : is_refused ≡ false → stored ≡ front

-- one more was read, and stored unless memory was or is refused
pub further : (is_refused is_now : Bool) (stored longer : List Observation) (x : Observation)
    (rest after whole : Result (List Observation) AsduFault)
    → ((front : List Observation) → with_front front rest ≡ whole → with_front (front ++ x ∷ []) after ≡ whole)
    → (is_now ≡ false → (is_refused ≡ false) × (longer ≡ stored ++ x ∷ []))
    → Progress is_refused stored rest whole → Progress is_now longer after whole
further is_refused is_now stored longer x rest after whole goes_on stores p = record {
  front = p.front ++ x ∷ [];
  read = goes_on p.front p.read;
  kept = λ none. (stores none).1 ∙ ap (λ (xs : List Observation). xs ++ x ∷ []) (p.kept (stores none).0);
}

-- all was read: it is right, and what is stored, where nothing was refused
pub is_right : (whole : Result (List Observation) AsduFault) (front : List Observation) → whole ≡ Ok front → IsOk whole
is_right whole front e = rw e refl

pub all_stored : (whole : Result (List Observation) AsduFault) (front stored : List Observation)
    → whole ≡ Ok front → stored ≡ front → whole ≡ Ok stored
all_stored whole front stored e same = e ∙ ap (λ (xs : List Observation). Ok xs) (sym same)

-- neither of two tests holds
pub neither : (a b : Bool) → a || b ≡ false → (a ≡ false) × (b ≡ false)
neither true b e = cc e
neither false b e = (refl, e)

-- the faults of two parts, one after the other
parts_fault : {A B : Type 0} (s : Option A) (t : Option B) (make : A → B → Observation) (f : AsduFault)
    → (ok_or s Reserved >>= λ x. (ok_or t Tag >>= λ y. Ok (make x y))) ≡ Err f → f ≡ Memory → ⊥
parts_fault None t make f e m = cc
parts_fault (Some x) None make f e m = cc
parts_fault (Some x) (Some y) make f e m = cc

-- no object has the fault of memory
pub object_fault : (common address : ℕ) (layout : Layout) (octets : List ℕ) (f : AsduFault)
    → Err f ≡ object_read common address layout octets → f ≡ Memory → ⊥
object_fault common address layout octets f e m =
    parts_fault _ _ (observation_of common address) f (sym e) m

-- ---- SQ 0

-- the address at the front
address_in_front : (octets : List ℕ) → 3 ≤ length octets → address_at (take 3 octets) ≡ address_at octets
address_in_front (a ∷ b ∷ c ∷ octets) long = refl
address_in_front _ long = absurd (omega arith)

-- the object at the front, as it is split off
pub apart_object : (common : ℕ) (layout : Layout) (address size : ℕ) (rest front behind information : List ℕ)
    (read : Result Observation AsduFault) → 3 ≤ length rest
    → front ≡ take 3 rest → behind ≡ drop 3 rest → size ≡ size_of layout → information ≡ take size behind
    → address ≡ address_at front
    → read ≡ object_read common address layout information
    → object_read common (address_at rest) layout (take (size_of layout) (drop 3 rest)) ≡ read
apart_object common layout address size rest front behind information read long ef eb es ei ea er =
    let address_is : address ≡ address_at rest =
    ea ∙ (ap (λ (o : List ℕ). address_at o) ef ∙ address_in_front rest long) in
    let octets_are : information ≡ take (size_of layout) (drop 3 rest) =
    ei ∙ (ap (λ (n : ℕ). take n behind) es ∙ ap (λ (o : List ℕ). take (size_of layout) o) eb) in
    ap (λ (n : ℕ). object_read common n layout (take (size_of layout) (drop 3 rest))) (sym address_is)
    ∙ (ap (λ (o : List ℕ). object_read common address layout o) (sym octets_are) ∙ sym er)

-- what is left behind it
pub behind_object : (size : ℕ) (n : ℕ) (rest behind after : List ℕ) → behind ≡ drop 3 rest → size ≡ n
    → after ≡ drop size behind → after ≡ drop (3 + n) rest
behind_object size n rest behind after eb es ea =
    ea ∙ (ap (λ (k : ℕ). drop k behind) es ∙ (ap (λ (o : List ℕ). drop n o) eb ∙ drop-drop n 3 rest))

apart_step : (common : ℕ) (layout : Layout) (n m : ℕ) (octets : List ℕ) (read : Result Observation AsduFault)
    → n ≡ suc m → object_read common (address_at octets) layout (take (size_of layout) (drop 3 octets)) ≡ read
    → read_apart common layout n octets
    ≡ (read >>= λ x. (read_apart common layout m (drop (3 + size_of layout) octets) >>= λ xs. Ok (x ∷ xs)))
unfolding read_apart
apart_step common layout n m octets read e at = rw (e, at) refl

pub apart_goes_on : (common : ℕ) (layout : Layout) (n m : ℕ) (octets : List ℕ) (front : List Observation)
    (x : Observation) (whole : Result (List Observation) AsduFault)
    → n ≡ suc m → object_read common (address_at octets) layout (take (size_of layout) (drop 3 octets)) ≡ Ok x
    → with_front front (read_apart common layout n octets) ≡ whole
    → with_front (front ++ x ∷ []) (read_apart common layout m (drop (3 + size_of layout) octets)) ≡ whole
apart_goes_on common layout n m octets front x whole e at so_far =
    sym (regroup front x (read_apart common layout m (drop (3 + size_of layout) octets)))
    ∙ (ap (with_front front) (sym (apart_step common layout n m octets (Ok x) e at)) ∙ so_far)

pub apart_fails : (common : ℕ) (layout : Layout) (n m : ℕ) (octets : List ℕ) (front : List Observation) (f : AsduFault)
    (whole : Result (List Observation) AsduFault)
    → n ≡ suc m → object_read common (address_at octets) layout (take (size_of layout) (drop 3 octets)) ≡ Err f
    → with_front front (read_apart common layout n octets) ≡ whole → whole ≡ Err f
apart_fails common layout n m octets front f whole e at so_far =
    sym so_far ∙ ap (with_front front) (apart_step common layout n m octets (Err f) e at)

pub apart_done : (common : ℕ) (layout : Layout) (n : ℕ) (octets : List ℕ) (front : List Observation)
    (whole : Result (List Observation) AsduFault)
    → n ≡ 0 → with_front front (read_apart common layout n octets) ≡ whole → whole ≡ Ok front
unfolding read_apart
apart_done common layout zero octets front whole e so_far =
    sym so_far ∙ ap (λ (xs : List Observation). Ok xs) (append-nil front)
apart_done common layout (suc n) octets front whole e so_far = absurd (omega arith)

-- ---- SQ 1

-- the element and the time tag at the front, as they are split off
pub sequence_object : (common : ℕ) (layout : Layout) (address size : ℕ) (rest information : List ℕ)
    (read : Result Observation AsduFault)
    → size ≡ size_of layout → information ≡ take size rest → read ≡ object_read common address layout information
    → object_read common address layout (take (size_of layout) rest) ≡ read
sequence_object common layout address size rest information read es ei er =
    let octets_are : information ≡ take (size_of layout) rest = ei ∙ ap (λ (n : ℕ). take n rest) es in
    ap (λ (o : List ℕ). object_read common address layout o) (sym octets_are) ∙ sym er

sequence_step : (common : ℕ) (layout : Layout) (n m address : ℕ) (octets : List ℕ) (read : Result Observation AsduFault)
    → n ≡ suc m → object_read common address layout (take (size_of layout) octets) ≡ read
    → read_in_sequence common layout n address octets
    ≡ (read >>= λ x. (read_in_sequence common layout m (address + 1) (drop (size_of layout) octets)
    >>= λ xs. Ok (x ∷ xs)))
unfolding read_in_sequence
sequence_step common layout n m address octets read e at = rw (e, at) refl

pub sequence_goes_on : (common : ℕ) (layout : Layout) (n m address : ℕ) (octets : List ℕ) (front : List Observation)
    (x : Observation) (whole : Result (List Observation) AsduFault)
    → n ≡ suc m → object_read common address layout (take (size_of layout) octets) ≡ Ok x
    → with_front front (read_in_sequence common layout n address octets) ≡ whole
    → with_front (front ++ x ∷ []) (read_in_sequence common layout m (address + 1) (drop (size_of layout) octets))
    ≡ whole
sequence_goes_on common layout n m address octets front x whole e at so_far =
    sym (regroup front x (read_in_sequence common layout m (address + 1) (drop (size_of layout) octets)))
    ∙ (ap (with_front front) (sym (sequence_step common layout n m address octets (Ok x) e at)) ∙ so_far)

pub sequence_fails : (common : ℕ) (layout : Layout) (n m address : ℕ) (octets : List ℕ) (front : List Observation)
    (f : AsduFault) (whole : Result (List Observation) AsduFault)
    → n ≡ suc m → object_read common address layout (take (size_of layout) octets) ≡ Err f
    → with_front front (read_in_sequence common layout n address octets) ≡ whole → whole ≡ Err f
sequence_fails common layout n m address octets front f whole e at so_far =
    sym so_far ∙ ap (with_front front) (sequence_step common layout n m address octets (Err f) e at)

pub sequence_done : (common : ℕ) (layout : Layout) (n address : ℕ) (octets : List ℕ) (front : List Observation)
    (whole : Result (List Observation) AsduFault)
    → n ≡ 0 → with_front front (read_in_sequence common layout n address octets) ≡ whole → whole ≡ Ok front
unfolding read_in_sequence
sequence_done common layout zero address octets front whole e so_far =
    sym so_far ∙ ap (λ (xs : List Observation). Ok xs) (append-nil front)
sequence_done common layout (suc n) address octets front whole e so_far = absurd (omega arith)
