-- The command objects that stand alone under their header.
use Rattle.std.proofs.Common.{◌≡◌, ℕ, suc, ◌+◌, ◌-◌, ◌<◌, true, List, [], ◌∷◌, length, take}
use Rattle.std.proofs.Common.{drop, get_or, Option, Some, None, refl, sym, ap, ◌∙◌, drop-cons}
use Rattle.std.specs.Prelude.{is_some}
use Rattle.std.specs.List.{filter_map, cons_option}
use Rattle.std.proofs.Math.Seq.{take-length}
use Rattle.std.proofs.lemmas.List.{take-append-drop, length-drop, drop-drop}
use Rattle.std.proofs.lemmas.List.Elements.{filter_map-append}
use Rattle.dnp_objects.specs.declared.header.Header.{Header}
use Rattle.dnp_app.specs.Echo.{command_length, echo_with, lone_echo, only_one}

-- all octets from a place on
pub all_from : (n : ℕ) (octets : List ℕ) → take (length octets - n) (drop n octets) ≡ drop n octets
all_from n octets = rw (← length-drop n octets) (take-length (drop n octets))

-- a command object that was read behind its index
pub lone_echo-found : (part : List ℕ) (h : Header) (octets prefix : ℕ) (index behind : List ℕ) → h.count ≡ 1
    → command_length h.group h.variation ≡ Some octets → prefix ≡ h.prefix
    → index ≡ take prefix (take (length part - h.start) (drop h.start part))
    → behind ≡ drop prefix (take (length part - h.start) (drop h.start part))
    → Some (echo_with h.group index (take octets behind)) ≡ lone_echo part h
lone_echo-found part h octets prefix index behind count known at front back =
    let first : index ≡ take h.prefix (drop h.start part) = front ∙ rw (at, all_from h.start part) refl in
    let rest : behind ≡ drop (h.start + h.prefix) part =
    back ∙ (rw (at, all_from h.start part) (drop-drop h.prefix h.start part)) in
    rw (count, known, first, rest) refl

-- a second one is found behind the first
pub only_one-two : {X Y : Type 0} (f : X → Option Y) (xs : List X) (i : ℕ) (d : X) (first : Option Y) (second : Y)
    → i < length xs → filter_map f (take i xs) ≡ cons_option first []
    → is_some first ≡ true → f (get_or xs i d) ≡ Some second → only_one (filter_map f xs) ≡ None
only_one-two f xs i d None second lt so some here = absurd cc
only_one-two f xs i d (Some a) second lt so some here =
    let next : drop i xs ≡ get_or xs i d ∷ drop (suc i) xs = drop-cons xs i d lt in
    let behind : filter_map f (drop i xs) ≡ second ∷ filter_map f (drop (suc i) xs) =
    ap (filter_map f) next ∙ rw here refl in
    let whole : filter_map f xs ≡ a ∷ second ∷ filter_map f (drop (suc i) xs) =
    ap (filter_map f) (sym (take-append-drop i xs))
    ∙ (filter_map-append f (take i xs) (drop i xs) ∙ rw (so, behind) refl) in
    rw whole refl
