-- Clients that see the same news.
use Rattle.std.specs.Prelude.{replicate, slice_get, IfSome}
use Rattle.std.specs.List.{AllByRecursion}
use Rattle.std.proofs.Common.{◌≡◌, ℕ, zero, suc, ◌<◌, ◌≤◌, List, [], ◌∷◌, map}
use Rattle.std.proofs.Common.{length, get_or, Some, refl, sym, ap, subst, ◌∙◌, arith}
use Rattle.std.proofs.Math.ListN.{set}
use Rattle.gw_model.specs.Places.{change}
use Rattle.gw_model.specs.declared.observation.Observation.{Observation}
use Rattle.gw_station.specs.Client.{Client, client_with_news}
use Rattle.gw_station.specs.Ring.{Ring, Seat, ring_with, seen, Stands}
use Rattle.gw_station.proofs.Seen.{came}

-- ---- a place

seen_at : (r : Ring) (n : ℕ) (ss : List Seat) (s : Seat) → n < length ss → s ≡ get_or ss n s
    → Some (seen r s) ≡ slice_get (map (seen r) ss) n
seen_at r n [] s lt there = absurd (omega (arith, lt))
seen_at r zero (x ∷ ss) s lt there = ap (λ (y : Seat). Some (seen r y)) there
seen_at r (suc n) (x ∷ ss) s lt there = seen_at r n ss s (omega (arith, lt)) there

-- the client there is seen so
pub place_of : (r : Ring) (n m : ℕ) (ss : List Seat) (ks : List Client) (s : Seat) → n ≡ m → map (seen r) ss ≡ ks
    → n < length ss → s ≡ get_or ss n s → Some (seen r s) ≡ slice_get ks m
place_of r n m ss ks s en is lt there =
    seen_at r n ss s lt there ∙ (ap (λ (cs : List Client). slice_get cs n) is ∙ ap (slice_get ks) en)

-- it was changed
seats_changed : (r : Ring) (n : ℕ) (f : Client → Client) (ss : List Seat) (s t : Seat) → s ≡ get_or ss n s
    → seen r t ≡ f (seen r s) → map (seen r) (set ss n t) ≡ change n f (map (seen r) ss)
seats_changed r n f [] s t there e = refl
seats_changed r zero f (x ∷ ss) s t there e =
    ap (λ (k : Client). k ∷ map (seen r) ss) (e ∙ ap (λ (y : Seat). f (seen r y)) there)
seats_changed r (suc n) f (x ∷ ss) s t there e =
    ap (λ (ks : List Client). seen r x ∷ ks) (seats_changed r n f ss s t there e)

pub clients_changed : (r : Ring) (n m : ℕ) (f : Client → Client) (ss : List Seat) (ks : List Client) (s t : Seat)
    → n ≡ m → map (seen r) ss ≡ ks → s ≡ get_or ss n s → seen r t ≡ f (seen r s)
    → map (seen r) (set ss n t) ≡ change m f ks
clients_changed r n m f ss ks s t en is there e =
    seats_changed r n f ss s t there e ∙ (ap (change n f) is ∙ ap (λ (i : ℕ). change i f ks) en)

-- there is none
pub clients_unchanged : (r : Ring) (n m : ℕ) (f : Client → Client) (ss : List Seat) (ks : List Client) → n ≡ m
    → map (seen r) ss ≡ ks → length ss ≤ n → map (seen r) ss ≡ change m f ks
clients_unchanged r n m f ss ks en is le =
    same n ss le ∙ (ap (change n f) is ∙ ap (λ (i : ℕ). change i f ks) en)
  where
    same : (n : ℕ) (ss : List Seat) → length ss ≤ n → map (seen r) ss ≡ change n f (map (seen r) ss)
    same n [] le = refl
    same zero (s ∷ ss) le = absurd (omega (arith, le))
    same (suc n) (s ∷ ss) le = ap (λ (ks : List Client). seen r s ∷ ks) (same n ss (omega (arith, le)))

pub seen_set : (r : Ring) (n : ℕ) (ss : List Seat) (t : Seat)
    → map (seen r) (set ss n t) ≡ set (map (seen r) ss) n (seen r t)
seen_set r n [] t = refl
seen_set r zero (s ∷ ss) t = refl
seen_set r (suc n) (s ∷ ss) t = ap (λ (ks : List Client). seen r s ∷ ks) (seen_set r n ss t)

pub seen_get : (r : Ring) (n : ℕ) (ss : List Seat) (s : Seat) → seen r (get_or ss n s) ≡ get_or (map (seen r) ss) n (seen r s)
seen_get r n [] s = refl
seen_get r zero (x ∷ ss) s = refl
seen_get r (suc n) (x ∷ ss) s = seen_get r n ss s

-- ---- what all of them keep

pub stand_set : (r : Ring) (n : ℕ) (ss : List Seat) (t : Seat) → Stands r t → AllByRecursion (Stands r) ss
    → AllByRecursion (Stands r) (set ss n t)
stand_set r n [] t stands all = tt
stand_set r zero (s ∷ ss) t stands all = (stands, all.1)
stand_set r (suc n) (s ∷ ss) t stands all = (all.0, stand_set r n ss t stands all.1)

pub seen_alike : (r : Ring) (n : ℕ) (s : Seat) → map (seen r) (replicate n s) ≡ replicate n (seen r s)
seen_alike r zero s = refl
seen_alike r (suc n) s = ap (λ (ks : List Client). seen r s ∷ ks) (seen_alike r n s)

pub stand_alike : (r : Ring) (n : ℕ) (s : Seat) → Stands r s → AllByRecursion (Stands r) (replicate n s)
stand_alike r zero s stands = tt
stand_alike r (suc n) s stands = (stands, stand_alike r n s stands)

-- ---- news

pub all_came : (x : Observation) (r : Ring) (ss : List Seat) → length r.items ≤ r.limit → length r.items ≤ r.next
    → AllByRecursion (Stands r) ss
    → map (seen (ring_with x r)) ss ≡ map (client_with_news (x ∷ [])) (map (seen r) ss)
all_came x r [] few within all = refl
all_came x r (s ∷ ss) few within all =
    let one = came x r s few within all.0 in let rest = all_came x r ss few within all.1 in cc

pub seen_has : (P : Client → Type 0) (r : Ring) (n : ℕ) (ss : List Seat) (t : Seat) → P (seen r t)
    → IfSome (slice_get (map (seen r) (set ss n t)) n) P
seen_has P r n [] t holds = tt
seen_has P r zero (s ∷ ss) t holds = holds
seen_has P r (suc n) (s ∷ ss) t holds = seen_has P r n ss t holds

pub stand_get : (r : Ring) (n : ℕ) (ss : List Seat) (s : Seat) → n < length ss → AllByRecursion (Stands r) ss
    → Stands r (get_or ss n s)
stand_get r n [] s lt all = absurd (omega arith)
stand_get r zero (x ∷ ss) s lt all = all.0
stand_get r (suc n) (x ∷ ss) s lt all = stand_get r n ss s (omega arith) all.1

pub stand_at : (r : Ring) (n : ℕ) (ss : List Seat) (s : Seat) → n < length ss → s ≡ get_or ss n s
    → AllByRecursion (Stands r) ss → Stands r s
stand_at r n ss s lt there all = subst (Stands r) (sym there) (stand_get r n ss s lt all)
