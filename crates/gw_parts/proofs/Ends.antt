-- What is told of clients, one after the other: the sessions that end, and what may be put out.
use Rattle.std.specs.Prelude.{slice_get, ◌||◌, if◌then◌else◌}
use Rattle.std.proofs.Common.{◌≡◌, ℕ, zero, suc, ◌+◌, ◌<◌, Bool, false, List, [], ◌∷◌}
use Rattle.std.proofs.Common.{◌++◌, map, take, length, get_or, refl, sym, ap, ◌∙◌, arith}
use Rattle.std.proofs.Math.ListN.{set}
use Rattle.std.proofs.Math.Seq.{take-suc-set}
use Rattle.gw_station.specs.Client.{Client, is_timed_out}
use Rattle.gw_steps.specs.Effects.{dropped_of, or_offered}
use Rattle.gw_steps.specs.Queries.{dropped_at, has_offer, offers_at}
use Rattle.gw_parts.specs.Clients.{is_timed_out_at}

timed_behind : (moment n : ℕ) (ks : List Client) → n < length ks
    → map (is_timed_out moment) (take (suc n) ks)
    ≡ map (is_timed_out moment) (take n ks) ++ is_timed_out_at moment (slice_get ks n) ∷ []
timed_behind moment n [] lt = absurd (omega arith)
timed_behind moment zero (k ∷ ks) lt = refl
timed_behind moment (suc n) (k ∷ ks) lt =
    ap (λ (bs : List Bool). is_timed_out moment k ∷ bs) (timed_behind moment n ks (omega arith))

-- whether one more is closed
pub timed_next : (moment n : ℕ) (ks : List Client) (bs : List Bool) (b : Bool) → n < length bs → n < length ks
    → take n bs ≡ map (is_timed_out moment) (take n ks) → b ≡ is_timed_out_at moment (slice_get ks n)
    → take (n + 1) (set bs n b) ≡ map (is_timed_out moment) (take (n + 1) ks)
timed_next moment n ks bs b inside there so_far is =
    let up : n + 1 ≡ suc n = omega arith in
    rw up (take-suc-set bs n b inside ∙ (ap (λ (xs : List Bool). xs ++ b ∷ []) so_far
    ∙ (ap (λ (x : Bool). map (is_timed_out moment) (take n ks) ++ x ∷ []) is ∙ sym (timed_behind moment n ks there))))

dropped_behind : (n : ℕ) (bs : List Bool) (ks : List Client) (b : Bool) → n < length bs → n < length ks
    → b ≡ get_or bs n false
    → dropped_of (take (suc n) bs) (take (suc n) ks)
    ≡ dropped_of (take n bs) (take n ks) ++ (if b then dropped_at (slice_get ks n) else 0) ∷ []
dropped_behind n [] ks b lt there e = absurd (omega (arith, lt))
dropped_behind n (x ∷ bs) [] b lt there e = absurd (omega (arith, there))
dropped_behind zero (x ∷ bs) (k ∷ ks) b lt there e = ap (λ (c : Bool). (if c then k.dropped else 0) ∷ []) (sym e)
dropped_behind (suc n) (x ∷ bs) (k ∷ ks) b lt there e =
    ap (λ (ds : List ℕ). (if x then k.dropped else 0) ∷ ds)
    (dropped_behind n bs ks b (omega (arith, lt)) (omega (arith, there)) e)

-- what was dropped for one more
pub dropped_next : (n : ℕ) (bs : List Bool) (ks : List Client) (ds : List ℕ) (b : Bool) (d : ℕ) → n < length ds
    → n < length bs → n < length ks → take n ds ≡ dropped_of (take n bs) (take n ks) → b ≡ get_or bs n false
    → d ≡ (if b then dropped_at (slice_get ks n) else 0)
    → take (n + 1) (set ds n d) ≡ dropped_of (take (n + 1) bs) (take (n + 1) ks)
dropped_next n bs ks ds b d inside ends there so_far is_b is_d =
    let up : n + 1 ≡ suc n = omega arith in
    rw up (take-suc-set ds n d inside ∙ (ap (λ (xs : List ℕ). xs ++ d ∷ []) so_far
    ∙ (ap (λ (x : ℕ). dropped_of (take n bs) (take n ks) ++ x ∷ []) is_d
    ∙ sym (dropped_behind n bs ks b ends there is_b))))

offered_behind : (moment n : ℕ) (bs : List Bool) (ks : List Client) (b : Bool) → n < length bs → n < length ks
    → b ≡ get_or bs n false
    → or_offered moment (take (suc n) bs) (take (suc n) ks)
    ≡ or_offered moment (take n bs) (take n ks) ++ (b || has_offer moment (slice_get ks n)) ∷ []
offered_behind moment n [] ks b lt there e = absurd (omega (arith, lt))
offered_behind moment n (x ∷ bs) [] b lt there e = absurd (omega (arith, there))
offered_behind moment zero (x ∷ bs) (k ∷ ks) b lt there e =
    ap (λ (c : Bool). (c || offers_at moment k) ∷ []) (sym e)
offered_behind moment (suc n) (x ∷ bs) (k ∷ ks) b lt there e =
    ap (λ (cs : List Bool). (x || offers_at moment k) ∷ cs)
    (offered_behind moment n bs ks b (omega (arith, lt)) (omega (arith, there)) e)

-- whether one more has something
pub offered_next : (moment n : ℕ) (bs : List Bool) (ks : List Client) (cs : List Bool) (b d : Bool) → n < length cs
    → n < length bs → n < length ks → take n cs ≡ or_offered moment (take n bs) (take n ks) → b ≡ get_or bs n false
    → d ≡ (b || has_offer moment (slice_get ks n))
    → take (n + 1) (set cs n d) ≡ or_offered moment (take (n + 1) bs) (take (n + 1) ks)
offered_next moment n bs ks cs b d inside so there so_far is_b is_d =
    let up : n + 1 ≡ suc n = omega arith in
    rw up (take-suc-set cs n d inside ∙ (ap (λ (xs : List Bool). xs ++ d ∷ []) so_far
    ∙ (ap (λ (x : Bool). or_offered moment (take n bs) (take n ks) ++ x ∷ []) is_d
    ∙ sym (offered_behind moment n bs ks b so there is_b))))
