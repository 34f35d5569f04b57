-- What stands in a log, and what was seen of it before.
use Rattle.std.proofs.Common.{◌≡◌, ℕ, ◌<◌, ◌≤◌, ◌==◌, Bool, true, false, cond, List, []}
use Rattle.std.proofs.Common.{◌∷◌, ◌++◌, length, Option, Some, None, filter_map, refl, ap}
use Rattle.std.proofs.Common.{sym, subst, ◌∙◌, arith, length-append, append_assoc}
use Rattle.std.specs.Prelude.{reverse}
use Rattle.std.specs.List.{cons_option}
use Rattle.std.proofs.lemmas.List.{reverse-append}
use Rattle.std.proofs.lemmas.List.Elements.{filter_map-append}
use Rattle.std.proofs.lemmas.Bool.{eq-eqb}
use mathlib.Core.List.{IsPrefix}
use Rattle.logbook.specs.Pages.{Cell, cell}
use Rattle.run_log.specs.Follows.{of_lane}
use Rattle.run_log.specs.Rules.{AreHome, entries_in, entry_in, head_key, head_keys, lane_in, lane_key}
use Rattle.run_log.specs.Rules.{lane_keys, lanes_in, newest, older, visit_in, visits, with_entry}
use Rattle.run_log.specs.declared.link.Link.{Link}
use Rattle.run_log.specs.declared.link.Link.TheVariants.{Begun, Turn, Visited}
use Rattle.run_log.proofs.Cells.{whole}

pub prefix_trans : {A : Type 0} (xs ys zs : List A) → IsPrefix xs ys → IsPrefix ys zs → IsPrefix xs zs
prefix_trans xs ys zs p q = (p.0 ++ q.0, sym (append_assoc xs p.0 q.0) ∙ (ap (λ w. w ++ q.0) p.1 ∙ q.1))

-- what was known at first was seen, two steps later
pub since : {A : Type 0} (old start mid last : List A) → start ≡ old → IsPrefix start mid → IsPrefix mid last
    → IsPrefix old last
since {A} old start mid last same p q =
    prefix_trans old mid last (subst (λ (l : List A). IsPrefix l mid) same p) q

-- what three tokens knew, once they were brought together and two cells were added
pub record Learned {A : Type 0} (own mine whole now : List A) : Type 0 where
  pub own_is : IsPrefix own now
  pub mine_is : IsPrefix mine now
  pub whole_is : IsPrefix whole now

pub learned : {A : Type 0} (own mine whole all one now : List A) → IsPrefix own all → IsPrefix mine all
    → IsPrefix whole all → IsPrefix all one → IsPrefix one now → Learned own mine whole now
learned own mine whole all one now first second third p q =
    let rest : IsPrefix all now = prefix_trans all one now p q in record {
      own_is = prefix_trans own all now first rest;
      mine_is = prefix_trans mine all now second rest;
      whole_is = prefix_trans whole all now third rest;
    }

-- one link more, read newest first
pub past_then : {A : Type 0} (log grown : List A) (x : A) → grown ≡ log ++ x ∷ [] → reverse grown ≡ x ∷ reverse log
past_then log grown x is = ap reverse is ∙ reverse-append log (x ∷ [])

-- of a later past, what is picked is what is picked of what was added, and of the earlier one
pub picked : {A B : Type 0} (f : A → Option B) (xs ys : List A) → (p : IsPrefix xs ys)
    → filter_map f (reverse ys) ≡ filter_map f (reverse p.0) ++ filter_map f (reverse xs)
picked f xs ys p =
    ap (λ l. filter_map f (reverse l)) (sym p.1)
    ∙ (ap (filter_map f) (reverse-append xs p.0) ∙ filter_map-append f (reverse p.0) (reverse xs))

-- where no cell was named for the end, there are turns alone
no_entries : {E : Type 0} (past : List (Link E)) → filter_map head_key past ≡ [] → entries_in past ≡ []
no_entries [] none = refl
no_entries (Begun lane own next ∷ past) none = absurd (cc none)
no_entries (Turn lane own ∷ past) none = no_entries past none
no_entries (Visited lane entry next ∷ past) none = absurd (cc none)

no_lanes : {E : Type 0} (past : List (Link E)) → filter_map head_key past ≡ [] → filter_map lane_in past ≡ []
no_lanes [] none = refl
no_lanes (Begun lane own next ∷ past) none = absurd (cc none)
no_lanes (Turn lane own ∷ past) none = no_lanes past none
no_lanes (Visited lane entry next ∷ past) none = absurd (cc none)

no_visits : {E : Type 0} (lane : ℕ) (past : List (Link E)) → filter_map head_key past ≡ [] → visits lane past ≡ []
no_visits lane [] none = refl
no_visits lane (Begun other own next ∷ past) none = absurd (cc none)
no_visits lane (Turn other own ∷ past) none = no_visits lane past none
no_visits lane (Visited other entry next ∷ past) none = absurd (cc none)

-- who didn't visit the end added nothing
pub none_added : {E : Type 0} (lane : ℕ) (past : List (Link E)) → visits lane past ≡ []
    → of_lane lane (entries_in past) ≡ []
none_added lane [] none = refl
none_added lane (Begun other own next ∷ past) none = none_added lane past none
none_added lane (Turn other own ∷ past) none = none_added lane past none
none_added {E} lane (Visited other entry next ∷ past) none =
    go entry (lane == other) refl none (none_added lane past)
  where
    go : (entry : Option E) (b : Bool) → (lane == other) ≡ b
        → cons_option (cond b (Some next) None) (visits lane past) ≡ []
        → (visits lane past ≡ [] → of_lane lane (entries_in past) ≡ [])
        → of_lane lane (entries_in (Visited other entry next ∷ past)) ≡ []
    go entry true is none rest = absurd (cc none)
    go None false is none rest = rest none
    go (Some e) false is none rest =
        ap (λ (b : Bool). cons_option (cond b (Some e) None) (of_lane lane (entries_in past))) is ∙ rest none

-- what a visit adds
pub entries_then : {E : Type 0} (lane : ℕ) (entry : Option E) (next : ℕ) (past : List (Link E))
    → entries_in (Visited lane entry next ∷ past) ≡ with_entry lane entry (entries_in past)
entries_then lane None next past = refl
entries_then lane (Some entry) next past = refl

-- the end stands where it stood
pub record SameEnd {E : Type 0} (past later : List (Link E)) : Type 0 where
  pub keys : head_keys later ≡ head_keys past
  pub entries : entries_in later ≡ entries_in past
  pub lanes : lanes_in later ≡ lanes_in past
  pub visited : (lane : ℕ) → visits lane later ≡ visits lane past

head_some : {E : Type 0} (past : List (Link E)) → 0 < length (head_keys past)
head_some past = omega (arith, length-append (filter_map head_key past) (2 ∷ []))

-- who knows that the cell isn't at home that was named last for the end knows the end
pub same_end : {E : Type 0} (cs : List Cell) (v log : List (Link E)) → IsPrefix v log
    → AreHome cs (older (head_keys (reverse log))) → (cell cs (newest (head_keys (reverse v)))).1 ≡ false
    → SameEnd (reverse v) (reverse log)
same_end {E} cs v log pre home away =
    let more : List (Link E) = reverse pre.0 in
    let keys : head_keys (reverse log) ≡ filter_map head_key more ++ head_keys (reverse v) =
    ap (λ (l : List ℕ). l ++ 2 ∷ []) (picked head_key v log pre)
    ∙ append_assoc (filter_map head_key more) (filter_map head_key (reverse v)) (2 ∷ []) in
    let none : filter_map head_key more ≡ [] =
    whole cs (filter_map head_key more) (head_keys (reverse v)) (head_some (reverse v))
    (subst (λ (l : List ℕ). AreHome cs (older l)) keys home) away in
    record {
      keys = keys ∙ ap (λ (l : List ℕ). l ++ head_keys (reverse v)) none;
      entries = picked entry_in v log pre ∙ ap (λ (l : List (ℕ × E)). l ++ entries_in (reverse v)) (no_entries more none);
      lanes = ap length (picked lane_in v log pre)
          ∙ ap (λ (l : List ℕ). length (l ++ filter_map lane_in (reverse v))) (no_lanes more none);
      visited = λ lane.
          picked (visit_in lane) v log pre ∙ ap (λ (l : List ℕ). l ++ visits lane (reverse v)) (no_visits lane more none);
    }

-- and so for a lane
pub same_lane : {E : Type 0} (cs : List Cell) (lane : ℕ) (v log : List (Link E)) → IsPrefix v log
    → AreHome cs (older (lane_keys lane (reverse log))) → 0 < length (lane_keys lane (reverse v))
    → (cell cs (newest (lane_keys lane (reverse v)))).1 ≡ false
    → lane_keys lane (reverse log) ≡ lane_keys lane (reverse v)
same_lane {E} cs lane v log pre home some away =
    let more : List ℕ = filter_map (lane_key lane) (reverse pre.0) in
    let keys : lane_keys lane (reverse log) ≡ more ++ lane_keys lane (reverse v) = picked (lane_key lane) v log pre in
    let none : more ≡ [] =
    whole cs more (lane_keys lane (reverse v)) some (subst (λ (l : List ℕ). AreHome cs (older l)) keys home) away in
    keys ∙ ap (λ (l : List ℕ). l ++ lane_keys lane (reverse v)) none

-- a lane has no fewer cells, and no fewer visits, than it had
pub more_keys : {E : Type 0} (lane : ℕ) (v log : List (Link E)) → IsPrefix v log
    → length (lane_keys lane (reverse v)) ≤ length (lane_keys lane (reverse log))
more_keys lane v log pre = omega (
  arith,
  ap length (picked (lane_key lane) v log pre)
      ∙ length-append (filter_map (lane_key lane) (reverse pre.0)) (lane_keys lane (reverse v)),
)

pub more_visits : {E : Type 0} (lane : ℕ) (v log : List (Link E)) → IsPrefix v log
    → length (visits lane (reverse v)) ≤ length (visits lane (reverse log))
more_visits lane v log pre = omega (
  arith,
  ap length (picked (visit_in lane) v log pre)
      ∙ length-append (visits lane (reverse pre.0)) (visits lane (reverse v)),
)

pub same_number : (n : ℕ) → (n == n) ≡ true
same_number n = eq-eqb n n refl
