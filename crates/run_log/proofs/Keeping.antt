-- Each kind of link keeps the rule of lanes and of the end, once the cell has come home that it had to.
use Rattle.std.proofs.Common.{◌≡◌, ℕ, suc, ◌<◌, ◌≤◌, ◌==◌, Bool, true, false, cond, List, []}
use Rattle.std.proofs.Common.{◌∷◌, length, Option, Some, None, refl, ap, sym, subst, arith}
use Rattle.std.specs.List.{cons_option}
use Rattle.std.proofs.lemmas.Bool.{eqb-true}
use Rattle.logbook.specs.Pages.{Cell}
use Rattle.run_log.specs.Rules.{AreHome, IsKeptLane, IsKeptPast, head_keys, lane_keys, lanes_in, newest, older, visits}
use Rattle.run_log.specs.declared.link.Link.{Link}
use Rattle.run_log.specs.declared.link.Link.TheVariants.{Begun, Turn, Visited}
use Rattle.run_log.proofs.Cells.{IsHome, Still, all_home, still_home}

older_length : (keys : List ℕ) → length (older keys) ≤ length keys
older_length [] = omega arith
older_length (key ∷ keys) = omega arith

pub still_kept : (cs new : List Cell) → Still cs new → (lanes lane : ℕ) (keys visited : List ℕ)
    → IsKeptLane cs lanes lane keys visited → IsKeptLane new lanes lane keys visited
still_kept cs new still lanes lane keys visited kept =
    record { home = still_home cs new still (older keys) kept.home; turns = kept.turns; begun = kept.begun }

module _ {E : Type 0} (cs new : List Cell) (still : Still cs new) (past : List (Link E)) (kept : IsKeptPast cs past) where
  -- a turn, once the newest cell of its lane is at home
  pub turn_keeps : (lane own : ℕ) → 0 < length (lane_keys lane past) → IsHome new (newest (lane_keys lane past))
      → IsKeptPast new (Turn lane own ∷ past)
  turn_keeps lane own some here = record {
    home = still_home cs new still (older (head_keys past)) kept.home;
    lanes = λ other. go other (other == lane) refl;
  }
    where
      go : (other : ℕ) (b : Bool) → (other == lane) ≡ b
          → IsKeptLane new (lanes_in past) other (cons_option (cond b (Some own) None) (lane_keys other past))
          (visits other past)
      go other true is =
          let same : other ≡ lane = eqb-true other lane is in
          let was = kept.lanes other in
          let keys : List ℕ = lane_keys other past in
          let some_key : 0 < length keys = subst (λ (l : ℕ). 0 < length (lane_keys l past)) (sym same) some in
          let there : IsHome new (newest keys) =
          subst (λ (l : ℕ). IsHome new (newest (lane_keys l past))) (sym same) here in
          record {
            home = all_home cs new still keys was.home there;
            turns = omega (arith, was.turns, older_length keys);
            begun = λ early. absurd (omega (arith, some_key, ap length (was.begun early)));
          }
      go other false is =
          still_kept cs new still (lanes_in past) other (lane_keys other past) (visits other past) (kept.lanes other)

  -- a visit, once the newest cell that was named for the end is at home, where its lane has a turn left
  pub visited_keeps : (lane : ℕ) (entry : Option E) (next : ℕ)
      → length (visits lane past) < length (older (lane_keys lane past)) → IsHome new (newest (head_keys past))
      → IsKeptPast new (Visited lane entry next ∷ past)
  visited_keeps lane entry next left here = record {
    home = all_home cs new still (head_keys past) kept.home here;
    lanes = λ other. go other (other == lane) refl;
  }
    where
      go : (other : ℕ) (b : Bool) → (other == lane) ≡ b
          → IsKeptLane new (lanes_in past) other (lane_keys other past)
          (cons_option (cond b (Some next) None) (visits other past))
      go other true is =
          let was = kept.lanes other in
          let turn : length (visits other past) < length (older (lane_keys other past)) =
          subst (λ (l : ℕ). length (visits l past) < length (older (lane_keys l past))) (sym (eqb-true other lane is)) left in
          record {
            home = still_home cs new still (older (lane_keys other past)) was.home;
            turns = omega (arith, turn);
            begun = was.begun;
          }
      go other false is =
          still_kept cs new still (lanes_in past) other (lane_keys other past) (visits other past) (kept.lanes other)

  -- a lane that is begun, once the newest cell that was named for the end is at home
  pub begun_keeps : (lane own next : ℕ) → lane ≡ lanes_in past → IsHome new (newest (head_keys past))
      → IsKeptPast new (Begun lane own next ∷ past)
  begun_keeps lane own next is_next here = record {
    home = all_home cs new still (head_keys past) kept.home here;
    lanes = λ other. go other (other == lane) refl;
  }
    where
      go : (other : ℕ) (b : Bool) → (other == lane) ≡ b
          → IsKeptLane new (suc (lanes_in past)) other (cons_option (cond b (Some own) None) (lane_keys other past))
          (visits other past)
      go other true is =
          let same : other ≡ lane = eqb-true other lane is in
          let was = kept.lanes other in
          let keys : List ℕ = lane_keys other past in
          let none : keys ≡ [] = was.begun (omega (arith, same, is_next)) in
          record {
            home = subst (AreHome new) (sym none) tt;
            turns = omega (arith, was.turns, older_length keys);
            begun = λ early. absurd (omega (arith, early, same, is_next));
          }
      go other false is =
          let was = kept.lanes other in
          let keys : List ℕ = lane_keys other past in
          record {
            home = still_home cs new still (older keys) was.home;
            turns = was.turns;
            begun = λ early. was.begun (omega (arith, early));
          }
