-- What the holders of pens may add, and what they know then.
use Rattle.std.proofs.Common.{◌≡◌, ℕ, ◌+◌, ◌<◌, ◌≤◌, Bool, false, cond, List, [], ◌∷◌, ◌++◌}
use Rattle.std.proofs.Common.{length, Option, Some, None, refl, ap, sym, subst, ◌∙◌, arith, length-append}
use Rattle.std.specs.Prelude.{reverse}
use Rattle.std.specs.List.{cons_option}
use mathlib.Core.List.{IsPrefix}
use Rattle.logbook.specs.Pages.{Book, Step, View, cell}
use Rattle.logbook.specs.declared.tokens.Pen.{Pen}
use Rattle.run_log.specs.Follows.{Follows}
use Rattle.run_log.specs.Rules.{Adds, HasTurn, IsPenOf, entries_in, entry_in, head_keys, lane_keys}
use Rattle.run_log.specs.Rules.{lane_of, lanes_in, newest, older, visit_in, visits, with_entry}
use Rattle.run_log.specs.declared.link.Link.{Link}
use Rattle.run_log.specs.declared.link.Link.TheVariants.{Begun, Turn, Visited}
use Rattle.run_log.proofs.Adding.{Keeps}
use Rattle.run_log.proofs.Cells.{IsHome}
use Rattle.run_log.proofs.Keeping.{begun_keeps, turn_keeps, visited_keeps}
use Rattle.run_log.proofs.Pasts.{SameEnd, entries_then, more_keys, more_visits, none_added}
use Rattle.run_log.proofs.Pasts.{past_then, picked, prefix_trans, same_end, same_lane, same_number}

older_is : (keys : List ℕ) (n : ℕ) → length keys ≡ n + 1 → length (older keys) ≡ n
older_is [] n is = absurd (omega (arith, is))
older_is (key ∷ keys) n is = omega (arith, is)

older_left : (keys : List ℕ) (n : ℕ) → n + 1 < length keys → n < length (older keys)
older_left [] n less = absurd (omega (arith, less))
older_left (key ∷ keys) n less = omega (arith, less)

none_left : {A : Type 0} (xs : List A) → length xs ≤ 0 → xs ≡ []
none_left [] few = refl
none_left (x ∷ xs) few = absurd (omega (arith, few))

abbrev pub turns : {E : Type 0} → ℕ → List (Link E) → ℕ
turns lane log = length (lane_keys lane (reverse log))

abbrev pub used : {E : Type 0} → ℕ → List (Link E) → ℕ
used lane log = length (visits lane (reverse log))

-- who has the pen of the lane's newest cell may take a turn
pub may_turn : {E : Type 0} (lane own : ℕ) (first v : List (Link E)) → IsPrefix first v → 0 < turns lane first
    → Keeps v (Turn lane own) (newest (lane_keys lane (reverse first)))
may_turn lane own first v since some cs log kept pre away new still here =
    let before : IsPrefix first log = prefix_trans first v log since pre in
    let same : lane_keys lane (reverse log) ≡ lane_keys lane (reverse first) =
    same_lane cs lane first log before (kept.lanes lane).home some away in
    turn_keeps cs new still (reverse log) kept lane own
    (subst (λ (l : List ℕ). 0 < length l) (sym same) some)
    (subst (λ (l : List ℕ). IsHome new (newest l)) (sym same) here)

-- who has the pen of the end's newest cell may let a lane visit the end that has a turn left
pub may_visit : {E : Type 0} (lane : ℕ) (entry : Option E) (next : ℕ) (whole v : List (Link E)) → IsPrefix whole v
    → used lane whole + 1 < turns lane v → Keeps v (Visited lane entry next) (newest (head_keys (reverse whole)))
may_visit lane entry next whole v since left cs log kept pre away new still here =
    let same : SameEnd (reverse whole) (reverse log) =
    same_end cs whole log (prefix_trans whole v log since pre) kept.home away in
    let as_many : used lane log ≡ used lane whole = ap length (same.visited lane) in
    visited_keeps cs new still (reverse log) kept lane entry next
    (older_left (lane_keys lane (reverse log)) (used lane log) (omega (arith, left, as_many, more_keys lane v log pre)))
    (subst (λ (l : List ℕ). IsHome new (newest l)) (sym same.keys) here)

-- and may begin the next lane
pub may_begin : {E : Type 0} (lane own next : ℕ) (whole v : List (Link E)) → IsPrefix whole v
    → lane ≡ lanes_in (reverse whole) → Keeps v (Begun lane own next) (newest (head_keys (reverse whole)))
may_begin lane own next whole v since is cs log kept pre away new still here =
    let same : SameEnd (reverse whole) (reverse log) =
    same_end cs whole log (prefix_trans whole v log since pre) kept.home away in
    begun_keeps cs new still (reverse log) kept lane own next (is ∙ sym same.lanes)
    (subst (λ (l : List ℕ). IsHome new (newest l)) (sym same.keys) here)

-- what is known once a lane was begun
pub record AfterBegun {E : Type 0} (own : ℕ) (whole w : List (Link E)) : Type 0 where
  pub lane : lane_of (reverse w) ≡ lanes_in (reverse whole)
  pub lanes : lanes_in (reverse w) ≡ lanes_in (reverse whole) + 1
  pub entries : entries_in (reverse w) ≡ entries_in (reverse whole)
  pub keys : lane_keys (lanes_in (reverse whole)) (reverse w) ≡ own ∷ []
  pub unused : visits (lanes_in (reverse whole)) (reverse w) ≡ []

pub after_begun : {E : Type 0} {s : Step (Link E)} {v w : View (Link E) ℕ} {found : ℕ} (lane own next : ℕ)
    (whole : List (Link E)) → s.ask ≡ Begun lane own next → lane ≡ lanes_in (reverse whole) → IsPrefix whole v.0
    → v.1.0.key ≡ newest (head_keys (reverse whole)) → Adds s v found w → AfterBegun own whole w.0
after_begun {E} {s} {v} {w} lane own next whole asked lane_is seen key_is added =
    let log : List (Link E) = added.log in
    let away = subst (λ (k : ℕ). (cell added.cells k).1 ≡ false) key_is added.away in
    let pre : IsPrefix whole log = prefix_trans whole v.0 log seen added.seen in
    let is : w.0 ≡ log ++ Begun lane own next ∷ [] = added.is ∙ ap (λ (e : Link E). log ++ e ∷ []) asked in
    let same : SameEnd (reverse whole) (reverse log) = same_end added.cells whole log pre added.kept.home away in
    let past : reverse w.0 ≡ Begun lane own next ∷ reverse log = past_then log w.0 (Begun lane own next) is in
    let was = added.kept.lanes lane in
    let none : lane_keys lane (reverse log) ≡ [] = was.begun (omega (arith, lane_is, same.lanes)) in
    let unused : visits lane (reverse log) ≡ [] =
    none_left (visits lane (reverse log))
    (subst (λ (l : List ℕ). used lane log ≤ length (older l)) none was.turns) in
    let here : lane_keys lane (reverse w.0) ≡ own ∷ [] =
    ap (lane_keys lane) past
    ∙ (ap (λ (b : Bool). cons_option (cond b (Some own) None) (lane_keys lane (reverse log))) (same_number lane)
    ∙ ap (λ (l : List ℕ). own ∷ l) none) in
    record {
      lane = ap lane_of past ∙ lane_is;
      lanes = omega (arith, ap lanes_in past, same.lanes);
      entries = ap entries_in past ∙ same.entries;
      keys = subst (λ (n : ℕ). lane_keys n (reverse w.0) ≡ own ∷ []) lane_is here;
      unused = subst (λ (n : ℕ). visits n (reverse w.0) ≡ []) lane_is (ap (visits lane) past ∙ unused);
    }

-- what is known once a turn was taken
pub record AfterTurn {E : Type 0} (lane own : ℕ) (first mine whole w : List (Link E)) : Type 0 where
  pub lane_is : lane_of (reverse w) ≡ lane
  pub keys : lane_keys lane (reverse w) ≡ own ∷ lane_keys lane (reverse first)
  pub few : used lane whole ≤ used lane mine
  pub turns_are : turns lane w ≡ used lane mine + 2

pub after_turn : {E : Type 0} {s : Step (Link E)} {v w : View (Link E) ℕ} {found : ℕ} (lane own : ℕ)
    (first mine whole : List (Link E)) → s.ask ≡ Turn lane own → IsPrefix first v.0 → IsPrefix whole v.0
    → turns lane first ≡ used lane mine + 1 → v.1.0.key ≡ newest (lane_keys lane (reverse first))
    → Adds s v found w → AfterTurn lane own first mine whole w.0
after_turn {E} {s} {v} {w} lane own first mine whole asked seen seen_whole turn key_is added =
    let log : List (Link E) = added.log in
    let away = subst (λ (k : ℕ). (cell added.cells k).1 ≡ false) key_is added.away in
    let pre : IsPrefix first log = prefix_trans first v.0 log seen added.seen in
    let pre_whole : IsPrefix whole log = prefix_trans whole v.0 log seen_whole added.seen in
    let is : w.0 ≡ log ++ Turn lane own ∷ [] = added.is ∙ ap (λ (e : Link E). log ++ e ∷ []) asked in
    let was = added.kept.lanes lane in
    let same : lane_keys lane (reverse log) ≡ lane_keys lane (reverse first) =
    same_lane added.cells lane first log pre was.home (omega (arith, turn)) away in
    let past : reverse w.0 ≡ Turn lane own ∷ reverse log = past_then log w.0 (Turn lane own) is in
    let here : lane_keys lane (reverse w.0) ≡ own ∷ lane_keys lane (reverse first) =
    ap (lane_keys lane) past
    ∙ (ap (λ (b : Bool). cons_option (cond b (Some own) None) (lane_keys lane (reverse log))) (same_number lane)
    ∙ ap (λ (l : List ℕ). own ∷ l) same) in
    let most : used lane log ≤ length (older (lane_keys lane (reverse first))) =
    subst (λ (l : List ℕ). used lane log ≤ length (older l)) same was.turns in
    record {
      lane_is = ap lane_of past;
      keys = here;
      few = omega (
        arith,
        more_visits lane whole log pre_whole,
        most,
        older_is (lane_keys lane (reverse first)) (used lane mine) turn,
      );
      turns_are = omega (arith, ap length here, turn);
    }

-- what was added since what was known of a lane is of other lanes
apart : {E : Type 0} (lane : ℕ) (mine whole log : List (Link E)) → IsPrefix mine log
    → SameEnd (reverse whole) (reverse log) → used lane whole ≤ used lane mine
    → Follows lane (entries_in (reverse mine)) (entries_in (reverse whole))
apart lane mine whole log pre same few =
    let newer : List ℕ = visits lane (reverse pre.0) in
    let all : visits lane (reverse log) ≡ newer ++ visits lane (reverse mine) = picked (visit_in lane) mine log pre in
    record {
      newer = entries_in (reverse pre.0);
      is = sym same.entries ∙ picked entry_in mine log pre;
      apart = none_added lane (reverse pre.0) (none_left newer (omega (
        arith,
        few,
        ap length (same.visited lane),
        ap length all ∙ length-append newer (visits lane (reverse mine)),
      )));
    }

-- what is known once a lane visited the end
pub record AfterVisit {E : Type 0} (lane : ℕ) (entry : Option E) (mine whole w : List (Link E)) : Type 0 where
  pub entries : entries_in (reverse w) ≡ with_entry lane entry (entries_in (reverse whole))
  pub lanes : lanes_in (reverse w) ≡ lanes_in (reverse whole)
  pub turns_are : used lane w ≡ used lane mine + 1
  pub follows : Follows lane (entries_in (reverse mine)) (entries_in (reverse whole))

pub after_visit : {E : Type 0} {s : Step (Link E)} {v w : View (Link E) ℕ} {found : ℕ} (lane : ℕ) (entry : Option E)
    (next : ℕ) (mine whole : List (Link E)) → s.ask ≡ Visited lane entry next → IsPrefix mine v.0 → IsPrefix whole v.0
    → used lane whole ≤ used lane mine → v.1.0.key ≡ newest (head_keys (reverse whole)) → Adds s v found w
    → AfterVisit lane entry mine whole w.0
after_visit {E} {s} {v} {w} lane entry next mine whole asked seen seen_whole few key_is added =
    let log : List (Link E) = added.log in
    let away = subst (λ (k : ℕ). (cell added.cells k).1 ≡ false) key_is added.away in
    let pre : IsPrefix mine log = prefix_trans mine v.0 log seen added.seen in
    let pre_whole : IsPrefix whole log = prefix_trans whole v.0 log seen_whole added.seen in
    let is : w.0 ≡ log ++ Visited lane entry next ∷ [] = added.is ∙ ap (λ (e : Link E). log ++ e ∷ []) asked in
    let same : SameEnd (reverse whole) (reverse log) = same_end added.cells whole log pre_whole added.kept.home away in
    let past : reverse w.0 ≡ Visited lane entry next ∷ reverse log = past_then log w.0 (Visited lane entry next) is in
    let here : visits lane (reverse w.0) ≡ next ∷ visits lane (reverse log) =
    ap (visits lane) past
    ∙ ap (λ (b : Bool). cons_option (cond b (Some next) None) (visits lane (reverse log))) (same_number lane) in
    record {
      entries = ap entries_in past
          ∙ (entries_then lane entry next (reverse log) ∙ ap (with_entry lane entry) same.entries);
      lanes = ap lanes_in past ∙ same.lanes;
      turns_are = omega (arith, ap length here, few, more_visits lane mine log pre, ap length (same.visited lane));
      follows = apart lane mine whole log pre same few;
    }

-- the pen and the counts of a lane, from those of the number that it has
has_turn : {E : Type 0} (lane : ℕ) (book : Book) (own seen : List (Link E)) (pen : Pen) → lane_of own ≡ lane
    → IsPenOf book (newest (lane_keys lane own)) pen
    → length (lane_keys lane own) ≡ length (visits lane seen) + 1 → HasTurn book own seen pen
has_turn lane book own seen pen is is_pen turn = record {
  is_pen = subst (λ (l : ℕ). IsPenOf book (newest (lane_keys l own)) pen) (sym is) is_pen;
  turns = subst (λ (l : ℕ). length (lane_keys l own) ≡ length (visits l seen) + 1) (sym is) turn;
}

pub begun_turn : {E : Type 0} (own : ℕ) (book : Book) (whole w : List (Link E)) (pen : Pen) → AfterBegun own whole w
    → IsPenOf book own pen → HasTurn book (reverse w) (reverse w) pen
begun_turn own book whole w pen known pen_is =
    has_turn (lanes_in (reverse whole)) book (reverse w) (reverse w) pen known.lane
    (pen_is.0, pen_is.1, pen_is.2 ∙ sym (ap newest known.keys))
    (omega (arith, ap length known.keys, ap length known.unused))

pub visited_turn : {E : Type 0} (lane own : ℕ) (entry : Option E) (book : Book) (first mine whole w1 w2 : List (Link E))
    (pen : Pen) → AfterTurn lane own first mine whole w1 → AfterVisit lane entry mine whole w2 → IsPenOf book own pen
    → HasTurn book (reverse w1) (reverse w2) pen
visited_turn lane own entry book first mine whole w1 w2 pen turn known pen_is =
    has_turn lane book (reverse w1) (reverse w2) pen turn.lane_is
    (pen_is.0, pen_is.1, pen_is.2 ∙ sym (ap newest turn.keys)) (omega (arith, turn.turns_are, known.turns_are))
