-- A request of an order is given: it asks what the order does, and what it may.
use Rattle.std.proofs.Common.{◌≡◌, ℕ, ◌≤◌, ◌<◌, Bool, true, false, cond, List, [], ◌∷◌}
use Rattle.std.proofs.Common.{◌++◌, map, Option, Some, option_map, refl, sym, ap, subst, ◌∙◌, arith}
use Rattle.std.specs.Prelude.{◌==◌, if◌then◌else◌}
use Rattle.std.specs.List.{AllByRecursion}
use Rattle.std.specs.Option.{option_to_list}
use Rattle.std.proofs.lemmas.Bool.{eqb-true, eq-eqb, ne_eqb}
use Rattle.gw_model.specs.First.{when}
use Rattle.gw_model.specs.declared.control.Order.{Order}
use Rattle.dnp_app.proofs.Operated.{operates_again}
use Rattle.dnp_app.specs.declared.operation.Operation.{Operation}
use Rattle.dnp_app.specs.declared.operation.Operation.TheVariants.{Select, Operate, DirectOperate}
use Rattle.dnp_app.specs.declared.request.Request.{Request}
use Rattle.dnp_app.specs.Operating.{Operating, operates_for, operating_of, request_intent}
use Rattle.dnp_app.specs.Requests.{octets_of}
use Rattle.gw_control.specs.declared.accepted.Accepted.{Accepted}
use Rattle.gw_control.specs.Controls.{is_sbo}
use Rattle.law_orders.specs.Executes.{Execute, numbered}
use Rattle.law_orders.specs.Marks.{Mark, Asked}
use Rattle.law_orders.specs.Bonds.{IsBonded, IsSelected, MayAsk, MayFollow, operation_in}
use Rattle.gw_control.specs.Orders.{Outgoing, Rise}
use Rattle.law_orders.proofs.Held.{held_at}
use Rattle.law_orders.proofs.Story.{Alike, AskedBy, IsOrder, Keeps, OfOrder, Story, Waits}
use Rattle.law_orders.proofs.Story.{WasSelected, apart, asking, mark_elsewhere, waits_kept, with_mark}

-- ---- what the request says

pub reads_again : (xs : List Execute) (o : ℕ) (order : Order) (operation : Operation) (n : ℕ) → IsOrder xs o order
    → n < 16 → operating_of (octets_of (asking operation order n))
    ≡ operates_for n operation order.intent.index order.intent.act
reads_again xs o order operation n k small =
    operates_again operation order.intent.index order.intent.act n small k.short k.fits

pub reads_operation : (xs : List Execute) (o : ℕ) (order : Order) (operation : Operation) (n : ℕ) → IsOrder xs o order
    → n < 16 → operation_in (asking operation order n) ≡ Some operation
reads_operation xs o order operation n k small =
    ap (option_map (λ (x : Operating). x.operation)) (reads_again xs o order operation n k small)

pub reads_intent : (xs : List Execute) (o : ℕ) (order : Order) (operation : Operation) (n : ℕ) → IsOrder xs o order
    → n < 16 → request_intent o (octets_of (asking operation order n)) ≡ Some order.intent
reads_intent xs o order operation n k small =
    subst (λ (p : ℕ). request_intent p (octets_of (asking operation order n)) ≡ Some order.intent) k.place
    (ap (option_map (λ (x : Operating). record { outstation = order.intent.outstation; index = x.index; act = x.act }))
    (reads_again xs o order operation n k small))

-- ---- the story

-- an order has one more mark
abbrev pub story_marked : ℕ → Mark → Story → Story
story_marked number mark t = record t { marks = with_mark number mark t.marks }

-- an outstation has another last request
abbrev pub last_after : ℕ → Request → (ℕ → Option Request) → ℕ → Option Request
last_after o r before p = if o == p then Some r else before p

abbrev pub story_given : ℕ → Request → Story → Story
story_given o r t = record t { last = last_after o r t.last }

pub last_here : (o : ℕ) (r : Request) (before : ℕ → Option Request) → last_after o r before o ≡ Some r
last_here o r before = rw (eq-eqb o o refl) refl

pub last_there : (o p : ℕ) (r : Request) (before : ℕ → Option Request) → (o ≡ p → ⊥)
    → last_after o r before p ≡ before p
last_there o p r before ne = rw (ne_eqb o p ne) refl

-- nothing new of another outstation
pub marked_apart : (t : Story) (o p : ℕ) (order : Order) (mark : Mark) → IsOrder t.executes o order → (o ≡ p → ⊥)
    → Alike t (story_marked order.number mark t) p
marked_apart t o p order mark k ne = record {
  keeps = λ n x e. e;
  marks = λ n x e there. mark_elsewhere order.number mark t.marks n
      (λ same. apart t.executes o p order n x k ne e there same);
  last = refl;
}

pub given_apart : (t new : Story) (o p : ℕ) (r : Request) → (o ≡ p → ⊥) → Alike t new p
    → Alike t (story_given o r new) p
given_apart t new o p r ne alike = record {
  keeps = alike.keeps;
  marks = alike.marks;
  last = last_there o p r new.last ne ∙ alike.last;
}

-- ---- what it may ask

-- a mark of an order that may follow what became of it
pub marked_bonded : (t : Story) (o : ℕ) (order : Order) (mark : Mark) → IsOrder t.executes o order
    → MayFollow order.sbo mark (t.marks order.number) → (n : ℕ) → OfOrder (numbered n t.executes) (t.marks n)
    → OfOrder (numbered n t.executes) (with_mark order.number mark t.marks n)
marked_bonded t o order mark k may n so_far = by (order.number == n) refl
  where
    at_it : order.number ≡ n → OfOrder (numbered n t.executes) (mark ∷ t.marks n)
    at_it same =
        let found : numbered n t.executes ≡ Some k.execute =
        ap (λ (i : ℕ). numbered i t.executes) (sym same) ∙ k.at in
        let before : IsBonded (is_sbo k.execute.control.mode) (t.marks n) =
        subst (λ (x : Option Execute). OfOrder x (t.marks n)) found so_far in
        let follows : MayFollow (is_sbo k.execute.control.mode) mark (t.marks n) =
        subst (λ (i : ℕ). MayFollow (is_sbo k.execute.control.mode) mark (t.marks i)) same
        (subst (λ (b : Bool). MayFollow b mark (t.marks order.number)) k.sbo may) in
        subst (λ (x : Option Execute). OfOrder x (mark ∷ t.marks n)) (sym found) (follows, before)

    by : (b : Bool) → (order.number == n) ≡ b
        → OfOrder (numbered n t.executes) (option_to_list (when b mark) ++ t.marks n)
    by true is = at_it (eqb-true order.number n is)
    by false other = so_far

-- the first function for an order
abbrev pub first_of_order : Bool → Operation
first_of_order sbo = cond sbo Select DirectOperate

may_ask_first : (sbo : Bool) (o : ℕ) (r : Request) → MayAsk sbo (Some (first_of_order sbo)) o r []
may_ask_first true o r = refl
may_ask_first false o r = refl

-- the order waited until now
pub may_first : (xs : List Execute) (o : ℕ) (order : Order) (n : ℕ) (ms : List Mark) → IsOrder xs o order → n < 16
    → ms ≡ [] → MayFollow order.sbo (Asked o (asking (first_of_order order.sbo) order n)) ms
may_first xs o order n ms k small none =
    let r : Request = asking (first_of_order order.sbo) order n in
    subst (λ (x : Option Operation). MayAsk order.sbo x o r ms)
    (sym (reads_operation xs o order (first_of_order order.sbo) n k small))
    (subst (MayAsk order.sbo (Some (first_of_order order.sbo)) o r) (sym none) (may_ask_first order.sbo o r))

-- SELECT succeeded
pub may_operate : (xs : List Execute) (o : ℕ) (order : Order) (n : ℕ) (ms : List Mark) → IsOrder xs o order → n < 16
    → WasSelected o order ms → MayFollow order.sbo (Asked o (asking Operate order n)) ms
may_operate xs o order n ms k small selected =
    let r : Request = asking Operate order n in
    let is : IsSelected o r ms = record {
      selecting = asking Select order selected.sequence;
      marks = selected.is;
      select = reads_operation xs o order Select selected.sequence k selected.small;
      same = reads_intent xs o order Select selected.sequence k selected.small
          ∙ sym (reads_intent xs o order Operate n k small);
    } in
    subst (λ (b : Bool). MayAsk b (operation_in r) o r ms) (sym selected.sbo)
    (subst (λ (x : Option Operation). MayAsk true x o r ms) (sym (reads_operation xs o order Operate n k small)) is)

asked_so : (o : ℕ) (order : Order) (n : ℕ) (b : Bool) (ms : List Mark) → order.sbo ≡ b → ms ≡ []
    → AskedBy o (first_of_order b) order n (Asked o (asking (first_of_order b) order n) ∷ ms)
asked_so o order n true ms is none = (is, ap (λ (xs : List Mark). Asked o (asking Select order n) ∷ xs) none)
asked_so o order n false ms is none = (is, ap (λ (xs : List Mark). Asked o (asking DirectOperate order n) ∷ xs) none)

pub asked_first : (o : ℕ) (order : Order) (n : ℕ) (ms : List Mark) → ms ≡ []
    → AskedBy o (first_of_order order.sbo) order n (Asked o (asking (first_of_order order.sbo) order n) ∷ ms)
asked_first o order n ms none = asked_so o order n order.sbo ms refl none

-- ---- orders that wait behind it

abbrev pub Above : ℕ → List Accepted → Type 0
Above k xs = AllByRecursion (λ (x : Accepted). k < x.order.number) xs

-- all numbers are above this
pub all_above : (low high : ℕ) (xs : List Accepted) → Rise low high (map (λ x. x.order.number) xs) → Above low xs
all_above low high [] rise = tt
all_above low high (x ∷ xs) rise =
    (rise.0, above_too low x.order.number xs rise.0 (all_above x.order.number high xs rise.1))
  where
    above_too : (low middle : ℕ) (xs : List Accepted) → low < middle → Above middle xs → Above low xs
    above_too low middle [] lt above = tt
    above_too low middle (x ∷ xs) lt above =
        let first : middle < x.order.number = above.0 in (omega (arith, lt, first), above_too low middle xs lt above.1)

-- they wait as before
pub waits_behind : (t new : Story) (o k : ℕ) (mark : Mark) (xs : List Accepted) → Keeps t.executes new.executes
    → ((n : ℕ) → new.marks n ≡ with_mark k mark t.marks n) → Above k xs → AllByRecursion (Waits t o) xs
    → AllByRecursion (Waits new o) xs
waits_behind t new o k mark [] keeps marks above all = tt
waits_behind t new o k mark (x ∷ xs) keeps marks above all = (
  waits_kept t new o x keeps
      (marks x.order.number ∙ mark_elsewhere k mark t.marks x.order.number (λ is. omega (arith, above.0, is))) all.0,
  waits_behind t new o k mark xs keeps marks above.1 all.1,
)

-- nothing becomes of orders that aren't there, where this one is
pub marked_kept : (number : ℕ) (mark : Mark) (before : ℕ → List Mark) (q : Option Outgoing) → 1 ≤ held_at number q
    → (n : ℕ) → held_at n q ≡ 0 → with_mark number mark before n ≡ before n
marked_kept number mark before q there n none =
    mark_elsewhere number mark before n
    (λ same. let other : held_at number q ≡ 0 = ap (λ (i : ℕ). held_at i q) same ∙ none in omega (arith, other, there))
