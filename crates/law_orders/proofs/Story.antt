-- What a history tells of orders, and what ties the state to it.
use Rattle.std.proofs.Common.{◌≡◌, ℕ, suc, ◌≤◌, ◌<◌, ◌^◌, Bool, true, false, cond, List, []}
use Rattle.std.proofs.Common.{◌∷◌, ◌++◌, length, Option, Some, None, refl, sym, ap, subst, ◌∙◌, arith}
use Rattle.std.specs.Prelude.{◌==◌, slice_get}
use Rattle.std.specs.List.{AllByRecursion}
use Rattle.std.specs.Option.{option_to_list}
use Rattle.std.proofs.lemmas.Bool.{eqb-true, eq-eqb, ne_eqb}
use Rattle.gw_model.specs.First.{when}
use Rattle.gw_model.specs.declared.control.Order.{Order}
use Rattle.gw_map.specs.Settings.{Setup}
use Rattle.gw_picture.proofs.Lists.{some_is}
use Rattle.dnp_app.proofs.Operated.{FitsObject}
use Rattle.dnp_app.specs.declared.operation.Operation.{Operation}
use Rattle.dnp_app.specs.declared.operation.Operation.TheVariants.{Select, Operate, DirectOperate}
use Rattle.dnp_app.specs.declared.request.Request.{Request}
use Rattle.dnp_master.specs.declared.exchange.Exchange.{Exchange}
use Rattle.dnp_master.specs.declared.exchange.Exchange.TheVariants.{Idle, Waiting, Selected}
use Rattle.dnp_master.specs.declared.task.Task.{Task}
use Rattle.dnp_master.specs.declared.task.Task.TheVariants.{Command}
use Rattle.dnp_master.specs.Master.{Master, task_request}
use Rattle.gw_control.specs.declared.accepted.Accepted.{Accepted}
use Rattle.gw_control.specs.declared.accepted.UnderWay.{UnderWay}
use Rattle.gw_control.specs.Controls.{Controls, is_sbo}
use Rattle.gw_control.specs.Intents.{command_intent}
use Rattle.gw_control.specs.Orders.{Outgoing}
use Rattle.gw_steps.specs.Runs.{Entry}
use Rattle.gw_steps.specs.Controls.{is_up_at}
use Rattle.law_orders.specs.Executes.{Execute, executes, numbered}
use Rattle.law_orders.specs.Marks.{Mark, Asked, Answered, last_request, marks}
use Rattle.law_orders.specs.Bonds.{IsBonded}
use Rattle.law_orders.proofs.Held.{under_way_at, waiting_at}

pub record Story : Type 0 where
  pub executes : List Execute
  pub marks : ℕ → List Mark
  pub last : ℕ → Option Request

abbrev pub story : Setup → List Entry → Story
story setup past =
    record { executes = executes setup past; marks = λ n. marks n past; last = λ o. last_request o past }

-- ---- numbers of executes

pub numbered_below : (n : ℕ) (xs : List Execute) (x : Execute) → numbered n xs ≡ Some x → n ≤ length xs
numbered_below n [] x e = absurd cc
numbered_below n (y ∷ ys) x e = by (λ found. numbered_below n ys x found) (n == suc (length ys)) refl e
  where
    by : (numbered n ys ≡ Some x → n ≤ length ys) → (b : Bool) → (n == suc (length ys)) ≡ b
        → cond b (Some y) (numbered n ys) ≡ Some x → n ≤ suc (length ys)
    by older true is found = omega (arith, eqb-true n (suc (length ys)) is)
    by older false other found = omega (arith, older found)

-- one more execute leaves the others their numbers
pub numbered_still : (n : ℕ) (xs : List Execute) (x y : Execute) → numbered n xs ≡ Some x → numbered n (y ∷ xs) ≡ Some x
numbered_still n xs x y e =
    let low : n ≤ length xs = numbered_below n xs x e in
    let differs : (n == suc (length xs)) ≡ false = ne_eqb n (suc (length xs)) (λ is. omega (arith, low, is)) in
    rw differs e

-- ---- what the state has to do with it

-- the request by which an order is given
abbrev pub asking : Operation → Order → ℕ → Request
asking operation order n = task_request (Command operation order) n

-- an order towards an outstation is that of an accepted execute for one of its controls
pub record IsOrder (xs : List Execute) (o : ℕ) (order : Order) : Type 0 where
  pub execute : Execute
  pub at : numbered order.number xs ≡ Some execute
  pub there : execute.control.outstation ≡ o
  pub sbo : order.sbo ≡ is_sbo execute.control.mode
  pub means : command_intent execute.control execute.command ≡ Some order.intent
  pub place : order.intent.outstation ≡ o
  pub short : order.intent.index < 2 ^ 16
  pub fits : FitsObject order.intent.act

-- the client and the command of an order are those of its execute
pub record IsOf (xs : List Execute) (x : Accepted) : Type 0 where
  pub execute : Execute
  pub at : numbered x.order.number xs ≡ Some execute
  pub client : execute.client ≡ x.client
  pub command : execute.command ≡ x.command

-- it waits, so nothing was asked for it
pub record Waits (t : Story) (o : ℕ) (x : Accepted) : Type 0 where
  pub order : IsOrder t.executes o x.order
  pub of : IsOf t.executes x
  pub unmarked : t.marks x.order.number ≡ []

-- it is under way
pub record Sends (t : Story) (o : ℕ) (order : Order) (under_way : Option UnderWay) : Type 0 where
  pub way : UnderWay
  pub is : under_way ≡ Some way
  pub same : way.accepted.order ≡ order
  pub order_is : IsOrder t.executes o order
  pub of : IsOf t.executes way.accepted

-- its SELECT succeeded
pub record WasSelected (o : ℕ) (order : Order) (ms : List Mark) : Type 0 where
  pub sbo : order.sbo ≡ true
  pub sequence : ℕ
  pub small : sequence < 16
  pub is : ms ≡ Answered true ∷ Asked o (asking Select order sequence) ∷ []

-- its request by a function awaits an answer
abbrev pub AskedBy : ℕ → Operation → Order → ℕ → List Mark → Type 0
AskedBy o Select order n ms = (order.sbo ≡ true) × (ms ≡ Asked o (asking Select order n) ∷ [])
AskedBy o DirectOperate order n ms = (order.sbo ≡ false) × (ms ≡ Asked o (asking DirectOperate order n) ∷ [])
AskedBy o Operate order n ms =
    (before : List Mark) × WasSelected o order before × (ms ≡ Asked o (asking Operate order n) ∷ before)

abbrev pub ForTask : Story → ℕ → ℕ → Task → Option UnderWay → Type 0
ForTask t o n (Command operation order) under_way =
    Sends t o order under_way × AskedBy o operation order n (t.marks order.number)
ForTask t o n _ under_way = under_way ≡ None

pub record Awaits (t : Story) (o : ℕ) (task : Task) (under_way : Option UnderWay) : Type 0 where
  pub sequence : ℕ
  pub small : sequence < 16
  pub last : t.last o ≡ Some (task_request task sequence)
  pub sent : ForTask t o sequence task under_way

abbrev pub GoesOn : Story → ℕ → Exchange → Option UnderWay → Type 0
GoesOn t o Idle under_way = under_way ≡ None
GoesOn t o (Waiting w) under_way = Awaits t o w.task under_way
GoesOn t o (Selected order) under_way = Sends t o order under_way × WasSelected o order (t.marks order.number)

abbrev pub exchange_at : Option Master → Exchange
exchange_at None = Idle
exchange_at (Some m) = m.exchange

abbrev pub sequence_at : Option Master → ℕ
sequence_at None = 0
sequence_at (Some m) = m.sequence

-- towards one outstation
pub record Holds (t : Story) (o : ℕ) (m : Option Master) (q : Option Outgoing) : Type 0 where
  pub waiting : AllByRecursion (Waits t o) (waiting_at q)
  pub going : GoesOn t o (exchange_at m) (under_way_at q)
  pub small : sequence_at m < 16
  pub down : is_up_at m ≡ false → exchange_at m ≡ Idle

abbrev pub OfOrder : Option Execute → List Mark → Type 0
OfOrder None ms = ms ≡ []
OfOrder (Some x) ms = IsBonded (is_sbo x.control.mode) ms

pub record Tied (t : Story) (masters : List Master) (v : Controls) : Type 0 where
  pub count : v.ordered ≡ length t.executes
  pub places : (o : ℕ) → Holds t o (slice_get masters o) (slice_get v.outgoing o)
  pub bonded : (n : ℕ) → OfOrder (numbered n t.executes) (t.marks n)

-- ---- a story that tells nothing new of an outstation

abbrev pub Keeps : List Execute → List Execute → Type 0
Keeps xs ys = (n : ℕ) (x : Execute) → numbered n xs ≡ Some x → numbered n ys ≡ Some x

pub record Alike (t new : Story) (o : ℕ) : Type 0 where
  pub keeps : Keeps t.executes new.executes
  pub marks : (n : ℕ) (x : Execute) → numbered n t.executes ≡ Some x → x.control.outstation ≡ o
      → new.marks n ≡ t.marks n
  pub last : new.last o ≡ t.last o

pub order_kept : (xs ys : List Execute) (o : ℕ) (order : Order) → Keeps xs ys → IsOrder xs o order → IsOrder ys o order
order_kept xs ys o order keeps k = record {
  execute = k.execute;
  at = keeps order.number k.execute k.at;
  there = k.there;
  sbo = k.sbo;
  means = k.means;
  place = k.place;
  short = k.short;
  fits = k.fits;
}

pub of_kept : (xs ys : List Execute) (x : Accepted) → Keeps xs ys → IsOf xs x → IsOf ys x
of_kept xs ys x keeps k = record {
  execute = k.execute;
  at = keeps x.order.number k.execute k.at;
  client = k.client;
  command = k.command;
}

pub waits_kept : (t new : Story) (o : ℕ) (x : Accepted) → Keeps t.executes new.executes
    → new.marks x.order.number ≡ t.marks x.order.number → Waits t o x → Waits new o x
waits_kept t new o x keeps same k = record {
  order = order_kept t.executes new.executes o x.order keeps k.order;
  of = of_kept t.executes new.executes x keeps k.of;
  unmarked = same ∙ k.unmarked;
}

pub sends_kept : (t new : Story) (o : ℕ) (order : Order) (u : Option UnderWay) → Keeps t.executes new.executes
    → Sends t o order u → Sends new o order u
sends_kept t new o order u keeps k = record {
  way = k.way;
  is = k.is;
  same = k.same;
  order_is = order_kept t.executes new.executes o order keeps k.order_is;
  of = of_kept t.executes new.executes k.way.accepted keeps k.of;
}

-- the marks of an order towards an outstation of which nothing new is told
same_marks : (t new : Story) (o : ℕ) (order : Order) → Alike t new o → IsOrder t.executes o order
    → t.marks order.number ≡ new.marks order.number
same_marks t new o order alike k = sym (alike.marks order.number k.execute k.at k.there)

all_waits_kept : (t new : Story) (o : ℕ) (xs : List Accepted) → Alike t new o → AllByRecursion (Waits t o) xs
    → AllByRecursion (Waits new o) xs
all_waits_kept t new o [] alike all = tt
all_waits_kept t new o (x ∷ xs) alike all = (
  waits_kept t new o x alike.keeps (sym (same_marks t new o x.order alike all.0.order)) all.0,
  all_waits_kept t new o xs alike all.1,
)

task_kept : (t new : Story) (o n : ℕ) (task : Task) (u : Option UnderWay) → Alike t new o → ForTask t o n task u
    → ForTask new o n task u
task_kept t new o n (Command operation order) u alike k = (
  sends_kept t new o order u alike.keeps k.0,
  subst (AskedBy o operation order n) (same_marks t new o order alike k.0.order_is) k.1,
)
task_kept t new o n _ u alike k = k

goes_kept : (t new : Story) (o : ℕ) (ex : Exchange) (u : Option UnderWay) → Alike t new o → GoesOn t o ex u
    → GoesOn new o ex u
goes_kept t new o Idle u alike k = k
goes_kept t new o (Waiting w) u alike k = record {
  sequence = k.sequence;
  small = k.small;
  last = alike.last ∙ k.last;
  sent = task_kept t new o k.sequence w.task u alike k.sent;
}
goes_kept t new o (Selected order) u alike k = (
  sends_kept t new o order u alike.keeps k.0,
  subst (WasSelected o order) (same_marks t new o order alike k.0.order_is) k.1,
)

pub holds_kept : (t new : Story) (o : ℕ) (m : Option Master) (q : Option Outgoing) → Alike t new o → Holds t o m q
    → Holds new o m q
holds_kept t new o m q alike k = record {
  waiting = all_waits_kept t new o (waiting_at q) alike k.waiting;
  going = goes_kept t new o (exchange_at m) (under_way_at q) alike k.going;
  small = k.small;
  down = k.down;
}

pub alike_self : (t : Story) (o : ℕ) → Alike t t o
alike_self t o = record { keeps = λ n x e. e; marks = λ n x e there. refl; last = refl }

-- ---- a mark of one order

abbrev pub with_mark : ℕ → Mark → (ℕ → List Mark) → ℕ → List Mark
with_mark number mark before n = option_to_list (when (number == n) mark) ++ before n

-- other numbers
pub mark_elsewhere : (number : ℕ) (mark : Mark) (before : ℕ → List Mark) (n : ℕ) → (number ≡ n → ⊥)
    → with_mark number mark before n ≡ before n
mark_elsewhere number mark before n ne = rw (ne_eqb number n ne) refl

pub mark_here : (number : ℕ) (mark : Mark) (before : ℕ → List Mark)
    → with_mark number mark before number ≡ mark ∷ before number
mark_here number mark before = rw (eq-eqb number number refl) refl

-- orders towards other outstations have other numbers
pub apart : (xs : List Execute) (o p : ℕ) (order : Order) (n : ℕ) (x : Execute) → IsOrder xs o order → (o ≡ p → ⊥)
    → numbered n xs ≡ Some x → x.control.outstation ≡ p → order.number ≡ n → ⊥
apart xs o p order n x k ne found there same =
    let both : Some k.execute ≡ Some x = sym k.at ∙ (ap (λ (i : ℕ). numbered i xs) same ∙ found) in
    ne (sym k.there ∙ (ap (λ (y : Execute). y.control.outstation) (some_is k.execute x both) ∙ there))
