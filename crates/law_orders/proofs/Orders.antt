-- An execute that is accepted is a new order, and nothing was asked for its number.
use Rattle.std.proofs.Common.{◌≡◌, ℕ, suc, ◌+◌, ◌≤◌, ◌<◌, Bool, true, false, cond, List, [], ◌∷◌, ◌++◌}
use Rattle.std.proofs.Common.{length, Option, Some, None, option_map, refl, sym, ap, subst, ◌∙◌, arith, inl, inr}
use Rattle.std.specs.Prelude.{◌==◌, slice_get}
use Rattle.std.specs.List.{AllByRecursion}
use Rattle.std.specs.Option.{option_to_list}
use Rattle.std.proofs.lemmas.Bool.{cases_eq, eqb-true, eq-eqb, ne_eqb}
use Rattle.gw_model.specs.Places.{change}
use Rattle.gw_model.specs.declared.control.Act.{Act}
use Rattle.gw_model.specs.declared.control.Intent.{Intent}
use Rattle.gw_entries.specs.declared.control.Control.{Control}
use Rattle.gw_map.specs.Settings.{Setup}
use Rattle.gw_picture.proofs.Lists.{change-here, change-there, some_is}
use Rattle.dnp_master.specs.Master.{Master}
use Rattle.iec_apci.specs.declared.apdu.Apdu.{Apdu}
use Rattle.iec_apci.specs.declared.apdu.Apdu.TheVariants.{I, S, U}
use Rattle.iec_apci.specs.declared.apdu.Signal.TheVariants.{StartAct, StartCon, StopAct, StopCon, TestAct, TestCon}
use Rattle.iec_command.specs.declared.command.Command.{Command}
use Rattle.gw_control.specs.declared.accepted.Accepted.{Accepted}
use Rattle.gw_control.specs.declared.answer.Answer.{Answer}
use Rattle.gw_control.specs.declared.answer.Outcome.{Outcome}
use Rattle.gw_control.specs.declared.asked.AskedCommand.{AskedCommand}
use Rattle.gw_control.specs.declared.selection.Selection.{Selection}
use Rattle.gw_control.specs.Controls.{Controls, controls_after_end, accepted_by, act_accepted, answer_at, answer_to_act}
use Rattle.gw_control.specs.Controls.{confirmed_if, controls_after_at, controls_ordering, controls_selecting}
use Rattle.gw_control.specs.Controls.{controls_unselecting, is_deactivation, is_selectable, standing_at, IsAccepted}
use Rattle.gw_control.specs.Intents.{act_of, control_for, intent_of}
use Rattle.gw_control.specs.Moves.{one_if}
use Rattle.gw_control.specs.Orders.{Outgoing, outgoing_with}
use Rattle.gw_control.specs.Selections.{is_own, is_select}
use Rattle.gw_control.proofs.Once.{one_at_most}
use Rattle.gw_control.proofs.Keeps.{accepted}
use Rattle.iec_apci.specs.declared.why.Why.{Why}
use Rattle.gw_station.specs.Client.{Client}
use Rattle.gw_station.specs.Frames.{close_of, command_given, command_in, event_by}
use Rattle.gw_station.proofs.All.{all-append}
use Rattle.gw_steps.specs.Controls.{asked_by, controls_after_event, controls_after_taken}
use Rattle.gw_steps.specs.State.{State}
use Rattle.gw_steps.specs.Steps.{command_of, controls_after_frame}
use Rattle.law_orders.specs.Executes.{Execute, execute_answered, execute_by, numbered}
use Rattle.law_orders.specs.Marks.{Mark}
use Rattle.law_orders.specs.ToldOnce.{counted}
use Rattle.law_orders.specs.Bonds.{HasShortIndex}
use Rattle.law_orders.proofs.BondsTold.{Goes, ToldTied, all_more, end_fewer, none_counted, none_held, told_fewer}
use Rattle.law_orders.proofs.Ends.{tied_end}
use Rattle.law_orders.proofs.Fits.{act_fits, found_short}
use Rattle.law_orders.proofs.Held.{held, held_changed, held_ordering}
use Rattle.law_orders.proofs.Story.{Alike, Holds, OfOrder, Story, Tied, Waits, holds_kept, numbered_below, numbered_still}

-- ---- the story

abbrev pub story_executing : Option Execute → Story → Story
story_executing x t = record t { executes = option_to_list x ++ t.executes }

executing_alike : (t : Story) (x : Execute) (o : ℕ) → Alike t (story_executing (Some x) t) o
executing_alike t x o = record {
  keeps = λ n y e. numbered_still n t.executes y x e;
  marks = λ n y e there. refl;
  last = refl;
}

-- ---- what it keeps

-- what leaves orders alone
still : (t : Story) (masters : List Master) (v after : Controls) → after.outgoing ≡ v.outgoing
    → after.ordered ≡ v.ordered → Tied t masters v → Goes t t masters v after
still t masters v after same count tied = record {
  tied = record {
    count = count ∙ tied.count;
    places = λ o. subst (λ (qs : List Outgoing). Holds t o (slice_get masters o) (slice_get qs o)) (sym same)
        (tied.places o);
    bonded = tied.bonded;
  };
  told = λ xs k. subst (λ (qs : List Outgoing). ToldTied t qs xs) (sym same) k;
}

session_ends : (t : Story) (masters : List Master) (v : Controls) (c : ℕ) → Tied t masters v
    → Goes t t masters v (controls_after_end c v)
session_ends t masters v c tied = record {
  tied = tied_end t masters v c tied;
  told = λ xs k. told_fewer t v.outgoing (controls_after_end c v).outgoing xs (λ n. end_fewer n c v) k;
}

-- ---- the new number

none_above : (n : ℕ) (xs : List Execute) → length xs < n → (y : Option Execute) → numbered n xs ≡ y → y ≡ None
none_above n xs lt None e = refl
none_above n xs lt (Some x) e = absurd (omega (arith, lt, numbered_below n xs x e))

-- nothing was asked for it
unmarked : (t : Story) (n : ℕ) → length t.executes < n → OfOrder (numbered n t.executes) (t.marks n) → t.marks n ≡ []
unmarked t n lt bonded =
    subst (λ (y : Option Execute). OfOrder y (t.marks n))
    (none_above n t.executes lt (numbered n t.executes) refl) bonded

newest : (n : ℕ) (xs : List Execute) (x : Execute) → n ≡ length xs + 1 → numbered n (x ∷ xs) ≡ Some x
newest n xs x is =
    ap (λ (b : Bool). cond b (Some x) (numbered n xs)) (eq-eqb n (suc (length xs)) (omega (arith, is)))

bonded_more : (t : Story) (x : Execute) (n : ℕ) → OfOrder (numbered n t.executes) (t.marks n)
    → OfOrder (numbered n (x ∷ t.executes)) (t.marks n)
bonded_more t x n so_far = by (n == suc (length t.executes)) refl
  where
    by : (b : Bool) → (n == suc (length t.executes)) ≡ b
        → OfOrder (cond b (Some x) (numbered n t.executes)) (t.marks n)
    by true is =
        subst (λ (ms : List Mark). OfOrder (Some x) ms)
        (sym (unmarked t n (omega (arith, eqb-true n (suc (length t.executes)) is)) so_far)) tt
    by false other = so_far

-- ---- an order more

pushed : (t : Story) (o : ℕ) (m : Option Master) (q : Option Outgoing) (x : Accepted) → Waits t o x → Holds t o m q
    → Holds t o m (option_map (outgoing_with x) q)
pushed t o m None x waits k = k
pushed t o m (Some q) x waits k = record {
  waiting = all-append (Waits t o) q.waiting (x ∷ []) k.waiting (waits, tt);
  going = k.going;
  small = k.small;
  down = k.down;
}

act_in : (control : Control) (act : Act) (x : Option Act)
    → option_map (intent_of control) x ≡ Some (intent_of control act)
    → x ≡ Some act
act_in control act None e = absurd (let none : ⊥ = cc in none)
act_in control act (Some y) e =
    ap Some (ap (λ (i : Intent). i.act) (some_is (intent_of control y) (intent_of control act) e))

-- the execute of a command for a control
abbrev pub execute_for : AskedCommand → Control → Execute
execute_for a control = record { client = a.client; control = control; command = a.command }

waits_new : (t : Story) (a : AskedCommand) (control : Control) (act : Act) (count o : ℕ) (standing : Option Selection)
    (v : Controls) → HasShortIndex control → IsAccepted a control standing v act → count ≡ length t.executes
    → OfOrder (numbered (count + 1) t.executes) (t.marks (count + 1)) → control.outstation ≡ o
    → Waits (story_executing (Some (execute_for a control)) t) o (accepted_by a control act (count + 1))
waits_new t a control act count o standing v short k is bonded there =
    let found : numbered (count + 1) (execute_for a control ∷ t.executes) ≡ Some (execute_for a control) =
    newest (count + 1) t.executes (execute_for a control) (omega (arith, is)) in
    record {
      order = record {
        execute = execute_for a control;
        at = found;
        there = there;
        sbo = refl;
        means = k.intent;
        place = there;
        short = short;
        fits = act_fits a.command.action control.operates act
            (act_in control act (act_of a.command.action control.operates) k.intent);
      };
      of = record { execute = execute_for a control; at = found; client = refl; command = refl };
      unmarked = unmarked t (count + 1) (omega (arith, is)) bonded;
    }

-- no outcome of the new number was told
new_once : (t : Story) (masters : List Master) (v : Controls) (o : ℕ) (one : Accepted) (xs : List Outcome)
    → one.order.number ≡ v.ordered + 1 → Tied t masters v → (k : ToldTied t v.outgoing xs) → (n : ℕ)
    → counted n k.numbers + held n (change o (outgoing_with one) v.outgoing) ≤ 1
new_once t masters v o one xs number tied k n =
    let more : 0 + held n (change o (outgoing_with one) v.outgoing)
    ≤ held n v.outgoing + one_if (one.order.number == n) =
    held_changed n o 0 (one_if (one.order.number == n)) (outgoing_with one) v.outgoing
    (omega (arith, held_ordering n one (slice_get v.outgoing o))) in
    elim (cases_eq one.order.number n) [
      | inl e ↦
          let above : length t.executes < n = omega (arith, number, tied.count, e) in
          let none : held n v.outgoing ≡ 0 = none_held t masters v n above tied in
          let untold : counted n k.numbers ≡ 0 = none_counted t.executes t.marks n k.numbers xs above k.tell in
          omega (arith, more, none, untold, one_at_most (one.order.number == n))
      | inr ne ↦
          let other : one_if (one.order.number == n) ≡ 0 = ap one_if (ne_eqb one.order.number n ne) in
          omega (arith, more, other, k.once n)
    ]

ordered : (t : Story) (masters : List Master) (a : AskedCommand) (control : Control) (act : Act)
    (standing : Option Selection)
    (v : Controls) → HasShortIndex control → IsAccepted a control standing v act → Tied t masters v
    → Goes t (story_executing (Some (execute_for a control)) t) masters v (controls_ordering a control (Some act) v)
ordered t masters a control act standing v short k tied =
    let x : Execute = execute_for a control in
    let new : Story = story_executing (Some x) t in
    let one : Accepted = accepted_by a control act (v.ordered + 1) in
    let kept : (o : ℕ) → Holds new o (slice_get masters o) (slice_get v.outgoing o) =
    λ o. holds_kept t new o (slice_get masters o) (slice_get v.outgoing o) (executing_alike t x o) (tied.places o) in
    record {
      tied = record {
        count = omega (arith, tied.count);
        places = λ o. elim (cases_eq control.outstation o) [
          | inl e ↦ subst (λ (p : ℕ). Holds new o (slice_get masters o)
              (slice_get (change p (outgoing_with one) v.outgoing) o)) (sym e)
              (rw (change-here o (outgoing_with one) v.outgoing)
              (pushed new o (slice_get masters o) (slice_get v.outgoing o) one
              (waits_new t a control act v.ordered o standing v short k tied.count (tied.bonded (v.ordered + 1)) e)
              (kept o)))
          | inr ne ↦ rw (change-there control.outstation o (outgoing_with one) v.outgoing ne) (kept o)
        ];
        bonded = λ n. bonded_more t x n (tied.bonded n);
      };
      told = λ xs j. record {
        numbers = j.numbers;
        tell = all_more t new j.numbers xs (λ n y e. numbered_still n t.executes y x e) (λ n there. refl) j.tell;
        once = new_once t masters v control.outstation one xs refl tied j;
      };
    }

-- ---- a command

no_execute : (c : ℕ) (command : Command) (found : ℕ × Control) (told : Bool)
    → execute_answered c command (Some found) (confirmed_if told) ≡ None
no_execute c command found true = refl
no_execute c command found false = refl

-- what is confirmed is no order
confirmed : (t : Story) (masters : List Master) (c : ℕ) (command : Command) (found : ℕ × Control) (told : Bool)
    (v after : Controls) → Goes t t masters v after
    → Goes t (story_executing (execute_answered c command (Some found) (confirmed_if told)) t) masters v after
confirmed t masters c command found told v after k =
    subst (λ (x : Option Execute). Goes t (story_executing x t) masters v after)
    (sym (no_execute c command found told)) k

acted : (t : Story) (masters : List Master) (a : AskedCommand) (found : ℕ × Control) (standing : Option Selection)
    (v : Controls) (act : Option Act) → HasShortIndex found.1 → act_accepted a found.1 standing v ≡ act
    → Tied t masters v
    → Goes t (story_executing (execute_answered a.client a.command (Some found) (answer_to_act v.ordered act)) t)
    masters v (controls_ordering a found.1 act (controls_unselecting a found.0 v))
acted t masters a found standing v None short e tied =
    still t masters v (controls_unselecting a found.0 v) refl refl tied
acted t masters a found standing v (Some act) short e tied =
    let k : IsAccepted a found.1 standing v act = accepted a found.1 standing v act e in
    let unselected : Controls = controls_unselecting a found.0 v in
    let new : Goes _ _ masters unselected _ =
    ordered t masters a found.1 act standing unselected short
    (record { intent = k.intent; up = k.up; free = k.free; selected = k.selected; place = k.place })
    (still t masters v unselected refl refl tied).tied in
    record { tied = new.tied; told = new.told }

-- what is said of a command for this control, and what becomes of it
abbrev pub said_for : AskedCommand → ℕ × Control → Option Selection → Controls → Bool → Bool → Answer
said_for a found standing v deactivation select =
    cond deactivation (confirmed_if (is_own a standing))
    (cond select (confirmed_if (is_selectable a found.1 standing))
    (answer_to_act v.ordered (act_accepted a found.1 standing v)))

abbrev pub after_for : AskedCommand → ℕ × Control → Option Selection → Controls → Bool → Bool → Controls
after_for a found standing v deactivation select =
    cond deactivation (controls_unselecting a found.0 v)
    (cond select (cond (is_selectable a found.1 standing) (controls_selecting a found.0 v) v)
    (controls_ordering a found.1 (act_accepted a found.1 standing v) (controls_unselecting a found.0 v)))

selecting : (t : Story) (masters : List Master) (a : AskedCommand) (found : ℕ × Control) (v : Controls)
    (selectable : Bool)
    → Tied t masters v → Goes t t masters v (cond selectable (controls_selecting a found.0 v) v)
selecting t masters a found v true tied = still t masters v (controls_selecting a found.0 v) refl refl tied
selecting t masters a found v false tied = still t masters v v refl refl tied

by_kind : (t : Story) (masters : List Master) (a : AskedCommand) (found : ℕ × Control) (standing : Option Selection)
    (v : Controls) → HasShortIndex found.1 → Tied t masters v → (deactivation select : Bool)
    → Goes t (story_executing (execute_answered a.client a.command (Some found)
    (said_for a found standing v deactivation select)) t) masters v (after_for a found standing v deactivation select)
by_kind t masters a found standing v short tied true select =
    confirmed t masters a.client a.command found (is_own a standing) v (controls_unselecting a found.0 v)
    (still t masters v (controls_unselecting a found.0 v) refl refl tied)
by_kind t masters a found standing v short tied false true =
    confirmed t masters a.client a.command found (is_selectable a found.1 standing) v
    (cond (is_selectable a found.1 standing) (controls_selecting a found.0 v) v)
    (selecting t masters a found v (is_selectable a found.1 standing) tied)
by_kind t masters a found standing v short tied false false =
    acted t masters a found standing v (act_accepted a found.1 standing v) short refl tied

commanded : (setup : Setup) (t : Story) (masters : List Master) (a : AskedCommand) (found : Option (ℕ × Control))
    (v : Controls) → ((x : ℕ × Control) → found ≡ Some x → HasShortIndex x.1) → Tied t masters v
    → Goes t (story_executing (execute_answered a.client a.command found (answer_at setup a found v)) t) masters v
    (controls_after_at setup a found v)
commanded setup t masters a None v short tied = still t masters v v refl refl tied
commanded setup t masters a (Some found) v short tied =
    by_kind t masters a found (standing_at setup a.moment found.0 v) v (short found refl) tied (is_deactivation a)
    (is_select a.command.action)

-- ---- an APDU

taken : (t : Story) (masters : List Master) (c : ℕ) (apdu : Apdu) (v : Controls) → Tied t masters v
    → Goes t t masters v (controls_after_taken c apdu v)
taken t masters c (I ns nr asdu) v tied = still t masters v v refl refl tied
taken t masters c (S nr) v tied = still t masters v v refl refl tied
taken t masters c (U StartAct) v tied = still t masters v v refl refl tied
taken t masters c (U StartCon) v tied = still t masters v v refl refl tied
taken t masters c (U StopAct) v tied = session_ends t masters v c tied
taken t masters c (U StopCon) v tied = still t masters v v refl refl tied
taken t masters c (U TestAct) v tied = still t masters v v refl refl tied
taken t masters c (U TestCon) v tied = still t masters v v refl refl tied

event_tied : (setup : Setup) (t : Story) (s : State) (moment c : ℕ) (apdu : Apdu)
    → AllByRecursion HasShortIndex setup.controls → Tied t s.outstations s.controls
    → (why : Option Why) (command : Option Command)
    → Goes t (story_executing (execute_by setup s moment c (command_given why command)) t) s.outstations s.controls
    (controls_after_event setup s moment c apdu (event_by why command))
event_tied setup t s moment c apdu short tied (Some why) command =
    session_ends t s.outstations s.controls c tied
event_tied setup t s moment c apdu short tied None None = taken t s.outstations c apdu s.controls tied
event_tied setup t s moment c apdu short tied None (Some command) =
    commanded setup t s.outstations (asked_by setup s moment c command) (control_for setup command) s.controls
    (λ found e. found_short setup command found short e) tied

pub frame_tied : (setup : Setup) (t : Story) (s : State) (moment c : ℕ) (apdu : Apdu) (k : Option Client)
    → AllByRecursion HasShortIndex setup.controls → Tied t s.outstations s.controls
    → Goes t (story_executing (execute_by setup s moment c (command_of setup apdu k)) t) s.outstations s.controls
    (controls_after_frame setup s moment c apdu k)
frame_tied setup t s moment c apdu None short tied =
    still t s.outstations s.controls s.controls refl refl tied
frame_tied setup t s moment c apdu (Some k) short tied =
    event_tied setup t s moment c apdu short tied (close_of setup apdu k) (command_in setup apdu)
