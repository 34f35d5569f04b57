-- An APDU of a client: an execute that is accepted is on its way, and a session may end.
use Rattle.std.proofs.Common.{◌≡◌, ℕ, suc, ◌+◌, ◌<◌, Bool, true, false, cond, List, [], ◌∷◌}
use Rattle.std.proofs.Common.{◌++◌, map, Option, Some, None, option_map, refl, sym, ap, ◌∙◌, arith}
use Rattle.std.specs.Prelude.{slice_get}
use Rattle.gw_model.specs.declared.control.Act.{Act}
use Rattle.gw_entries.specs.declared.control.Control.{Control}
use Rattle.gw_map.specs.Settings.{Setup}
use Rattle.iec_apci.specs.declared.apdu.Apdu.{Apdu}
use Rattle.iec_apci.specs.declared.apdu.Apdu.TheVariants.{I, S, U}
use Rattle.iec_apci.specs.declared.apdu.Signal.TheVariants.{StartAct, StartCon, StopAct, StopCon, TestAct, TestCon}
use Rattle.gw_control.specs.declared.accepted.Accepted.{Accepted}
use Rattle.gw_control.specs.declared.asked.AskedCommand.{AskedCommand}
use Rattle.gw_control.specs.declared.selection.Selection.{Selection}
use Rattle.gw_control.specs.Controls.{Controls, accepted_by as order_of, act_accepted, answer_at, answer_to_act}
use Rattle.gw_control.specs.Controls.{confirmed_if, controls_after_at, controls_ordering, controls_selecting}
use Rattle.gw_control.specs.Controls.{controls_unselecting, is_deactivation, is_full_at, is_selectable, standing_at}
use Rattle.gw_control.specs.Intents.{control_for}
use Rattle.gw_control.specs.Moves.{one_if}
use Rattle.gw_control.specs.Orders.{Outgoing, outgoing_with}
use Rattle.gw_control.specs.Selections.{is_own, is_select}
use Rattle.gw_control.proofs.Keeps.{accepted}
use Rattle.gw_station.specs.declared.event.Event.{Event}
use Rattle.gw_station.specs.declared.event.Event.TheVariants as events
use Rattle.gw_steps.specs.Controls.{asked_by, controls_after_event}
use Rattle.gw_steps.specs.Effects.{effects_of_event}
use Rattle.gw_steps.specs.State.{State, client_limit}
use Rattle.law_fates.specs.Fates.{Named, accepted_as, accepted_by, accepted_for, down_from, named_at, named_by}
use Rattle.law_fates.proofs.Counts.{all_so, at_so, changed, times, waiting_so}
use Rattle.law_fates.proofs.Leaving.{client_leaves}

-- ---- an execute that is accepted

one_waits : (p : Named → Bool) (o : ℕ) (x : Accepted) (xs : List Accepted)
    → waiting_so p o (xs ++ x ∷ []) ≡ waiting_so p o xs + one_if (p (named_at o x))
one_waits p o x [] = omega arith
one_waits p o x (y ∷ ys) = omega (arith, one_waits p o x ys)

placed : (p : Named → Bool) (o : ℕ) (x : Accepted) (q : Option Outgoing) → is_full_at q ≡ false
    → at_so p o q + one_if (p (named_at o x)) ≡ at_so p o (option_map (outgoing_with x) q) + 0
placed p o x None place = absurd (let no : ⊥ = cc in no)
placed p o x (Some q) place = omega (arith, one_waits p o x q.waiting)

-- by what it does to its control, if it is accepted
ordering : (p : Named → Bool) (a : AskedCommand) (position : ℕ) (control : Control) (standing : Option Selection)
    (v : Controls) (act : Option Act) → act_accepted a control standing v ≡ act
    → all_so p 0 v.outgoing + times p (accepted_as control.outstation a.client (answer_to_act v.ordered act))
    ≡ all_so p 0 (controls_ordering a control act (controls_unselecting a position v)).outgoing
ordering p a position control standing v None is = omega arith
ordering p a position control standing v (Some act) is =
    let o : ℕ = control.outstation in
    let x : Accepted = order_of a control act (v.ordered + 1) in
    omega (
      arith,
      changed p 0 o o (one_if (p (named_at o x))) 0 (outgoing_with x) v.outgoing (omega arith)
          (placed p o x (slice_get v.outgoing o) (accepted a control standing v act is).place),
    )

-- what is confirmed is no order
confirmed : (p : Named → Bool) (o c : ℕ) (told : Bool) → times p (accepted_as o c (confirmed_if told)) ≡ 0
confirmed p o c true = refl
confirmed p o c false = refl

commanded : (p : Named → Bool) (setup : Setup) (a : AskedCommand) (found : Option (ℕ × Control)) (v : Controls)
    → all_so p 0 v.outgoing + times p (accepted_for a.client found (answer_at setup a found v))
    ≡ all_so p 0 (controls_after_at setup a found v).outgoing
commanded p setup a None v = omega arith
commanded p setup a (Some found) v =
    by (is_deactivation a) (is_select a.command.action) (is_selectable a found.1 standing)
  where
    standing : Option Selection
    standing = standing_at setup a.moment found.0 v

    by : (deactivation select selectable : Bool)
        → all_so p 0 v.outgoing + times p (accepted_as found.1.outstation a.client
        (cond deactivation (confirmed_if (is_own a standing))
        (cond select (confirmed_if selectable) (answer_to_act v.ordered (act_accepted a found.1 standing v)))))
        ≡ all_so p 0 (cond deactivation (controls_unselecting a found.0 v)
        (cond select (cond selectable (controls_selecting a found.0 v) v)
        (controls_ordering a found.1 (act_accepted a found.1 standing v) (controls_unselecting a found.0 v)))).outgoing
    by true select selectable = omega (arith, confirmed p found.1.outstation a.client (is_own a standing))
    by false true true = omega arith
    by false true false = omega arith
    by false false selectable =
        ordering p a found.0 found.1 standing v (act_accepted a found.1 standing v) refl

-- ---- an APDU of which this became

pub framed : (p : Named → Bool) (setup : Setup) (s : State) (moment c : ℕ) (apdu : Apdu) (event : Event)
    → c < client_limit
    → all_so p 0 s.controls.outgoing
    + times p (accepted_by setup c (effects_of_event setup s moment c apdu event).command)
    ≡ times p (map named_by (effects_of_event setup s moment c apdu event).ended)
    + all_so p 0 (controls_after_event setup s moment c apdu event).outgoing
framed p setup s moment c (I ns nr asdu) events.Taken lt = omega arith
framed p setup s moment c (S nr) events.Taken lt = omega arith
framed p setup s moment c (U StartAct) events.Taken lt = omega arith
framed p setup s moment c (U StartCon) events.Taken lt = omega arith
framed p setup s moment c (U StopAct) events.Taken lt = omega (arith, client_leaves p s c lt)
framed p setup s moment c (U StopCon) events.Taken lt = omega arith
framed p setup s moment c (U TestAct) events.Taken lt = omega arith
framed p setup s moment c (U TestCon) events.Taken lt = omega arith
framed p setup s moment c apdu (events.Command command) lt =
    omega (
      arith,
      commanded p setup (asked_by setup s moment c command) (control_for setup command) s.controls,
    )
framed p setup s moment c apdu (events.Closed why) lt = omega (arith, client_leaves p s c lt)

-- ---- numbers

next : (n : ℕ) → (n + 1) ∷ down_from n ≡ down_from (n + 1)
next n =
    let e : n + 1 ≡ suc n = omega arith in
    ap (λ (m : ℕ). m ∷ down_from n) e ∙ sym (ap down_from e)

-- the numbers of these orders, and of those before
abbrev pub numbered_with : List Named → ℕ → List ℕ
numbered_with xs count = map (λ x. x.number) xs ++ down_from count

ordering_next : (a : AskedCommand) (control : Control) (act : Option Act) (v : Controls)
    → numbered_with (accepted_as control.outstation a.client (answer_to_act v.ordered act)) v.ordered
    ≡ down_from (controls_ordering a control act v).ordered
ordering_next a control None v = refl
ordering_next a control (Some act) v = next v.ordered

confirmed_next : (o c count : ℕ) (told : Bool)
    → numbered_with (accepted_as o c (confirmed_if told)) count ≡ down_from count
confirmed_next o c count true = refl
confirmed_next o c count false = refl

commanded_next : (setup : Setup) (a : AskedCommand) (found : Option (ℕ × Control)) (v : Controls)
    → numbered_with (accepted_for a.client found (answer_at setup a found v)) v.ordered
    ≡ down_from (controls_after_at setup a found v).ordered
commanded_next setup a None v = refl
commanded_next setup a (Some found) v =
    by (is_deactivation a) (is_select a.command.action) (is_selectable a found.1 standing)
  where
    standing : Option Selection
    standing = standing_at setup a.moment found.0 v

    by : (deactivation select selectable : Bool)
        → numbered_with (accepted_as found.1.outstation a.client
        (cond deactivation (confirmed_if (is_own a standing))
        (cond select (confirmed_if selectable) (answer_to_act v.ordered (act_accepted a found.1 standing v))))) v.ordered
        ≡ down_from (cond deactivation (controls_unselecting a found.0 v)
        (cond select (cond selectable (controls_selecting a found.0 v) v)
        (controls_ordering a found.1 (act_accepted a found.1 standing v) (controls_unselecting a found.0 v)))).ordered
    by true select selectable = confirmed_next found.1.outstation a.client v.ordered (is_own a standing)
    by false true true = refl
    by false true false = refl
    by false false selectable =
        ordering_next a found.1 (act_accepted a found.1 standing v) (controls_unselecting a found.0 v)

pub framed_next : (setup : Setup) (s : State) (moment c : ℕ) (apdu : Apdu) (event : Event)
    → numbered_with (accepted_by setup c (effects_of_event setup s moment c apdu event).command) s.controls.ordered
    ≡ down_from (controls_after_event setup s moment c apdu event).ordered
framed_next setup s moment c (I ns nr asdu) events.Taken = refl
framed_next setup s moment c (S nr) events.Taken = refl
framed_next setup s moment c (U StartAct) events.Taken = refl
framed_next setup s moment c (U StartCon) events.Taken = refl
framed_next setup s moment c (U StopAct) events.Taken = refl
framed_next setup s moment c (U StopCon) events.Taken = refl
framed_next setup s moment c (U TestAct) events.Taken = refl
framed_next setup s moment c (U TestCon) events.Taken = refl
framed_next setup s moment c apdu (events.Command command) =
    commanded_next setup (asked_by setup s moment c command) (control_for setup command) s.controls
framed_next setup s moment c apdu (events.Closed why) = refl
