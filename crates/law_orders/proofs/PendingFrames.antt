-- An APDU comes: an execute that is accepted is pending, and a session ends.
use Rattle.std.proofs.Common.{◌≡◌, ℕ, ◌+◌, Bool, true, false, cond, List, [], ◌∷◌, ◌++◌, Option}
use Rattle.std.proofs.Common.{Some, None, option_map, refl, sym, ap, subst, ◌∙◌, inl, inr}
use Rattle.std.specs.Prelude.{slice_get}
use Rattle.std.specs.Option.{option_to_list}
use Rattle.std.proofs.lemmas.Bool.{cases_eq, eq-eqb, ne_eqb}
use Rattle.std.proofs.lemmas.List.{append-nil}
use Rattle.gw_model.specs.declared.control.Act.{Act}
use Rattle.gw_entries.specs.declared.control.Control.{Control}
use Rattle.gw_map.specs.Settings.{Setup}
use Rattle.gw_picture.proofs.Lists.{change-here, change-there}
use Rattle.gw_control.specs.declared.accepted.Accepted.{Accepted}
use Rattle.gw_control.specs.declared.asked.AskedCommand.{AskedCommand}
use Rattle.gw_control.specs.declared.selection.Selection.{Selection}
use Rattle.gw_control.specs.Controls.{Controls, accepted_by, act_accepted, answer_at, answer_to_act, confirmed_if}
use Rattle.gw_control.specs.Controls.{controls_after_at, controls_ordering, controls_selecting}
use Rattle.gw_control.specs.Controls.{controls_unselecting, is_deactivation, is_full_at, is_selectable, standing_at}
use Rattle.gw_control.specs.Orders.{Outgoing, outgoing_with}
use Rattle.gw_control.specs.Selections.{is_own, is_select}
use Rattle.gw_control.proofs.Keeps.{accepted}
use Rattle.law_orders.specs.Executes.{Execute, execute_answered}
use Rattle.law_orders.specs.Pending.{order_made}
use Rattle.law_orders.proofs.Rows.{row_waiting, rows, rows_with}
use Rattle.law_orders.proofs.Orders.{after_for, execute_for, said_for}

-- an execute that is accepted, or none, leaves orders so
abbrev pub Makes : ℕ → Option Execute → Controls → Controls → Type 0
Makes o x v after = rows (slice_get after.outgoing o)
    ≡ rows (slice_get v.outgoing o) ++ option_to_list (order_made o (v.ordered + 1) x)

same_orders : (o : ℕ) (v after : Controls) → after.outgoing ≡ v.outgoing → Makes o None v after
same_orders o v after same =
    ap (λ (qs : List Outgoing). rows (slice_get qs o)) same ∙ sym (append-nil (rows (slice_get v.outgoing o)))

-- ---- an order more

has_place : (q : Option Outgoing) (x : Accepted) → is_full_at q ≡ false
    → rows (option_map (outgoing_with x) q) ≡ rows q ++ row_waiting x ∷ []
has_place None x place = absurd (let no : ⊥ = cc in no)
has_place (Some q) x place = rows_with x q

ordered : (o : ℕ) (a : AskedCommand) (control : Control) (act : Act) (v : Controls)
    → is_full_at (slice_get v.outgoing control.outstation) ≡ false
    → Makes o (Some (execute_for a control)) v (controls_ordering a control (Some act) v)
ordered o a control act v place =
    let x : Accepted = accepted_by a control act (v.ordered + 1) in
    elim (cases_eq control.outstation o) [
      | inl e ↦ subst (λ (p : ℕ). Makes p (Some (execute_for a control)) v (controls_ordering a control (Some act) v)) e
          (rw (
            change-here control.outstation (outgoing_with x) v.outgoing,
            eq-eqb control.outstation control.outstation refl,
          )
          (has_place (slice_get v.outgoing control.outstation) x place))
      | inr ne ↦ rw (change-there control.outstation o (outgoing_with x) v.outgoing ne, ne_eqb control.outstation o ne)
          (sym (append-nil (rows (slice_get v.outgoing o))))
    ]

-- ---- a command

confirmed : (o c : ℕ) (a : AskedCommand) (found : ℕ × Control) (told : Bool) (v after : Controls)
    → after.outgoing ≡ v.outgoing
    → Makes o (execute_answered c a.command (Some found) (confirmed_if told)) v after
confirmed o c a found true v after same = same_orders o v after same
confirmed o c a found false v after same = same_orders o v after same

acted : (o : ℕ) (a : AskedCommand) (found : ℕ × Control) (standing : Option Selection) (v : Controls) (act : Option Act)
    → act_accepted a found.1 standing v ≡ act
    → Makes o (execute_answered a.client a.command (Some found) (answer_to_act v.ordered act)) v
    (controls_ordering a found.1 act (controls_unselecting a found.0 v))
acted o a found standing v None e = same_orders o v (controls_unselecting a found.0 v) refl
acted o a found standing v (Some act) e =
    ordered o a found.1 act (controls_unselecting a found.0 v) (accepted a found.1 standing v act e).place

still_there : (a : AskedCommand) (position : ℕ) (v : Controls) (selectable : Bool)
    → (cond selectable (controls_selecting a position v) v).outgoing ≡ v.outgoing
still_there a position v true = refl
still_there a position v false = refl

by_kind : (o : ℕ) (a : AskedCommand) (found : ℕ × Control) (standing : Option Selection) (v : Controls)
    (deactivation select : Bool)
    → Makes o (execute_answered a.client a.command (Some found) (said_for a found standing v deactivation select)) v
    (after_for a found standing v deactivation select)
by_kind o a found standing v true select =
    confirmed o a.client a found (is_own a standing) v (controls_unselecting a found.0 v) refl
by_kind o a found standing v false true =
    confirmed o a.client a found (is_selectable a found.1 standing) v
    (cond (is_selectable a found.1 standing) (controls_selecting a found.0 v) v)
    (still_there a found.0 v (is_selectable a found.1 standing))
by_kind o a found standing v false false = acted o a found standing v (act_accepted a found.1 standing v) refl

pub rows_commanded : (setup : Setup) (o : ℕ) (a : AskedCommand) (found : Option (ℕ × Control)) (v : Controls)
    → Makes o (execute_answered a.client a.command found (answer_at setup a found v)) v
    (controls_after_at setup a found v)
rows_commanded setup o a None v = same_orders o v v refl
rows_commanded setup o a (Some found) v =
    by_kind o a found (standing_at setup a.moment found.0 v) v (is_deactivation a) (is_select a.command.action)
