-- Controls stay sound.
use Rattle.std.specs.Prelude.{replicate}
use Rattle.std.proofs.Common.{◌≡◌, ℕ, zero, suc, ◌+◌, Bool, true, false, cond, List}
use Rattle.std.proofs.Common.{[], ◌∷◌, map, length, Option, Some, None, refl, ap, ◌∙◌}
use Rattle.gw_model.specs.Places.{change}
use Rattle.gw_model.specs.declared.control.Act.{Act}
use Rattle.gw_entries.specs.declared.control.Control.{Control}
use Rattle.gw_map.specs.Settings.{Setup}
use Rattle.gw_control.specs.declared.asked.AskedCommand.{AskedCommand}
use Rattle.gw_control.specs.declared.selection.Selection.{Selection}
use Rattle.gw_control.specs.Intents.{control_for}
use Rattle.gw_control.specs.Selections.{is_select, selection_by, unselected_by}
use Rattle.gw_control.specs.Orders.{nothing_outgoing, outgoing_after_end, outgoing_after_ended}
use Rattle.gw_control.specs.Orders.{outgoing_after_lost, outgoing_after_taking, outgoing_with}
use Rattle.gw_control.specs.Controls.{Controls, accepted_by, act_accepted, controls_after_at}
use Rattle.gw_control.specs.Controls.{controls_ordering, controls_selecting, controls_unselecting}
use Rattle.gw_control.specs.Controls.{is_deactivation, is_selectable, no_controls_after, standing_at}
use Rattle.gw_control.specs.Moves.{Move, Comes, Takes, Ends, Loses, Leaves, after_move, IsSoundControls}
use Rattle.gw_control.proofs.Keeps.{accepted, end_keeps, ended_keeps, lost_keeps, nothing_keeps, ordering_keeps, taking_keeps}

length-change : {A : Type 0} (n : ℕ) (f : A → A) (xs : List A) → length (change n f xs) ≡ length xs
length-change n f [] = refl
length-change zero f (x ∷ xs) = refl
length-change (suc n) f (x ∷ xs) = ap suc (length-change n f xs)

length-mapped : {A : Type 0} (f : A → A) (xs : List A) → length (map f xs) ≡ length xs
length-mapped f [] = refl
length-mapped f (x ∷ xs) = ap suc (length-mapped f xs)

length-alike : {A : Type 0} (n : ℕ) (x : A) → length (replicate n x) ≡ n
length-alike zero x = refl
length-alike (suc n) x = ap suc (length-alike n x)

pub none_sound : (setup : Setup) (n : ℕ) → IsSoundControls setup (no_controls_after n setup)
none_sound setup n = record {
  sessions = refl;
  selections = length-alike (length setup.controls) None;
  outgoing = length-alike (length setup.outstations) nothing_outgoing;
  orders = nothing_keeps n (length setup.outstations);
}

unselecting_sound : (setup : Setup) (a : AskedCommand) (position : ℕ) (v : Controls) → IsSoundControls setup v
    → IsSoundControls setup (controls_unselecting a position v)
unselecting_sound setup a position v k = record {
  sessions = k.sessions;
  selections = length-change position (unselected_by a.client) v.selections ∙ k.selections;
  outgoing = k.outgoing;
  orders = k.orders;
}

selecting_sound : (setup : Setup) (a : AskedCommand) (position : ℕ) (v : Controls) → IsSoundControls setup v
    → IsSoundControls setup (controls_selecting a position v)
selecting_sound setup a position v k = record {
  sessions = length-change a.client (λ _. Some a.session) v.sessions ∙ k.sessions;
  selections = length-change position (λ _. Some (selection_by a)) v.selections ∙ k.selections;
  outgoing = k.outgoing;
  orders = k.orders;
}

-- what is accepted by v, in controls w with the same orders
ordering_sound : (setup : Setup) (a : AskedCommand) (control : Control) (standing : Option Selection) (v w : Controls)
    (act : Option Act)
    → act_accepted a control standing v ≡ act → w.outgoing ≡ v.outgoing → IsSoundControls setup w
    → IsSoundControls setup (controls_ordering a control act w)
ordering_sound setup a control standing v w None is same k = k
ordering_sound setup a control standing v w (Some act) is same k =
    let x = accepted_by a control act (w.ordered + 1) in
    record {
      sessions = k.sessions;
      selections = k.selections;
      outgoing = length-change control.outstation (outgoing_with x) w.outgoing ∙ k.outgoing;
      orders = ordering_keeps w.ordered control.outstation x w.outgoing refl
          (rw same (accepted a control standing v act is).place) k.orders;
    }

command_sound : (setup : Setup) (a : AskedCommand) (found : Option (ℕ × Control)) (v : Controls)
    → IsSoundControls setup v → IsSoundControls setup (controls_after_at setup a found v)
command_sound setup a None v k = k
command_sound setup a (Some found) v k =
    by_kind (is_deactivation a) (is_select a.command.action)
    (is_selectable a found.1 (standing_at setup a.moment found.0 v))
  where
    by_kind : (deactivation select selectable : Bool) → IsSoundControls setup
        (cond deactivation (controls_unselecting a found.0 v)
        (cond select (cond selectable (controls_selecting a found.0 v) v)
        (controls_ordering a found.1 (act_accepted a found.1 (standing_at setup a.moment found.0 v) v)
        (controls_unselecting a found.0 v))))
    by_kind true select selectable = unselecting_sound setup a found.0 v k
    by_kind false true true = selecting_sound setup a found.0 v k
    by_kind false true false = k
    by_kind false false selectable =
        ordering_sound setup a found.1 (standing_at setup a.moment found.0 v) v (controls_unselecting a found.0 v)
        (act_accepted a found.1 (standing_at setup a.moment found.0 v) v) refl refl
        (unselecting_sound setup a found.0 v k)

pub stays_sound : (setup : Setup) (move : Move) (v : Controls) → IsSoundControls setup v
    → IsSoundControls setup (after_move setup move v)
stays_sound setup (Comes a) v k = command_sound setup a (control_for setup a.command) v k
stays_sound setup (Takes outstation) v k = record {
  sessions = k.sessions;
  selections = k.selections;
  outgoing = length-change outstation outgoing_after_taking v.outgoing ∙ k.outgoing;
  orders = taking_keeps v.ordered outstation v.outgoing k.orders;
}
stays_sound setup (Ends outstation ended) v k = record {
  sessions = k.sessions;
  selections = k.selections;
  outgoing = length-change outstation (outgoing_after_ended ended) v.outgoing ∙ k.outgoing;
  orders = ended_keeps v.ordered outstation ended v.outgoing k.orders;
}
stays_sound setup (Loses outstation) v k = record {
  sessions = k.sessions;
  selections = k.selections;
  outgoing = length-change outstation outgoing_after_lost v.outgoing ∙ k.outgoing;
  orders = lost_keeps v.ordered outstation v.outgoing k.orders;
}
stays_sound setup (Leaves client) v k = record {
  sessions = length-change client (λ _. None) v.sessions ∙ k.sessions;
  selections = k.selections;
  outgoing = length-mapped (outgoing_after_end client) v.outgoing ∙ k.outgoing;
  orders = end_keeps v.ordered client v.outgoing k.orders;
}
