-- What holds of each command that is accepted holds of the commands of all orders, and of their outcomes.
use Rattle.std.specs.Prelude.{IfSome, slice_get}
use Rattle.std.specs.List.{AllByRecursion, filter}
use Rattle.std.proofs.Common.{◌≡◌, ℕ, zero, suc, ◌+◌, Bool, true, false, cond, not, ◌&&◌}
use Rattle.std.proofs.Common.{List, [], ◌∷◌, ◌++◌, length, Option, Some, None, refl}
use Rattle.gw_model.specs.First.{when}
use Rattle.gw_model.specs.declared.control.Act.{Act}
use Rattle.gw_model.specs.declared.control.Ended.{Ended}
use Rattle.gw_entries.specs.declared.control.Control.{Control}
use Rattle.gw_map.specs.Settings.{Setup}
use Rattle.iec_command.specs.declared.command.Command.{Command}
use Rattle.gw_control.specs.declared.asked.AskedCommand.{AskedCommand}
use Rattle.gw_control.specs.declared.accepted.Accepted.{Accepted}
use Rattle.gw_control.specs.declared.accepted.UnderWay.{UnderWay}
use Rattle.gw_control.specs.Intents.{control_for}
use Rattle.gw_control.specs.Selections.{is_select}
use Rattle.gw_control.specs.Orders.{Outgoing, is_named, is_of_others, nothing_outgoing, outcome_by}
use Rattle.gw_control.specs.Orders.{outcome_of, outgoing_after_end, outgoing_after_ended}
use Rattle.gw_control.specs.Orders.{outgoing_after_lost, outgoing_after_taking, outgoing_with}
use Rattle.gw_control.specs.Controls.{Controls, accepted_by, act_accepted, controls_after_at, controls_ordering}
use Rattle.gw_control.specs.Controls.{controls_selecting, controls_unselecting, is_deactivation, is_selectable}
use Rattle.gw_control.specs.Controls.{no_controls_after, outcome_ended_at, outcome_lost_at, standing_at}
use Rattle.gw_control.specs.Moves.{Move, Comes, Takes, Ends, Loses, Leaves, after_move, AllCommands, OfOutgoing, OfUnderWay}
use Rattle.gw_control.proofs.Places.{all_alike, all_changed, all_mapped}

-- what is accepted of a command has it
abbrev pub OfAccepted : (Command → Type 0) → Setup → AskedCommand → Controls → Type 0
OfAccepted P setup a v =
    (found : ℕ × Control) (act : Act) → act_accepted a found.1 (standing_at setup a.moment found.0 v) v ≡ Some act
    → P a.command

-- what a move brings has it
abbrev pub OfMove : (Command → Type 0) → Setup → Move → Controls → Type 0
OfMove P setup (Comes a) v = OfAccepted P setup a v
OfMove P setup _ v = Unit {0}

module _ (P : Command → Type 0) where
  -- ---- one outstation

  more : (x : Accepted) (ws : List Accepted) → P x.command → AllByRecursion (λ y. P y.command) ws
      → AllByRecursion (λ y. P y.command) (ws ++ x ∷ [])
  more x [] is all = (is, tt)
  more x (w ∷ ws) is all = (all.0, more x ws is all.1)

  some : (p : Accepted → Bool) (ws : List Accepted) → AllByRecursion (λ y. P y.command) ws
      → AllByRecursion (λ y. P y.command) (filter p ws)
  some p [] all = tt
  some p (x ∷ xs) all = kept (some p xs all.1) (p x)
    where
      kept : AllByRecursion (λ y. P y.command) (filter p xs) → (b : Bool)
          → AllByRecursion (λ y. P y.command) (cond b (x ∷ filter p xs) (filter p xs))
      kept rest true = (all.0, rest)
      kept rest false = rest

  taken : (ws : List Accepted) (u : Option UnderWay) → OfOutgoing P (record { waiting = ws; under_way = u })
      → OfOutgoing P (outgoing_after_taking (record { waiting = ws; under_way = u }))
  taken ws (Some u) k = k
  taken [] None k = k
  taken (x ∷ xs) None k = record { waiting = k.waiting.1; under_way = k.waiting.0 }

  ended_by : (ended : Ended) (ws : List Accepted) (u : Option UnderWay)
      → OfOutgoing P (record { waiting = ws; under_way = u })
      → OfOutgoing P (outgoing_after_ended ended (record { waiting = ws; under_way = u }))
  ended_by ended ws None k = k
  ended_by ended ws (Some u) k = over (is_named ended u)
    where
      over : (b : Bool) → OfOutgoing P (record { waiting = ws; under_way = cond b None (Some u) })
      over true = record { waiting = k.waiting; under_way = tt }
      over false = k

  lost_from : (ws : List Accepted) (u : Option UnderWay) → OfOutgoing P (record { waiting = ws; under_way = u })
      → OfOutgoing P (outgoing_after_lost (record { waiting = ws; under_way = u }))
  lost_from [] u k = k
  lost_from (x ∷ xs) u k = record { waiting = k.waiting.1; under_way = k.under_way }

  left : (client : ℕ) (ws : List Accepted) (u : Option UnderWay)
      → OfOutgoing P (record { waiting = ws; under_way = u })
      → OfOutgoing P (outgoing_after_end client (record { waiting = ws; under_way = u }))
  left client ws None k = record { waiting = some (is_of_others client) ws k.waiting; under_way = tt }
  left client ws (Some u) k = record { waiting = some (is_of_others client) ws k.waiting; under_way = k.under_way }

  -- ---- all of them

  pub none_at_first : (setup : Setup) (n : ℕ) → AllCommands P (no_controls_after n setup)
  none_at_first setup n = all_alike (OfOutgoing P) (length setup.outstations) nothing_outgoing
      (record { waiting = tt; under_way = tt })

  ordering : (a : AskedCommand) (control : Control) (act : Option Act) (v : Controls)
      → IfSome act (λ _. P a.command) → AllCommands P v → AllCommands P (controls_ordering a control act v)
  ordering a control None v is k = k
  ordering a control (Some act) v is k =
      let x = accepted_by a control act (v.ordered + 1) in
      all_changed (OfOutgoing P) (outgoing_with x)
      (λ o all. record { waiting = more x o.waiting is all.waiting; under_way = all.under_way })
      control.outstation v.outgoing k

  commanded : (setup : Setup) (a : AskedCommand) (found : Option (ℕ × Control)) (v : Controls)
      → OfAccepted P setup a v → AllCommands P v → AllCommands P (controls_after_at setup a found v)
  commanded setup a None v is k = k
  commanded setup a (Some found) v is k =
      by_kind (is_deactivation a) (is_select a.command.action)
      (is_selectable a found.1 (standing_at setup a.moment found.0 v))
    where
      accepted : Option Act
      accepted = act_accepted a found.1 (standing_at setup a.moment found.0 v) v

      by_act : (act : Option Act) → accepted ≡ act → IfSome act (λ _. P a.command)
      by_act None e = tt
      by_act (Some act) e = is found act e

      by_kind : (deactivation select selectable : Bool) → AllCommands P
          (cond deactivation (controls_unselecting a found.0 v)
          (cond select (cond selectable (controls_selecting a found.0 v) v)
          (controls_ordering a found.1 (act_accepted a found.1 (standing_at setup a.moment found.0 v) v)
          (controls_unselecting a found.0 v))))
      by_kind true select selectable = k
      by_kind false true true = k
      by_kind false true false = k
      by_kind false false selectable =
          ordering a found.1 accepted (controls_unselecting a found.0 v) (by_act accepted refl) k

  pub all_stay : (setup : Setup) (move : Move) (v : Controls) → OfMove P setup move v → AllCommands P v
      → AllCommands P (after_move setup move v)
  all_stay setup (Comes a) v is k = commanded setup a (control_for setup a.command) v is k
  all_stay setup (Takes outstation) v is k =
      all_changed (OfOutgoing P) outgoing_after_taking (λ o all. taken o.waiting o.under_way all) outstation
      v.outgoing k
  all_stay setup (Ends outstation ended) v is k =
      all_changed (OfOutgoing P) (outgoing_after_ended ended) (λ o all. ended_by ended o.waiting o.under_way all)
      outstation v.outgoing k
  all_stay setup (Loses outstation) v is k =
      all_changed (OfOutgoing P) outgoing_after_lost (λ o all. lost_from o.waiting o.under_way all) outstation
      v.outgoing k
  all_stay setup (Leaves client) v is k =
      all_mapped (OfOutgoing P) (outgoing_after_end client) (λ o all. left client o.waiting o.under_way all)
      v.outgoing k

  -- ---- outcomes

  pub ended_has : (outstation : ℕ) (ended : Ended) (v : Controls) → AllCommands P v
      → IfSome (outcome_ended_at ended (slice_get v.outgoing outstation)) (λ outcome. P outcome.command)
  ended_has outstation ended v k = at outstation v.outgoing k
    where
      under_way : (u : Option UnderWay) → OfUnderWay P u
          → IfSome (outcome_by ended u) (λ outcome. P outcome.command)
      under_way None is = tt
      under_way (Some u) is = told (is_named ended u && not u.left)
        where
          told : (b : Bool) → IfSome (when b (outcome_of ended.done u.accepted)) (λ outcome. P outcome.command)
          told true = is
          told false = tt

      at : (n : ℕ) (os : List Outgoing) → AllByRecursion (OfOutgoing P) os
          → IfSome (outcome_ended_at ended (slice_get os n)) (λ outcome. P outcome.command)
      at n [] all = tt
      at zero (o ∷ os) all = under_way o.under_way all.0.under_way
      at (suc n) (o ∷ os) all = at n os all.1

  pub lost_has : (outstation : ℕ) (v : Controls) → AllCommands P v
      → IfSome (outcome_lost_at (slice_get v.outgoing outstation)) (λ outcome. P outcome.command)
  lost_has outstation v k = at outstation v.outgoing k
    where
      oldest : (ws : List Accepted) → AllByRecursion (λ y. P y.command) ws
          → IfSome (outcome_lost_at (Some (record { waiting = ws; under_way = None }))) (λ outcome. P outcome.command)
      oldest [] all = tt
      oldest (x ∷ xs) all = all.0

      at : (n : ℕ) (os : List Outgoing) → AllByRecursion (OfOutgoing P) os
          → IfSome (outcome_lost_at (slice_get os n)) (λ outcome. P outcome.command)
      at n [] all = tt
      at zero (o ∷ os) all = oldest o.waiting all.0.waiting
      at (suc n) (o ∷ os) all = at n os all.1
