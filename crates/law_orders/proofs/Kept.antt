-- What a step keeps of orders, at each outstation and of what is told.
use Rattle.std.proofs.Common.{◌≡◌, ℕ, ◌<◌, List, [], length, map, Option, Some}
use Rattle.std.proofs.Common.{None, Ok, sym, ap, subst, ◌∙◌, arith, inl, inr}
use Rattle.std.specs.Prelude.{slice_get}
use Rattle.std.specs.Option.{option_to_list}
use Rattle.std.proofs.lemmas.Bool.{cases_eq}
use Rattle.std.proofs.lemmas.Option.{slice_get_within}
use Rattle.gw_model.specs.declared.control.Ended.{Ended}
use Rattle.gw_map.specs.Settings.{Setup}
use Rattle.dnp_master.specs.Master.{Master}
use Rattle.gw_control.specs.Orders.{Outgoing, places}
use Rattle.gw_steps.specs.declared.step.Step.{Step}
use Rattle.gw_steps.specs.declared.step.Reply.{Reply}
use Rattle.gw_steps.specs.State.{State}
use Rattle.gw_steps.specs.Steps.{outcomes_of}
use Rattle.gw_steps.specs.Runs.{Entry}
use Rattle.gw_steps.specs.Sound.{IsSoundState}
use Rattle.gw_steps.proofs.Running.{entry}
use Rattle.law_history.proofs.Tied.{Tied as HistoryTied}
use Rattle.law_orders.proofs.Moves.{InOrderAt}
use Rattle.law_orders.proofs.Story.{Tied, story}
use Rattle.law_orders.specs.Pending.{Pending, pending, pending_with}
use Rattle.law_orders.specs.Outcomes.{Telling, due, due_at, due_with, telling_of}
use Rattle.law_orders.proofs.Overs.{HasFew, outcome_in}
use Rattle.law_orders.proofs.PendingPlaces.{At, none_due, one_due}
use Rattle.law_orders.proofs.Rows.{rows}

-- what the orders of a state are, after a history
abbrev pub Follows : Setup → List Entry → State → Type 0
Follows setup past s = (o : ℕ) → rows (slice_get s.controls.outgoing o) ≡ pending setup o past

pub record StepFollows (setup : Setup) (past : List Entry) (step : Step) (r : Reply) (s new : State) : Type 0 where
  pub pending : (o : ℕ) → rows (slice_get new.controls.outgoing o)
      ≡ pending_with setup o past (entry step (Ok r)) (rows (slice_get s.controls.outgoing o)) r
  pub told : Follows setup past s → map telling_of (outcomes_of s step) ≡ due setup past (entry step (Ok r))

-- what is known before a step
pub record Before (setup : Setup) (past : List Entry) (s : State) : Type 0 where
  pub sound : IsSoundState setup s
  pub history : HistoryTied setup past s
  pub orders : Tied (story setup past) s.outstations s.controls

-- what is due at one outstation
pub due_here : (setup : Setup) (past : List Entry) (step : Step) (r : Reply) (s : State) (o : ℕ) (new : Option Outgoing)
    (xs : List Telling) → Follows setup past s
    → At setup past (entry step (Ok r)) r o (slice_get s.controls.outgoing o) new xs
    → due_at setup past (entry step (Ok r)) o ≡ xs
due_here setup past step r s o new xs follows at =
    ap (λ (ps : List Pending). due_with setup o past (entry step (Ok r)) ps r) (sym (follows o)) ∙ sym at.told

-- nothing is told
pub calm : (setup : Setup) (past : List Entry) (step : Step) (r : Reply) (s new : State) → outcomes_of s step ≡ []
    → ((o : ℕ) → At setup past (entry step (Ok r)) r o (slice_get s.controls.outgoing o)
    (slice_get new.controls.outgoing o) [])
    → StepFollows setup past step r s new
calm setup past step r s new none each = record {
  pending = λ o. (each o).pending;
  told = λ follows.
      ap (map telling_of) none
      ∙ sym (none_due setup past (entry step (Ok r)) (length setup.outstations)
      (λ o. due_here setup past step r s o (slice_get new.controls.outgoing o) [] follows (each o)));
}

-- only one outstation's orders end
pub one_tells : (setup : Setup) (past : List Entry) (step : Step) (r : Reply) (s new : State) (o : ℕ)
    → o < length setup.outstations
    → At setup past (entry step (Ok r)) r o (slice_get s.controls.outgoing o) (slice_get new.controls.outgoing o)
    (map telling_of (outcomes_of s step))
    → ((p : ℕ) → (o ≡ p → ⊥) → At setup past (entry step (Ok r)) r p (slice_get s.controls.outgoing p)
    (slice_get new.controls.outgoing p) [])
    → StepFollows setup past step r s new
one_tells setup past step r s new o within here there = record {
  pending = λ p. elim (cases_eq o p) [
    | inl e ↦ subst (λ (x : ℕ). rows (slice_get new.controls.outgoing x)
        ≡ pending_with setup x past (entry step (Ok r)) (rows (slice_get s.controls.outgoing x)) r) e here.pending
    | inr ne ↦ (there p ne).pending
  ];
  told = λ follows.
      sym (one_due setup past (entry step (Ok r)) o (length setup.outstations) within
      (λ p ne. due_here setup past step r s p (slice_get new.controls.outgoing p) [] follows (there p ne))
      ∙ due_here setup past step r s o (slice_get new.controls.outgoing o) (map telling_of (outcomes_of s step)) follows
      here);
}

-- ---- who is there

pub within : (setup : Setup) (s : State) (o : ℕ) (x : Master) → IsSoundState setup s
    → slice_get s.outstations o ≡ Some x → o < length setup.outstations
within setup s o x sound at = omega (arith, slice_get_within s.outstations o x at, sound.masters)

pub few_wait : (count : ℕ) (q : Option Outgoing) → InOrderAt count q → HasFew places q
few_wait count None k = omega arith
few_wait count (Some q) k = k.few

-- what is known after a step
abbrev pub After : Setup → List Entry → State → Type 0
After setup past s = Tied (story setup past) s.outstations s.controls

-- what is told of the order that ends at an outstation
abbrev pub TellingAt : Option Ended → Option Outgoing → List Telling
TellingAt e q = map telling_of (option_to_list (outcome_in e q))
