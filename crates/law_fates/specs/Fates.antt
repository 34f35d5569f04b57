-- Each accepted order ends in exactly one fate, in the step that ends it, or is on its way: by what steps tell besides
-- their replies.
use Rattle.std.specs.Prelude.{◌≡◌, ℕ, zero, suc, List, [], ◌∷◌, ◌++◌, map, Option, Some, None, IsPermutation}
use Rattle.std.specs.Option.{option_to_list}
use Rattle.gw_entries.specs.declared.control.Control.{Control}
use Rattle.gw_map.specs.Settings.{Setup}
use Rattle.gw_control.specs.declared.accepted.Accepted.{Accepted}
use Rattle.gw_control.specs.declared.answer.Answer.{Answer}
use Rattle.gw_control.specs.declared.answer.Answer.TheVariants.{Confirm, Negative, Unknown, Ordered}
use Rattle.gw_control.specs.Intents.{control_for}
use Rattle.gw_control.specs.Orders.{Outgoing}
use Rattle.gw_steps.specs.declared.effects.Judged.{Judged}
use Rattle.gw_steps.specs.declared.effects.OrderEnd.{OrderEnd}
use Rattle.gw_steps.specs.declared.step.Step.{Step}
use Rattle.gw_steps.specs.declared.step.Step.TheVariants as steps
use Rattle.gw_steps.specs.Effects.{Effects, effects_with}
use Rattle.gw_steps.specs.State.{State}
use Rattle.gw_steps.specs.Runs.{Entry, state_after}

-- an order by its number, with the outstation that it is for and the client whose it is
pub record Named : Type 0 where
  pub number : ℕ
  pub outstation : ℕ
  pub client : ℕ

-- ---- which are on their way

abbrev pub named_at : ℕ → Accepted → Named
named_at o x = record { number = x.order.number; outstation = o; client = x.client }

-- to one outstation: the one that is under way, and then those that wait
abbrev pub going_to : ℕ → Outgoing → List Named
going_to o q = map (λ u. named_at o u.accepted) (option_to_list q.under_way) ++ map (named_at o) q.waiting

-- to all of them, the first one has this number
abbrev pub going_from : ℕ → List Outgoing → List Named
going_from o [] = []
going_from o (q ∷ qs) = going_to o q ++ going_from (suc o) qs

abbrev pub on_their_way : State → List Named
on_their_way s = going_from 0 s.controls.outgoing

-- ---- what a step tells

-- which orders ended
abbrev pub named_by : OrderEnd → Named
named_by x = record { number = x.order; outstation = x.outstation; client = x.client }

abbrev pub ended_in : Effects → List Named
ended_in told = map named_by told.ended

-- the order that a client's execute for a control became, where this was answered
abbrev pub accepted_as : ℕ → ℕ → Answer → List Named
accepted_as o c (Ordered number) = record { number = number; outstation = o; client = c } ∷ []
accepted_as o c Confirm = []
accepted_as o c Negative = []
accepted_as o c Unknown = []

abbrev pub accepted_for : ℕ → Option (ℕ × Control) → Answer → List Named
accepted_for c None answer = []
accepted_for c (Some found) answer = accepted_as found.1.outstation c answer

-- where this was judged of its command
abbrev pub accepted_by : Setup → ℕ → Option Judged → List Named
accepted_by setup c None = []
accepted_by setup c (Some judged) = accepted_for c (control_for setup judged.command) judged.answer

-- which order was accepted, if one was: an APDU alone may bring one
abbrev pub accepted_in : Setup → Step → Effects → List Named
accepted_in setup (steps.Frame c apdu moment) told = accepted_by setup c told.command
accepted_in setup _ told = []

-- ---- what all steps of a history told

-- what an entry behind a past did
abbrev pub effects_by : Setup → List Entry → Entry → Effects
effects_by setup past e = effects_with setup (state_after setup past) e.step e.reply

-- which orders ended, those of the newest entry first
abbrev pub all_ended : Setup → List Entry → List Named
all_ended setup [] = []
all_ended setup (e ∷ past) = ended_in (effects_by setup past e) ++ all_ended setup past

-- which were accepted, the newest first
abbrev pub all_accepted : Setup → List Entry → List Named
all_accepted setup [] = []
all_accepted setup (e ∷ past) = accepted_in setup e.step (effects_by setup past e) ++ all_accepted setup past

-- ---- the law

-- from a number down to 1
abbrev pub down_from : ℕ → List ℕ
down_from zero = []
down_from (suc n) = suc n ∷ down_from n

-- the orders that were on their way before a step, or are accepted in it, are those that end in it, each told once, and
-- those that are on their way after it
abbrev pub StepEnds : Setup → State → Step → Effects → State → Type 0
StepEnds setup s step told new =
    IsPermutation (on_their_way s ++ accepted_in setup step told) (ended_in told ++ on_their_way new)

abbrev pub NewestEnds : Setup → List Entry → Type 0
NewestEnds setup [] = Unit {0}
NewestEnds setup (e ∷ past) =
    StepEnds setup (state_after setup past) e.step (effects_by setup past e) (state_after setup (e ∷ past))

pub record HasOneFateEach (setup : Setup) (past : List Entry) : Type 0 where
  -- orders are numbered from 1 on, as they are accepted
  pub numbered : map (λ x. x.number) (all_accepted setup past)
      ≡ down_from (state_after setup past).controls.ordered
  -- those that were accepted are those that ended, each told once, and those that are on their way: the end of an order
  -- is told of its own outstation and client, and of no other order
  pub once : IsPermutation (all_accepted setup past) (all_ended setup past ++ on_their_way (state_after setup past))
  -- it is told in the step that ends it
  pub newest : NewestEnds setup past
