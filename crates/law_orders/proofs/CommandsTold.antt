-- Every run answers commands as is due, and its orders are those that the history tells.
use Rattle.std.proofs.Common.{◌≡◌, ℕ, suc, not, List, [], ◌∷◌, ◌++◌, length, Option, Result, Ok, Err, refl, ap, ◌∙◌}
use Rattle.std.specs.List.{AllByRecursion, filter}
use Rattle.std.specs.Option.{option_to_list}
use Rattle.gw_map.specs.Settings.{Setup}
use Rattle.gw_steps.specs.declared.step.Step.{Step}
use Rattle.gw_steps.specs.declared.step.Reply.{Reply}
use Rattle.gw_steps.specs.declared.step.StepFault.{StepFault}
use Rattle.gw_steps.specs.Runs.{AtEach, Entry, state_after}
use Rattle.gw_steps.proofs.Running.{entry, last_place}
use Rattle.gw_steps.specs.Premises.{IsSoundRun}
use Rattle.law_history.proofs.Places.{Place as HistoryPlace, places as history_places}
use Rattle.law_orders.specs.Bonds.{HasShortIndex}
use Rattle.law_orders.specs.Executes.{Execute, execute_in, executes}
use Rattle.law_orders.specs.Marks.{marks}
use Rattle.law_orders.specs.Pending.{Pending, is_marked, left_pending, order_made}
use Rattle.law_orders.proofs.Follows.{Place as OrderPlace, places as order_places, waiting_is}
use Rattle.law_orders.specs.Commands.{AnswersBy, AnswersCommands, Orders, execute_due, orders}
use Rattle.law_orders.proofs.Answered.{HasWaiting, Known, answers_by}
use Rattle.law_orders.proofs.CommandSteps.{Selects, first_selects, selects_more}
use Rattle.law_orders.proofs.Up.{AreUp, first_up, up_more}

-- the selections and the outstations are as the history tells
record Place (setup : Setup) (past : List Entry) : Type 0 where
  selects : Selects setup past (state_after setup past)
  up : AreUp past (state_after setup past)

places : (setup : Setup) (past : List Entry) → AtEach (HistoryPlace setup) past → AtEach (Place setup) past
places setup [] at = record { selects = first_selects setup; up = first_up setup }
places setup (e ∷ past) at =
    let so_far = places setup past at.1 in
    let here : HistoryPlace setup past = last_place (HistoryPlace setup) past at.1 in
    let before : Place setup past = last_place (Place setup) past so_far in (
      record {
        selects = selects_more setup past e.step e.reply here.known.tied.moment here.known.sound.controls
            at.0.given.run.0 before.selects;
        up = up_more setup past e.step e.reply at.0.given.run.0 before.up;
      },
      so_far,
    )

-- ---- orders

-- as many orders wait as the history tells
waits_so : (setup : Setup) (past : List Entry) → OrderPlace setup past → AnswersCommands setup past
    → HasWaiting setup past
waits_so setup past place so_far o =
    waiting_is setup past o place
    ∙ ap (λ (ps : List Pending). length (filter (λ p. not (is_marked (marks p.number past))) ps)) (so_far.pending_are o)

-- the order of an execute, if there is one
same_order : (o : ℕ) (xs ys : List Execute) (x y : Option Execute) → xs ≡ ys → x ≡ y
    → order_made o (suc (length xs)) x ≡ order_made o (suc (length ys)) y
same_order o xs ys x y same is =
    ap (λ (zs : List Execute). order_made o (suc (length zs)) x) same ∙ ap (order_made o (suc (length ys))) is

one_more : (setup : Setup) (past : List Entry) (step : Step) (reply : Result Reply StepFault)
    → AnswersBy setup past (entry step reply) reply → AnswersCommands setup past
    → AnswersCommands setup (entry step reply ∷ past)
one_more setup past step (Err f) last so_far = record {
  last = last;
  executes_are = so_far.executes_are;
  pending_are = so_far.pending_are;
}
one_more setup past step (Ok r) last so_far =
    let e : Entry = entry step (Ok r) in
    let before : Orders = orders setup past in
    let made : Option Execute = execute_in setup past e in
    let due : Option Execute = execute_due setup before past step r in
    record {
      last = last;
      executes_are = ap (λ (x : Option Execute). option_to_list x ++ executes setup past) last.execute
          ∙ ap (λ (xs : List Execute). option_to_list due ++ xs) so_far.executes_are;
      pending_are = λ o.
          ap (λ (ps : List Pending). left_pending setup o past e ps r
          ++ option_to_list (order_made o (suc (length (executes setup past))) made)) (so_far.pending_are o)
          ∙ ap (λ (x : Option Pending). left_pending setup o past e (before.pending_to o) r ++ option_to_list x)
          (same_order o (executes setup past) before.accepted made due so_far.executes_are last.execute);
    }

-- ---- each place

known : (setup : Setup) (past : List Entry) → HistoryPlace setup past → Place setup past → HasWaiting setup past
    → Known setup past
known setup past here place waits = record {
  single = here.given.settings.addresses;
  sound = here.known.sound;
  moment = here.known.tied.moment;
  selects = place.selects;
  up = place.up;
  waits = waits;
}

each : (setup : Setup) (past : List Entry) → AtEach (HistoryPlace setup) past → AtEach (Place setup) past
    → AtEach (OrderPlace setup) past → AtEach (AnswersCommands setup) past
each setup [] at places orders_at = record { last = tt; executes_are = refl; pending_are = λ o. refl }
each setup (e ∷ past) at places orders_at =
    let rest = each setup past at.1 places.1 orders_at.1 in
    let so_far : AnswersCommands setup past = last_place (AnswersCommands setup) past rest in
    let k : Known setup past = known setup past (last_place (HistoryPlace setup) past at.1)
    (last_place (Place setup) past places.1)
    (waits_so setup past (last_place (OrderPlace setup) past orders_at.1) so_far) in
    (one_more setup past e.step e.reply (answers_by setup past e.step e.reply at.0.given.run.0 k) so_far, rest)

pub commands_answered : (setup : Setup) (past : List Entry) → IsSoundRun setup past
    → AllByRecursion HasShortIndex setup.controls → AtEach (AnswersCommands setup) past
commands_answered setup past given short =
    let here = history_places setup past given in
    each setup past here (places setup past here) (order_places setup past given short)
