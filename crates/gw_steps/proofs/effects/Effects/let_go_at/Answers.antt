use Rattle.std.specs.List.{filter}
use Rattle.std.specs.Prelude.{slice_get}
use Rattle.std.proofs.Common.{◌≡◌, ◌<◌, ◌≤◌, ◌+◌, List, [], ◌∷◌, length}
use Rattle.std.proofs.Common.{map, take, None, Some, sym, ap, ◌∙◌, arith}
use Rattle.std.proofs.lemmas.List.{take_all}
use Rattle.gw_control.specs.declared.accepted.Accepted.{Accepted}
use Rattle.dnp_master.specs.declared.fate.Fate.TheVariants.{LetGo}
use Rattle.gw_steps.specs.Effects.{is_of_leaving, order_end, with_ends}
use Rattle.gw_steps.proofs.Ending.{more_ended, none_ended, one_chosen, one_more, same_room, something_at}
use Rattle.gw_steps.proofs.effects.Effects.let_go_at.Goals as goal
use Rattle.gw_steps.proofs.effects.Effects.let_go_at.Goals.{in-Some, in_default}

pub loop-place-init : goal.loop-place-init
loop-place-init c = none_ended c.args.self.now

pub let_go_order-requires : goal.let_go_order-requires
let_go_order-requires c =
    omega (
      arith,
      same_room c.loop-place.invariant,
      c.loop-place.invariant.few,
      c.loop-place-test.true,
      c.waiting.ensures.few,
      c.len-place-end.ensures.len,
      ap length c.waiting.ensures.items,
      c.requires.room,
    )

pub loop-place-preserved : goal.loop-place-preserved
loop-place-preserved c =
    let f = order_end c.args.outstation LetGo in
    let p = is_of_leaving c.args.leaving.now in
    let place = c.loop-place.place in
    let waiting = c.args.outgoing.now.waiting in
    let inside : place < length waiting =
    omega (arith, c.loop-place-test.true, c.len-place-end.ensures.len, ap length c.waiting.ensures.items) in
    elim c.match-get.branch [
      | in-Some w ↦
          let x = w.in-Some.accepted.now in
          let is : slice_get waiting place ≡ Some x =
          sym (w.in-Some.ensures ∙ ap (λ (xs : List Accepted). slice_get xs place) c.waiting-in-loop-place.ensures.items) in
          more_ended 1 (map f (filter p (x ∷ []))) (map f (filter p (take (place + 1) waiting))) c.match-get.self
          c.loop-place.invariant (w.self-is ∙ w.let_go_order.ensures) (one_chosen f p x) (one_more f p place waiting x is)
      | in_default w ↦
          let is : None ≡ slice_get waiting place =
          w.in_default.ensures ∙ ap (λ (xs : List Accepted). slice_get xs place) c.waiting-in-loop-place.ensures.items in
          absurd (something_at waiting place inside is)
    ]

pub returns-clause-told : goal.returns-clause-told
returns-clause-told c =
    let waiting = c.args.outgoing.now.waiting in
    let all : length waiting ≤ c.loop-place.place =
    omega (arith, c.loop-place-test.false, c.len-place-end.ensures.len, ap length c.waiting.ensures.items) in
    c.loop-place.invariant.told
    ∙ ap (λ (xs : List Accepted).
    with_ends (map (order_end c.args.outstation LetGo) (filter (is_of_leaving c.args.leaving.now) xs)) c.args.self.now)
    (take_all c.loop-place.place waiting all)

pub returns-clause-few : goal.returns-clause-few
returns-clause-few c =
    omega (
      arith,
      c.loop-place.invariant.few,
      c.loop-place.auto.place-end,
      c.waiting.ensures.few,
      c.len-place-end.ensures.len,
      ap length c.waiting.ensures.items,
    )
