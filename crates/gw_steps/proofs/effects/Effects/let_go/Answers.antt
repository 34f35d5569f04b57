use Rattle.std.specs.List.{filter}
use Rattle.std.proofs.Common.{◌≡◌, ◌≤◌, ◌+◌, ◌*◌, List, length, map, take, length-append, ap, ◌∙◌, arith}
use Rattle.std.proofs.lemmas.List.{take_all}
use Rattle.gw_control.specs.Orders.{Outgoing}
use Rattle.dnp_master.specs.declared.fate.Fate.TheVariants.{LetGo}
use Rattle.gw_steps.specs.declared.effects.OrderEnd.{OrderEnd}
use Rattle.gw_steps.specs.Effects.{is_of_leaving, let_go, order_end, with_ends, Telling}
use Rattle.gw_steps.proofs.Ending.{go_next, more_ended, none_ended, same_room}
use Rattle.gw_steps.proofs.effects.Effects.let_go.Goals as goal

pub loop-outstation-init : goal.loop-outstation-init
loop-outstation-init c = none_ended c.args.self.now

pub let_go_at-requires : goal.let_go_at-requires
let_go_at-requires c =
    omega (
      arith,
      same_room c.loop-outstation.invariant,
      c.loop-outstation.invariant.few,
      c.loop-outstation-test.true,
      c.requires.room,
      ap length c.requires.empty,
    )

pub loop-outstation-preserved : goal.loop-outstation-preserved
loop-outstation-preserved c =
    let leaving = c.args.leaving.now in
    let qs = c.args.outgoing.now in
    let o = c.loop-outstation.outstation in
    let q = c.index-outgoing-outstation.result in
    let here : List OrderEnd = map (order_end o LetGo) (filter (is_of_leaving leaving) q.waiting) in
    let few : length c.let_go_at.new.self.told.ended ≤ length c.loop-outstation.self.told.ended + 16 =
    c.let_go_at.ensures.few in
    let longer = ap (λ (t : Telling). length t.told.ended) c.let_go_at.ensures.told
    ∙ length-append c.loop-outstation.self.told.ended here in
    let next : 16 * (o + 1) ≡ 16 * o + 16 = omega arith in
    rw next (more_ended 16 here (let_go leaving 0 (take (o + 1) qs)) c.let_go_at.new.self c.loop-outstation.invariant
    c.let_go_at.ensures.told (omega (arith, longer, few)) (go_next leaving o qs q c.loop-outstation-test.true
    c.index-outgoing-outstation.is))

pub returns-clause-told : goal.returns-clause-told
returns-clause-told c =
    let qs = c.args.outgoing.now in
    let all : length qs ≤ c.loop-outstation.outstation = omega (arith, c.loop-outstation-test.false) in
    c.loop-outstation.invariant.told
    ∙ ap (λ (xs : List Outgoing). with_ends (let_go c.args.leaving.now 0 xs) c.args.self.now)
    (take_all c.loop-outstation.outstation qs all)

pub returns-clause-few : goal.returns-clause-few
returns-clause-few c =
    omega (arith, c.loop-outstation.invariant.few, c.loop-outstation.auto.outstation-end, ap length c.requires.empty)
