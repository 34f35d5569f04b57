use Rattle.std.specs.Prelude.{slice_get, IfSome}
use Rattle.std.proofs.Common.{refl, subst}
use Rattle.gw_station.specs.declared.event.Event.{Event}
use Rattle.gw_station.specs.declared.event.Event.TheVariants as events
use Rattle.gw_station.specs.Frames.{HasPlace}
use Rattle.gw_hub.specs.Hub.{asked_by_sender, said_to_sender, IsActEvent}
use Rattle.gw_hub.proofs.Answered.{all_fit, not_told}
use Rattle.gw_hub.proofs.orders.settle.Goals as goal

pub answer-requires : goal.answer-requires
answer-requires c =
    let client = c.args.sender.now.client in
    let a = asked_by_sender c.args.settings.now c.args.outstations.now c.args.sender.now c.in-Command.command in
    let place = subst (λ (event : Event). IfSome (slice_get c.args.clients.now.each client) (HasPlace event)) c.in-Command.is
    c.requires.place in
    let act = subst IsActEvent c.in-Command.is c.requires.acts in
    rw c.said_by.ensures (all_fit c.args.settings.now a c.args.controls.now c.command-answer.result
    (slice_get c.args.clients.now.each client)
    (rw (← c.is_control_up-up.ensures) c.command-answer.ensures.answer) place act)

pub returns-in-Taken-clause-clients : goal.returns-in-Taken-clause-clients
returns-in-Taken-clause-clients c =
    let said = said_to_sender c.args.settings.now c.args.outstations.now c.args.sender.now c.args.controls.now in
    not_told said c.args.event.now events.Taken c.args.sender.now.client c.args.clients.now.each c.in-Taken.is (λ k. refl)

pub returns-in-Closed-clause-clients : goal.returns-in-Closed-clause-clients
returns-in-Closed-clause-clients c =
    let said = said_to_sender c.args.settings.now c.args.outstations.now c.args.sender.now c.args.controls.now in
    not_told said c.args.event.now (events.Closed _) c.args.sender.now.client c.args.clients.now.each c.in-Closed.is
    (λ k. refl)
