use Rattle.std.proofs.Common.{inl, inr, sym, subst}
use Rattle.run_shared.specs.Turn.{Pass}
use Rattle.gw_threads.specs.Heard.{HearsOctets}
use Rattle.gw_threads.proofs.Hearing.{came_none, octets_none}
use Rattle.gw_threads.proofs.outstation_reading.OutstationReader.turn.Goals as goal

pub returns-in-Later-clause-heard : goal.returns-in-Later-clause-heard
returns-in-Later-clause-heard g c =
    let setup = g.L.Course.setup in
    let outstation = c.args.self.now.outstation in
    let mine = c.args.self.now.worker.pass in
    let x = c.args.receiver.now in
    let held = c.args.feed.now in
    let before = g.I.Incoming.given c.args.input.now in
    let now = g.I.Incoming.given c.receive-arrival.new.self in
    subst (λ (p : Pass). HearsOctets setup outstation mine p x x held held before now c.look.result)
    (sym c.look.ensures.pass)
    (octets_none setup outstation mine x held before now c.look.result c.requires.drained
    (came_none c.receive-arrival.result before now c.receive-arrival.new.buffer (inl c.in-Later.is)
    c.receive-arrival.ensures.given))

pub returns-in-End-clause-heard : goal.returns-in-End-clause-heard
returns-in-End-clause-heard g c =
    let before = g.I.Incoming.given c.args.input.now in
    let now = g.I.Incoming.given c.receive-arrival.new.self in
    octets_none g.L.Course.setup c.args.self.now.outstation c.args.self.now.worker.pass c.args.receiver.now c.args.feed.now
    before now c.end.result c.requires.drained
    (came_none c.receive-arrival.result before now c.receive-arrival.new.buffer (inr c.in-End.is)
    c.receive-arrival.ensures.given)
