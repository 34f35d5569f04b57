use Rattle.std.proofs.Common.{sym, subst}
use Rattle.gw_threads.specs.Heard.{IsDrained}
use Rattle.gw_threads.proofs.Confirming.{reads_loss, reads_own}
use Rattle.gw_threads.proofs.Hearing.{hears, nothing_held}
use Rattle.gw_threads.proofs.outstation_reading.outstation_reader.Goals as goal

pub read_on-end-requires : goal.read_on-end-requires
read_on-end-requires g c = record { drained = subst IsDrained (sym c.new-feed.ensures) nothing_held }

pub returns-clause-confirmed : goal.returns-clause-confirmed
returns-clause-confirmed g c = (
  c.join.result,
  (
    c.join.ensures,
    reads_loss _ _ _ _ _ _ _ _ c.read_on-end.ensures.confirmed c.lose_outstation.ensures.told,
  ),
)

pub returns-clause-own : goal.returns-clause-own
returns-clause-own g c =
    reads_own _ _ _ _ _ _ _
    (reads_loss _ _ _ _ _ _ _ _ c.read_on-end.ensures.confirmed c.lose_outstation.ensures.told)

pub returns-clause-heard : goal.returns-clause-heard
returns-clause-heard g c =
    hears g.L.Course.setup c.args.outstation c.args.pass c.read_on-end.new.self.worker.pass c.lose_outstation.new.self.pass
    c.args.receiver c.read_on-end.new.receiver c.new-feed.result c.read_on-end.new.feed
    (g.I.Incoming.given c.args.input.now) (g.I.Incoming.given c.read_on-end.new.input) c.read_on-end.result
    c.new-feed.ensures c.read_on-end.ensures.heard c.lose_outstation.ensures.told

pub returns-clause-lost : goal.returns-clause-lost
returns-clause-lost g c = (c.read_on-end.new.self.worker.pass, c.lose_outstation.ensures.told)
