use Rattle.std.proofs.Common.{not, ap, refl}
use Rattle.std.specs.Prelude.{is_ok}
use Rattle.gw_threads.proofs.Confirming.{reads_sent}
use Rattle.gw_threads.proofs.outstation_reading.OutstationReader.answer_link.Goals as goal

pub returns-in-Ok-clause-confirmed : goal.returns-in-Ok-clause-confirmed
returns-in-Ok-clause-confirmed g c =
    reads_sent g.L.Course.setup c.args.self.now.outstation c.args.self.now.worker.pass c.args.self.now.front c.reply.new.mine _
    (is_ok c.reply.result) _ tt refl c.reply.ensures.sent (ap (λ r. not (is_ok r)) c.in-Ok.is)

pub returns-in-Err-clause-confirmed : goal.returns-in-Err-clause-confirmed
returns-in-Err-clause-confirmed g c =
    reads_sent g.L.Course.setup c.args.self.now.outstation c.args.self.now.worker.pass c.args.self.now.front c.reply.new.mine _
    (is_ok c.reply.result) _ tt refl c.reply.ensures.sent (ap (λ r. not (is_ok r)) c.in-Err.is)
