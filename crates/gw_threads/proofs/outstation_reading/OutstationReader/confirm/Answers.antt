use Rattle.std.proofs.Common.{not, ap}
use Rattle.std.specs.Prelude.{is_ok}
use Rattle.gw_threads.proofs.Confirming.{confirms_one}
use Rattle.gw_threads.proofs.outstation_reading.OutstationReader.confirm.Goals as goal

pub returns-in-Ok-clause-confirmed : goal.returns-in-Ok-clause-confirmed
returns-in-Ok-clause-confirmed g c =
    confirms_one c.args.reply.now c.args.self.now.front c.confirm.new.mine c.in-Some.octets (is_ok c.confirm.result) _
    c.in-Some.ensures c.confirm.ensures.sent (ap (λ r. not (is_ok r)) c.in-Ok.is)

pub returns-in-Err-clause-confirmed : goal.returns-in-Err-clause-confirmed
returns-in-Err-clause-confirmed g c =
    confirms_one c.args.reply.now c.args.self.now.front c.confirm.new.mine c.in-Some.octets (is_ok c.confirm.result) _
    c.in-Some.ensures c.confirm.ensures.sent (ap (λ r. not (is_ok r)) c.in-Err.is)
