use Rattle.std.proofs.Common.{List, None, sym, subst}
use Rattle.dnp_app.specs.Response.{Fragment}
use Rattle.gw_threads.specs.Heard.{HearsOf}
use Rattle.gw_threads.proofs.Hearing.{heard_nothing, is_refused, is_response}
use Rattle.gw_threads.proofs.outstation_reading.OutstationReader.take_fragment.Goals as goal

pub returns-in-Ok-clause-heard : goal.returns-in-Ok-clause-heard
returns-in-Ok-clause-heard g c =
    subst (λ (l : List Fragment). HearsOf g.L.Course.setup c.args.self.now.worker.pass c.step.new.self.worker.pass l c.step.result)
    (sym (is_response c.args.self.now.outstation c.args.octets.items c.in-Ok.response c.in-Ok.ensures.exact))
    c.step.ensures.heard

pub returns-in_default-clause-heard : goal.returns-in_default-clause-heard
returns-in_default-clause-heard g c =
    heard_nothing g.L.Course.setup c.args.self.now.worker.pass _ None
    (is_refused c.args.self.now.outstation c.args.octets.items c.in-Err.fault c.in-Err.ensures.exact c.in_default.not-Memory)
