use Rattle.std.proofs.Common.{◌∷◌, [], subst, sym, ◌∙◌}
use Rattle.run_shared.specs.Turn.{Pass}
use Rattle.run_ends.specs.declared.sent.Sending.{Sending}
use Rattle.run_ends.specs.Ends.{is_write_fault}
use Rattle.run_log.specs.Follows.{Known}
use Rattle.gw_threads.specs.Confirms.{Confirms, ReadsAll}
use Rattle.gw_threads.specs.Heard.{HearsOf}
use Rattle.gw_threads.proofs.Confirming.{reads_step}
use Rattle.gw_threads.proofs.Hearing.{heard_step}
use Rattle.gw_threads.proofs.outstation_reading.OutstationReader.ask.Goals as goal

pub returns-clause-confirmed : goal.returns-clause-confirmed
returns-clause-confirmed g c =
    let setup = g.L.Course.setup in
    let outstation = c.args.self.now.outstation in
    let mine = c.args.self.now.worker.pass in
    let old = c.args.self.now.front in
    let new = c.confirm.new.self.front in
    let reply = c.make-reply.result in
    let cut = is_write_fault c.confirm.result in
    subst (λ (p : Pass). ReadsAll setup outstation mine p old new cut) (sym (c.confirm.ensures.pass ∙ c.hear.ensures.pass))
    (reads_step setup outstation mine c.make-reply.new.self.pass old new c.args.response c.moment-moment.result
    c.make-reply.ensures.answered.0 reply cut c.requires.own c.make-reply.ensures.answered.1
    (subst (λ (l : Known Sending). Confirms reply l new cut) c.hear.ensures.front c.confirm.ensures.confirmed))

pub returns-clause-heard : goal.returns-clause-heard
returns-clause-heard g c =
    let setup = g.L.Course.setup in
    let mine = c.args.self.now.worker.pass in
    let result = c.confirm.result in
    subst (λ (p : Pass). HearsOf setup mine p (c.args.response ∷ []) result)
    (sym (c.confirm.ensures.pass ∙ c.hear.ensures.pass))
    (heard_step setup mine c.make-reply.new.self.pass c.args.response c.moment-moment.result
    c.make-reply.ensures.answered.0 c.make-reply.result result c.make-reply.ensures.answered.1
    c.confirm.ensures.spent)
