use Rattle.std.proofs.Common.{not, ap, false, subst}
use Rattle.std.specs.Prelude.{is_ok}
use Rattle.run_log.specs.Follows.{Known}
use Rattle.run_ends.specs.declared.sent.Sending.{Sending}
use Rattle.gw_threads.specs.Sends.{SentAll}
use Rattle.gw_threads.proofs.Requesting.{sent_nothing, sent_request}
use Rattle.gw_threads.proofs.outstation_writing.OutstationWriter.send_next.Goals as goal

pub returns-in-Err-clause-sent : goal.returns-in-Err-clause-sent
returns-in-Err-clause-sent g c =
    let now = c.args.self.now in
    let asked = c.poll-answer.new.self in
    subst (λ (x : Known Sending). SentAll g.L.Course.setup now.outstation now.worker.pass asked.worker.pass x c.request.new.mine _)
    c.poll-answer.ensures.front
    (sent_request g.L.Course.setup now.outstation now.worker.pass asked.worker.pass asked.front c.request.new.mine c.poll-answer.result
    c.in-Some.request (is_ok c.request.result) _ c.poll-answer.ensures.polled c.in-Some.ensures c.request.ensures.sent
    (ap (λ r. not (is_ok r)) c.in-Err.is))

pub returns-in-Ok-clause-sent : goal.returns-in-Ok-clause-sent
returns-in-Ok-clause-sent g c =
    let now = c.args.self.now in
    let asked = c.poll-answer.new.self in
    subst (λ (x : Known Sending). SentAll g.L.Course.setup now.outstation now.worker.pass asked.worker.pass x c.request.new.mine _)
    c.poll-answer.ensures.front
    (sent_request g.L.Course.setup now.outstation now.worker.pass asked.worker.pass asked.front c.request.new.mine c.poll-answer.result
    c.in-Some.request (is_ok c.request.result) _ c.poll-answer.ensures.polled c.in-Some.ensures c.request.ensures.sent
    (ap (λ r. not (is_ok r)) c.in-Ok.is))

pub returns-then-is_err-clause-sent : goal.returns-then-is_err-clause-sent
returns-then-is_err-clause-sent g c =
    let asked = c.poll-answer.new.self in
    subst (λ (x : Known Sending). SentAll g.L.Course.setup c.args.self.now.outstation c.args.self.now.worker.pass asked.worker.pass x asked.front false)
    c.poll-answer.ensures.front
    (sent_nothing _ _ _ _ asked.front c.poll-answer.result c.poll-answer.ensures.polled c.in-None.ensures)

pub returns-else-is_err-clause-sent : goal.returns-else-is_err-clause-sent
returns-else-is_err-clause-sent g c =
    let asked = c.poll-answer.new.self in
    subst (λ (x : Known Sending). SentAll g.L.Course.setup c.args.self.now.outstation c.args.self.now.worker.pass asked.worker.pass x asked.front false)
    c.poll-answer.ensures.front
    (sent_nothing _ _ _ _ asked.front c.poll-answer.result c.poll-answer.ensures.polled c.in-None.ensures)
