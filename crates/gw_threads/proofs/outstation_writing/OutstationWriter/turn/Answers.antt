use Rattle.std.proofs.Common.{ℕ, Some, sym, subst, ◌∙◌}
use Rattle.run_log.specs.Follows.{Known}
use Rattle.run_ends.specs.Ends.{is_write_fault}
use Rattle.run_ends.specs.declared.sent.Sending.{Sending}
use Rattle.run_shared.specs.Turn.{Pass}
use Rattle.gw_threads.specs.Sends.{SentAll, TellsOutstationLoss}
use Rattle.gw_threads.proofs.Requesting.{sent_loss}
use Rattle.gw_threads.proofs.outstation_writing.OutstationWriter.turn.Goals as goal

pub returns-clause-sent : goal.returns-clause-sent
returns-clause-sent g c =
    let setup = g.L.Course.setup in
    let now = c.args.self.now in
    let rested = c.rests.new.self in
    let sent = c.send_next.new.self in
    let after = c.lose.new.self.worker.pass in
    let cut = is_write_fault (Some c.in_ok-end.end) in
    let first : SentAll setup now.outstation now.worker.pass sent.worker.pass now.front sent.front cut =
    subst (λ (o : ℕ). SentAll setup o now.worker.pass sent.worker.pass now.front sent.front cut) c.rests.ensures.outstation
    (subst (λ (p : Pass). SentAll setup rested.outstation p sent.worker.pass now.front sent.front cut) c.rests.ensures.pass
    (subst (λ (x : Known Sending). SentAll setup rested.outstation rested.worker.pass sent.worker.pass x sent.front cut)
    c.rests.ensures.front c.in_ok-end.ensures.sent)) in
    subst (λ (y : Known Sending). SentAll setup now.outstation now.worker.pass after now.front y cut) (sym c.lose.ensures.front)
    (sent_loss setup now.outstation now.worker.pass sent.worker.pass after now.front sent.front cut first
    (subst (λ (o : ℕ). TellsOutstationLoss setup o sent.worker.pass after)
    (c.send_next.ensures.outstation ∙ c.rests.ensures.outstation) c.lose.ensures.told))
