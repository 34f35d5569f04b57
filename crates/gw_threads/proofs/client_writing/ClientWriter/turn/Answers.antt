use Rattle.std.proofs.Common.{ℕ, Option, ◌||◌, Bool, sym, ap, ◌∙◌, subst}
use Rattle.run_ends.specs.declared.worker_end.WorkerEnd.{WorkerEnd}
use Rattle.run_ends.specs.Ends.{is_write_fault}
use Rattle.run_ends.proofs.Failed.{writing_fails}
use Rattle.gw_threads.specs.Written.{Asked, Settles, TellsLoss, WritesIfEnded}
use Rattle.gw_threads.proofs.Gathering.{settled, unwritten_lost}
use Rattle.gw_threads.proofs.client_writing.ClientWriter.turn.Goals as goal

pub returns-clause-written : goal.returns-clause-written
returns-clause-written g c =
    let setup = g.L.Course.setup in
    let mine = c.args.self.now in
    let mid = c.put_run-put.new.self in
    let after = c.settle.new.self.pass in
    let before = g.W.Outgoing.contents c.args.writer.now in
    let octets = g.W.Outgoing.contents c.put_run-put.new.writer in
    let put = c.put_run-put.result in
    subst (λ (end : Option WorkerEnd). WritesIfEnded (Asked setup mine.client mine.pass after) before octets end)
    (sym c.end.ensures)
    (settled setup mine.client mine.pass mid.pass after before octets put c.put_run-put.ensures.written
    (subst (λ (k : ℕ). Settles setup k mid.pass after put) c.put_run-put.ensures.client c.settle.ensures.settles))

pub returns-clause-failed : goal.returns-clause-failed
returns-clause-failed g c =
    c.put_run-put.ensures.failed
    ∙ ap (λ (b : Bool). b || g.W.Outgoing.has_failed c.args.writer.now)
    (sym (writing_fails c.put_run-put.result) ∙ ap is_write_fault (sym c.end.ensures))

pub returns-clause-lost : goal.returns-clause-lost
returns-clause-lost g c = λ fault.
    let mid = c.put_run-put.new.self.pass in
    let after = c.settle.new.self.pass in (
      mid,
      subst (λ (k : ℕ). TellsLoss g.L.Course.setup k mid after) c.put_run-put.ensures.client
          (unwritten_lost g.L.Course.setup c.put_run-put.new.self.client mid after c.put_run-put.result
          c.settle.ensures.settles (ap is_write_fault (sym c.end.ensures) ∙ fault)),
    )
