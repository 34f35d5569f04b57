use Rattle.std.proofs.Common.{ℕ, ◌||◌, Bool, Some, ap, ◌∙◌, refl, subst}
use Rattle.run_ends.specs.Ends.{is_write_fault}
use Rattle.gw_threads.specs.Written.{Asked, TellsLoss, Writes, Wrote}
use Rattle.gw_threads.proofs.Gathering.{wrote_none, wrote-then, writes-then}
use Rattle.gw_threads.proofs.client_writing.ClientWriter.write_on.Goals as goal

pub returns-in-Some-turn-clause-written : goal.returns-in-Some-turn-clause-written
returns-in-Some-turn-clause-written g c =
    let now = g.W.Outgoing.contents c.runs.writer in
    let behind = g.W.Outgoing.contents c.turn.new.writer in
    let end = c.in-Some-turn.end in
    writes-then _ _ _ c.runs.self.pass _ _ now behind end c.runs.invariant.wrote
    (subst (λ (k : ℕ). Writes (Asked g.L.Course.setup k c.runs.self.pass c.turn.new.self.pass) now behind end)
    c.runs.invariant.client c.in-Some-turn.ensures.written)

pub runs-preserved : goal.runs-preserved
runs-preserved g c =
    let now = g.W.Outgoing.contents c.runs.writer in
    let behind = g.W.Outgoing.contents c.turn.new.writer in
    record {
      client = c.turn.ensures.client ∙ c.runs.invariant.client;
      wrote =
          wrote-then _ _ _ c.runs.self.pass _ _ now behind c.runs.invariant.wrote
          (subst (λ (k : ℕ). Wrote (Asked g.L.Course.setup k c.runs.self.pass c.turn.new.self.pass) now behind)
          c.runs.invariant.client c.in_default.ensures.written);
      failed = c.in_default.ensures.failed ∙ c.runs.invariant.failed;
    }

pub runs-init : goal.runs-init
runs-init g c = record {
  client = refl;
  wrote = wrote_none g.L.Course.setup c.args.self.now.client c.args.self.now.pass
      (g.W.Outgoing.contents c.args.writer.now);
  failed = refl;
}

pub returns-in-Some-turn-clause-failed : goal.returns-in-Some-turn-clause-failed
returns-in-Some-turn-clause-failed g c =
    c.in-Some-turn.ensures.failed
    ∙ ap (λ (b : Bool). is_write_fault (Some c.in-Some-turn.end) || b) c.runs.invariant.failed

pub returns-in-Some-turn-clause-lost : goal.returns-in-Some-turn-clause-lost
returns-in-Some-turn-clause-lost g c = λ fault.
    let told = c.in-Some-turn.ensures.lost fault in (
      told.0,
      subst (λ (k : ℕ). TellsLoss g.L.Course.setup k told.0 c.turn.new.self.pass) c.runs.invariant.client told.1,
    )
