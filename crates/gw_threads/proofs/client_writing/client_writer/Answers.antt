use Rattle.std.proofs.Common.{ap, subst, sym, ◌∙◌, rules}
use Rattle.run_shared.specs.Turn.{Pass}
use Rattle.gw_threads.specs.Written.{Asking, TellsLoss}
use Rattle.gw_threads.proofs.Alone.{writes_all}
use Rattle.gw_threads.proofs.Gathering.{writes_own}
use Rattle.gw_threads.proofs.client_writing.client_writer.Goals as goal

pub returns-clause-own : goal.returns-clause-own
returns-clause-own g c =
    ap (λ (p : Pass). p.actor) c.into_pass-pass.ensures
    ∙ (writes_own _ _ _ _ _ _ c.write_on-end.result c.write_on-end.ensures.written
    ∙ ap (λ (a : Asking). a.pass.actor) c.new-source.ensures)

pub returns-clause-all : goal.returns-clause-all
returns-clause-all g c =
    writes_all g.L.Course.setup g.L.Course.roles c.args.client c.args.pass c.into_pass-pass.result
    (g.W.Outgoing.contents c.args.writer.now) (g.W.Outgoing.contents c.write_on-end.new.writer) c.write_on-end.result
    c.attest.ensures.roles c.attest-2.ensures.roles (search rules)

pub returns-clause-lost : goal.returns-clause-lost
returns-clause-lost g c = λ fault.
    let told = c.write_on-end.ensures.lost fault in (
      told.0,
      subst (λ (p : Pass). TellsLoss g.L.Course.setup c.args.client told.0 p) (sym c.into_pass-pass.ensures)
          (subst (λ (a : Asking). TellsLoss g.L.Course.setup a.client told.0 c.write_on-end.new.self.pass)
          c.new-source.ensures told.1),
    )
