use Rattle.std.proofs.Common.{◌∙◌, sym, subst}
use Rattle.std.proofs.lemmas.List.{append-nil}
use Rattle.run_server.specs.Roles.{AreFirst}
use Rattle.run_server.proofs.Roles.{one_less}
use Rattle.run_server.proofs.thread_role.last.Goals as goal

pub returns-in-Some-clause-passes : goal.returns-in-Some-clause-passes
returns-in-Some-clause-passes g c = (one_less _ _ c.in-Some.pass c.requires c.in-Some.ensures.items).0

pub returns-in-Some-clause-actor : goal.returns-in-Some-clause-actor
returns-in-Some-clause-actor g c =
    (one_less _ _ c.in-Some.pass c.requires c.in-Some.ensures.items).1 ∙ sym c.pop.new.self.ok.0

pub returns-in-None-clause-passes : goal.returns-in-None-clause-passes
returns-in-None-clause-passes g c = subst AreFirst (c.in-None.ensures.items ∙ append-nil c.pop.new.self.items) c.requires
