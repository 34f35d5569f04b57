use Rattle.run_shared.proofs.shared.Shared.total.Goals as goal

pub returns-clause-course : goal.returns-clause-course
returns-clause-course g c =
    (c.total.new.self.past, (c.total.ensures.reached.course, c.total.ensures.reached.count))
