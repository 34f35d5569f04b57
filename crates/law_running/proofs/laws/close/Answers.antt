use Rattle.law_running.proofs.Keeping.{closed_kept}
use Rattle.law_running.proofs.laws.close.Goals as goal

pub returns-clause-kept : goal.returns-clause-kept
returns-clause-kept g c = closed_kept _ c.close.result c.close.ensures.course
