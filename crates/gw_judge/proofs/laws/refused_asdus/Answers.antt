use Rattle.gw_judge.proofs.Refused.{header_whole, cause_within}
use Rattle.gw_judge.proofs.laws.refused_asdus.Goals as goal

pub returns-clause-header : goal.returns-clause-header
returns-clause-header c = header_whole

pub returns-clause-cause : goal.returns-clause-cause
returns-clause-cause c = cause_within
