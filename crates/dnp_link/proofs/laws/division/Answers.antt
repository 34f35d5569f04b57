use Rattle.dnp_link.proofs.Division.{remainder_is, remainder_only}
use Rattle.dnp_link.proofs.laws.division.Goals as goal

pub returns-clause-is : goal.returns-clause-is
returns-clause-is c = remainder_is

pub returns-clause-only : goal.returns-clause-only
returns-clause-only c = remainder_only
