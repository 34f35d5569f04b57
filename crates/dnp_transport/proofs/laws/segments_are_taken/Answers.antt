use Rattle.dnp_transport.proofs.Cutting.{segments_from-nil}
use Rattle.dnp_transport.proofs.ReadBack.{answers_again, fragments_again}
use Rattle.dnp_transport.proofs.laws.segments_are_taken.Goals as goal
use Rattle.std.proofs.Common.{true}

pub returns-clause-answers : goal.returns-clause-answers
returns-clause-answers c = answers_again

pub returns-clause-fragments : goal.returns-clause-fragments
returns-clause-fragments c = fragments_again

pub returns-clause-none : goal.returns-clause-none
returns-clause-none c = segments_from-nil true
