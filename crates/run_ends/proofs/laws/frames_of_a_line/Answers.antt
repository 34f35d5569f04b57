use Rattle.run_ends.proofs.Saying.{says_in_turn}
use Rattle.run_ends.proofs.laws.frames_of_a_line.Goals as goal

pub returns : goal.returns
returns g c =
    says_in_turn g.N.LineCourse.own g.N.LineCourse.peer g.N.LineCourse.first (g.W.Outgoing.contents c.into_parts.result.0)
    c.into_parts.result.1.log c.into_parts.ensures.took
