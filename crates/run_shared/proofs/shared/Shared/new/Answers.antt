use Rattle.std.proofs.Common.{refl}
use Rattle.run_shared.proofs.Reaching.{reached_first}
use Rattle.run_shared.proofs.Telling.{room_for_all}
use Rattle.run_shared.proofs.shared.Shared.new.Goals as goal

pub passes_and_bells-requires-clause-course : goal.passes_and_bells-requires-clause-course
passes_and_bells-requires-clause-course g c = (reached_first g.L.Course.setup _ _ c.requires.first refl).course

pub passes_and_bells-requires-clause-outstations : goal.passes_and_bells-requires-clause-outstations
passes_and_bells-requires-clause-outstations g c =
    room_for_all g.L.Course.setup (g.M.Machine.seen c.args.machine) _ c.requires.first c.in_ok-outstations.ensures
