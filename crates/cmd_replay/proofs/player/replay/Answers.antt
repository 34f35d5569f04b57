use Rattle.cmd_replay.proofs.InputLaws.{fine_at_0}
use Rattle.cmd_replay.proofs.player.replay.Goals as goal

pub returns-clause-fine : goal.returns-clause-fine
returns-clause-fine g c =
    fine_at_0 c.args.settings c.run-outcome.result c.finish.result _ _ _ c.run-outcome.ensures c.finish.ensures.fine
