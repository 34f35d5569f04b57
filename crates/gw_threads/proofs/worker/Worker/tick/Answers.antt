use Rattle.gw_threads.proofs.TicksAlone.{ticks_one}
use Rattle.gw_threads.proofs.worker.Worker.tick.Goals as goal

pub returns-in-Ok-clause-ticks : goal.returns-in-Ok-clause-ticks
returns-in-Ok-clause-ticks g c =
    ticks_one g.L.Course.setup c.args.self.now.pass c.make.new.self.pass c.moment-moment.result c.make.ensures.answered.0
    c.make.result c.make.ensures.answered.1

pub returns-in-Err-clause-ticks : goal.returns-in-Err-clause-ticks
returns-in-Err-clause-ticks g c =
    ticks_one g.L.Course.setup c.args.self.now.pass c.make.new.self.pass c.moment-moment.result c.make.ensures.answered.0
    c.make.result c.make.ensures.answered.1
