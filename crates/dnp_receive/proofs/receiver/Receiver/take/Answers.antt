use Rattle.dnp_link.specs.FrameContent.{content}
use Rattle.dnp_receive.proofs.Receiving.{answered}
use Rattle.dnp_receive.proofs.receiver.Receiver.take.Goals as goal

pub returns-clause-taken : goal.returns-clause-taken
returns-clause-taken c = λ own peer before h.
    (answered own peer before c.args.self.now _
    (record { station = c.take-answer.new.self; series = c.completed_by.new.assembler })
    (content c.args.frame.now) c.take-answer.result c.user.result.now _ h c.self.view_is c.take-answer.ensures.answer
    c.take-answer.ensures.after c.user.ensures c.in_ok-fragment.ensures.series c.in_ok-fragment.ensures.fragment).taken

pub returns-clause-fragment : goal.returns-clause-fragment
returns-clause-fragment c = λ own peer before h.
    (answered own peer before c.args.self.now _
    (record { station = c.take-answer.new.self; series = c.completed_by.new.assembler })
    (content c.args.frame.now) c.take-answer.result c.user.result.now _ h c.self.view_is c.take-answer.ensures.answer
    c.take-answer.ensures.after c.user.ensures c.in_ok-fragment.ensures.series
    c.in_ok-fragment.ensures.fragment).completed
