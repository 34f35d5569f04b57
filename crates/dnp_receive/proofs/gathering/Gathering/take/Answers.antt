use Rattle.std.proofs.lemmas.Result.{on_ok_weaker}
use Rattle.dnp_link.specs.FrameContent.{content}
use Rattle.dnp_receive.specs.declared.gathering.Gathering.{Gathering}
use Rattle.dnp_receive.proofs.Gathered.{gathered_more}
use Rattle.dnp_receive.proofs.gathering.Gathering.take.Goals as goal

-- the gathering as the call ends
abbrev new : goal.After-add-2 → Gathering
new c = record { receiver = c.take.new.self; replies = c.add.new.list; fragments = c.add-2.new.list }

pub returns : goal.returns
returns c = λ own peer before h.
    on_ok_weaker c.add-2.result
    (λ added. gathered_more own peer before c.args.self.now (new c) (content c.args.frame.now) _ _ h
    (c.in_ok-reply.ensures.taken own peer before h.taken) (c.in_ok-reply.ensures.reply own peer before h.taken)
    (c.in_ok-reply.ensures.fragment own peer before h.taken) c.in_ok-add.ensures added) c.add-2.ensures
