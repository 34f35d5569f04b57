use Rattle.std.proofs.Common.{refl, ◌∙◌, ap, drop}
use Rattle.gw_model.specs.Queue.{Queue}
use Rattle.dnp_link.specs.FrameContent.{content}
use Rattle.dnp_link.specs.Frame.{frame_length}
use Rattle.dnp_link.specs.Stream.{Dropped, event_at_front}
use Rattle.dnp_link.proofs.Answering.{goes_on, waits, block_dropped, frame_given}
use Rattle.dnp_link.proofs.feed.LinkFeed.next.Goals as goal

pub returns-in-Nothing-clause-reads : goal.returns-in-Nothing-clause-reads
returns-in-Nothing-clause-reads c =
    (waits c.args.self.now (c.in-Nothing.ensures.shown ∙ ap event_at_front (c.rest.ensures ∙ c.self.view_is))).reads

pub returns-in-Skip-clause-reads : goal.returns-in-Skip-clause-reads
returns-in-Skip-clause-reads c =
    (goes_on c.args.self.now c.use_up.new.self.left (Dropped c.in-Skip.why) 1
    (c.in-Skip.ensures.shown ∙ ap event_at_front (c.rest.ensures ∙ c.self.view_is)) refl
    (ap (λ (q : Queue). q.left) c.use_up.ensures ∙ ap (drop 1) c.self.view_is)).reads

pub returns-in_default-clause-reads : goal.returns-in_default-clause-reads
returns-in_default-clause-reads c =
    (block_dropped c.in-Whole.len c.rest.result.now c.rest-in-Whole.result.now c.args.self.now
    c.use_up-in_default.new.self.left
    (c.rest.ensures ∙ c.self.view_is)
    (c.rest-in-Whole.ensures ∙ c.self.view_is) c.in-Whole.ensures.shown c.in_default.ensures.carried
    (ap (λ (q : Queue). q.left) c.use_up-in_default.ensures ∙ ap (drop 1) c.self.view_is)).reads

pub returns-in-Some-clause-rest : goal.returns-in-Some-clause-rest
returns-in-Some-clause-rest c =
    (frame_given c.in-Whole.len c.rest.result.now c.rest-in-Whole.result.now c.args.self.now
    c.use_up-in-Whole.new.self.left (content c.in-Some.frame)
    c.frame_length_of.result (c.rest.ensures ∙ c.self.view_is)
    (c.rest-in-Whole.ensures ∙ c.self.view_is) c.in-Whole.ensures.shown
    c.in-Whole.ensures.tested c.in-Some.ensures.carried (c.frame_length_of.ensures ∙ ap frame_length c.from.ensures)
    (ap (λ (q : Queue). q.left) c.use_up-in-Whole.ensures ∙ ap (drop c.frame_length_of.result) c.self.view_is)).rest

pub returns-in-Some-clause-reads : goal.returns-in-Some-clause-reads
returns-in-Some-clause-reads c =
    (frame_given c.in-Whole.len c.rest.result.now c.rest-in-Whole.result.now c.args.self.now
    c.use_up-in-Whole.new.self.left (content c.in-Some.frame)
    c.frame_length_of.result (c.rest.ensures ∙ c.self.view_is)
    (c.rest-in-Whole.ensures ∙ c.self.view_is) c.in-Whole.ensures.shown
    c.in-Whole.ensures.tested c.in-Some.ensures.carried (c.frame_length_of.ensures ∙ ap frame_length c.from.ensures)
    (ap (λ (q : Queue). q.left) c.use_up-in-Whole.ensures ∙ ap (drop c.frame_length_of.result) c.self.view_is)).reads
