use Rattle.run_http.proofs.answering.message.Goals as goal

pub returns : goal.returns
returns c = rw c.sent_of-sent.ensures at c.in_ok-text.ensures.ok
