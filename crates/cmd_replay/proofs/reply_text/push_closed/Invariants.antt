-- The clients from this one on are left.
use Rattle.std.proofs.Common.{◌≡◌, ◌-◌, ◌++◌}
use Rattle.cmd_replay.specs.Replies.{closed_words}
use Rattle.cmd_replay.proofs.reply_text.push_closed.Given as goal

abbrev pub invariant-loop-client : goal.invariant-loop-client
invariant-loop-client l =
    l.text.items ++ closed_words l.client (8 - l.client) l.rest ≡ l.fn.text.items ++ closed_words 0 8 l.closed
