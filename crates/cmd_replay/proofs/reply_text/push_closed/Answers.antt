use Rattle.std.proofs.Common.{arith}
use Rattle.cmd_replay.proofs.ClosedLaws.{closed_more}
use Rattle.cmd_replay.proofs.reply_text.push_closed.Goals as goal

pub loop-client-preserved : goal.loop-client-preserved
loop-client-preserved c =
    closed_more c.loop-client.text.items c.push_client.new.text.items _ c.loop-client.client c.loop-client.rest
    (omega (arith, c.loop-client.auto, c.loop-client-test.true)) c.in_ok-push_client.ensures c.loop-client.invariant
