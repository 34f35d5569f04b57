use Rattle.std.proofs.Common.{sym}
use Rattle.gw_entries.specs.Complaints.{rules_wrongs}
use Rattle.gw_entries.specs.Keys.{rule_seen}
use Rattle.gw_entries.proofs.Wrongs.{wrong_here, nothing_wrong}
use Rattle.gw_entries.proofs.entry.Entry.first_fault.Goals as goal

pub returns-in-Some : goal.returns-in-Some
unfolding rules_wrongs
returns-in-Some c =
    wrong_here _ _ _ _ rule_seen _ _ _ _ c.loop-key.invariant c.loop-key-test.true (sym c.in-Some.ensures)

pub returns : goal.returns
unfolding rules_wrongs
returns c = nothing_wrong _ _ _ _ rule_seen _ _ c.loop-key.invariant c.loop-key-test.false
