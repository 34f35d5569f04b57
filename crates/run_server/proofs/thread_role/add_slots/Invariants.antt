-- The passes that are left are those of the outstations, and of the slots so far down.
use Rattle.std.proofs.Common.{◌≡◌, ◌+◌, ◌*◌, ◌≤◌, vec_len}
use Rattle.run_server.specs.Roles.{AreFirst}
use Rattle.run_server.proofs.thread_role.add_slots.Given as goal

abbrev pub invariant-slots : goal.invariant-slots
invariant-slots g l = record {
  first : AreFirst l.passes.items;
  count : vec_len l.passes ≡ 2 * (l.fn.outstations + l.slot);
  below : l.slot ≤ 8;
}

abbrev pub decreases-slots : goal.decreases-slots
decreases-slots g l = l.slot
