-- The passes that are left are those of the outstations so far down.
use Rattle.std.proofs.Common.{◌≡◌, ◌*◌, vec_len}
use Rattle.run_server.specs.Roles.{AreFirst}
use Rattle.run_server.proofs.thread_role.add_outstations.Given as goal

abbrev pub invariant-outstations : goal.invariant-outstations
invariant-outstations g l = record {
  first : AreFirst l.passes.items;
  count : vec_len l.passes ≡ 2 * l.outstation;
}

abbrev pub decreases-outstations : goal.decreases-outstations
decreases-outstations g l = l.outstation
