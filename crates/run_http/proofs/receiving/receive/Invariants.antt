use Rattle.std.proofs.Common.{◌≤◌, [], take}
use Rattle.run_http.specs.Requests.{ReadsOn}
use Rattle.run_http.proofs.receiving.receive.Given as goal

abbrev pub invariant-loop-read : goal.invariant-loop-read
invariant-loop-read g l =
    (l.filled ≤ 4096)
    × ReadsOn (g.R.Read.remaining l.initial.reader) (g.R.Read.remaining l.reader) [] (take l.filled l.octets)
