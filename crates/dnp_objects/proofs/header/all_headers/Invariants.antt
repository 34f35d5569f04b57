-- The headers found so far, and those still read from the rest, are those of the part.
use Rattle.std.proofs.Common.{◌≡◌, ◌-◌, ◌≤◌, length, vec_len}
use Rattle.dnp_objects.specs.Headers.{headers_from, headers_of}
use Rattle.dnp_objects.proofs.HeaderLoop.{with_front}
use Rattle.dnp_objects.proofs.Before.{ReadBefore}
use Rattle.dnp_objects.proofs.header.all_headers.Given as goal

abbrev pub invariant-loop-rest : goal.invariant-loop-rest
invariant-loop-rest l = record {
  read : with_front l.found.items (headers_from (length l.part) (512 - vec_len l.found) l.rest) ≡ headers_of l.part;
  room : vec_len l.found ≤ 512;
  inside : length l.rest ≤ length l.part;
  before : ReadBefore l.part l.rest l.found.items;
}

abbrev pub decreases-loop-rest : goal.decreases-loop-rest
decreases-loop-rest l = length l.rest
