use Rattle.std.proofs.Common.{◌<◌, vec_len}
use Rattle.bench_layers.proofs.Metering.{IsRead}
use Rattle.bench_layers.proofs.meter.measure.Given as goal

-- what was read so far is counted, and there is room for more
abbrev pub invariant-loop : goal.invariant-loop
invariant-loop g l = record {
  so_far : IsRead (g.R.Read.remaining l.initial.reader)
      (g.R.Read.remaining l.reader) l.initial.meter l.meter l.stream l.octets;
  room : 0 < vec_len l.buffer;
}
