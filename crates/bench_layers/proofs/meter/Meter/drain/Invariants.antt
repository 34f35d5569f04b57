use Rattle.std.proofs.Common.{◌≡◌, length}
use Rattle.dnp_link.specs.Stream.{reading}
use Rattle.bench_layers.proofs.Metering.{Completes}
use Rattle.bench_layers.proofs.meter.Meter.drain.Given as goal

-- the events that are left complete all
abbrev pub invariant-loop-event : goal.invariant-loop-event
invariant-loop-event l = record {
  taken : Completes l.initial.self l.self (reading l.feed).events (reading l.initial.feed).events;
  rest : (reading l.feed).rest ≡ (reading l.initial.feed).rest;
}

abbrev pub decreases-loop-event : goal.decreases-loop-event
decreases-loop-event l = length l.feed
