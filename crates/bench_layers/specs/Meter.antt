-- What a meter does with events.
use Rattle.std.specs.Prelude.{◌≡◌, ◌+◌, List, length}
use Rattle.dnp_link.specs.Stream.{Event}
use Rattle.dnp_transport.specs.Runs.{answers_from, series_after, fragments_in}
use Rattle.bench_layers.specs.declared.meter.Meter.{Meter}
use Rattle.bench_layers.specs.Counts.{segments_in}

-- the old meter has taken these events: its assembler has taken their segments, and the events and the fragments
-- that the assembler gave were counted
pub record Meters (old new : Meter) (events : List Event) : Type 0 where
  pub series : new.assembler ≡ series_after old.assembler (segments_in events)
  pub events_more : new.events ≡ old.events + length events
  pub fragments_more : new.fragments
      ≡ old.fragments + length (fragments_in (answers_from old.assembler (segments_in events)))
