use Rattle.std.proofs.Common.{◌≡◌, ◌∙◌, ℕ, List, Option, ap, sym, subst}
use Rattle.dnp_link.specs.declared.event.LinkEvent.{LinkEvent}
use Rattle.dnp_link.specs.FrameContent.{event_content_if}
use Rattle.dnp_link.specs.Stream.{Reading, reading, reading_with_front}
use Rattle.bench_layers.proofs.Metering.{event_taken, all_taken}
use Rattle.bench_layers.proofs.meter.Meter.drain.Goals as goal

-- what a feed shows goes on by its next event
abbrev reads_by : List ℕ → List ℕ → Option LinkEvent → Type 0
reads_by before behind event = reading before ≡ reading_with_front (event_content_if event) behind

pub loop-event-preserved : goal.loop-event-preserved
loop-event-preserved c =
    let reads = subst (reads_by c.loop-event.feed c.next.new.self) c.in-Some.is c.next.ensures.reads in
    record {
      taken = event_taken _ _ _ c.loop-event.feed c.next.new.self _ _ reads c.in_ok-take.ensures
          c.loop-event.invariant.taken;
      rest = sym (ap (λ (r : Reading). r.rest) reads) ∙ c.loop-event.invariant.rest;
    }

pub returns-clause-taken : goal.returns-clause-taken
returns-clause-taken c =
    all_taken _ _ c.loop-event.feed c.next.new.self _
    (subst (reads_by c.loop-event.feed c.next.new.self) c.in_default.is c.next.ensures.reads)
    c.loop-event.invariant.taken
