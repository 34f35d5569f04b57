use Rattle.std.proofs.Common.{◌≡◌, ◌+◌, ◌++◌, take, ◌∙◌, ap, arith}
use Rattle.std.proofs.lemmas.List.{take_at}
use Rattle.bench_layers.proofs.Metering.{nothing_read, read_more, all_read, of_ok, consumes_none}
use Rattle.bench_layers.proofs.meter.measure.Goals as goal

pub loop-init : goal.loop-init
loop-init g c =
    record { so_far = nothing_read _ _ _ c.new-stream.ensures; room = omega (arith, c.in_ok-buffer.ensures.len) }

pub loop-preserved : goal.loop-preserved
loop-preserved g c =
    let octets = take c.in_ok-count.count c.read.new.buf in
    let fed = of_ok _ c.in_ok-map_err.ensures.variant c.feed.ensures.ok in
    let same : take c.in_ok-count.count c.deref.result.now ≡ octets =
    ap (take c.in_ok-count.count) (c.deref.ensures.value
    ∙ take_at c.read.new.buf _ c.loop.buffer.len (omega (arith, c.read.auto.buf, c.deref_mut.ensures.len))) in
    record {
      so_far =
          read_more _ _ _ _ _ _ c.loop.stream _ _ octets c.loop.octets _ c.loop.invariant.so_far
          c.in_ok-count.ensures.bytes.0
          (c.in_ok-octets.ensures ∙ ap (λ n. c.loop.octets + n) c.in_ok-count.ensures.bound.1)
          (fed ∙ ap (λ o. c.loop.stream ++ o) same) c.in_ok-drain.ensures.taken c.in_ok-drain.ensures.rest;
      room = c.loop.invariant.room;
    }

pub returns-then-count-eq0 : goal.returns-then-count-eq0
returns-then-count-eq0 g c =
    let bytes = c.in_ok-count.ensures.bytes in
    all_read _ _ _ _ c.loop.meter c.loop.stream c.loop.octets c.new-meter.ensures.assembler c.new-meter.ensures.events
    c.new-meter.ensures.fragments c.loop.invariant.so_far
    (consumes_none _ _ c.in_ok-count.count _ c.if-count-eq0.true bytes.0)
    (bytes.1 c.if-count-eq0.true (omega (arith, c.read.auto.buf, c.deref_mut.ensures.len, c.loop.invariant.room)))
