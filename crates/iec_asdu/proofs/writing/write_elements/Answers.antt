use Rattle.std.proofs.Common.{arith}
use Rattle.std.proofs.lemmas.List.Elements.{All-more}
use Rattle.gw_model.specs.Fit.{HasWidth}
use Rattle.iec_asdu.specs.Spelling.{element_octets}
use Rattle.iec_asdu.proofs.Behind.{writes_both, flat_map_next, room_next}
use Rattle.iec_asdu.proofs.Counts.{nothing}
use Rattle.iec_asdu.proofs.writing.write_elements.Goals as goal

pub write_element-end-requires : goal.write_element-end-requires
write_element-end-requires c =
    omega (
      arith,
      c.requires,
      c.loop-observation.invariant.written.ends,
      room_next element_octets c.args.observations.now c.loop-observation.observation-index nothing
          c.loop-observation-test.true,
    )

pub loop-observation-preserved : goal.loop-observation-preserved
loop-observation-preserved c = record {
  written = rw (flat_map_next element_octets c.args.observations.now
      c.loop-observation.observation-index nothing c.loop-observation-test.true)
      (writes_both _ _ _ _ _ _ _ _ c.loop-observation.invariant.written c.write_element-end.ensures.written);
  width = All-more (λ x. HasWidth x.value) c.args.observations.now c.loop-observation.observation-index nothing
      c.loop-observation-test.true c.loop-observation.invariant.width c.write_element-end.ensures.width;
}
