-- What is written so far.
use Rattle.std.proofs.Common.{take}
use Rattle.std.specs.Prelude.{All}
use Rattle.std.specs.List.{flat_map}
use Rattle.gw_model.specs.Fit.{HasWidth}
use Rattle.iec_asdu.specs.Spelling.{element_octets}
use Rattle.iec_asdu.specs.Buffer.{Writes}
use Rattle.iec_asdu.proofs.writing.write_elements.Given as goal

abbrev pub invariant-loop-observation : goal.invariant-loop-observation
invariant-loop-observation l = record {
  written : let before = take l.observation-index l.observations in
      Writes l.start l.end l.initial.out l.out (flat_map element_octets before);
  width : All (λ x. HasWidth x.value) (take l.observation-index l.observations);
}
