use Rattle.std.proofs.Common.{◌≡◌, List, ◌++◌, ◌+◌, ◌-◌, ◌*◌, [], ◌≢◌}
use Rattle.std.proofs.Common.{take, drop, refl, sym, ap, ◌∙◌, arith, rules}
use Rattle.std.proofs.Math.Nat.{le_refl, mul-mod_left}
use Rattle.dnp_points.specs.Values.{bits_of}
use Rattle.dnp_points.specs.Objects.{packed_reports_by_role}
use Rattle.dnp_points.specs.Meaning.{reports_of_objects}
use Rattle.dnp_points.proofs.Steps.{packed_at_first, packed_turn, packed_ends}
use Rattle.dnp_points.proofs.Bits.{bits_few, bits_inside}
use Rattle.dnp_points.proofs.Memory.{one_packed_told, grown, on_error}
use Rattle.dnp_points.proofs.objects.Objects.push_packed.Goals as goal

pub loop-n-init : goal.loop-n-init
loop-n-init g c = record {
  read = ap (λ (rs : List _). c.args.found.now.items ++ rs)
      (packed_at_first g.P.PackedObject.variation g.P.PackedObject.BITS c.args.self.now.outstation
      c.args.self.now.header.now.first c.args.self.now.header.now.count (bits_of c.packed_octets-body.result.now));
  grown = le_refl _;
}

pub loop-n-preserved : goal.loop-n-preserved
loop-n-preserved g c =
    let bits = bits_of c.packed_octets-body.result.now in
    record {
      read = packed_turn g.P.PackedObject.variation g.P.PackedObject.BITS c.BITS-width.result c.args.self.now.outstation
          c.args.self.now.header.now.first c.from-first.result c.loop-n.n c.args.self.now.header.now.count
          bits (take c.BITS-width.result (drop (c.loop-n.n * c.BITS-width.result) bits)) (c.from-first.result
          + c.loop-n.n) c.loop-n.found.items c.push.new.self.items c.args.found.now.items c.report.result
          c.loop-n-test.true c.BITS-width.ensures c.from-first.ensures refl refl
          (ap (packed_reports_by_role g.P.PackedObject.variation.role g.P.PackedObject.variation.event
          c.args.self.now.outstation (c.from-first.result + c.loop-n.n)) (sym c.bits_at-state.ensures)
          ∙ c.report.ensures) c.in_ok-push.ensures.items c.loop-n.invariant.read;
      grown = grown c.loop-n.found.items c.push.new.self.items c.args.found.now.items c.report.result
          c.in_ok-push.ensures.items c.loop-n.invariant.grown;
    }

pub returns : goal.returns
returns g c =
    let none : c.args.self.now.header.now.count - c.loop-n.n ≡ 0 = omega arith in
    record {
      told = packed_ends c.args.self.now.part.now c.args.self.now.header.now g.P.PackedObject.variation
          g.P.PackedObject.BITS c.args.self.now.outstation c.args.self.now.common
          (c.args.self.now.header.now.first + c.loop-n.n) (c.args.self.now.header.now.count - c.loop-n.n)
          c.packed_octets-body.result.now _ c.loop-n.found.items c.args.found.now.items c.requires.known
          g.met.P.PackedObject.sized none c.packed_octets-body.ensures.all c.loop-n.invariant.read;
      memory = tt;
    }

pub returns-in_err-push : goal.returns-in_err-push
returns-in_err-push g c =
    let bits = bits_of c.packed_octets-body.result.now in
    record {
      told = search rules;
      memory = on_error c.from_residual.result (reports_of_objects c.args.self.now ≢ [])
          (one_packed_told c.args.self.now.part.now c.args.self.now.header.now g.P.PackedObject.variation
          g.P.PackedObject.BITS c.BITS-width.result c.args.self.now.outstation c.args.self.now.common
          c.from-first.result c.loop-n.n
          c.packed_octets-body.result.now (take c.BITS-width.result (drop (c.loop-n.n * c.BITS-width.result) bits))
          (c.from-first.result + c.loop-n.n) c.loop-n.found.items c.args.found.now.items c.report.result
          c.requires.known g.met.P.PackedObject.sized c.loop-n-test.true c.BITS-width.ensures c.from-first.ensures refl
          c.packed_octets-body.ensures.all refl
          (ap (packed_reports_by_role g.P.PackedObject.variation.role g.P.PackedObject.variation.event
          c.args.self.now.outstation (c.from-first.result + c.loop-n.n)) (sym c.bits_at-state.ensures)
          ∙ c.report.ensures)
          c.loop-n.invariant.grown c.loop-n.invariant.read);
    }

pub overflow_mul-n : goal.overflow_mul-n
overflow_mul-n g c =
    let few = rw (← c.BITS-width.ensures) at (bits_few c.loop-n.n g.P.PackedObject.BITS g.met.P.PackedObject.few) in
    omega (arith, few, c.loop-n-test.true, c.requires.inside.indexed.ends)

pub bits_at-state-requires-clause-width : goal.bits_at-state-requires-clause-width
bits_at-state-requires-clause-width g c = rw c.BITS-width.ensures g.met.P.PackedObject.few

pub bits_at-state-requires-clause-whole : goal.bits_at-state-requires-clause-whole
bits_at-state-requires-clause-whole g c = mul-mod_left c.loop-n.n c.BITS-width.result

pub bits_at-state-requires-clause-inside : goal.bits_at-state-requires-clause-inside
bits_at-state-requires-clause-inside g c =
    rw c.BITS-width.ensures (bits_inside c.loop-n.n c.args.self.now.header.now.count g.P.PackedObject.BITS _
    c.loop-n-test.true c.packed_octets-body.ensures.long)

pub overflow_add-index : goal.overflow_add-index
overflow_add-index g c = omega (arith, c.from-first.ensures, c.loop-n-test.true, c.requires.inside.indexed.ends)

pub overflow_cast-index : goal.overflow_cast-index
overflow_cast-index g c = omega (arith, c.from-first.ensures, c.loop-n-test.true, c.requires.inside.indexed.ends)
