use Rattle.std.proofs.Common.{◌≡◌, List, ◌++◌, ap, ◌+◌, ◌-◌, [], ◌≢◌, arith, rules}
use Rattle.std.proofs.Math.Nat.{le_refl}
use Rattle.dnp_points.specs.Meaning.{octets_of_objects, reports_of_objects}
use Rattle.dnp_points.proofs.Steps.{whole_fits, whole_at_first, whole_left_first, whole_turn, left_enough, left_behind, whole_is_done}
use Rattle.dnp_points.proofs.Memory.{one_whole_told, grown, on_error}
use Rattle.dnp_points.proofs.objects.Objects.push_whole.Goals as goal

pub loop-n-init : goal.loop-n-init
loop-n-init g c = record {
  read = ap (λ (rs : List _). c.args.found.now.items ++ rs) (whole_at_first c.args.self.now.part.now
      c.args.self.now.header.now g.O.Object.variation g.O.Object.LENGTH c.LENGTH.result c.from-prefix.result
      c.args.self.now.outstation c.args.self.now.common g.met.O.Object.sized c.LENGTH.ensures c.from-prefix.ensures);
  grown = le_refl _;
  left = whole_left_first c.args.self.now.part.now c.args.self.now.header.now g.O.Object.variation g.O.Object.LENGTH
      c.LENGTH.result c.from-prefix.result c.requires.inside.within c.requires.known g.met.O.Object.sized
      c.LENGTH.ensures c.from-prefix.ensures;
}

pub loop-n-preserved : goal.loop-n-preserved
loop-n-preserved g c =
    record {
      read = whole_turn g.O.Object.variation g.O.Object.LENGTH c.LENGTH-in-loop-n.result c.args.self.now.outstation
          c.args.self.now.common c.args.self.now.header.now.prefix c.from-prefix.result c.args.self.now.header.now.first
          c.from-first.result c.loop-n.n c.args.self.now.header.now.count
          c.loop-n.rest.now c.split_at.result.0.now c.split_at.result.1.now c.split_at-in-loop-n.result.0.now
          c.split_at-in-loop-n.result.1.now c.index_of-index.result
          c.loop-n.found.items c.push.new.self.items c.args.found.now.items
          (octets_of_objects c.args.self.now.part.now g.O.Object.variation c.args.self.now.header.now) c.report.result
          c.loop-n-test.true c.from-prefix.ensures c.from-first.ensures c.LENGTH-in-loop-n.ensures
          c.split_at.ensures.front c.split_at.ensures.back c.split_at-in-loop-n.ensures.front
          c.split_at-in-loop-n.ensures.back
          c.index_of-index.ensures c.report.ensures c.in_ok-push.ensures.items c.loop-n.invariant.read;
      grown = grown c.loop-n.found.items c.push.new.self.items c.args.found.now.items c.report.result
          c.in_ok-push.ensures.items c.loop-n.invariant.grown;
      left = left_behind g.O.Object.LENGTH c.LENGTH-in-loop-n.result c.args.self.now.header.now.prefix
          c.from-prefix.result c.loop-n.n c.args.self.now.header.now.count
          c.loop-n.rest.now c.split_at.result.0.now c.split_at.result.1.now c.split_at-in-loop-n.result.0.now
          c.split_at-in-loop-n.result.1.now
          c.loop-n-test.true c.from-prefix.ensures c.LENGTH-in-loop-n.ensures c.split_at.ensures.back_len
          c.split_at-in-loop-n.ensures.back_len c.loop-n.invariant.left;
    }

pub returns : goal.returns
returns g c =
    let none : c.args.self.now.header.now.count - c.loop-n.n ≡ 0 = omega arith in
    record {
      told = whole_is_done c.args.self.now.part.now c.args.self.now.header.now g.O.Object.variation g.O.Object.LENGTH
          c.args.self.now.outstation c.args.self.now.common (c.args.self.now.header.now.first + c.loop-n.n)
          (c.args.self.now.header.now.count - c.loop-n.n) c.loop-n.rest.now
          c.loop-n.found.items c.args.found.now.items c.requires.known g.met.O.Object.sized none
          c.loop-n.invariant.read;
      memory = tt;
    }

pub returns-in_err-push : goal.returns-in_err-push
returns-in_err-push g c =
    record {
      told = search rules;
      memory = on_error c.from_residual.result (reports_of_objects c.args.self.now ≢ [])
          (one_whole_told c.args.self.now.part.now c.args.self.now.header.now g.O.Object.variation g.O.Object.LENGTH
          c.LENGTH-in-loop-n.result c.args.self.now.outstation c.args.self.now.common c.from-prefix.result
          c.from-first.result c.loop-n.n
          c.loop-n.rest.now c.split_at.result.0.now c.split_at.result.1.now c.split_at-in-loop-n.result.0.now
          c.index_of-index.result c.loop-n.found.items c.args.found.now.items c.report.result
          c.requires.known g.met.O.Object.sized c.loop-n-test.true c.from-prefix.ensures c.from-first.ensures
          c.LENGTH-in-loop-n.ensures
          c.split_at.ensures.front c.split_at.ensures.back c.split_at-in-loop-n.ensures.front
          c.index_of-index.ensures c.report.ensures c.loop-n.invariant.grown c.loop-n.invariant.read);
    }

pub overflow_add-octets : goal.overflow_add-octets
overflow_add-octets g c =
    omega (arith, c.LENGTH.ensures, g.met.O.Object.small, c.from-prefix.ensures, c.requires.inside.indexed.prefix)

pub overflow_mul-octets : goal.overflow_mul-octets
overflow_mul-octets g c =
    let fits = whole_fits c.args.self.now.part.now c.args.self.now.header.now g.O.Object.variation g.O.Object.LENGTH
    c.LENGTH.result c.from-prefix.result c.requires.inside.within c.requires.known g.met.O.Object.sized c.LENGTH.ensures
    c.from-prefix.ensures in
    omega (arith, fits)

pub overflow_add-rest : goal.overflow_add-rest
overflow_add-rest g c =
    let fits = whole_fits c.args.self.now.part.now c.args.self.now.header.now g.O.Object.variation g.O.Object.LENGTH
    c.LENGTH.result c.from-prefix.result c.requires.inside.within c.requires.known g.met.O.Object.sized c.LENGTH.ensures
    c.from-prefix.ensures in
    omega (arith, fits)

pub slice_bounds-rest-end : goal.slice_bounds-rest-end
slice_bounds-rest-end g c =
    whole_fits c.args.self.now.part.now c.args.self.now.header.now g.O.Object.variation g.O.Object.LENGTH
    c.LENGTH.result c.from-prefix.result c.requires.inside.within c.requires.known g.met.O.Object.sized c.LENGTH.ensures
    c.from-prefix.ensures

pub split_at-requires : goal.split_at-requires
split_at-requires g c =
    let enough = left_enough g.O.Object.LENGTH c.args.self.now.header.now.prefix c.loop-n.n
    c.args.self.now.header.now.count c.loop-n.rest.now c.loop-n-test.true c.loop-n.invariant.left in
    omega (arith, enough, c.from-prefix.ensures)

pub split_at-requires-in-loop-n : goal.split_at-requires-in-loop-n
split_at-requires-in-loop-n g c =
    let enough = left_enough g.O.Object.LENGTH c.args.self.now.header.now.prefix c.loop-n.n
    c.args.self.now.header.now.count c.loop-n.rest.now c.loop-n-test.true c.loop-n.invariant.left in
    omega (arith, enough, c.from-prefix.ensures, c.LENGTH-in-loop-n.ensures, c.split_at.ensures.back_len)

pub overflow_add-first : goal.overflow_add-first
overflow_add-first g c = omega (arith, c.from-first.ensures, c.loop-n-test.true, c.requires.inside.indexed.ends)

pub index_of-index-requires-clause-next : goal.index_of-index-requires-clause-next
index_of-index-requires-clause-next g c =
    omega (arith, c.from-first.ensures, c.loop-n-test.true, c.requires.inside.indexed.ends)
