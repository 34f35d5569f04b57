use Rattle.std.proofs.Common.{◌≡◌, ◌-◌, ◌≤◌, Option, List, ℕ, length, subst, arith}
use Rattle.std.proofs.lemmas.List.{length-take}
use Rattle.std.proofs.lemmas.List.Elements.{All-cons}
use Rattle.gw_model.specs.Fit.{HasWidth}
use Rattle.gw_model.specs.declared.observation.Observation.{Observation}
use Rattle.gw_model.specs.Clocks.{Clocks}
use Rattle.gw_time.specs.Rule.{clocks_of}
use Rattle.iec_asdu.specs.Buffer.{Writes}
use Rattle.iec_asdu.specs.Types.{type_length}
use Rattle.iec_asdu.specs.Spelling.{object_octets, object_octets_with}
use Rattle.iec_asdu.specs.Packing.{alike_count}
use Rattle.iec_asdu.proofs.Behind.{writes_both}
use Rattle.iec_asdu.proofs.Lengths.{object_long}
use Rattle.iec_asdu.proofs.Carried.{room_behind, taken_first}
use Rattle.iec_asdu.proofs.Counts.{apart_counted, alike_within}
use Rattle.iec_asdu.proofs.writing.write_apart.Goals as goal

pub write_object-start-requires : goal.write_object-start-requires
write_object-start-requires c =
    omega (
      arith,
      object_long (clocks_of c.args.zone.now) c.args.first.now c.args.tag c.args.kind c.requires.tag
          c.requires.kind,
    )

pub write_alike-behind-requires : goal.write_alike-behind-requires
write_alike-behind-requires c =
    let long = object_long (clocks_of c.args.zone.now) c.args.first.now c.args.tag c.args.kind c.requires.tag
    c.requires.kind in
    let few : length c.front-fitting.result.now ≤ c.room_apart.result - 1 =
    rw c.front-fitting.ensures (omega (arith, length-take (c.room_apart.result - 1) c.args.others.now)) in
    record {
      kind = c.requires.kind;
      room = omega (
        arith,
        long,
        c.write_object-start.ensures.written.ends,
        room_behind (type_length c.args.kind) c.room_apart.result (length c.front-fitting.result.now)
            c.room_apart.ensures.exact c.room_apart.ensures.some few,
      );
    }

few : (clocks : Clocks) (first : Observation) (fitting : List Observation) (taken : ℕ)
    → taken ≡ alike_count clocks first fitting → taken ≤ length fitting
few clocks first fitting taken is = rw is (alike_within clocks first fitting)

pub overflow_add-result : goal.overflow_add-result
overflow_add-result c =
    let front : length c.front-fitting.result.now ≤ c.room_apart.result - 1 =
    rw c.front-fitting.ensures (omega (arith, length-take (c.room_apart.result - 1) c.args.others.now)) in
    omega (arith, few _ _ _ _ c.write_alike-behind.ensures.taken, front, c.room_apart.ensures.some, c.room_apart.type_inv)

pub returns-clause-taken : goal.returns-clause-taken
returns-clause-taken c =
    apart_counted (clocks_of c.args.zone.now) c.args.first.now c.args.others.now _ c.args.kind _ _ c.requires.kind
    c.room_apart.ensures.exact c.room_apart.ensures.some c.front-fitting.ensures c.write_alike-behind.ensures.taken

pub returns-clause-written : goal.returns-clause-written
returns-clause-written c =
    let first : Writes 6 c.write_object-start.result c.args.out.now c.write_object-start.new.out
    (object_octets (clocks_of c.args.zone.now) c.args.first.now) =
    subst (λ (t : Option (List ℕ)). Writes 6 c.write_object-start.result c.args.out.now c.write_object-start.new.out
    (object_octets_with t c.args.first.now)) c.requires.tag c.write_object-start.ensures.written in
    rw (taken_first (c.room_apart.result - 1) c.write_alike-behind.result.taken c.args.first.now c.args.others.now
    c.front-fitting.result.now c.front-fitting.ensures (few _ _ _ _ c.write_alike-behind.ensures.taken))
    (writes_both _ _ _ _ _ _ _ _ first c.write_alike-behind.ensures.written)

pub returns-clause-width : goal.returns-clause-width
returns-clause-width c =
    rw (taken_first (c.room_apart.result - 1) c.write_alike-behind.result.taken c.args.first.now c.args.others.now
    c.front-fitting.result.now c.front-fitting.ensures (few _ _ _ _ c.write_alike-behind.ensures.taken))
    (All-cons (λ x. HasWidth x.value) c.args.first.now _ c.write_object-start.ensures.width
    c.write_alike-behind.ensures.width)
