use Rattle.std.proofs.Common.{◌≡◌, ◌≤◌, ◌+◌, ◌-◌, ◌∷◌, length, ap, sym, ◌∙◌, arith}
use Rattle.std.proofs.lemmas.Bool.Decides.{nat_tests}
use Rattle.std.proofs.lemmas.List.{length-take}
use Rattle.gw_time.specs.Rule.{clocks_of}
use Rattle.iec_asdu.specs.declared.types.MonitorType.{MonitorType}
use Rattle.iec_asdu.specs.Types.{type_length}
use Rattle.iec_asdu.specs.Packing.{type_at, room_apart, apart_count}
use Rattle.iec_asdu.proofs.Counts.{nothing, consecutive_within}
use Rattle.iec_asdu.proofs.Sequence.{they_go_on, timed_apart, alone_in_list, single_apart, more_apart}
use Rattle.iec_asdu.proofs.Sequence.{enough_in_sequence, apart_fills, apart_within, apart_ends, apart_goes_on}
use Rattle.iec_asdu.proofs.packing.sequence_behind.Goals as goal
use Rattle.iec_asdu.proofs.packing.sequence_behind.Goals.{Joined-else-behind-room_apart, then-kind-via-then-kind}
use Rattle.iec_asdu.proofs.packing.sequence_behind.Goals.{then-kind-via-else-kind+then-is_empty}
use Rattle.iec_asdu.proofs.packing.sequence_behind.Goals.{else-behind-room_apart-via-then-behind-room_apart+then-behind-others+else-is_alike}
use Rattle.iec_asdu.proofs.packing.sequence_behind.Goals.{else-behind-room_apart-via-then-behind-room_apart+else-behind-others}
use Rattle.iec_asdu.proofs.packing.sequence_behind.Goals.{else-behind-room_apart-via-else-behind-room_apart}

pub returns-then-kind-clause-sequence : goal.returns-then-kind-clause-sequence
returns-then-kind-clause-sequence c =
    elim c.then-kind.branch [
      | then-kind-via-then-kind w ↦
          sym (timed_apart (clocks_of c.args.zone.now) c.args.first.now c.args.others.now c.args.kind c.requires
          w.if-kind.true)
      | then-kind-via-else-kind+then-is_empty w ↦
          sym (alone_in_list (clocks_of c.args.zone.now) c.args.first.now c.args.others.now
          (grind (arith, nat_tests)))
    ]

pub returns-then-behind-eq0-clause-sequence : goal.returns-then-behind-eq0-clause-sequence
returns-then-behind-eq0-clause-sequence c =
    sym (single_apart (clocks_of c.args.zone.now) c.args.first.now c.args.others.now c.count_behind-behind.result
    (they_go_on (clocks_of c.args.zone.now) c.args.first.now c.args.others.now _ c.args.kind _ _ c.requires
    c.if-kind.false c.room_in_sequence.ensures.exact c.room_in_sequence.ensures.some c.front-fitting.ensures
    c.count_behind-behind.ensures) c.if-behind-eq0.true)

pub overflow_add-behind : goal.overflow_add-behind
overflow_add-behind c =
    let few : c.count_behind-behind.result ≤ length c.front-fitting.result.now =
    rw c.count_behind-behind.ensures (consecutive_within (clocks_of c.args.zone.now) c.args.first.now
    (c.args.first.now.address + 1) c.front-fitting.result.now) in
    let front : length c.front-fitting.result.now ≤ c.room_in_sequence.result - 1 =
    rw c.front-fitting.ensures (omega (arith, length-take (c.room_in_sequence.result - 1) c.args.others.now)) in
    omega (arith, few, front, c.room_in_sequence.ensures.some, c.room_in_sequence.type_inv)

pub returns-then-is_alike-clause-sequence : goal.returns-then-is_alike-clause-sequence
returns-then-is_alike-clause-sequence c =
    let clocks = (clocks_of c.args.zone.now) in
    let room : c.room_apart.result ≡ room_apart (type_length (type_at clocks c.args.first.now)) =
    c.room_apart.ensures.exact ∙ ap (λ (t : MonitorType). room_apart (type_length t)) c.requires in
    let go = they_go_on (clocks_of c.args.zone.now) c.args.first.now c.args.others.now _ c.args.kind _ _ c.requires
    c.if-kind.false c.room_in_sequence.ensures.exact c.room_in_sequence.ensures.some c.front-fitting.ensures
    c.count_behind-behind.ensures in
    sym (more_apart clocks c.args.first.now c.args.others.now c.count_behind-behind.result go
    (apart_goes_on clocks c.args.first.now c.args.others.now c.count_behind-behind.result nothing go.alike
    (omega (arith, room)) c.if-behind-others.true (sym c.is_alike.ensures ∙ c.if-is_alike.true)))

-- SQ 0 carries no more
enough : (c : Joined-else-behind-room_apart)
    → apart_count (clocks_of c.args.zone.now) (c.args.first.now ∷ c.args.others.now)
    ≤ c.count_behind-behind.result + 1
enough c =
    let clocks = (clocks_of c.args.zone.now) in
    let x = c.args.first.now in
    let xs = c.args.others.now in
    let room : c.room_apart.result ≡ room_apart (type_length (type_at clocks x)) =
    c.room_apart.ensures.exact ∙ ap (λ (t : MonitorType). room_apart (type_length t)) c.requires in
    elim c.else-behind-room_apart.branch [
      | else-behind-room_apart-via-then-behind-room_apart+then-behind-others+else-is_alike w ↦
          apart_ends clocks x xs c.count_behind-behind.result nothing w.if-behind-others.true
          (sym w.is_alike.ensures ∙ w.if-is_alike.false)
      | else-behind-room_apart-via-then-behind-room_apart+else-behind-others w ↦
          omega (arith, apart_within clocks x xs, w.if-behind-others.false)
      | else-behind-room_apart-via-else-behind-room_apart w ↦
          omega (arith, apart_fills clocks x xs, room, w.if-behind-room_apart.false)
    ]

pub returns-clause-sequence : goal.returns-clause-sequence
returns-clause-sequence c =
    sym (enough_in_sequence (clocks_of c.args.zone.now) c.args.first.now c.args.others.now
    c.count_behind-behind.result (they_go_on (clocks_of c.args.zone.now) c.args.first.now c.args.others.now _ c.args.kind _ _ c.requires
    c.if-kind.false c.room_in_sequence.ensures.exact c.room_in_sequence.ensures.some c.front-fitting.ensures
    c.count_behind-behind.ensures) (omega (arith, c.if-behind-eq0.false)) (enough c))

pub returns-clause-behind : goal.returns-clause-behind
returns-clause-behind c =
    (they_go_on (clocks_of c.args.zone.now) c.args.first.now c.args.others.now _ c.args.kind _ _ c.requires
    c.if-kind.false c.room_in_sequence.ensures.exact c.room_in_sequence.ensures.some c.front-fitting.ensures
    c.count_behind-behind.ensures).counted
