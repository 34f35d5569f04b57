use Rattle.std.proofs.Common.{◌≡◌, ◌∙◌, ◌+◌, ◌-◌, ◌≤◌, ◌||◌, false}
use Rattle.std.proofs.Common.{◌++◌, ◌∷◌, [], suc, length, arith, rules}
use Rattle.gw_time.specs.Rule.{clocks_of}
use Rattle.iec_asdu.specs.Types.{layout_at, type_length}
use Rattle.iec_asdu.specs.Reading.{read_apart}
use Rattle.iec_asdu.proofs.ObjectLoop.{told_of, further, is_right, all_stored, neither, object_fault}
use Rattle.iec_asdu.proofs.ObjectLoop.{apart_object, behind_object, apart_goes_on, apart_fails, apart_done}
use Rattle.iec_asdu.proofs.reading.read_objects_apart.Goals as goal

pub returns-in-Err : goal.returns-in-Err
returns-in-Err c =
    let layout = layout_at (clocks_of c.args.zone.now) c.args.kind in
    let rest = c.loop.rest.now in
    let more : c.args.count - c.loop.counter ≡ suc (c.args.count - (c.loop.counter + 1)) = omega arith in
    let long : 3 ≤ length rest = omega (arith, c.split_at.ensures.front_len, c.split_at.ensures.back_len) in
    let at = apart_object c.args.common layout c.address_of.result c.octets.result rest c.split_at.result.0.now
    c.split_at.result.1.now c.split_at-in-loop.result.0.now _ long
    c.split_at.ensures.front c.split_at.ensures.back c.octets.ensures.octets c.split_at-in-loop.ensures.front
    c.address_of.ensures.value c.in-Err.ensures in
    let progress = c.loop.invariant.progress in
    record {
      read = told_of c.in-Err.fault (apart_fails c.args.common layout _ _ rest progress.front c.in-Err.fault
          (read_apart c.args.common layout c.args.count c.args.objects.now) more at progress.read);
      memory = λ m. absurd (object_fault c.args.common _ layout c.split_at-in-loop.result.0.now c.in-Err.fault
          c.in-Err.ensures m);
    }

pub loop-preserved : goal.loop-preserved
loop-preserved c =
    let layout = layout_at (clocks_of c.args.zone.now) c.args.kind in
    let rest = c.loop.rest.now in
    let more : c.args.count - c.loop.counter ≡ suc (c.args.count - (c.loop.counter + 1)) = omega arith in
    let long : 3 ≤ length rest = omega (arith, c.split_at.ensures.front_len, c.split_at.ensures.back_len) in
    let at = apart_object c.args.common layout c.address_of.result c.octets.result rest c.split_at.result.0.now
    c.split_at.result.1.now c.split_at-in-loop.result.0.now _ long
    c.split_at.ensures.front c.split_at.ensures.back c.octets.ensures.octets c.split_at-in-loop.ensures.front
    c.address_of.ensures.value c.in-Ok.ensures in
    let stored : c.is_err-is_refused.result ≡ false
    → c.push.new.self.items ≡ c.loop.found.items ++ c.in-Ok.observation ∷ [] =
    λ e. search rules in
    let after = behind_object c.octets.result (type_length c.args.kind) rest c.split_at.result.1.now
    c.split_at-in-loop.result.1.now c.split_at.ensures.back c.octets.ensures.octets c.split_at-in-loop.ensures.back in
    let enough = rw more at c.loop.invariant.enough in
    let lens : length c.split_at-in-loop.result.1.now + (3 + type_length c.args.kind) ≡ length rest =
    omega (arith, c.octets.ensures.octets, c.split_at.ensures.back_len, c.split_at-in-loop.ensures.back_len) in
    let next = further c.loop.is_refused
    (c.loop.is_refused || c.is_err-is_refused.result) c.loop.found.items c.push.new.self.items c.in-Ok.observation _ _ _
    (λ front.
    apart_goes_on c.args.common layout _ _ rest front c.in-Ok.observation
    (read_apart c.args.common layout c.args.count c.args.objects.now) more at)
    (λ none. let both = neither c.loop.is_refused c.is_err-is_refused.result none in (both.0, stored both.1))
    c.loop.invariant.progress in
    record { progress = rw after next; enough = omega (arith, enough, lens) }

pub returns-then-is_refused-clause-memory : goal.returns-then-is_refused-clause-memory
returns-then-is_refused-clause-memory c =
    let layout = layout_at (clocks_of c.args.zone.now) c.args.kind in
    let progress = c.loop.invariant.progress in
    let whole = read_apart c.args.common layout c.args.count c.args.objects.now in
    λ m.
    is_right whole progress.front
    (apart_done c.args.common layout _ c.loop.rest.now progress.front whole (omega arith) progress.read)

pub returns-clause-read : goal.returns-clause-read
returns-clause-read c =
    let layout = layout_at (clocks_of c.args.zone.now) c.args.kind in
    let progress = c.loop.invariant.progress in
    let whole = read_apart c.args.common layout c.args.count c.args.objects.now in
    all_stored whole progress.front c.loop.found.items
    (apart_done c.args.common layout _ c.loop.rest.now progress.front whole (omega arith) progress.read)
    (progress.kept c.if-is_refused.false)

pub split_at-requires : goal.split_at-requires
split_at-requires c =
    let more : c.args.count - c.loop.counter ≡ suc (c.args.count - (c.loop.counter + 1)) = omega arith in
    let enough = rw more at c.loop.invariant.enough in
    omega (arith, enough)

pub split_at-requires-in-loop : goal.split_at-requires-in-loop
split_at-requires-in-loop c =
    let more : c.args.count - c.loop.counter ≡ suc (c.args.count - (c.loop.counter + 1)) = omega arith in
    let enough = rw more at c.loop.invariant.enough in
    omega (arith, enough, c.octets.ensures.octets, c.split_at.ensures.back_len)

pub read_object-requires : goal.read_object-requires
read_object-requires c = c.split_at-in-loop.ensures.front_len ∙ c.octets.ensures.octets
