use Rattle.std.proofs.Common.{◌≡◌, ◌∙◌, ◌+◌, ◌-◌, ◌||◌, false, ◌++◌, ◌∷◌, [], suc, length, arith, rules}
use Rattle.gw_time.specs.Rule.{clocks_of}
use Rattle.iec_asdu.specs.Types.{layout_at, type_length}
use Rattle.iec_asdu.specs.Reading.{read_in_sequence}
use Rattle.iec_asdu.proofs.ObjectLoop.{told_of, further, is_right, all_stored, neither, object_fault}
use Rattle.iec_asdu.proofs.ObjectLoop.{sequence_object, sequence_goes_on, sequence_fails, sequence_done}
use Rattle.iec_asdu.proofs.reading.read_objects_in_sequence.Goals as goal

pub returns-in-Err : goal.returns-in-Err
returns-in-Err c =
    let layout = layout_at (clocks_of c.args.zone.now) c.args.kind in
    let rest = c.loop-place.rest.now in
    let more : c.args.count - c.loop-place.place ≡ suc (c.args.count - (c.loop-place.place + 1)) = omega arith in
    let at = sequence_object c.args.common layout (c.args.first + c.loop-place.place) c.octets.result rest
    c.split_at.result.0.now _ c.octets.ensures.octets c.split_at.ensures.front (rw c.counted_on.ensures at c.in-Err.ensures) in
    let progress = c.loop-place.invariant.progress in
    record {
      read = told_of c.in-Err.fault (sequence_fails c.args.common layout _ _ (c.args.first + c.loop-place.place) rest
          progress.front c.in-Err.fault
          (read_in_sequence c.args.common layout c.args.count c.args.first c.args.objects.now) more at progress.read);
      memory = λ m. absurd (object_fault c.args.common _ layout c.split_at.result.0.now c.in-Err.fault
          c.in-Err.ensures m);
    }

pub loop-place-preserved : goal.loop-place-preserved
loop-place-preserved c =
    let layout = layout_at (clocks_of c.args.zone.now) c.args.kind in
    let rest = c.loop-place.rest.now in
    let more : c.args.count - c.loop-place.place ≡ suc (c.args.count - (c.loop-place.place + 1)) = omega arith in
    let at = sequence_object c.args.common layout (c.args.first + c.loop-place.place) c.octets.result rest
    c.split_at.result.0.now _ c.octets.ensures.octets c.split_at.ensures.front (rw c.counted_on.ensures at c.in-Ok.ensures) in
    let stored : c.is_err-is_refused.result ≡ false
    → c.push.new.self.items ≡ c.loop-place.found.items ++ c.in-Ok.observation ∷ [] =
    λ e. search rules in
    let address : c.args.first + (c.loop-place.place + 1) ≡ c.args.first + c.loop-place.place + 1 = omega arith in
    let enough = rw more at c.loop-place.invariant.enough in
    let lens : length c.split_at.result.1.now + type_length c.args.kind ≡ length rest =
    omega (arith, c.octets.ensures.octets, c.split_at.ensures.back_len) in
    let next = further c.loop-place.is_refused (c.loop-place.is_refused || c.is_err-is_refused.result)
    c.loop-place.found.items c.push.new.self.items c.in-Ok.observation _ _ _
    (λ front. sequence_goes_on c.args.common layout _ _ (c.args.first + c.loop-place.place) rest front
    c.in-Ok.observation (read_in_sequence c.args.common layout c.args.count c.args.first c.args.objects.now) more at)
    (λ none. let both = neither c.loop-place.is_refused c.is_err-is_refused.result none in (both.0, stored both.1))
    c.loop-place.invariant.progress in
    record {
      progress = rw (address, c.split_at.ensures.back, c.octets.ensures.octets) next;
      enough = omega (arith, enough, lens);
    }

pub returns-then-is_refused-clause-memory : goal.returns-then-is_refused-clause-memory
returns-then-is_refused-clause-memory c =
    let layout = layout_at (clocks_of c.args.zone.now) c.args.kind in
    let progress = c.loop-place.invariant.progress in
    let whole = read_in_sequence c.args.common layout c.args.count c.args.first c.args.objects.now in
    λ m. is_right whole progress.front
    (sequence_done c.args.common layout _ _ c.loop-place.rest.now progress.front whole (omega arith) progress.read)

pub returns-clause-read : goal.returns-clause-read
returns-clause-read c =
    let layout = layout_at (clocks_of c.args.zone.now) c.args.kind in
    let progress = c.loop-place.invariant.progress in
    let whole = read_in_sequence c.args.common layout c.args.count c.args.first c.args.objects.now in
    all_stored whole progress.front c.loop-place.found.items
    (sequence_done c.args.common layout _ _ c.loop-place.rest.now progress.front whole (omega arith) progress.read)
    (progress.kept c.if-is_refused.false)

pub split_at-requires : goal.split_at-requires
split_at-requires c =
    let more : c.args.count - c.loop-place.place ≡ suc (c.args.count - (c.loop-place.place + 1)) = omega arith in
    let enough = rw more at c.loop-place.invariant.enough in
    omega (arith, enough, c.octets.ensures.octets)

pub read_object-requires : goal.read_object-requires
read_object-requires c = c.split_at.ensures.front_len ∙ c.octets.ensures.octets
