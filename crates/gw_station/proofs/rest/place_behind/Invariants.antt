use Rattle.std.proofs.Common.{◌≡◌, ◌<◌, length, drop, Some, slice_get, IfSome}
use Rattle.gw_answers.specs.Sections.{parts_of}
use Rattle.gw_station.specs.Kept.{parts_left}
use Rattle.gw_station.proofs.rest.place_behind.Given as goal

abbrev pub invariant-loop-next : goal.invariant-loop-next
invariant-loop-next l = record {
  within : IfSome (slice_get (parts_of l.answer) l.next) (λ parts. l.done < length parts);
  left : drop l.left (parts_left l.next l.done (Some (parts_of l.answer)))
      ≡ drop l.fn.count (parts_left l.fn.section l.fn.done (Some (parts_of l.answer)));
}
