-- Those behind the ones that were looked at, and then those of others among these.
use Rattle.std.proofs.Common.{◌≡◌, ◌≤◌, ◌++◌, drop, length, take}
use Rattle.std.specs.List.{filter}
use Rattle.gw_control.specs.Orders.{is_of_others}
use Rattle.gw_control.proofs.outgoing.keep_others.Given as goal

abbrev pub invariant-loop : goal.invariant-loop
invariant-loop l = record {
  items : l.waiting.items
      ≡ drop l.counter l.initial.waiting.items ++ filter (is_of_others l.client) (take l.counter l.initial.waiting.items);
  fewer : length l.waiting.items ≤ length l.initial.waiting.items;
  capacity : l.waiting.capacity ≡ l.initial.waiting.capacity;
}
