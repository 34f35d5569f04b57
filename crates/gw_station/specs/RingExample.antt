-- Three news, of which two are kept, and clients of the worked examples that stand in them.
use Rattle.std.specs.Prelude.{ℕ, Some}
use Rattle.iec_window.specs.Examples.{usual}
use Rattle.gw_station.specs.declared.client.Stage.TheVariants.{Started}
use Rattle.gw_station.specs.Client.{Client}
use Rattle.gw_station.specs.Ring.{Ring, Seat, empty_ring, ring_with, seat_down, seen}
use Rattle.gw_station.specs.Example.{switched_off, switched_on}

abbrev pub three : Ring
three = ring_with switched_on (ring_with switched_off (ring_with switched_on (empty_ring 2)))

-- a client of a session at a number, with this mark
abbrev pub at : ℕ → ℕ → Seat
at first mark = record (seat_down usual) {
  stage = Started;
  cursor = Some (record { first = first; mark = mark; dropped = 0 });
}

abbrev pub seen_at : ℕ → ℕ → Client
seen_at first mark = seen three (at first mark)
