-- Who is who among the actors of a server: the outstations' readers and writers, each reader with its writer behind it,
-- then those of the eight slots for clients, likewise, and the clock.
use Rattle.std.specs.Prelude.{◌≡◌, ℕ, ◌+◌, ◌*◌, List, length, map, Some}
use Rattle.std.specs.List.{range_with_len}
use Rattle.run_shared.specs.Roles.{Roles}
use Rattle.run_shared.specs.Turn.{Pass, unused}

-- how many they are, with so many outstations
abbrev pub actors_of : ℕ → ℕ
actors_of outstations = 2 * (outstations + 8) + 1

-- a client is pumped by the writer of its slot, and an outstation polled by its own, alone
abbrev pub roles_of : ℕ → Roles
roles_of outstations = record {
  pumper = λ (client : ℕ). Some (2 * (outstations + client) + 1);
  poller = λ (outstation : ℕ). Some (2 * outstation + 1);
}

-- passes are those of the first actors, in their order, and none was used
abbrev pub AreFirst : List Pass → Type 0
AreFirst passes = passes ≡ map unused (range_with_len 0 (length passes))
