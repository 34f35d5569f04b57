-- What the masters of the outstations are once one of them was lent.
use Rattle.std.specs.Prelude.{ℕ, List, Option, slice_set}
use Rattle.std.specs.Borrow.{LendsIf, MutBor, Fml}
use Rattle.dnp_master.specs.Master.{Master}
use Rattle.dnp_master.specs.contracts.master.Master.{the_row as master_row}
use Rattle.gw_parts.specs.contracts.outstations.Outstations.{the_row as outstations_row}

-- the one at a place is what was left behind r
abbrev pub LendsMaster : MutBor (List Master) → ℕ → Option (MutBor Master) → Fml
LendsMaster s n r = LendsIf outstations_row master_row s r (slice_set s.now n) s.now
