use Rattle.std.proofs.lemmas.Result.{err_from_is_err_and}
use Rattle.gw_entries.proofs.Told.{told_front}
use Rattle.gw_map.proofs.lists.entries_in.Goals as goal

pub returns-in_err-tables-clause-read : goal.returns-in_err-tables-clause-read
returns-in_err-tables-clause-read g c =
    let p = err_from_is_err_and c.from_residual.result c.from_residual.ensures.1 in
    rw (p.1, p.2) (told_front _ _ _ c.in_err-tables.ensures.read)

pub returns-clause-read : goal.returns-clause-read
returns-clause-read g c =
    rw (c.in_ok-tables.ensures.read.0, ← c.in_ok-tables.ensures.read.1, ← c.deref.ensures.value)
    c.entries_of.ensures.read
