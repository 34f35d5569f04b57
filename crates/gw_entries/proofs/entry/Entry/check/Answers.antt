use Rattle.std.proofs.lemmas.Result.{err_from_is_err_and}
use Rattle.gw_entries.proofs.Unknown.{key_parts}
use Rattle.gw_entries.proofs.Told.{told_front}
use Rattle.gw_entries.proofs.Wrongs.{first_told, none_placed}
use Rattle.gw_entries.proofs.entry.Entry.check.Goals as goal

pub returns-in_err-check_keys : goal.returns-in_err-check_keys
returns-in_err-check_keys c =
    let p = err_from_is_err_and c.from_residual.result c.from_residual.ensures.1 in
    rw (p.1, p.2, key_parts) (told_front _ _ _ c.in_err-check_keys.ensures)

pub returns-in-Some : goal.returns-in-Some
returns-in-Some c =
    rw (key_parts, c.in_ok-check_keys.ensures)
    (first_told c.at.result c.args.self.section c.args.position c.in-Some.fault _ c.at.ensures c.in-Some.ensures)

pub returns-in-None : goal.returns-in-None
returns-in-None c =
    rw (key_parts, c.in_ok-check_keys.ensures) (none_placed c.args.self.section c.args.position _ c.in-None.ensures)
