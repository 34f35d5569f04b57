use Rattle.std.proofs.Common.{◌≡◌, string_bytes, Some, sym, ap, ◌∙◌}
use Rattle.gw_entries.specs.Tables.{known_keys}
use Rattle.gw_entries.specs.Complaints.{complaint}
use Rattle.gw_entries.specs.declared.fault.Fault.TheVariants.{UnknownKey}
use Rattle.gw_entries.proofs.Unknown.{no_unknown, unknown_told}
use Rattle.gw_entries.proofs.keys.check_keys.Goals as goal

pub returns-in-None : goal.returns-in-None
returns-in-None c =
    no_unknown (known_keys c.args.section) c.args.table.now.entries c.args.section c.args.position c.in-None.ensures

pub returns-in_ok-from_str-in-Some : goal.returns-in_ok-from_str-in-Some
returns-in_ok-from_str-in-Some c =
    let same : string_bytes c.in-Some.key.now ≡ string_bytes c.in_ok-from_str-in-Some.field-0 =
    sym (c.in_ok-from_str-in-Some.ensures.ok ∙ c.as_str.ensures.value) in
    unknown_told (known_keys c.args.section) c.args.table.now.entries c.args.section c.args.position c.in-Some.key.now
    c.in-Some.ensures
    ∙ ap (λ text. Some (complaint c.args.section c.args.position (UnknownKey, text))) same
