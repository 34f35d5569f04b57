use Rattle.std.proofs.Common.{ap, sym, ◌∙◌, is_some, bytes_eq}
use Rattle.std.specs.List.{list_any}
use Rattle.gw_entries.specs.Tables.{rules_of}
use Rattle.gw_entries.proofs.Unknown.{any_known, known_by_rule, known_by_rules, is_some-map}
use Rattle.gw_entries.proofs.keys.is_known.Goals as goal

pub returns-in-Top : goal.returns-in-Top
returns-in-Top c =
    rw c.in-Top.is
    (c.contains.ensures.value ∙ any_known c.args.name.now c.top_keys.result.now
    ∙ ap (list_any (bytes_eq c.args.name.now)) c.top_keys.ensures)

pub returns-in_default : goal.returns-in_default
returns-in_default c =
    c.is_some.ensures ∙ is_some-map _ c.key_named.result ∙ ap is_some c.key_named.ensures
    ∙ known_by_rule c.args.name.now (rules_of c.args.section)
    ∙ ap (list_any (bytes_eq c.args.name.now)) (sym (known_by_rules c.args.section c.in_default.not-Top))
