use Rattle.std.proofs.Common.{sym, ◌∙◌}
use Rattle.toml.specs.View.{view, table_view}
use Rattle.gw_entries.proofs.Wrongs.{first_there, none_there}
use Rattle.gw_entries.proofs.entry.Entry.first_of.Goals as goal

pub returns-then-is_some : goal.returns-then-is_some
returns-then-is_some c =
    first_there (λ v. view v.now) (table_view c.args.self.table.now) _ _ _ c.value_at.result c.loop-name.invariant
    c.loop-name-test.true c.value_at.ensures
    (sym c.is_some.ensures ∙ c.if-is_some.true)

pub returns : goal.returns
returns c = none_there (table_view c.args.self.table.now) _ _ c.loop-name.invariant c.loop-name-test.false
