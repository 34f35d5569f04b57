use Rattle.toml.specs.View.{table_view}
use Rattle.gw_map.specs.Sections.{complaints_of}
use Rattle.gw_map.specs.Meaning.{setup_of}
use Rattle.gw_map.specs.Settings.{setup_fields}
use Rattle.gw_map.proofs.Whole.{gives}
use Rattle.gw_map.proofs.settings.Settings.read.Goals as goal

pub returns-in-Ok : goal.returns-in-Ok
returns-in-Ok c =
    rw c.in-Ok.ensures.ok
    (gives setup_fields c.from_table.result (complaints_of (table_view c.in-Ok.table))
    (setup_of (table_view c.in-Ok.table)) c.from_table.ensures)
