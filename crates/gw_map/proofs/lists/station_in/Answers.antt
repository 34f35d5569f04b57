use Rattle.std.proofs.Common.{sym}
use Rattle.gw_map.proofs.Listed.{station_missing, station_no_table, station_table}
use Rattle.gw_entries.proofs.Told.{tells_first}
use Rattle.gw_map.proofs.lists.station_in.Goals as goal

pub returns-in_default : goal.returns-in_default
returns-in_default c = tells_first c.at_top.result _ _ c.at_top.ensures (station_missing _ (sym c.in_default.ensures))

pub returns-in_default-as_table : goal.returns-in_default-as_table
returns-in_default-as_table c =
    tells_first c.at_top-in_default-as_table.result _ _ c.at_top-in_default-as_table.ensures
    (rw (← c.in-Some.ensures) (station_no_table _ (sym c.in_default-as_table.ensures)))

pub returns : goal.returns
returns c =
    let found = station_table _ _ (sym c.in-Some-as_table.ensures) in
    rw (← c.in-Some.ensures, found.0, found.1) c.read_station.ensures
