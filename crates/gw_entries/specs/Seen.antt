-- How contracts see a station and an outstation.
use Rattle.std.specs.Prelude.{string_bytes}
use Rattle.gw_entries.specs.declared.station.Station.TheInside.{Inside as StationInside}
use Rattle.gw_entries.specs.declared.outstation.Outstation.TheInside.{Inside as OutstationInside}
use Rattle.gw_entries.specs.Setup.{StationSetup, OutstationSetup}

abbrev pub station_seen : StationInside → StationSetup
station_seen s = record {
  common_address = s.common_address;
  master_address = s.master_address;
  offset_minutes = s.offset_minutes;
  rule = s.rule;
  k = s.k;
  w = s.w;
  t1_ms = s.t1_ms;
  t2_ms = s.t2_ms;
  t3_ms = s.t3_ms;
  queue = s.queue;
  select_ms = s.select_ms;
  recorder = s.recorder;
  listen = string_bytes s.listen;
  rule_text = string_bytes s.rule_text;
}

abbrev pub outstation_seen : OutstationInside → OutstationSetup
outstation_seen s = record {
  address = s.address;
  connect = string_bytes s.connect;
  poll = s.poll;
  common_address = s.common_address;
}
