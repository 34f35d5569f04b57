-- A station and an outstation of which nothing is said but their addresses, and a control.
use Rattle.std.specs.Prelude.{pos, true, false, [], None, codes}
use Rattle.std.proofs.Common.{lit≤}
use Rattle.gw_entries.specs.declared.row.Scale.{Scale}
use Rattle.gw_entries.specs.declared.control.Control.{Control}
use Rattle.gw_entries.specs.declared.control.Mode.TheVariants.{Direct}
use Rattle.gw_entries.specs.declared.control.Operates.TheVariants as operated
use Rattle.gw_entries.specs.declared.control.Pulses.{Pulses}
use Rattle.gw_entries.specs.declared.control.Rest.TheVariants.{Latch}
use Rattle.gw_entries.specs.Setup.{StationSetup, OutstationSetup}

abbrev pub station : StationSetup
station = record {
  common_address = 1;
  master_address = 1024;
  offset_minutes = pos 0;
  rule = None;
  k = 12;
  w = 8;
  t1_ms = 15000;
  t2_ms = 10000;
  t3_ms = 20000;
  queue = 1000;
  select_ms = 10000;
  recorder = 1024;
  listen = codes "127.0.0.1:2404";
  rule_text = [];
}

abbrev pub outstation : OutstationSetup
outstation = record {
  address = 1;
  connect = codes "127.0.0.1:20000";
  poll = record { poll_ms = 2000; integrity_ms = 3600000; response_ms = 5000; unsolicited = false; lan_time = false };
  common_address = 1;
}

-- a value is shown, and set, as it is
abbrev pub one_to_one : Scale
one_to_one = record { num = 1; den = 1; num_from = lit≤ tt; num_to = lit≤ tt; den_from = lit≤ tt; den_to = lit≤ tt }

abbrev pub pulses : Pulses
pulses = record {
  rest = Latch;
  short_ms = 500;
  long_ms = 2000;
  short_from = lit≤ tt;
  short_to = lit≤ tt;
  long_from = lit≤ tt;
  long_to = lit≤ tt;
}

-- it has to be selected, and is operated directly
abbrev pub switch : Control
switch = record {
  outstation = 0;
  index = 3;
  common_address = 1;
  address = 5001;
  select = true;
  mode = Direct;
  operates = operated.Single pulses;
  common_from = lit≤ tt;
  common_to = lit≤ tt;
  from = lit≤ tt;
  to = lit≤ tt;
}
