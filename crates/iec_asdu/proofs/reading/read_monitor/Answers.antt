use Rattle.gw_time.specs.Rule.{clocks_of}
use Rattle.iec_asdu.specs.Asdu.{monitor_types}
use Rattle.iec_asdu.proofs.Joined.{found_for, only_for}
use Rattle.iec_asdu.proofs.reading.read_monitor.Goals as goal

pub returns-clause-found : goal.returns-clause-found
returns-clause-found c = found_for (monitor_types (clocks_of c.args.zone.now)) c.args.octets.now c.read_whole.result
    c.read_whole.ensures.exact

pub returns-clause-only : goal.returns-clause-only
returns-clause-only c = only_for (monitor_types (clocks_of c.args.zone.now)) c.args.octets.now c.read_whole.result
    c.read_whole.ensures.exact
