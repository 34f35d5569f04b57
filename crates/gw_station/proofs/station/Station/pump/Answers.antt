use Rattle.std.proofs.Common.{rules}
use Rattle.gw_station.proofs.Line.{offered_returnable}
use Rattle.gw_station.specs.Ring.{seen}
use Rattle.gw_station.proofs.station.Station.pump.Goals as goal

pub send-requires-clause-answer : goal.send-requires-clause-answer
send-requires-clause-answer c =
    search (
      rules,
      offered_returnable c.args.moment (seen c.args.news.now c.args.self.now)
          c.next_sending.ensures.answers,
    )
