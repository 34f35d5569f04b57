use Rattle.std.proofs.Common.{arith}
use Rattle.gw_map.specs.Settings.{station_clocks}
use Rattle.iec_asdu.proofs.Carried.{taken_of_within}
use Rattle.gw_station.specs.Kept.{news_next}
use Rattle.gw_station.specs.Ring.{seen}
use Rattle.gw_station.proofs.Front.{next_within}
use Rattle.gw_station.proofs.station.Station.send_news.Goals as goal

pub forget_news-requires-clause-few : goal.forget_news-requires-clause-few
forget_news-requires-clause-few c =
    let k = seen c.args.news.now c.args.self.now in
    omega (
      arith,
      c.pack_news-packed.ensures.taken,
      taken_of_within (station_clocks c.args.settings.now.station) (news_next k),
      next_within k,
    )
