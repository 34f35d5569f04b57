use Rattle.std.proofs.Common.{◌≡◌, ℕ, List, ◌++◌, take, ap, ◌∙◌, arith}
use Rattle.std.specs.Prelude.{slice_set}
use Rattle.gw_model.specs.declared.observation.Observation.{Observation}
use Rattle.gw_map.specs.Settings.{station_clocks}
use Rattle.iec_asdu.specs.Packing.{taken_of}
use Rattle.iec_asdu.proofs.Carried.{packed_spelling_front, taken_of_front}
use Rattle.gw_answers.specs.Octets.{packed_octets}
use Rattle.gw_station.specs.Kept.{news_next}
use Rattle.gw_station.specs.Ring.{seen}
use Rattle.gw_station.proofs.Front.{next_front}
use Rattle.gw_station.proofs.station.Station.pack_news.Goals as goal

-- the slices are the news that wait
front : (c : goal.After-pack_news)
    → take c.min-count.result (c.news_waiting.result.0.now ++ c.news_waiting.result.1.now)
    ≡ take 127 (news_next (seen c.args.news.now c.args.self.now))
front c =
    ap (take c.min-count.result) c.news_waiting.ensures
    ∙ next_front (seen c.args.news.now c.args.self.now) c.min-count.result 127
    (omega (arith, c.min-count.ensures, c.news_next.ensures))

pub returns-clause-asdu : goal.returns-clause-asdu
returns-clause-asdu c =
    let station = c.args.settings.now.station in
    c.pack_news.ensures.asdu
    ∙ (ap (λ (xs : List Observation). packed_octets (station_clocks station) 3 0 xs) (front c)
    ∙ ap (λ (octets : List ℕ). slice_set octets 3 0)
    (packed_spelling_front (station_clocks station) 3
    (news_next (seen c.args.news.now c.args.self.now))))

pub returns-clause-taken : goal.returns-clause-taken
returns-clause-taken c =
    c.pack_news.ensures.taken
    ∙ (ap (λ (xs : List Observation). taken_of (station_clocks c.args.settings.now.station) xs) (front c)
    ∙ taken_of_front (station_clocks c.args.settings.now.station) (news_next (seen c.args.news.now c.args.self.now)))
