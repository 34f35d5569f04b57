use Rattle.std.proofs.Common.{length, ap, ◌∙◌, arith}
use Rattle.std.proofs.lemmas.List.{length-drop}
use Rattle.circular_buffer.specs.Buffer.{Buffer}
use Rattle.gw_map.specs.Settings.{station_clocks}
use Rattle.iec_apci.specs.Buffer.{buffer_of}
use Rattle.iec_apci.specs.declared.apdu.Signal.{Signal}
use Rattle.gw_station.proofs.Sent.{news_some, news_content, news_sent, part_is_first, part_content_is, parts_sent}
use Rattle.gw_station.specs.Ring.{seen}
use Rattle.gw_station.proofs.station.Station.send.Goals as goal

pub invariant_of-self : goal.invariant_of-self
invariant_of-self c =
    let kept = c.self.invariant in
    let left = c.pop_front.ensures.items in (
      omega (arith, ap (λ (b : Buffer Signal). length b.items) left, length-drop 1 c.self.inside.confirmations.items, kept.0),
      ap (λ (b : Buffer Signal). b.capacity) left ∙ kept.1,
      kept.2,
      kept.3,
      kept.4,
    )

pub send_news-requires-clause-some : goal.send_news-requires-clause-some
send_news-requires-clause-some c =
    news_some (seen c.args.news.now c.args.self.now) c.args.sending c.in-News.field-0 c.in-News.is c.requires.next

pub send_parts-requires-clause-first : goal.send_parts-requires-clause-first
send_parts-requires-clause-first c =
    part_is_first (seen c.args.news.now c.args.self.now) c.args.sending c.in-Part.part c.in-Part.is c.requires.next

pub returns-in-News-clause-apdu : goal.returns-in-News-clause-apdu
returns-in-News-clause-apdu c =
    c.send_news.ensures.apdu
    ∙ ap buffer_of (news_content (station_clocks c.args.settings.now.station)
    (seen c.args.news.now c.args.self.now) c.args.sending c.in-News.field-0 c.in-News.is c.requires.next)

pub returns-in-News-clause-client : goal.returns-in-News-clause-client
returns-in-News-clause-client c =
    c.send_news.ensures.client
    ∙ news_sent (station_clocks c.args.settings.now.station) c.args.moment (seen c.args.news.now c.args.self.now) c.args.sending
    c.in-News.field-0 c.in-News.is c.requires.next

pub returns-in-Part-clause-apdu : goal.returns-in-Part-clause-apdu
returns-in-Part-clause-apdu c =
    c.send_parts.ensures.apdu
    ∙ ap buffer_of (part_content_is (station_clocks c.args.settings.now.station)
    (seen c.args.news.now c.args.self.now) c.args.sending c.in-Part.part c.in-Part.is
    c.requires.next)

pub returns-in-Part-clause-client : goal.returns-in-Part-clause-client
returns-in-Part-clause-client c =
    ap (seen c.args.news.now) c.send_parts.ensures.seat
    ∙ parts_sent (station_clocks c.args.settings.now.station) c.args.moment (seen c.args.news.now c.args.self.now) c.args.sending
    c.in-Part.part c.in-Part.is c.requires.next
