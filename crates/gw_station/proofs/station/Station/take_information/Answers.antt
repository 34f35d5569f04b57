use Rattle.std.proofs.Common.{◌≡◌, None, rules, sym, ap, subst, ◌∙◌}
use Rattle.gw_model.specs.First.{first_of}
use Rattle.gw_map.specs.Settings.{known_addresses}
use Rattle.gw_judge.specs.Judging.{judged}
use Rattle.gw_answers.specs.Answers.{command_by}
use Rattle.gw_station.specs.Client.{Client}
use Rattle.gw_station.specs.Frames.{closes_judged, event_taking, HasPlace}
use Rattle.gw_station.specs.Ring.{seen}
use Rattle.gw_station.specs.Sound.{CanAnswer}
use Rattle.gw_station.proofs.Places.{has_place}
use Rattle.gw_station.proofs.Answered.{judging_can, short_within}
use Rattle.gw_station.proofs.station.Station.take_information.Goals as goal

pub returns-clause-sendable : goal.returns-clause-sendable
returns-clause-sendable c = λ clocks shown can.
    let setup = c.args.settings.now in
    let j = c.judge-judged.result in
    let so = sym (c.judge-judged.ensures.judged ∙ ap (judged setup) c.as_slice.ensures) in
    let k = seen c.args.news.now c.args.self.now in
    let after = ap (seen c.args.news.now) c.self.view_is ∙ c.in_ok-take_asdu.ensures.client in
    subst (λ (d : Client). CanAnswer clocks d) (sym after)
    (judging_can clocks setup c.args.picture.now c.args.asdu.now j k so
    (short_within (known_addresses setup) c.known_addresses-known.ensures.within) c.judge-judged.ensures.whole shown can)

pub returns-clause-place : goal.returns-clause-place
returns-clause-place c =
    let k = seen c.args.news.now c.args.self.now in
    let after = ap (seen c.args.news.now) c.self.view_is ∙ c.in_ok-take_asdu.ensures.client in
    let taken : first_of (closes_judged c.args.ns c.args.nr c.judge-judged.result k) ≡ None = search rules in
    let told : c.match-command_by.result ≡ event_taking (command_by c.judge-judged.result) = search rules in
    rw told (subst (λ (d : Client). HasPlace (event_taking (command_by c.judge-judged.result))
    (record d { window = c.received.new.self })) (sym after)
    (has_place c.args.settings.now c.args.picture.now c.args.ns c.args.nr c.args.asdu.now c.judge-judged.result k
    c.received.new.self taken))
