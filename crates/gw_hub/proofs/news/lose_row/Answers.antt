use Rattle.std.proofs.Common.{rules, subst}
use Rattle.std.specs.List.{AllByRecursion}
use Rattle.gw_model.specs.Fit.{HasWidth}
use Rattle.gw_map.specs.Settings.{station_clocks}
use Rattle.gw_answers.specs.Meaning.{IsSendable}
use Rattle.gw_hub.proofs.Taking.{came_none}
use Rattle.gw_hub.proofs.news.lose_row.Goals as goal

pub returns-in-Some-clause-sendable : goal.returns-in-Some-clause-sendable
returns-in-Some-clause-sendable c =
    let width : HasWidth c.in-Some.news.value = search rules in
    subst (AllByRecursion (IsSendable (station_clocks c.args.settings.now.station))) c.in-Some.ensures.news
    (record { fit = c.in-Some.ensures.fit (station_clocks c.args.settings.now.station); width = width }, tt)

pub returns-in_default-clause-clients : goal.returns-in_default-clause-clients
returns-in_default-clause-clients c = came_none _ c.args.clients.now.each c.in_default.ensures.news c.requires.few
