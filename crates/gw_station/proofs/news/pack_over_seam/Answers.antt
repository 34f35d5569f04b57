use Rattle.std.proofs.Common.{List, ap, ◌∙◌}
use Rattle.gw_model.specs.declared.observation.Observation.{Observation}
use Rattle.gw_map.specs.Settings.{station_clocks}
use Rattle.iec_asdu.specs.Packing.{taken_of}
use Rattle.gw_answers.specs.Octets.{packed_octets}
use Rattle.gw_station.proofs.Seam.{over_seam}
use Rattle.gw_station.proofs.news.pack_over_seam.Goals as goal

pub returns-clause-asdu : goal.returns-clause-asdu
returns-clause-asdu c =
    let station = c.args.settings.now.station in
    c.pack_slice.ensures.asdu
    ∙ ap (λ (xs : List Observation). packed_octets (station_clocks station) 3 0 xs)
    (over_seam c.args.count _ c.args.front.now c.args.back.now _ _ c.copy_from_slice.ensures.after
    c.copy_from_slice-2.ensures.after c.requires.over c.requires.within)

pub returns-clause-taken : goal.returns-clause-taken
returns-clause-taken c =
    c.pack_slice.ensures.taken
    ∙ ap (λ (xs : List Observation). taken_of (station_clocks c.args.settings.now.station) xs)
    (over_seam c.args.count _ c.args.front.now c.args.back.now _ _ c.copy_from_slice.ensures.after
    c.copy_from_slice-2.ensures.after c.requires.over c.requires.within)
