-- The octets that are written are the ASDU's.
use Rattle.std.proofs.Common.{◌≡◌, ◌++◌, ◌∙◌, OnOk, List, ℕ, take, subst, codes, ap}
use Rattle.gw_model.specs.Clocks.{Clocks}
use Rattle.gw_map.specs.Settings.{station_clocks}
use Rattle.iec_asdu.specs.Spelling.{spelling}
use Rattle.iec_asdu.proofs.Carried.{packed_spelling_one}
use Rattle.cmd_replay.specs.FragmentText.{asdu_line, line_of}
use Rattle.cmd_replay.proofs.fragment_text.push_asdu.Goals as goal

pub returns : goal.returns
unfolding asdu_line
returns c =
    let written = c.write_monitor-written in
    let image = c.args.image.now in
    let settings = c.args.settings.now in
    let octets : take written.result.octets written.new.out ≡ spelling (station_clocks settings.station) 3 image =
    written.ensures.spelled
    ∙ packed_spelling_one _ 3 image
    ∙ ap (λ (clocks : Clocks). spelling clocks 3 image) c.zone.ensures in
    subst (λ (o : List ℕ). OnOk c.push_line.result (c.push_line.new.text.items
    ≡ c.args.text.now.items ++ line_of (codes "asdu") o)) octets c.push_line.ensures
