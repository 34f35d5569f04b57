use Rattle.std.proofs.Common.{◌-◌, arith}
use Rattle.std.proofs.lemmas.List.{length-drop}
use Rattle.gw_station.specs.Ring.{oldest}
use Rattle.gw_station.proofs.cursor.Cursor.past.Goals as goal

pub overflow_add-result : goal.overflow_add-result
overflow_add-result c =
    let r = c.args.news.now in
    let k = c.args.self.now in
    omega (
      arith,
      c.requires.few,
      c.requires.within.first,
      c.first_waiting.ensures.first,
      c.first_waiting.ensures.within,
      length-drop (k.first - oldest r) r.items,
    )
