use Rattle.std.proofs.Common.{◌∙◌, sym, ap}
use Rattle.run_log.proofs.Adding.{reserves_moves}
use Rattle.run_log.proofs.log.new_cell.Goals as goal

pub compare_exchange-found-requires : goal.compare_exchange-found-requires
compare_exchange-found-requires g c =
    let word = c.requires in
    let book = ap (λ w. w.book) word in
    let pen = c.no_pen-pen.ensures in
    let offer = c.plain-idle.ensures in (
      ap (λ w. w.tracked) word,
      sym book,
      pen.0 ∙ sym book,
      offer.0,
      rw (ap (λ w. w.key) word, pen.1, offer.3) (reserves_moves c.args.seen.now.log c.plain-idle.result.ask),
    )
