use Rattle.std.proofs.Common.{◌∙◌, sym, ap}
use Rattle.run_log.proofs.Adding.{reserves_moves}
use Rattle.run_log.proofs.log.Opened.new.Goals as goal

pub compare_exchange-found-requires : goal.compare_exchange-found-requires
compare_exchange-found-requires g c =
    let open' = c.open-seen.ensures in
    let word = c.tracked-word.ensures.0 in
    let pen = c.no_pen-pen.ensures in
    let offer = c.plain-idle.ensures in
    let book = ap (λ w. w.book) word ∙ open'.2 in (
      ap (λ w. w.tracked) word,
      sym book,
      pen.0 ∙ sym book,
      offer.0,
      rw (ap (λ w. w.key) word, ap (λ p. p.key) open'.4, pen.1, offer.3)
          (reserves_moves c.open-seen.result.0.log c.plain-idle.result.ask),
    )
