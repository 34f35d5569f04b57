use Rattle.std.proofs.Common.{◌≡◌, ◌∙◌, ℕ, ◌+◌, List, [], refl, sym, ap, ap₂, subst}
use Rattle.std.specs.Prelude.{reverse}
use mathlib.Core.List.{IsPrefix}
use Rattle.run_log.specs.Follows.{Whole, of_lane}
use Rattle.run_log.specs.Rules.{HasTurn, entries_in, head_keys, lane_of, lanes_in, newest}
use Rattle.run_log.specs.declared.link.Link.{Link}
use Rattle.run_log.specs.declared.link.Link.TheVariants.{Begun}
use Rattle.run_log.proofs.Adding.{adds_moves}
use Rattle.run_log.proofs.Fronts.{AfterBegun, after_begun, begun_turn, may_begin}
use Rattle.run_log.proofs.Pasts.{none_added, since}
use Rattle.run_log.proofs.log.Head.lane.Given.{Over}
use Rattle.run_log.proofs.log.Head.lane.Goals as goal

pub compare_exchange-found-requires : goal.compare_exchange-found-requires
compare_exchange-found-requires g c =
    let h = c.self.invariant.0 in
    let pen = c.self.invariant.2 in
    let offer = c.plain-offer.ensures in
    let word = ap (λ w. w.book) h in
    let book =
    c.new_cell-next.ensures.book
    ∙ (c.new_cell-own.ensures.book ∙ (ap (λ s. s.book) c.again-seen.ensures ∙ c.self.invariant.1)) in
    let whole = c.self.inside.seen.log in
    let now = c.new_cell-next.new.seen.log in
    let own = c.new_cell-own.result.nib.key in
    let next = c.new_cell-next.result.nib.key in
    let lane = lanes_in (reverse whole) in
    let asked = offer.1 ∙ ap (λ s. Begun (lanes_in (reverse s.log)) own next) c.again.ensures in
    let seen : IsPrefix whole now =
    since whole c.again-seen.result.log c.new_cell-own.new.seen.log now (ap (λ s. s.log) c.again-seen.ensures)
    c.new_cell-own.ensures.seen c.new_cell-next.ensures.seen in (
      ap (λ w. w.tracked) h,
      book ∙ sym word,
      pen.0 ∙ sym word,
      offer.0,
      rw (ap (λ w. w.key) h, offer.3)
          (adds_moves now (Begun lane own next) c.plain-offer.result.ask c.self.inside.pen.nib
          (newest (head_keys (reverse whole))) pen.1 pen.2 asked
          (may_begin lane own next whole now seen refl)),
    )

known : (g : Over) (c : goal.After-drop-offer g)
    → AfterBegun c.new_cell-own.result.nib.key c.self.inside.seen.log c.compare_exchange-found.new.seen.log
known g c =
    let whole = c.self.inside.seen.log in
    let now = c.new_cell-next.new.seen.log in
    let own = c.new_cell-own.result.nib.key in
    let next = c.new_cell-next.result.nib.key in
    let asked = c.plain-offer.ensures.1 ∙ ap (λ s. Begun (lanes_in (reverse s.log)) own next) c.again.ensures in
    let seen : IsPrefix whole now =
    since whole c.again-seen.result.log c.new_cell-own.new.seen.log now (ap (λ s. s.log) c.again-seen.ensures)
    c.new_cell-own.ensures.seen c.new_cell-next.ensures.seen in
    after_begun (lanes_in (reverse whole)) own next whole asked refl seen c.self.invariant.2.2
    c.compare_exchange-found.ensures.7

pub invariant_of-result : goal.invariant_of-result
invariant_of-result g c =
    let now = c.compare_exchange-found.new.seen.log in
    let start = ap (λ s. s.book) c.again-seen.ensures ∙ c.self.invariant.1 in
    let book =
    c.compare_exchange-found.ensures.0 ∙ (c.new_cell-next.ensures.book ∙ (c.new_cell-own.ensures.book ∙ start)) in
    let pen = c.new_cell-own.ensures.pen in (
      ap (λ s. s.book) c.again-3.ensures ∙ book,
      book,
      subst (λ (l : List (Link g.row.E.Denot)). HasTurn g.J.Naming.book (reverse l) (reverse now) c.new_cell-own.result)
          (sym (ap (λ s. s.log) c.again-3.ensures))
          (begun_turn c.new_cell-own.result.nib.key g.J.Naming.book c.self.inside.seen.log now c.new_cell-own.result
          (known g c) (pen.0 ∙ start, pen.1, refl)),
    )

pub returns-clause-begun : goal.returns-clause-begun
returns-clause-begun g c =
    let k = known g c in
    let log = ap (λ s. reverse s.log) c.again-2.ensures in
    ap₂ (λ (n : ℕ) (l : List (ℕ × g.row.E.Denot)). record { lanes = n; log = l })
    (ap lanes_in log ∙ (k.lanes ∙ ap (λ (w : Whole g.row.E.Denot). w.lanes + 1) c.self.view_is))
    (ap entries_in log ∙ (k.entries ∙ ap (λ w. w.log) c.self.view_is))

pub returns-clause-lane : goal.returns-clause-lane
returns-clause-lane g c =
    let k = known g c in
    let log = ap (λ s. reverse s.log) c.again-3.ensures in
    ap₂ (λ (n : ℕ) (l : List (ℕ × g.row.E.Denot)). record { lane = n; log = l })
    (ap lane_of log ∙ (k.lane ∙ ap (λ (w : Whole g.row.E.Denot). w.lanes) c.self.view_is))
    (k.entries ∙ ap (λ w. w.log) c.self.view_is)

pub returns-clause-none : goal.returns-clause-none
returns-clause-none g c =
    let k = known g c in
    let now = c.compare_exchange-found.new.seen.log in
    let lane = ap (λ s. lane_of (reverse s.log)) c.again-3.ensures ∙ k.lane in
    subst (λ (n : ℕ). of_lane n (entries_in (reverse now)) ≡ []) (sym lane)
    (none_added (lanes_in (reverse c.self.inside.seen.log)) (reverse now) k.unused)
