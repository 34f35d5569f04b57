use Rattle.std.proofs.Common.{◌∙◌, ℕ, List, refl, sym, ap, ap₂, subst, arith}
use Rattle.std.specs.Prelude.{option_copied, reverse}
use mathlib.Core.List.{IsPrefix}
use Rattle.run_log.specs.Follows.{Follows, Known, Whole}
use Rattle.run_log.specs.Rules.{HasTurn, entries_in, head_keys, lane_keys, lane_of, lanes_in, newest, with_entry}
use Rattle.run_log.specs.declared.link.Link.{Link}
use Rattle.run_log.specs.declared.link.Link.TheVariants.{Turn, Visited}
use Rattle.run_log.proofs.Adding.{adds_moves}
use Rattle.run_log.proofs.Fronts.{AfterTurn, AfterVisit, after_turn, after_visit, may_turn, may_visit, visited_turn}
use Rattle.run_log.proofs.Pasts.{learned, prefix_trans}
use Rattle.run_log.proofs.log.Head.visit.Given.{Over}
use Rattle.run_log.proofs.log.Head.visit.Goals as goal

pub compare_exchange-found-requires : goal.compare_exchange-found-requires
compare_exchange-found-requires g c =
    let h = c.self.invariant.0 in
    let word = ap (λ w. w.book) h in
    let offer = c.plain-turn.ensures in
    let turn = c.mine.invariant.2 in
    let pen = turn.is_pen in
    let book =
    c.new_cell-next.ensures.book
    ∙ (c.new_cell-own.ensures.book
    ∙ (c.joined-now.ensures.book ∙ c.self.invariant.1)) in
    let own = c.mine.inside.own.log in
    let now = c.new_cell-next.new.seen.log in
    let lane = lane_of (reverse own) in
    let key = c.new_cell-own.result.nib.key in
    let asked = offer.1 ∙ ap (λ s. Turn (lane_of (reverse s.log)) key) c.again.ensures in
    let known =
    learned own c.mine.inside.seen.log c.self.inside.seen.log c.joined-now.result.log c.new_cell-own.new.seen.log now
    c.joined-now.ensures.own c.joined-now.ensures.mine c.joined-now.ensures.whole c.new_cell-own.ensures.seen
    c.new_cell-next.ensures.seen in (
      ap (λ w. w.tracked) h,
      book ∙ sym word,
      pen.0 ∙ sym word,
      offer.0,
      rw (ap (λ w. w.key) h, offer.3)
          (adds_moves now (Turn lane key) c.plain-turn.result.ask c.mine.inside.pen.nib
          (newest (lane_keys lane (reverse own))) pen.1 pen.2 asked
          (may_turn lane key own now known.own_is (omega (arith, turn.turns)))),
    )

pub compare_exchange-found-requires-2 : goal.compare_exchange-found-requires-2
compare_exchange-found-requires-2 g c =
    let h = c.self.invariant.0 in
    let word = ap (λ w. w.book) h in
    let offer = c.plain-offer.ensures in
    let pen = c.self.invariant.2 in
    let last = c.mine.invariant.2 in
    let book =
    c.compare_exchange-found.ensures.0
    ∙ (c.new_cell-next.ensures.book
    ∙ (c.new_cell-own.ensures.book
    ∙ (c.joined-now.ensures.book ∙ c.self.invariant.1))) in
    let own = c.mine.inside.own.log in
    let whole = c.self.inside.seen.log in
    let now = c.new_cell-next.new.seen.log in
    let then = c.compare_exchange-found.new.seen.log in
    let lane = lane_of (reverse own) in
    let key = c.new_cell-own.result.nib.key in
    let next = c.new_cell-next.result.nib.key in
    let entry = option_copied c.args.adds in
    let known =
    learned own c.mine.inside.seen.log whole c.joined-now.result.log c.new_cell-own.new.seen.log now
    c.joined-now.ensures.own c.joined-now.ensures.mine c.joined-now.ensures.whole c.new_cell-own.ensures.seen
    c.new_cell-next.ensures.seen in
    let turn : AfterTurn lane key own c.mine.inside.seen.log whole then =
    after_turn lane key own c.mine.inside.seen.log whole
    (c.plain-turn.ensures.1 ∙ ap (λ s. Turn (lane_of (reverse s.log)) key) c.again.ensures) known.own_is known.whole_is
    last.turns last.is_pen.2 c.compare_exchange-found.ensures.7 in
    let asked =
    offer.1
    ∙ (ap (λ s. Visited (lane_of (reverse s.log)) entry next) c.again-3.ensures
    ∙ ap (λ n. Visited n entry next) turn.lane_is) in
    let seen : IsPrefix whole then = prefix_trans whole now then known.whole_is c.compare_exchange-found.ensures.6 in (
      ap (λ w. w.tracked) h,
      book ∙ sym word,
      pen.0 ∙ sym word,
      offer.0,
      rw (ap (λ w. w.key) h, offer.3)
          (adds_moves then (Visited lane entry next) c.plain-offer.result.ask c.self.inside.pen.nib
          (newest (head_keys (reverse whole))) pen.1 pen.2 asked
          (may_visit lane entry next whole then seen (omega (arith, turn.few, turn.turns_are)))),
    )

-- what is known after both steps
known : (g : Over) (c : goal.After-drop-turn g)
    → AfterTurn (lane_of (reverse c.mine.inside.own.log)) c.new_cell-own.result.nib.key c.mine.inside.own.log
    c.mine.inside.seen.log c.self.inside.seen.log c.compare_exchange-found.new.seen.log
    × AfterVisit (lane_of (reverse c.mine.inside.own.log)) (option_copied c.args.adds) c.mine.inside.seen.log c.self.inside.seen.log
    c.compare_exchange-found-2.new.seen.log
known g c =
    let last = c.mine.invariant.2 in
    let own = c.mine.inside.own.log in
    let mine = c.mine.inside.seen.log in
    let whole = c.self.inside.seen.log in
    let now = c.new_cell-next.new.seen.log in
    let then = c.compare_exchange-found.new.seen.log in
    let lane = lane_of (reverse own) in
    let key = c.new_cell-own.result.nib.key in
    let next = c.new_cell-next.result.nib.key in
    let entry = option_copied c.args.adds in
    let before =
    learned own mine whole c.joined-now.result.log c.new_cell-own.new.seen.log now c.joined-now.ensures.own
    c.joined-now.ensures.mine c.joined-now.ensures.whole c.new_cell-own.ensures.seen c.new_cell-next.ensures.seen in
    let turn : AfterTurn lane key own mine whole then =
    after_turn lane key own mine whole
    (c.plain-turn.ensures.1 ∙ ap (λ s. Turn (lane_of (reverse s.log)) key) c.again.ensures) before.own_is before.whole_is
    last.turns last.is_pen.2 c.compare_exchange-found.ensures.7 in
    let asked =
    c.plain-offer.ensures.1
    ∙ (ap (λ s. Visited (lane_of (reverse s.log)) entry next) c.again-3.ensures
    ∙ ap (λ n. Visited n entry next) turn.lane_is) in
    let seen : IsPrefix whole then = prefix_trans whole now then before.whole_is c.compare_exchange-found.ensures.6 in
    let seen_mine : IsPrefix mine then = prefix_trans mine now then before.mine_is c.compare_exchange-found.ensures.6 in (
      turn,
      after_visit lane entry next mine whole asked seen_mine seen turn.few c.self.invariant.2.2
          c.compare_exchange-found-2.ensures.7,
    )

pub invariant_of-mine : goal.invariant_of-mine
invariant_of-mine g c =
    let k = known g c in
    let then = c.compare_exchange-found.new.seen.log in
    let now = c.compare_exchange-found-2.new.seen.log in
    let start =
    c.joined-now.ensures.book ∙ c.self.invariant.1 in
    let book =
    c.compare_exchange-found.ensures.0 ∙ (c.new_cell-next.ensures.book ∙ (c.new_cell-own.ensures.book ∙ start)) in
    let pen = c.new_cell-own.ensures.pen in
    let own = c.mine.inside.own.log in (
      ap (λ s. s.book) c.again-2.ensures ∙ book,
      c.compare_exchange-found-2.ensures.0 ∙ book,
      subst (λ (l : List (Link g.row.E.Denot)). HasTurn g.J.Naming.book (reverse l) (reverse now) c.new_cell-own.result)
          (sym (ap (λ s. s.log) c.again-2.ensures))
          (visited_turn (lane_of (reverse own)) c.new_cell-own.result.nib.key (option_copied c.args.adds) g.J.Naming.book own
          c.mine.inside.seen.log c.self.inside.seen.log then now c.new_cell-own.result k.0 k.1
          (pen.0 ∙ start, pen.1, refl)),
    )

pub returns-clause-log : goal.returns-clause-log
returns-clause-log g c =
    let k = (known g c).1 in
    let log = ap (λ s. reverse s.log) c.again-4.ensures in
    let entry = option_copied c.args.adds in
    ap₂ (λ (n : ℕ) (l : List (ℕ × g.row.E.Denot)). record { lanes = n; log = l })
    (ap lanes_in log ∙ (k.lanes ∙ ap (λ (w : Whole g.row.E.Denot). w.lanes) c.self.view_is))
    (ap entries_in log
    ∙ (k.entries
    ∙ ap₂ (λ (n : ℕ) (l : List (ℕ × g.row.E.Denot)). with_entry n entry l)
    (ap (λ (w : Known g.row.E.Denot). w.lane) c.mine.view_is) (ap (λ (w : Whole g.row.E.Denot). w.log) c.self.view_is)))

pub returns-clause-follows : goal.returns-clause-follows
returns-clause-follows g c =
    let all = entries_in (reverse c.self.inside.seen.log) in
    subst (λ (w : Whole g.row.E.Denot). Follows c.args.mine.now.lane c.args.mine.now.log w.log) c.self.view_is
    (subst (λ (k : Known g.row.E.Denot). Follows k.lane k.log all) c.mine.view_is (known g c).1.follows)
