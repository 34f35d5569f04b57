use Rattle.std.proofs.Common.{◌≡◌, ℕ, ◌<◌, length, List, [], sym, ◌∙◌, ap, arith, rules}
use Rattle.std.proofs.lemmas.List.{nil_from_length}
use Rattle.std.proofs.lemmas.Bool.Decides.{nat_tests}
use Rattle.dnp_transport.specs.Cut.{segments_from}
use Rattle.dnp_transport.proofs.Cutting.{segments_from-nil, segments_from-parted}
use Rattle.dnp_transport.proofs.split.SegmentIterIterator.next.Goals as goal

pub returns-then-is_empty-clause-steps : goal.returns-then-is_empty-clause-steps
returns-then-is_empty-clause-steps c =
    let none : c.self.inside.rest.now ≡ [] = nil_from_length _ (grind (arith, nat_tests)) in
    let left : c.args.self.now ≡ [] =
    sym c.self.view_is ∙ (ap (λ (r : List ℕ). segments_from c.self.inside.is_first c.self.inside.sequence r) none
    ∙ segments_from-nil _ _) in
    (left, left)

pub returns-clause-steps : goal.returns-clause-steps
returns-clause-steps c =
    let some : 0 < length c.self.inside.rest.now = grind (arith, nat_tests) in
    let begun = segments_from-parted c.self.inside.is_first c.self.inside.sequence c.self.inside.rest.now
    c.split_at.result.0.now c.split_at.result.1.now c.min-len.result
    some c.min-len.ensures c.split_at.ensures.front c.split_at.ensures.back in
    rw (← c.self.view_is, c.new.ensures, c.header-header.ensures, c.is_empty-2.ensures) begun

pub returns-clause-goes : goal.returns-clause-goes
returns-clause-goes c = let steps = returns-clause-steps c in rw steps (search rules)
