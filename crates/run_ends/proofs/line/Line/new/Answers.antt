use Rattle.std.proofs.Common.{ℕ, List, ◌%◌, ◌||◌, ap, subst, sym, ◌∙◌}
use Rattle.run_log.specs.Follows.{Whole}
use Rattle.run_ends.specs.declared.sent.Sending.{Sending}
use Rattle.run_ends.specs.Sent.{TookAll, is_cut_off, segments_sent, sendings}
use Rattle.run_ends.proofs.line.Line.new.Goals as goal

pub invariant_of-new : goal.invariant_of-new
invariant_of-new g c =
    let wire = c.new.result in
    let none = ap (λ (w : Whole Sending). w.log) c.named.ensures in (
      subst (TookAll g.N.LineCourse.own g.N.LineCourse.peer g.N.LineCourse.first (g.W.Outgoing.contents wire.writer)) (sym none)
          (ap (λ w. g.W.Outgoing.contents w.writer) c.new.ensures ∙ c.requires.first),
      ap (λ w. g.W.Outgoing.has_failed w.writer) c.new.ensures
          ∙ (c.requires.failed
          ∙ sym (ap (λ (past : List (ℕ × Sending)). is_cut_off (sendings past) || g.N.LineCourse.failed) none)),
      ap (λ w. w.own) c.new.ensures ∙ c.requires.addresses.0,
      ap (λ w. w.peer) c.new.ensures ∙ c.requires.addresses.1,
      ap (λ w. w.sequence % 64) c.new.ensures
          ∙ sym (ap (λ (past : List (ℕ × Sending)). segments_sent past % 64) none),
    )
