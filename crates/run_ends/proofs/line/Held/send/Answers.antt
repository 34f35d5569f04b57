use Rattle.std.proofs.Common.{◌≡◌, ◌∙◌, ◌∷◌, ℕ, Bool, List, ap, rules, subst, sym, ◌%◌}
use Rattle.std.specs.Prelude.{is_ok}
use Rattle.run_log.specs.Follows.{Whole}
use Rattle.run_ends.specs.declared.sent.Sending.{Sending}
use Rattle.run_ends.specs.Sent.{TookAll, segments_sent}
use Rattle.run_ends.proofs.Follow.{counts_on, took_on_line}
use Rattle.run_ends.proofs.line.Held.send.Goals as goal

pub invariant_of-self : goal.invariant_of-self
invariant_of-self g c =
    let own = g.N.LineCourse.own in
    let peer = g.N.LineCourse.peer in
    let old = c.self.inside.wire in
    let new = c.put-sent.new.wire in
    let lane = c.args.mine.now.lane in
    let past = c.self.inside.head.log in
    let sending : Sending = record { what = c.args.what; whole = is_ok c.put-sent.result } in
    let added : c.add.new.self.log ≡ (lane, sending) ∷ past =
    ap (λ (w : Whole Sending). w.log) c.add.ensures.added
    ∙ ap (λ (whole : Bool). (lane, record { what = c.args.what; whole = whole }) ∷ past) c.is_ok-whole.ensures.value in (
      subst (TookAll own peer g.N.LineCourse.first (g.W.Outgoing.contents new.writer)) (sym added) (
        g.W.Outgoing.contents old.writer,
        (
          c.self.invariant.0,
          took_on_line own peer (segments_sent past) old.own old.peer old.sequence _ _ sending c.self.invariant.2
              c.self.invariant.3 c.self.invariant.4 c.put-sent.ensures.took,
        ),
      ),
      search rules,
      c.put-sent.ensures.addresses.0 ∙ c.self.invariant.2,
      c.put-sent.ensures.addresses.1 ∙ c.self.invariant.3,
      subst (λ (log : List (ℕ × Sending)). new.sequence % 64 ≡ segments_sent log % 64) (sym added)
          (counts_on old.sequence new.sequence (segments_sent past) _ c.put-sent.ensures.sequence c.self.invariant.4),
    )

pub returns : goal.returns
returns g c =
    let lane = c.args.mine.now.lane in
    let before = c.self.inside.head.log in
    record {
      sent = (
        before,
        (
          c.add.ensures.follows,
          c.add.ensures.seen
              ∙ (ap (λ (w : Whole Sending). record { lane = lane; log = w.log }) c.add.ensures.added
              ∙ ap (λ (whole : Bool). record { lane = lane; log = (lane, record { what = c.args.what; whole = whole }) ∷ before })
              c.is_ok-whole.ensures.value),
        ),
      );
    }
