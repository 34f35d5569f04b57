use Rattle.std.proofs.Common.{◌≡◌, ℕ, ◌+◌, ◌%◌, ◌≤◌, Bool, List, Option, length, min, subst, sym, take, arith}
use Rattle.std.specs.Prelude.{if◌then◌else◌, is_ok}
use Rattle.std.specs.Io.KnownBytes.{Appends}
use Rattle.std.proofs.lemmas.List.{length-take}
use Rattle.dnp_transport.specs.Cut.{segment_count, segments_of}
use Rattle.run_ends.specs.declared.sent.Sent.{Sent}
use Rattle.run_ends.specs.Framed.{framed}
use Rattle.run_ends.specs.Sent.{one_segment, part_of, segments_in, sent_octets}
use Rattle.run_ends.proofs.Follow.{numbers_kept, numbers_next, took_part}
use Rattle.run_ends.proofs.sent.put.Goals as goal

-- a writer took the whole of it, or a front
abbrev Takes : (own peer sequence : ℕ) (before after : Option (List ℕ)) (whole : Bool) → Sent → Type 0
Takes own peer sequence before after whole what =
    (count : ℕ) × Appends before after (part_of whole count (sent_octets own peer sequence what))

pub returns-in-Reply-clause-took : goal.returns-in-Reply-clause-took
returns-in-Reply-clause-took g c =
    let wire = c.args.wire.now in
    let before = g.W.Outgoing.contents wire.writer in
    let after = g.W.Outgoing.contents c.answer.new.self.writer in
    let r = c.answer.result in
    subst (Takes wire.own wire.peer wire.sequence before after (is_ok r)) (sym c.in-Reply.is)
    (took_part before after _ r c.answer.ensures.ok c.answer.ensures.front)

pub returns-in-Status-clause-took : goal.returns-in-Status-clause-took
returns-in-Status-clause-took g c =
    let wire = c.args.wire.now in
    let before = g.W.Outgoing.contents wire.writer in
    let after = g.W.Outgoing.contents c.ask_status.new.self.writer in
    let r = c.ask_status.result in
    subst (Takes wire.own wire.peer wire.sequence before after (is_ok r)) (sym c.in-Status.is)
    (took_part before after _ r c.ask_status.ensures.ok c.ask_status.ensures.front)

pub returns-in-Confirm-clause-took : goal.returns-in-Confirm-clause-took
returns-in-Confirm-clause-took g c =
    let wire = c.args.wire.now in
    let before = g.W.Outgoing.contents wire.writer in
    let after = g.W.Outgoing.contents c.send.new.self.writer in
    let r = c.send.result in
    subst (Takes wire.own wire.peer wire.sequence before after (is_ok r)) (sym c.in-Confirm.is)
    (took_part before after _ r c.send.ensures.ok c.send.ensures.front)

pub returns-in-Request-clause-took : goal.returns-in-Request-clause-took
returns-in-Request-clause-took g c =
    let wire = c.args.wire.now in
    let before = g.W.Outgoing.contents wire.writer in
    let after = g.W.Outgoing.contents c.send-in-Request.new.self.writer in
    let octets : List ℕ = c.as_slice-octets.result.now in
    let of : List ℕ → List ℕ = λ fragment. framed wire.own wire.peer (segments_of fragment (wire.sequence % 64)) in
    let r = c.send-in-Request.result in
    let Parts : List ℕ → Type 0 = λ fragment. (count : ℕ) × Appends before after (part_of (is_ok r) count (of fragment)) in
    subst (Takes wire.own wire.peer wire.sequence before after (is_ok r)) (sym c.in-Request.is)
    (subst (λ (fragment : List ℕ). Parts (one_segment fragment)) c.as_slice-octets.ensures
    (subst (λ (n : ℕ). Parts (take n octets)) c.min.ensures
    (took_part before after _ r c.send-in-Request.ensures.ok c.send-in-Request.ensures.front)))

-- the next sequence number behind it
abbrev Counts : (old new : ℕ) (whole : Bool) → Sent → Type 0
Counts old new whole what = new % 64 ≡ (old + (if whole then segments_in what else 0)) % 64

pub returns-in-Reply-clause-sequence : goal.returns-in-Reply-clause-sequence
returns-in-Reply-clause-sequence g c =
    let r = c.answer.result in
    subst (Counts c.args.wire.now.sequence c.answer.new.self.sequence (is_ok r)) (sym c.in-Reply.is)
    (numbers_kept _ _ r c.answer.ensures.sequence)

pub returns-in-Status-clause-sequence : goal.returns-in-Status-clause-sequence
returns-in-Status-clause-sequence g c =
    let r = c.ask_status.result in
    subst (Counts c.args.wire.now.sequence c.ask_status.new.self.sequence (is_ok r)) (sym c.in-Status.is)
    (numbers_kept _ _ r c.ask_status.ensures.sequence)

pub returns-in-Confirm-clause-sequence : goal.returns-in-Confirm-clause-sequence
returns-in-Confirm-clause-sequence g c =
    let r = c.send.result in
    subst (Counts c.args.wire.now.sequence c.send.new.self.sequence (is_ok r)) (sym c.in-Confirm.is)
    (numbers_next _ _ _ r c.send.ensures.sequence c.send.ensures.kept (omega arith))

pub returns-in-Request-clause-sequence : goal.returns-in-Request-clause-sequence
returns-in-Request-clause-sequence g c =
    let old = c.args.wire.now.sequence in
    let new = c.send-in-Request.new.self.sequence in
    let octets : List ℕ = c.as_slice-octets.result.now in
    let r = c.send-in-Request.result in
    let Counted : List ℕ → Type 0 =
    λ fragment. new % 64 ≡ (old + (if is_ok r then segment_count (length fragment) else 0)) % 64 in
    subst (Counts old new (is_ok r)) (sym c.in-Request.is)
    (subst (λ (fragment : List ℕ). Counted (one_segment fragment)) c.as_slice-octets.ensures
    (subst (λ (n : ℕ). Counted (take n octets)) c.min.ensures
    (numbers_next _ _ _ r c.send-in-Request.ensures.sequence c.send-in-Request.ensures.kept
    (omega (arith, c.min.ensures, length-take c.min.result octets)))))
