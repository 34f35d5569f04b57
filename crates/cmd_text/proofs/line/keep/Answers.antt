use Rattle.std.proofs.Common.{rules, ◌≡◌, ◌++◌, sym, ap, ◌∙◌, arith}
use Rattle.std.specs.Result.{IsOk}
use Rattle.cmd_text.proofs.FrontLaws.{all_kept, front_kept}
use Rattle.cmd_text.proofs.line.keep.Goals as goal

pub returns-then-piece-room-clause-kept : goal.returns-then-piece-room-clause-kept
returns-then-piece-room-clause-kept c =
    let len = c.args.kept.now.ok.0 in
    let ok : IsOk c.extend_from_slice.result = c.extend_from_slice.ensures.succeeds
    (omega (arith, len, c.len.ensures, c.requires.short, c.requires.room, c.if-piece-room.true)) in
    let items : c.extend_from_slice.new.self.items ≡ c.args.kept.now.items ++ c.args.piece.now = search (rules, ok) in
    items ∙ sym (all_kept c.args.most c.args.kept.now.items c.args.piece.now
    (omega (arith, len, c.len.ensures, c.if-piece-room.true)))

pub returns-else-piece-room-clause-kept : goal.returns-else-piece-room-clause-kept
returns-else-piece-room-clause-kept c =
    let len = c.args.kept.now.ok.0 in
    let extend = c.extend_from_slice-else-piece-room in
    let ok : IsOk extend.result = extend.ensures.succeeds
    (omega (arith, len, c.len.ensures, c.requires.short, c.requires.room, c.split_at.ensures.front_len)) in
    let items : extend.new.self.items ≡ c.args.kept.now.items ++ c.split_at.result.0.now = search (rules, ok) in
    items ∙ (ap (λ front. c.args.kept.now.items ++ front) c.split_at.ensures.front ∙ front_kept c.args.most
    c.args.kept.now.items c.args.piece.now _ (omega (arith, len, c.len.ensures, c.requires.short)))
