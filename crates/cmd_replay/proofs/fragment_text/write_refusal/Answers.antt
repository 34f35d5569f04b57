use Rattle.std.proofs.Common.{◌++◌, ◌∷◌, [], List, ℕ, OnOk, subst, codes}
use Rattle.std.specs.Fmt.{decimal}
use Rattle.std.specs.Io.KnownBytes.{Appends}
use Rattle.cmd_replay.proofs.fragment_text.write_refusal.Goals as goal

pub returns-in-Object : goal.returns-in-Object
returns-in-Object g c =
    let before = g.W.Write.contents c.args.writer.now in
    let after = g.W.Write.contents c.writeln.new.self in
    let line = subst (λ (words : List ℕ). OnOk c.writeln.result (Appends before after
    (codes "refused 3 Object " ++ (words ++ (codes " at " ++ (decimal c.in-Object.fault.place ++ 10 ∷ []))))))
    c.words_of-words.ensures c.writeln.ensures.bytes in
    rw c.in-Object.is line

pub returns-in-Memory : goal.returns-in-Memory
returns-in-Memory g c = rw c.in-Memory.is c.write_all-in-Memory.ensures.bytes
