use Rattle.std.proofs.Common.{ℕ, arith, ap, length}
use Rattle.std.proofs.lemmas.List.{length-take}
use Rattle.cmd_text.proofs.line.InputLine.add.Goals as goal

pub invariant_of-self : goal.invariant_of-self
invariant_of-self c =
    (omega (arith, ap length c.keep.ensures.kept, length-take {A = ℕ} c.self.inside.most), c.keep.ensures.room)
