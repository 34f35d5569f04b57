use Rattle.std.proofs.Common.{◌≤◌, ◌∙◌, refl, arith}
use Rattle.std.proofs.lemmas.List.{length-take-le}
use Rattle.dnp_link.proofs.Padding.{zeros_behind}
use Rattle.dnp_link.proofs.reading.frame_at.Goals as goal

pub returns-clause-padded : goal.returns-clause-padded
returns-clause-padded c =
    let room : c.from.result ≤ 250 = omega (arith, c.from.ensures, c.requires.fits) in
    zeros_behind _ _ _ _
    (c.read_blocks.auto.user ∙ (length-take-le c.from.result _ room ∙ c.from.ensures)) c.from.ensures refl
