use Rattle.std.proofs.Common.{◌≡◌, ◌≢◌, ◌∙◌, ℕ, All, length, take, sym, ap, subst, take_all, le_refl}
use Rattle.cmd_text.specs.Front.{with_more}
use Rattle.cmd_text.proofs.PositionLaws.{all_in_line, line_before}
use Rattle.cmd_text.proofs.reading.take_part.Goals as goal

pub returns-in-Some-clause-part : goal.returns-in-Some-clause-part
returns-in-Some-clause-part c =
    let found = line_before c.args.octets.now c.in-Some.end (sym c.in-Some.ensures) in
    (take c.in-Some.end c.args.octets.now, found.1, found.2, c.add.ensures)

pub returns-in-None-clause-part : goal.returns-in-None-clause-part
returns-in-None-clause-part c =
    let octets = c.args.octets.now in
    let all : take (length octets) octets ≡ octets = take_all (length octets) octets (le_refl _) in (
      subst (All (λ (x : ℕ). x ≢ 10)) (sym all) (all_in_line octets (sym c.in-None.ensures)),
      c.add-in-None.ensures ∙ ap (with_more c.args.line.now) (sym all),
    )
