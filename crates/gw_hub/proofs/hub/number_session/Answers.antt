use Rattle.std.proofs.Common.{ℕ, sym, ap, ◌∙◌, arith}
use Rattle.std.proofs.Math.ListN.{set}
use Rattle.gw_picture.proofs.Lists.{change-past, set-change}
use Rattle.gw_hub.proofs.hub.number_session.Goals as goal

pub returns-then-position-lt8 : goal.returns-then-position-lt8
returns-then-position-lt8 c =
    ap (λ (n : ℕ). set c.args.sessions.now n c.args.number) c.from-position.ensures
    ∙ set-change c.args.client c.args.number c.args.sessions.now

pub returns-else-position-lt8 : goal.returns-else-position-lt8
returns-else-position-lt8 c =
    sym (change-past c.args.client (λ _. c.args.number) c.args.sessions.now
    (omega (arith, c.if-position-lt8.false, c.if-position-lt8.array_long, c.from-position.ensures)))
