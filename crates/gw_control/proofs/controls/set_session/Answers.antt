use Rattle.std.proofs.Common.{refl, arith}
use Rattle.gw_control.proofs.Places.{changed_at, changed_past}
use Rattle.gw_control.proofs.controls.set_session.Goals as goal

pub returns-then-client-lt-CLIENTS : goal.returns-then-client-lt-CLIENTS
returns-then-client-lt-CLIENTS c =
    changed_at c.args.client c.from-position.result (λ _. c.args.session) c.args.sessions.now c.args.session
    c.args.session c.from-position.ensures (omega (arith, c.told-sessions, c.from-position.ensures, c.if-client-lt-CLIENTS.true)) refl

pub returns-else-client-lt-CLIENTS : goal.returns-else-client-lt-CLIENTS
returns-else-client-lt-CLIENTS c =
    changed_past c.args.client (λ _. c.args.session) c.args.sessions.now
    (omega (arith, c.told-sessions, c.from-position.ensures, c.if-client-lt-CLIENTS.false))
