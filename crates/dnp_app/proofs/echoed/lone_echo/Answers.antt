use Rattle.std.proofs.Common.{sym, ap, ◌∙◌, Some}
use Rattle.dnp_app.proofs.Echoes.{lone_echo-found}
use Rattle.dnp_app.proofs.echoed.lone_echo.Goals as goal

pub returns : goal.returns
returns c = ap Some c.echo_with.ensures ∙ lone_echo-found c.args.part.now c.args.header.now c.in_ok-octets.octets
    c.from.result c.split_at.result.0.now c.split_at.result.1.now
    c.if-header-ne1.false (sym c.in_ok-octets.ensures.length) c.from.ensures c.split_at.ensures.front
    c.split_at.ensures.back
