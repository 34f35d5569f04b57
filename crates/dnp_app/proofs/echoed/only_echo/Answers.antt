use Rattle.std.proofs.Common.{arith, sym, ◌∙◌}
use Rattle.std.proofs.lemmas.Grind.{common_steps}
use Rattle.std.proofs.lemmas.List.Elements.{filter_map-append}
use Rattle.dnp_app.specs.Echo.{lone_echo}
use Rattle.dnp_app.proofs.Within.{within}
use Rattle.dnp_app.proofs.Echoes.{only_one-two}
use Rattle.dnp_app.proofs.echoed.only_echo.Goals as goal

pub lone_echo-requires : goal.lone_echo-requires
lone_echo-requires c = within c.args.part.now c.args.headers.now c.loop-header.header-index _ c.requires (omega arith)

pub returns-then-is_some : goal.returns-then-is_some
returns-then-is_some c = sym (only_one-two (lone_echo c.args.part.now) c.args.headers.now c.loop-header.header-index _
    c.loop-header.found c.in-Some.echo (omega arith)
    c.loop-header.invariant (sym c.if-is_some.ensures) (sym c.lone_echo.ensures ∙ c.in-Some.is))

pub loop-header-preserved : goal.loop-header-preserved
loop-header-preserved c = grind (arith, common_steps, filter_map-append)
