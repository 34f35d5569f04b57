use Rattle.std.proofs.Common.{◌≡◌, [], take}
use Rattle.std.specs.List.{cons_option}
use Rattle.dnp_app.specs.Echo.{lone_echoes}
use Rattle.dnp_app.proofs.echoed.only_echo.Given as goal

-- what was found is all that stands alone so far
abbrev pub invariant-loop-header : goal.invariant-loop-header
invariant-loop-header l = lone_echoes l.part (take l.header-index l.headers) ≡ cons_option l.found []
