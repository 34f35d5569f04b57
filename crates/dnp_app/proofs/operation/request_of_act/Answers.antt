use Rattle.std.proofs.Common.{rules, ◌≡◌, ◌<◌, ◌^◌}
use Rattle.std.specs.Int.{w16}
use Rattle.std.specs.Int.RustNames.{FitsSigned}
use Rattle.gw_model.specs.declared.control.Act.TheVariants.{Switch, Set}
use Rattle.dnp_app.specs.Requests.{control_octets, on_time, request}
use Rattle.dnp_app.proofs.Operated.{operates_as}
use Rattle.dnp_app.proofs.operation.request_of_act.Goals as goal

pub returns-in-Switch-clause-operates : goal.returns-in-Switch-clause-operates
returns-in-Switch-clause-operates c =
    let a = c.args in
    let octets = control_octets a.operation a.index a.act a.sequence in
    let written : c.request_from.result ≡ request octets = search rules in
    let fits : on_time c.in-Switch.shape < 2 ^ 32 = search rules in
    operates_as a.operation a.index a.act (Switch c.in-Switch.on c.in-Switch.shape) a.sequence _ c.requires
    (search rules) c.in-Switch.is fits written

pub returns-in-Set-clause-operates : goal.returns-in-Set-clause-operates
returns-in-Set-clause-operates c =
    let a = c.args in
    let octets = control_octets a.operation a.index a.act a.sequence in
    let written : c.request_from-in-Set.result ≡ request octets = search rules in
    let fits : FitsSigned w16 c.in-Set.value = search rules in
    operates_as a.operation a.index a.act (Set c.in-Set.value) a.sequence _ c.requires
    (search rules) c.in-Set.is fits written
