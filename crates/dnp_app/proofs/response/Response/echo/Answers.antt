use Rattle.std.proofs.Common.{ap, ◌∙◌, ◌≡◌}
use Rattle.dnp_app.specs.Echo.{echo_of}
use Rattle.dnp_app.specs.Response.{Fragment}
use Rattle.dnp_app.proofs.EchoLaws.{echo_found, echo_only}
use Rattle.dnp_app.proofs.response.Response.echo.Goals as goal

pub returns-clause-found : goal.returns-clause-found
returns-clause-found c =
    let kept : c.self.inside.echo ≡ echo_of c.args.self.now.octets =
    c.self.invariant.2 ∙ ap (λ (f : Fragment). echo_of f.octets) c.self.view_is in
    echo_found c.args.self.now.octets c.self.inside.echo kept

pub returns-clause-only : goal.returns-clause-only
returns-clause-only c =
    let kept : c.self.inside.echo ≡ echo_of c.args.self.now.octets =
    c.self.invariant.2 ∙ ap (λ (f : Fragment). echo_of f.octets) c.self.view_is in
    echo_only c.args.self.now.octets c.self.inside.echo kept
