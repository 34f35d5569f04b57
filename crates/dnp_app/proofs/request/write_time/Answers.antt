use Rattle.std.proofs.Common.{rules, ◌≡◌, ap, ◌∙◌}
use Rattle.dnp_app.specs.Asking.{asking_of}
use Rattle.dnp_app.specs.Requests.{octets_of, request, write_time_octets}
use Rattle.dnp_app.proofs.Written.{time_is_asked}
use Rattle.dnp_app.proofs.request.write_time.Goals as goal

pub returns-clause-asks : goal.returns-clause-asks
returns-clause-asks c =
    let octets : c.request_from.result ≡ request (write_time_octets c.args.time c.args.sequence) = search rules in
    ap (λ r. asking_of (octets_of r)) octets ∙ time_is_asked c.args.sequence c.args.time c.requires
