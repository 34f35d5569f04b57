use Rattle.dnp_app.proofs.Responses.{only, refused}
use Rattle.dnp_app.proofs.response.read_response.Goals as goal

pub returns-clause-only : goal.returns-clause-only
returns-clause-only c = only (λ r. r) c.read.result c.args.outstation c.args.octets.items c.read.ensures.exact

pub returns-clause-refused : goal.returns-clause-refused
returns-clause-refused c =
    refused (λ r. r) c.read.result c.args.outstation c.args.octets.items c.read.ensures.exact c.read.ensures.memory
