use Rattle.std.proofs.Common.{subst}
use Rattle.gw_model.specs.Outcome.{Gives}
use Rattle.dnp_objects.specs.Headers.{is_memory}
use Rattle.dnp_objects.proofs.HeaderLaws.{IsPart-again, part_found}
use Rattle.dnp_objects.proofs.header.headers.Goals as goal

pub returns-clause-found : goal.returns-clause-found
returns-clause-found c = part_found c.args.part.now c.all_headers.result c.all_headers.ensures.exact

pub returns-clause-only : goal.returns-clause-only
returns-clause-only c = λ hs is. subst (λ f. Gives is_memory (λ v. v.items) c.all_headers.result f)
    (IsPart-again c.args.part.now hs is) c.all_headers.ensures.exact
