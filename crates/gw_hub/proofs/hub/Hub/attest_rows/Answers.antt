use Rattle.std.proofs.Common.{subst}
use Rattle.gw_steps.specs.State.{Hub}
use Rattle.gw_steps.specs.Premises.{HasKnownRows}
use Rattle.gw_hub.proofs.hub.Hub.attest_rows.Goals as goal

pub returns : goal.returns
returns c =
    subst (λ (h : Hub). HasKnownRows h.setup) c.self.view_is (subst HasKnownRows c.get.ensures c.rows-rows.ensures.known)
