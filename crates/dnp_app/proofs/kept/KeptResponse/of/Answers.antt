use Rattle.std.proofs.Common.{ℕ, sym, ap, subst, ◌∙◌}
use Rattle.dnp_app.specs.Response.{IsResponse, fragment_spelt}
use Rattle.dnp_app.proofs.Responses.{spelt}
use Rattle.dnp_app.proofs.kept.KeptResponse.of.Goals as goal

pub returns : goal.returns
returns c =
    ap (λ (o : ℕ). fragment_spelt o c.into_octets.result.items) c.outstation-outstation.ensures
    ∙ (ap (fragment_spelt c.args.response.outstation) c.into_octets.ensures.octets
    ∙ spelt c.args.response c.into_octets.ensures.response)

pub invariant_of-result : goal.invariant_of-result
invariant_of-result c =
    let same =
    ap (λ (o : ℕ). fragment_spelt o c.into_octets.result.items) c.outstation-outstation.ensures
    ∙ (ap (fragment_spelt c.args.response.outstation) c.into_octets.ensures.octets
    ∙ spelt c.args.response c.into_octets.ensures.response) in
    (subst IsResponse (sym same) c.into_octets.ensures.response, c.into_octets.ensures.short)
