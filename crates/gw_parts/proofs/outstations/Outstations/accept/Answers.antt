use Rattle.std.proofs.Common.{ℕ, ap, ◌∙◌}
use Rattle.gw_model.specs.Places.{change}
use Rattle.dnp_master.specs.Fragments.{master_after_fragment}
use Rattle.gw_parts.proofs.Places.{lent_changed}
use Rattle.gw_parts.proofs.outstations.Outstations.accept.Goals as goal

pub returns-in-Some : goal.returns-in-Some
returns-in-Some c =
    let after = master_after_fragment c.args.moment c.args.response.now in
    lent_changed c.outstation.result after c.args.self.now c.in-Some.master.now c.accept.new.self
    c.in-Some.ensures.value c.accept.ensures
    ∙ ap (λ (n : ℕ). change n after c.args.self.now) c.outstation.ensures
