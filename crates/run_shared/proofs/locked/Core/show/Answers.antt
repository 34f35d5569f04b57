use Rattle.std.proofs.Common.{ℕ, List, ap, rules, subst, sym, ◌∙◌}
use Rattle.gw_steps.specs.Runs.{Entry}
use Rattle.run_log.specs.Follows.{Follows, Known, Whole}
use Rattle.run_shared.specs.Reached.{Deed, IsCourse, entries_of}
use Rattle.run_shared.specs.Roles.{KeepsRoles}
use Rattle.run_shared.specs.Told.{newest_effects}
use Rattle.run_shared.proofs.Telling.{told_still}
use Rattle.run_shared.proofs.locked.Core.show.Goals as goal

pub invariant_of-pass : goal.invariant_of-pass
invariant_of-pass g c =
    let known =
    ap (λ (k : Known Entry). k.log) c.show.ensures.seen ∙ ap (λ (w : Whole Entry). w.log) c.show.ensures.same in (
      search rules,
      search rules,
      search rules,
      subst (KeepsRoles g.L.Course.roles) (sym known) c.self.invariant.5,
      subst (λ (l : List Deed). IsCourse g.L.Course.setup (entries_of l)) (sym known) c.self.invariant.4.course,
      c.pass.invariant.5 ∙ (sym (told_still g.L.Course.setup c.pass.inside.actor c.pass.inside.front.log _
          (subst (λ (lane : ℕ). Follows lane c.pass.inside.front.log c.self.inside.head.log) c.pass.invariant.2
          c.show.ensures.follows)) ∙ ap (newest_effects g.L.Course.setup c.pass.inside.actor) (sym known)),
      c.pass.invariant.6,
    )
