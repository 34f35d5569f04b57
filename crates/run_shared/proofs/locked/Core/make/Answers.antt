use Rattle.std.proofs.Common.{◌≡◌, ◌∙◌, ℕ, ◌+◌, ◌<◌, ◌≤◌, List, ◌∷◌, length, ap, sym, subst, rules, arith}
use Rattle.std.specs.Prelude.{sum}
use Rattle.gw_map.specs.Settings.{Setup}
use Rattle.gw_steps.specs.declared.step.Step.{Step}
use Rattle.gw_steps.specs.Runs.{Entry}
use Rattle.run_log.specs.Follows.{Known, Whole}
use Rattle.gw_steps.specs.Steps.{Allowed}
use Rattle.run_shared.specs.Recording.{Recording, Replays, noted}
use Rattle.run_shared.proofs.Replaying.{replays-push}
use Rattle.run_shared.proofs.Counting.{length-raised, sum-raised}
use Rattle.run_shared.specs.Reached.{Deed, entry}
use Rattle.run_shared.specs.Roles.{KeepsRoles, MayMake}
use Rattle.run_shared.specs.Taped.{IsOfHistory}
use Rattle.run_shared.specs.Turn.{Pass}
use Rattle.run_shared.proofs.Reaching.{reached_then}
use Rattle.run_shared.proofs.Taping.{noted_of}
use Rattle.run_shared.proofs.Telling.{told_then}
use Rattle.run_shared.proofs.locked.Core.make.Goals as goal

pub invariant_of-self : goal.invariant_of-self
invariant_of-self g c =
    let kept = c.self.invariant in
    let counts = c.self.inside.recorder.counts in
    let actors = kept.1 in
    let mine = c.pass.invariant.1 in
    let old = g.M.Machine.seen c.self.inside.machine in
    let new = g.M.Machine.seen c.step_telling-reply.new.self in
    let moved : c.made.inside.step ≡ c.args.step = ap (λ (e : Entry). e.step) (c.made.view_is ∙ c.add-made.ensures.entry) in
    let added =
    ap (λ (w : Whole Entry). w.log) c.add-made.ensures.added
    ∙ ap (λ (lane : ℕ). (lane, entry c.args.step c.step_telling-reply.result) ∷ c.self.inside.head.log) c.pass.invariant.2 in
    let within : c.pass.inside.actor < length counts = omega (arith, actors, mine) in
    let mine_is = c.pass.inside.actor in
    let reply = c.step_telling-reply.result in
    let now : List Deed = (mine_is, entry c.args.step reply) ∷ c.self.inside.head.log in (
      omega (arith, c.add.ensures.total, c.audit.ensures.total, kept.0),
      ap (λ (r : Recording). length r.counts) c.note.ensures ∙ (length-raised _ _ ∙ kept.1),
      ap (λ (r : Recording). sum r.counts) c.note.ensures ∙ (sum-raised _ _ within ∙ ap (λ (n : ℕ). n + 1) kept.2),
      subst (λ (r : Recording). Replays r.tape new) (sym c.note.ensures)
          (replays-push _ _ _ _ _ _ _ kept.3
          (subst (λ (s : Step). Allowed old.setup old.state s c.step_telling-reply.result new.state) (sym moved)
          c.step_telling-reply.ensures.step)
          c.step_telling-reply.ensures.setup),
      reached_then g.L.Course.setup old new c.self.inside.head.log c.add-made.new.self.log c.self.inside.made
          c.pass.inside.actor c.args.step c.step_telling-reply.result kept.4 c.step_telling-reply.ensures.step
          c.step_telling-reply.ensures.sound c.attest.ensures c.step_telling-reply.ensures.setup added,
      subst (KeepsRoles g.L.Course.roles) (sym added) (
        subst (λ (p : Pass). MayMake g.L.Course.roles p.actor c.args.step) (sym c.pass.view_is) c.requires.may,
        kept.5,
      ),
      subst (IsOfHistory c.note.new.self) (sym added)
          (subst (λ (r : Recording). IsOfHistory r now) (sym c.note.ensures)
          (subst (λ (s : Step). IsOfHistory (noted c.self.inside.recorder mine_is c.made.inside.step reply) ((mine_is, entry s reply) ∷ c.self.inside.head.log))
          moved (noted_of c.self.inside.recorder c.self.inside.head.log mine_is c.made.inside.step reply kept.6 within))),
    )

pub invariant_of-pass : goal.invariant_of-pass
invariant_of-pass g c =
    let old = g.M.Machine.seen c.self.inside.machine in
    let new = g.M.Machine.seen c.step_telling-reply.new.self in
    let known = ap (λ (k : Known Entry). k.log) c.add-made.ensures.seen in
    let added =
    ap (λ (w : Whole Entry). w.log) c.add-made.ensures.added
    ∙ ap (λ (lane : ℕ). (lane, entry c.args.step c.step_telling-reply.result) ∷ c.self.inside.head.log) c.pass.invariant.2 in (
      search rules,
      search rules,
      search rules,
      subst (KeepsRoles g.L.Course.roles) (sym (known ∙ added)) (
        subst (λ (p : Pass). MayMake g.L.Course.roles p.actor c.args.step) (sym c.pass.view_is) c.requires.may,
        c.self.invariant.5,
      ),
      (reached_then g.L.Course.setup old new c.self.inside.head.log _ c.self.inside.made
          c.pass.inside.actor c.args.step c.step_telling-reply.result c.self.invariant.4 c.step_telling-reply.ensures.step
          c.step_telling-reply.ensures.sound c.attest.ensures c.step_telling-reply.ensures.setup (known ∙ added)).course,
      told_then g.L.Course.setup old c.self.inside.head.log _ c.self.inside.made c.pass.inside.actor c.args.step
          c.step_telling-reply.result _ c.self.invariant.4 c.step_telling-reply.ensures.effects (known ∙ added),
      subst (λ (n : ℕ). length g.L.Course.setup.outstations ≤ n) (sym c.step_telling-reply.ensures.room) c.pass.invariant.6,
    )

pub step_telling-reply-requires : goal.step_telling-reply-requires
step_telling-reply-requires g c = record {
  room =
      subst (λ (s : Setup). length s.outstations ≤ c.pass.inside.effects.room) (sym c.self.invariant.4.setup_is)
      c.pass.invariant.6;
}
