use Rattle.std.proofs.Common.{◌≡◌, ◌∙◌, ℕ, ◌+◌, ◌<◌, length, refl, ap, rules, subst, sym}
use Rattle.std.specs.Prelude.{slice_index}
use Rattle.std.proofs.lemmas.Grind.{get_or_default_zero}
use Rattle.gw_steps.specs.declared.step.Step.{Step}
use Rattle.gw_steps.specs.Carried.{IsMeant}
use Rattle.run_shared.specs.Recording.{Recording, is_tape_full}
use Rattle.run_shared.proofs.Numbering.{has_room, taped-noted}
use Rattle.run_shared.proofs.recorder.Recorder.note.Goals as goal

pub keep-requires : goal.keep-requires
keep-requires g c =
    has_room _ _ c.self.invariant (ap (λ (r : Recording). is_tape_full r.tape) c.self.view_is ∙ c.requires.room)

pub invariant_of-self : goal.invariant_of-self
invariant_of-self g c =
    let room =
    has_room _ _ c.self.invariant (ap (λ (r : Recording). is_tape_full r.tape) c.self.view_is ∙ c.requires.room) in
    let within : c.args.actor < length c.self.inside.counts.items = search rules in
    let next : c.index.result.now + 1 ≡ slice_index c.self.inside.counts.items c.args.actor + 1 =
    ap (λ (n : ℕ). n + 1)
    (c.index.ensures ∙ get_or_default_zero c.self.inside.counts.items c.args.actor c.index.result.now within) in
    taped-noted c.self.inside.counts.items _ _ _ _ _ _ _ c.self.invariant room within
    (subst (λ (step : Step). IsMeant step) (sym c.of.ensures) c.attest.ensures) next
    refl c.keep.ensures
