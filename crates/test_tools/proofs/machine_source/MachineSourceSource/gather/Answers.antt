use Rattle.std.proofs.Common.{[], ◌++◌, ◌∙◌, ℕ, List, Result, ap, refl, subst, sym}
use Rattle.std.proofs.lemmas.List.{append-nil}
use Rattle.gw_steps.specs.declared.step.Step.TheVariants.{Pump}
use Rattle.gw_steps.specs.declared.step.Reply.{Reply}
use Rattle.gw_steps.specs.declared.step.StepFault.{StepFault}
use Rattle.gw_steps.specs.Steps.{Allowed}
use Rattle.run_ends.specs.PutOut.{Gave, Given}
use Rattle.run_ends.proofs.Runs.{gave-one}
use Rattle.test_tools.proofs.machine_source.MachineSourceSource.gather.Goals as goal

pub returns-in-Some : goal.returns-in-Some
returns-in-Some g c =
    let old = c.args.self.now in
    let seen = g.M.Machine.seen in
    let given = subst (λ (r : Result Reply StepFault).
    Allowed (seen old.machine).setup (seen old.machine).state (Pump old.client old.moment) r
    (seen c.step-reply.new.self).state)
    c.in-Some.ensures c.step-reply.ensures.step
    in
    gave-one _ _ _ _ _ c.in-Some.apdu (refl, refl, given)
    (c.add.ensures ∙ ap (λ (octets : List ℕ). c.args.batch.now ++ octets) c.as_slice.ensures)

-- no APDU was given
gave-none : {S : Type 0} (gives : S → Given → S → Type 0) (old : S) (x : List ℕ) → Gave gives old old x x
gave-none gives old x = record { apdus = []; given = refl; octets = sym (append-nil x) }

pub returns-in-None : goal.returns-in-None
returns-in-None g c = (
  c.args.self.now,
  (
    gave-none _ c.args.self.now c.args.batch.now,
    (refl, refl, c.step-reply.ensures.step),
    c.in-None.ensures,
  ),
)
