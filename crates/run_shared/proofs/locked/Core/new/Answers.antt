use Rattle.std.proofs.Common.{◌≡◌, ◌∙◌, ℕ, List, [], Option, length, ap, sym, subst, rules, arith}
use Rattle.std.proofs.lemmas.Grind.{common_steps}
use Rattle.std.specs.Prelude.{sum}
use Rattle.run_shared.specs.Recording.{Recording, Replays, Tape}
use Rattle.run_shared.specs.Roles.{KeepsRoles}
use Rattle.run_shared.specs.Taped.{IsOfHistory}
use Rattle.run_shared.proofs.Reaching.{reached_first}
use Rattle.run_shared.proofs.Taping.{first_of}
use Rattle.run_shared.proofs.locked.Core.new.Goals as goal

pub invariant_of-result : goal.invariant_of-result
invariant_of-result g c =
    let recorder = c.in_ok-recorder.recorder in
    let counted : 0 ≡ c.args.book.total = search rules in
    let actors : length recorder.counts ≡ g.L.Ledger.parts =
    grind (arith, common_steps, c.in_ok-recorder.ensures.counts, c.requires.actors) in
    let none : sum recorder.counts ≡ 0 = grind (arith, common_steps, c.in_ok-recorder.ensures.counts) in
    let replays : Replays recorder.tape (g.M.Machine.seen c.args.machine) = search rules in
    let kept = subst (KeepsRoles g.L.Course.roles) (sym c.requires.head) tt in
    let recorded =
    subst (IsOfHistory recorder) (sym c.requires.head)
    (subst (λ (r : Recording). IsOfHistory r []) (sym (recording_is _ _ _ c.in_ok-recorder.ensures.counts c.in_ok-recorder.ensures.tape))
    (first_of (g.M.Machine.seen c.args.machine) c.args.actors c.args.capacity)) in
    (counted, actors, none, replays, reached_first _ _ _ c.requires.first c.requires.head, kept, recorded)
  where
    recording_is : (r : Recording) (counts : List ℕ) (tape : Option Tape) → r.counts ≡ counts → r.tape ≡ tape
        → r ≡ record { counts = counts; tape = tape }
    recording_is r counts tape same is =
        ap (λ (l : List ℕ). record { counts = l; tape = r.tape }) same ∙ ap (λ (t : Option Tape). record { counts = counts; tape = t }) is
