use Rattle.std.proofs.Common.{◌≡◌, length, subst, sym}
use Rattle.std.specs.Prelude.{sum}
use Rattle.run_shared.specs.Recording.{Recording, Replays}
use Rattle.run_shared.specs.Taped.{IsOfHistory}
use Rattle.run_shared.proofs.Taping.{replays_rolled, rolled_of}
use Rattle.run_shared.proofs.locked.Core.make_ready.Goals as goal

pub invariant_of-self-in_default : goal.invariant_of-self-in_default
invariant_of-self-in_default g c =
    let kept = c.self.invariant in
    let hub = g.M.Machine.seen c.self.inside.machine in
    let past = c.self.inside.head.log in
    let back = sym c.in_default.ensures.ok in (
      kept.0,
      subst (λ (r : Recording). length r.counts ≡ g.L.Ledger.parts) back kept.1,
      subst (λ (r : Recording). sum r.counts ≡ c.self.inside.made) back kept.2,
      subst (λ (r : Recording). Replays r.tape hub) back (replays_rolled c.self.inside.recorder hub),
      kept.4,
      kept.5,
      subst (λ (r : Recording). IsOfHistory r past) back (rolled_of c.self.inside.recorder past hub kept.6),
    )
