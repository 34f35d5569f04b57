use Rattle.std.proofs.Common.{ℕ, List, ap, ◌∙◌}
use Rattle.std.specs.Prelude.{slice_set}
use Rattle.gw_time.specs.Rule.{clocks_of}
use Rattle.iec_asdu.proofs.Carried.{packed_spelling_one}
use Rattle.gw_answers.proofs.octets.observation_asdu.Goals as goal

pub returns : goal.returns
returns c =
    c.pack.ensures.octets
    ∙ ap (λ (xs : List ℕ). slice_set xs 3 c.args.originator)
    (packed_spelling_one (clocks_of c.args.zone.now) c.args.cause c.args.observation.now)
