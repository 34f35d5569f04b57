-- No known common address stands twice.
use Rattle.std.proofs.Common.{sym, subst}
use Rattle.std.specs.Prelude.{List, ℕ}
use Rattle.gw_map.specs.Settings.{AreDistinct}
use Rattle.gw_map.proofs.Distinct.{known_distinct}
use Rattle.gw_answers.proofs.interrogation.sections_of.Goals as goal

pub sections_under-requires : goal.sections_under-requires
sections_under-requires c =
    subst (λ (addresses : List ℕ). AreDistinct addresses) (sym c.known_addresses.ensures.known)
    (known_distinct c.args.settings.now)
