use Rattle.std.proofs.Common.{true, false, refl}
use Rattle.gw_time.proofs.Round.{clocks_show}
use Rattle.gw_time.proofs.laws.clocks_show_the_tag.Goals as goal

pub returns-clause-at : goal.returns-clause-at
returns-clause-at c = λ clocks octets t. clocks_show clocks octets false t

pub returns-clause-doubtful : goal.returns-clause-doubtful
returns-clause-doubtful c = λ clocks octets t. clocks_show clocks octets true t

pub returns-clause-without : goal.returns-clause-without
returns-clause-without c = λ offset octets. record { summer = refl }
