use Rattle.law_orders.proofs.Bonded.{without_controls}
use Rattle.law_orders.proofs.bonds.nothing_is_operated_without_controls.Goals as goal

pub returns : goal.returns
returns c = λ setup past none run sound. without_controls setup past none run sound
