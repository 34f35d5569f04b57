use Rattle.iec_command.proofs.Spelled.{found_for, whole_for}
use Rattle.iec_command.proofs.reading.read_command.Goals as goal

pub returns-clause-found : goal.returns-clause-found
returns-clause-found c =
    found_for c.args.octets.now c.read_whole.result (λ i. (c.type_inv.octets i).fits) c.read_whole.ensures

pub returns-clause-whole : goal.returns-clause-whole
returns-clause-whole c =
    whole_for c.args.octets.now c.read_whole.result (λ i. (c.type_inv.octets i).fits) c.read_whole.ensures
