use Rattle.std.proofs.Common.{refl, arith, rules}
use Rattle.iec_asdu.specs.Spelling.{address_octets}
use Rattle.iec_asdu.proofs.Behind.{writes_part}
use Rattle.iec_asdu.proofs.writing.write_address.Goals as goal

pub returns : goal.returns
returns c =
    writes_part c.args.start 3 c.args.out.now (address_octets c.args.address) c.copy_from_slice.new.self (omega arith)
    refl (search rules)
