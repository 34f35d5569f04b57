use Rattle.std.proofs.Common.{refl, arith, rules}
use Rattle.gw_model.specs.declared.observation.Value.TheVariants.{Scaled}
use Rattle.iec_asdu.specs.Spelling.{element_spelling}
use Rattle.iec_asdu.proofs.Behind.{writes_part}
use Rattle.iec_asdu.proofs.writing.write_element.Goals as goal

pub returns-in-Single-clause-written : goal.returns-in-Single-clause-written
returns-in-Single-clause-written c =
    rw c.in-Single.is (writes_part c.args.start 1 c.args.out.now _
    c.write.new.out (omega arith) refl c.write.ensures)

pub returns-in-Double-clause-written : goal.returns-in-Double-clause-written
returns-in-Double-clause-written c =
    rw c.in-Double.is (writes_part c.args.start 1 c.args.out.now _
    c.write-in-Double.new.out (omega arith) refl c.write-in-Double.ensures)

pub returns-in-Word-clause-written : goal.returns-in-Word-clause-written
returns-in-Word-clause-written c =
    rw c.in-Word.is (writes_part c.args.start 5 c.args.out.now _
    c.write-in-Word.new.out (omega arith) refl c.write-in-Word.ensures)

pub returns-in-Scaled-clause-written : goal.returns-in-Scaled-clause-written
returns-in-Scaled-clause-written c =
    rw c.in-Scaled.is (writes_part c.args.start 3 c.args.out.now
    (element_spelling (Scaled c.in-Scaled.value) c.args.quality) c.write-in-Scaled.new.out (omega arith) refl
    (search rules))

pub returns-in-Total-clause-written : goal.returns-in-Total-clause-written
returns-in-Total-clause-written c =
    rw c.in-Total.is (writes_part c.args.start 5 c.args.out.now _
    c.write-in-Total.new.out (omega arith) refl c.write-in-Total.ensures)
