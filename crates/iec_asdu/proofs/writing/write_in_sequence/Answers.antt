use Rattle.iec_asdu.proofs.Behind.{writes_both}
use Rattle.iec_asdu.proofs.writing.write_in_sequence.Goals as goal

pub returns-clause-written : goal.returns-clause-written
returns-clause-written c =
    writes_both _ _ _ _ _ _ _ _ c.write_address-start.ensures
    (writes_both _ _ _ _ _ _ _ _ c.write_element-behind.ensures.written c.write_elements.ensures.written)
