use Rattle.iec_apci.proofs.Streams.{reading_apdu, reading_fault, reading_none}
use Rattle.iec_apci.proofs.laws.apdu_by_apdu.Goals as goal

pub returns-clause-shown : goal.returns-clause-shown
returns-clause-shown c = reading_apdu

pub returns-clause-ends : goal.returns-clause-ends
returns-clause-ends c = reading_fault

pub returns-clause-waits : goal.returns-clause-waits
returns-clause-waits c = reading_none
