use Rattle.std.proofs.Common.{refl}
use Rattle.iec_apci.specs.Apdu.{apdu}
use Rattle.iec_apci.specs.ApduContent.{content}
use Rattle.iec_apci.proofs.Buffered.{buffer_is}
use Rattle.iec_apci.proofs.buffer.ApduBuf.of.Goals as goal

pub returns-clause-octets : goal.returns-clause-octets
returns-clause-octets c =
    buffer_is (apdu (content c.args.apdu.now)) _ _ _ c.write_apdu-len.ensures.written
    c.write_apdu-len.ensures.length refl
