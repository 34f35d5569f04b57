use Rattle.std.proofs.Common.{Option, Some, None}
use Rattle.std.specs.Prelude.{ok_or, IfSome, IfOk}
use Rattle.iec_apci.specs.ApduContent.{IsNumbered, IsPadded}
use Rattle.iec_apci.specs.declared.fault.ApciFault.TheVariants.{Control}
use Rattle.iec_apci.proofs.reading.apdu_at.Goals as goal

if_ok : {A E : Type 0} (P : A → Type 0) (o : Option A) (e : E) → IfSome o P → IfOk (ok_or o e) P
if_ok P (Some x) e p = p
if_ok P None e p = tt

pub returns-clause-numbered : goal.returns-clause-numbered
returns-clause-numbered c =
    rw c.ok_or.ensures.value (if_ok IsNumbered c.apdu_of.result Control c.apdu_of.ensures.numbered)

pub returns-clause-padded : goal.returns-clause-padded
returns-clause-padded c = rw c.ok_or.ensures.value (if_ok IsPadded c.apdu_of.result Control c.apdu_of.ensures.padded)
