use Rattle.dnp_objects.proofs.HeaderLaws.{IsPart-again, IsPart-found}
use Rattle.dnp_objects.proofs.law.one_reading.Goals as goal

pub returns : goal.returns
returns c = λ part hs. (IsPart-found part hs, IsPart-again part hs)
