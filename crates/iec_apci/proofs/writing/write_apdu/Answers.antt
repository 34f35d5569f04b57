use Rattle.std.proofs.Common.{◌∙◌, ◌++◌, take, drop, sym, ap}
use Rattle.std.proofs.lemmas.List.{take_at}
use Rattle.iec_apci.specs.Apdu.{apdu}
use Rattle.iec_apci.specs.ApduContent.{content}
use Rattle.iec_apci.specs.Stream.{reading}
use Rattle.iec_apci.proofs.Round.{reading-apdu}
use Rattle.iec_apci.proofs.Fitting.{content_fits}
use Rattle.iec_apci.proofs.writing.write_apdu.Goals as goal

pub returns-clause-read_back : goal.returns-clause-read_back
returns-clause-read_back c behind =
    let carried = content c.args.apdu.now in
    ap (λ t. reading (take c.put.result t ++ behind)) c.put.ensures.written
    ∙ (ap (λ t. reading (t ++ behind))
    (take_at (apdu carried) (drop c.put.result c.args.out.now) c.put.result (sym c.put.ensures.length))
    ∙ reading-apdu carried behind (content_fits c.args.apdu.now c.requires))
