use Rattle.std.proofs.Common.{◌≡◌, Some, sym, ap, subst, arith}
use Rattle.std.proofs.lemmas.Bool.{lt-ltb}
use Rattle.dnp_transport.specs.Series.{answer_of, HasLength, step_without_first}
use Rattle.dnp_transport.proofs.Lengths.{continued_length}
use Rattle.dnp_transport.proofs.assembler.Assembler.segment.Goals as goal

pub returns-in-Some-clause-length : goal.returns-in-Some-clause-length
returns-in-Some-clause-length c =
    let answered : answer_of c.join-taken.result.0 ≡ (step_without_first (Some c.in-Some.series) c.args.segment.now).0 =
    ap (λ t. t.0) c.join-taken.ensures in
    subst HasLength (sym answered)
    (continued_length (Some c.in-Some.series) c.args.segment.now (lt-ltb _ _ (omega arith)))
