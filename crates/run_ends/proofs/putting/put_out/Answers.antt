use Rattle.std.proofs.Common.{◌||◌, Bool, Some, ap, ◌∙◌}
use Rattle.run_ends.specs.PutOut.{is_unwritten}
use Rattle.run_ends.proofs.Runs.{handed-then, put-then}
use Rattle.run_ends.proofs.putting.put_out.Goals as goal

pub batches-preserved : goal.batches-preserved
batches-preserved g c = record {
  handed = handed-then g.S.Source.Gives _ _ _ _ _ _ c.batches.invariant.handed c.in_default.ensures.put;
  failed = c.in_default.ensures.failed ∙ c.batches.invariant.failed;
}

pub returns-in-Some-clause-put : goal.returns-in-Some-clause-put
returns-in-Some-clause-put g c =
    put-then g.S.Source.Gives _ _ _ _ _ _ c.in-Some.put c.batches.invariant.handed c.in-Some.ensures.put

pub returns-in-Some-clause-failed : goal.returns-in-Some-clause-failed
returns-in-Some-clause-failed g c =
    c.in-Some.ensures.failed ∙ ap (λ (b : Bool). is_unwritten (Some c.in-Some.put) || b) c.batches.invariant.failed
