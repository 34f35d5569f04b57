use Rattle.std.proofs.Common.{◌≢◌, [], refl}
use Rattle.dnp_points.specs.Meaning.{reports_of}
use Rattle.dnp_points.proofs.Steps.{header_turn, headers_end}
use Rattle.dnp_points.proofs.Memory.{part_told, on_error}
use Rattle.dnp_points.proofs.Within.{headers_within, headers_indexed}
use Rattle.dnp_points.proofs.report.all_reports.Goals as goal

pub push_reports-requires : goal.push_reports-requires
push_reports-requires c = record {
  inside = record {
    within = headers_within c.args.part.now c.args.headers.now c.requires c.loop-header.header-index _
        c.loop-header-test.true;
    indexed = headers_indexed c.args.part.now c.args.headers.now
        (λ i. (c.type_inv.part i).fits) c.requires c.loop-header.header-index _ c.loop-header-test.true;
    clock = c.loop-header.invariant.clock;
  };
}

pub common_after-common-requires-clause-within : goal.common_after-common-requires-clause-within
common_after-common-requires-clause-within c =
    headers_within c.args.part.now c.args.headers.now c.requires c.loop-header.header-index _ c.loop-header-test.true

pub returns-in_err-push_reports-clause-memory : goal.returns-in_err-push_reports-clause-memory
returns-in_err-push_reports-clause-memory c =
    on_error c.from_residual.result (reports_of c.args.outstation c.args.part.now c.args.headers.now ≢ [])
    (part_told c.args.outstation c.args.part.now c.loop-header.common c.args.headers.now c.loop-header.header-index _ _
    c.loop-header.found.items c.loop-header-test.true refl
    c.loop-header.invariant.read c.in_err-push_reports.ensures.memory)

pub loop-header-preserved : goal.loop-header-preserved
loop-header-preserved c = record {
  read = header_turn c.args.outstation c.args.part.now c.loop-header.common c.common_after-common.result
      c.args.headers.now c.loop-header.header-index _ _ c.loop-header.found.items c.push_reports.new.found.items _
      c.loop-header-test.true refl
      c.in_ok-push_reports.ensures.told c.common_after-common.ensures.last c.loop-header.invariant.read;
  clock = c.common_after-common.ensures.clock;
}

pub returns-clause-exact : goal.returns-clause-exact
returns-clause-exact c = headers_end c.args.outstation c.args.part.now c.loop-header.common c.args.headers.now
    c.loop-header.header-index c.loop-header.found.items _ c.loop-header-test.false c.loop-header.invariant.read
