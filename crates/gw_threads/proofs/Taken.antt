-- Which octets a client's writer handed over.
use Rattle.std.proofs.Common.{◌≡◌, ℕ, List, ◌++◌, take, Some, sym, ap, ◌∙◌}
use Rattle.iec_apci.specs.declared.buffer.ApduBuf.{ApduBuf}
use Rattle.gw_map.specs.Settings.{Setup}
use Rattle.run_shared.specs.Reached.{entries_of}
use Rattle.run_shared.specs.Turn.{Pass}
use Rattle.iec_apci.specs.Joined.{joined}
use Rattle.run_ends.specs.declared.worker_end.WorkerEnd.TheVariants.{Stopping, WriteFault}
use Rattle.gw_threads.specs.Calls.{AreCalls, Call, all_given, given_by}
use Rattle.gw_threads.specs.Written.{AreAll, Asked, Writes, apdu_given, is_pump}

pub calls_taken : (setup : Setup) (client : ℕ) (mine after : Pass) (before now : List ℕ)
    → Writes (Asked setup client mine after) (Some before) (Some now) Stopping
    → (calls : List Call) × (AreCalls setup mine calls after × (now ≡ before ++ joined (given_by apdu_given calls)))
calls_taken setup client mine after before now writes = (
  writes.asked.calls,
  (
    writes.asked.made,
    writes.taken ∙ ap (λ (apdus : List ApduBuf). before ++ joined apdus) (sym writes.asked.given),
  ),
)

pub front_taken : (setup : Setup) (client : ℕ) (mine after : Pass) (before now : List ℕ)
    → Writes (Asked setup client mine after) (Some before) (Some now) WriteFault
    → (calls : List Call) × (AreCalls setup mine calls after
    × ((count : ℕ) × (now ≡ before ++ take count (joined (given_by apdu_given calls)))))
front_taken setup client mine after before now writes = (
  writes.asked.calls,
  (
    writes.asked.made,
    (
      writes.count,
      writes.taken
          ∙ ap (λ (apdus : List ApduBuf). before ++ take writes.count (joined apdus)) (sym writes.asked.given),
    ),
  ),
)

pub all_taken : (client : ℕ) (mine after : Pass) (before now : List ℕ)
    → Writes (AreAll client mine after) (Some before) (Some now) Stopping
    → (apdus : List ApduBuf) × ((all_given (is_pump client) apdu_given (entries_of after.seen)
    ≡ all_given (is_pump client) apdu_given (entries_of mine.seen) ++ apdus) × (now ≡ before ++ joined apdus))
all_taken client mine after before now writes = (writes.apdus, (writes.asked, writes.taken))
