-- What was stepped where a peer's octets end.
use Rattle.std.proofs.Common.{◌≡◌, ℕ, List, [], ◌++◌, Option, sym, ap, ◌∙◌}
use Rattle.std.specs.Io.KnownBytes.{Appends}
use Rattle.std.proofs.lemmas.List.{append-nil}
use Rattle.dnp_app.specs.Response.{Fragment}
use Rattle.dnp_receive.specs.Delivery.{stream_responses}
use Rattle.dnp_receive.specs.Receiver.{HasTaken, Reception}
use Rattle.iec_apci.specs.Apdu.{ApduContent}
use Rattle.iec_apci.specs.Stream.{Reading, reading}
use Rattle.gw_map.specs.Settings.{Setup}
use Rattle.run_shared.specs.Turn.{Pass}
use Rattle.run_ends.specs.declared.worker_end.WorkerEnd.TheVariants.{EndOfInput}
use Rattle.gw_threads.specs.Calls.{AreCalls, Call, given_by}
use Rattle.gw_threads.specs.Frames.{Frames, apdu_in}
use Rattle.gw_threads.specs.Heard.{Hears, response_in}

pub all_heard : (setup : Setup) (outstation own peer : ℕ) (receiver : Reception) (mine after : Pass)
    (before now : Option (List ℕ))
    → HasTaken own peer [] receiver → Hears setup outstation receiver mine after before now EndOfInput
    → (octets : List ℕ) × (Appends before now octets × ((calls : List Call) × (AreCalls setup mine calls after
    × (given_by response_in calls ≡ stream_responses outstation own peer octets))))
all_heard setup outstation own peer receiver mine after before now fresh hears =
    let said = hears.said own peer fresh in
    let heard : List Fragment = given_by response_in hears.calls in (
      hears.octets,
      (
        hears.took,
        (
          hears.calls,
          (
            hears.made,
            sym (said.same ∙ (ap (λ (left : List Fragment). heard ++ left) said.may ∙ append-nil heard)),
          ),
        ),
      ),
    )

pub all_framed : (setup : Setup) (client : ℕ) (mine after : Pass) (before now : Option (List ℕ))
    → Frames setup client mine after before now EndOfInput
    → (octets : List ℕ) × (Appends before now octets × ((calls : List Call) × (AreCalls setup mine calls after
    × (given_by apdu_in calls ≡ (reading octets).apdus))))
all_framed setup client mine after before now frames =
    let stepped : List ApduContent = given_by apdu_in frames.calls in (
      frames.octets,
      (
        frames.took,
        (
          frames.calls,
          (
            frames.made,
            sym (ap (λ (r : Reading). r.apdus) frames.says
                ∙ (ap (λ (left : List ApduContent). stepped ++ left) frames.left ∙ append-nil stepped)),
          ),
        ),
      ),
    )
