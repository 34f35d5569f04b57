-- What a line's history has of the reader of an outstation.
use Rattle.std.proofs.Common.{ℕ, Bool, sym, ap, subst, ◌∙◌}
use Rattle.std.specs.List.{AllByRecursion}
use Rattle.run_log.specs.Follows.{Known}
use Rattle.gw_map.specs.Settings.{Setup}
use Rattle.run_shared.specs.Turn.{Pass}
use Rattle.run_ends.specs.declared.sent.Sending.{Sending}
use Rattle.gw_threads.proofs.Standing.{sent_since}
use Rattle.gw_threads.specs.Confirmed.{ConfirmedByFragments}
use Rattle.gw_threads.specs.Confirms.{IsReaders, ReadsOn, confirmations_sent}

pub fragments_confirmed : (setup : Setup) (outstation : ℕ) (mine after : Pass) (front : Known Sending) (cut : Bool)
    → ReadsOn setup outstation mine after front cut → ConfirmedByFragments setup outstation mine after front
fragments_confirmed setup outstation mine after front cut all =
    let run = all.1.1 in
    let sent = sent_since all.0 front run.sends all.1.0 run.sent in
    record {
      calls = run.calls;
      made = run.made;
      own = run.own;
      only = subst (AllByRecursion (λ (s : Sending). IsReaders s.what)) (sym sent) run.only;
      confirmations = ap confirmations_sent sent ∙ run.same;
    }
