-- What a line's history has of the writer towards an outstation.
use Rattle.std.specs.Prelude.{◌≡◌, ℕ, List, map}
use Rattle.std.specs.List.{AllByRecursion}
use Rattle.run_log.specs.Follows.{Known}
use Rattle.gw_map.specs.Settings.{Setup}
use Rattle.run_shared.specs.Turn.{Pass}
use Rattle.run_ends.specs.declared.sent.Sent.TheVariants as sents
use Rattle.run_ends.specs.declared.sent.Sending.{Sending}
use Rattle.gw_threads.specs.Calls.{AreCalls, Call, given_by}
use Rattle.gw_threads.specs.Sends.{IsTowards, request_given}
use Rattle.gw_threads.specs.Standing.{all_sent}

-- all calls of the pass in that time were towards the outstation, and all that the history has of the worker are just the
-- requests that its polls were answered with, each once, in this order
pub record SentByPolls (setup : Setup) (outstation : ℕ) (mine after : Pass) (front : Known Sending) : Type 0 where
  pub calls : List Call
  pub made : AreCalls setup mine calls after
  pub own : AllByRecursion (λ (c : Call). IsTowards outstation c.step) calls
  pub requests : map (λ (s : Sending). s.what) (all_sent front) ≡ map sents.Request (given_by request_given calls)
