-- What a line's history has of the reader of an outstation.
use Rattle.std.specs.Prelude.{◌≡◌, ℕ, List}
use Rattle.std.specs.List.{AllByRecursion}
use Rattle.run_log.specs.Follows.{Known}
use Rattle.gw_map.specs.Settings.{Setup}
use Rattle.run_shared.specs.Turn.{Pass}
use Rattle.run_ends.specs.declared.sent.Sending.{Sending}
use Rattle.gw_threads.specs.Calls.{AreCalls, Call, given_by}
use Rattle.gw_threads.specs.Standing.{all_sent}
use Rattle.gw_threads.specs.Confirms.{IsRead, IsReaders, confirmation_given, confirmations_sent}

-- all calls of the pass in that time were of the outstation's fragments, or told its loss; all that the history has of the worker is
-- no request, and its confirmations are just those that the fragments were answered with, each once, in this order
pub record ConfirmedByFragments (setup : Setup) (outstation : ℕ) (mine after : Pass) (front : Known Sending) : Type 0 where
  pub calls : List Call
  pub made : AreCalls setup mine calls after
  pub own : AllByRecursion (λ (c : Call). IsRead outstation c.step) calls
  pub only : AllByRecursion (λ (s : Sending). IsReaders s.what) (all_sent front)
  pub confirmations : confirmations_sent (all_sent front) ≡ given_by confirmation_given calls
