-- What is handed to an outstation's connection for an accepted execute.
use Rattle.std.specs.Prelude.{◌≡◌, ℕ, Bool, true, false, List, [], ◌∷◌, ◌++◌, map, filter, Some, None}
use Rattle.std.specs.List.{AllByRecursion}
use Rattle.run_log.specs.Follows.{Known}
use Rattle.dnp_app.specs.declared.operation.Operation.TheVariants.{Select, Operate, DirectOperate}
use Rattle.dnp_app.specs.declared.request.Request.{Request}
use Rattle.dnp_app.specs.Requests.{octets_of}
use Rattle.gw_map.specs.Settings.{Setup}
use Rattle.gw_control.specs.Controls.{is_sbo}
use Rattle.gw_steps.specs.Runs.{Entry}
use Rattle.law_orders.specs.Bonds.{is_control_request, operation_in}
use Rattle.law_orders.specs.Executes.{Execute, execute_at}
use Rattle.law_orders.specs.Marks.{names}
use Rattle.run_shared.specs.Reached.{entries_of}
use Rattle.run_shared.specs.Turn.{Pass}
use Rattle.run_ends.specs.declared.sent.Sent.TheVariants as sents
use Rattle.run_ends.specs.declared.sent.Sending.{Sending}
use Rattle.run_ends.specs.Sent.{IsNew}
use Rattle.gw_threads.specs.Calls.{all_given}
use Rattle.gw_threads.specs.Sends.{AreSent, is_poll, request_given}

-- the requests that all polls of an outstation gave, the oldest first
abbrev pub requests_for : ℕ → List Entry → List Request
requests_for outstation past = all_given (is_poll outstation) request_given past

-- requests for one order, the oldest first, are one DIRECT_OPERATE at most; or, where it is selected before it is operated,
-- one SELECT at most and behind it one OPERATE at most (IEEE Std 1815, 4.4)
abbrev pub AreOnce : Bool → List Request → Type 0
AreOnce sbo [] = Unit {0}
AreOnce false (r ∷ []) = operation_in r ≡ Some DirectOperate
AreOnce true (r ∷ []) = operation_in r ≡ Some Select
AreOnce true (r ∷ s ∷ []) = (operation_in r ≡ Some Select) × (operation_in s ≡ Some Operate)
AreOnce _ _ = ⊥

-- requests to an outstation, the oldest first, in a history: of each accepted execute they are so; of no other number there
-- is any; and one that names none is no control request
pub record AreOrdered (setup : Setup) (past : List Entry) (requests : List Request) : Type 0 where
  pub once : (n : ℕ) (x : Execute) → execute_at setup n past ≡ Some x
      → AreOnce (is_sbo x.control.mode) (filter (names n) requests)
  pub no_other : (n : ℕ) → execute_at setup n past ≡ None → filter (names n) requests ≡ []
  pub unnamed : AllByRecursion (λ (r : Request). r.bond ≡ None → is_control_request (octets_of r) ≡ false) requests

-- what a worker sent on a line since it joined it are requests, which come behind all those that the outstation's polls had
-- given when its pass was last used; all together are so
pub record HandsOver (setup : Setup) (outstation : ℕ) (mine after : Pass) (front : Known Sending) : Type 0 where
  pub joined : Known Sending
  pub is_new : IsNew joined
  pub sends : List Sending
  pub sent : AreSent joined sends front
  pub requests : List Request
  pub same : map (λ (s : Sending). s.what) sends ≡ map sents.Request requests
  pub ordered : AreOrdered setup (entries_of after.seen) (requests_for outstation (entries_of mine.seen) ++ requests)
