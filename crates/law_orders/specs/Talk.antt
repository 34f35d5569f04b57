-- The talk with an outstation since it came up, by steps and replies alone: the requests that were given, the fragments
-- that were accepted, and the requests that were given up. Newest first; none while the outstation is down.
use Rattle.std.specs.Prelude.{ℕ, ◌+◌, ◌%◌, ◌&&◌, ◌==◌, List, [], ◌∷◌, slice_index}
use Rattle.std.specs.Prelude.{Option, Some, None, option_and_then, option_map, if◌then◌else◌}
use Rattle.gw_map.specs.Settings.{Setup}
use Rattle.dnp_app.specs.declared.request.Request.{Request}
use Rattle.dnp_app.specs.Asking.{Asks, asking_of}
use Rattle.dnp_app.specs.Requests.{octets_of}
use Rattle.dnp_app.specs.Response.{Fragment, is_unsolicited}
use Rattle.gw_steps.specs.declared.step.Step.{Step}
use Rattle.gw_steps.specs.declared.step.Step.TheVariants as steps
use Rattle.gw_steps.specs.declared.step.Reply.{Reply}
use Rattle.gw_steps.specs.Runs.{Entry, unless_fault}
use Rattle.law_history.specs.Accepted.{is_accepted}
use Rattle.law_orders.specs.Marks.{request_of}
use Rattle.law_orders.specs.Pending.{is_late_at}
use Rattle.law_orders.specs.Selections.{moment_at}

pub data Turn : Type 0 where
  -- the outstation came up at a moment
  Up : ℕ → Turn
  -- this request was given, at a moment and a wall time
  Sends : Request → ℕ → ℕ → Turn
  -- this fragment was accepted
  Accepts : Fragment → Turn
  -- a tick found the answer to the last request late
  GivesUp : Turn

-- ---- turn by turn

-- a poll at a moment and a wall time gives this
abbrev pub talk_giving : ℕ → ℕ → Option Request → List Turn → List Turn
talk_giving moment wall None ts = ts
talk_giving moment wall (Some r) ts = Sends r moment wall ∷ ts

-- after a step without a fault, made at a moment
abbrev pub talk_with : Setup → ℕ → List Entry → ℕ → List Turn → Step → Reply → List Turn
talk_with setup o past moment ts (steps.OutstationUp p _) reply = if p == o then Up moment ∷ [] else ts
talk_with setup o past moment ts (steps.OutstationDown p _) reply = if p == o then [] else ts
talk_with setup o past moment ts (steps.Poll p _ wall) reply =
    if p == o then talk_giving moment wall (request_of reply) ts else ts
talk_with setup o past moment ts (steps.Fragment f _) reply =
    if (f.outstation == o) && is_accepted setup past f then Accepts f ∷ ts else ts
talk_with setup o past moment ts (steps.Tick _) reply = if is_late_at setup o past moment then GivesUp ∷ ts else ts
talk_with setup o past moment ts _ reply = ts

-- the talk with outstation o
abbrev pub talk : Setup → ℕ → List Entry → List Turn
talk setup o [] = []
talk setup o (e ∷ past) =
    let ts = talk setup o past in
    unless_fault ts (talk_with setup o past (moment_at past e.step) ts e.step) e.reply

-- ---- requests

-- the request that was given last, with its wall time
abbrev pub last_sent : List Turn → Option (Request × ℕ)
last_sent [] = None
last_sent (Sends r moment wall ∷ ts) = Some (r, wall)
last_sent (_ ∷ ts) = last_sent ts

-- what a request asks for, by its octets
abbrev pub asked_by : Request → Option Asks
asked_by r = option_map (λ asking. asking.asks) (asking_of (octets_of r))

abbrev pub last_asked : List Turn → Option Asks
last_asked ts = option_and_then (λ sent. asked_by sent.0) (last_sent ts)

-- ---- sequence numbers

-- the number behind that of an application control octet, of four bits
abbrev pub number_behind : ℕ → ℕ
number_behind octet = (octet + 1) % 16

-- one past the last number that a request or its answer used; 0 once the outstation came up
abbrev pub next_number : List Turn → ℕ
next_number [] = 0
next_number (Up moment ∷ ts) = 0
next_number (Sends r moment wall ∷ ts) = number_behind (slice_index r.octets 0)
next_number (Accepts f ∷ ts) = if is_unsolicited f then next_number ts else number_behind (slice_index f.octets 0)
next_number (GivesUp ∷ ts) = next_number ts
