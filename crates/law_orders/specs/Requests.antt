-- Which requests are given: a poll gives the first that is due in the order of rank, with the next sequence number, and
-- nothing only while a request awaits its answer or none is due.
use Rattle.std.specs.Prelude.{◌≡◌, ℕ, ◌+◌, ◌%◌, ◌^◌, Bool, false, not, ◌&&◌, is_some}
use Rattle.std.specs.Prelude.{List, [], ◌∷◌, slice_get, slice_index, Option, Some, None}
use Rattle.std.specs.Prelude.{option_and_then, option_map, Result, Ok, Err, if◌then◌else◌}
use Rattle.std.specs.List.{filter}
use Rattle.gw_model.specs.First.{first_of, when}
use Rattle.gw_model.specs.declared.poll.Poll.{Poll}
use Rattle.gw_map.specs.Settings.{Setup}
use Rattle.dnp_app.specs.declared.request.Request.{Request}
use Rattle.dnp_app.specs.Asking.{Asks, RecordTime, WriteTime, asking_of, asks_for}
use Rattle.dnp_app.specs.Requests.{octets_of}
use Rattle.gw_steps.specs.declared.step.Step.{Step}
use Rattle.gw_steps.specs.declared.step.Step.TheVariants as steps
use Rattle.gw_steps.specs.declared.step.Reply.{Reply}
use Rattle.gw_steps.specs.declared.step.Reply.TheVariants as replies
use Rattle.gw_steps.specs.declared.step.StepFault.{StepFault}
use Rattle.gw_steps.specs.Runs.{Entry}
use Rattle.law_history.specs.Accepted.{asked_of, poll_at}
use Rattle.law_orders.specs.Bonds.{operation_in}
use Rattle.law_orders.specs.Marks.{Mark, Asked, Answered, marks, request_of}
use Rattle.law_orders.specs.Pending.{Pending, is_marked, is_select, pending}
use Rattle.law_orders.specs.Selections.{moment_at}
use Rattle.law_orders.specs.Talk.{Turn, next_number, talk}
use Rattle.law_orders.specs.Due.{clear_restart, disable, disabling_due, enable, enabling_due, event_poll}
use Rattle.law_orders.specs.Due.{events_due, integrity_due, integrity_poll, recording_due, restart_due, time_due}

-- what is due
pub data Due : Type 0 where
  -- the next request of the order of a number
  OfOrder : ℕ → Due
  -- a request that asks for this
  ToAsk : Asks → Due

-- ---- orders

-- the outstation took its SELECT, so OPERATE is due
abbrev pub is_selected : List Mark → Bool
is_selected (Answered taken ∷ Asked outstation r ∷ before) = taken && is_select (operation_in r)
is_selected _ = false

abbrev pub selected : Setup → ℕ → List Entry → List Pending
selected setup o past = filter (λ p. is_selected (marks p.number past)) (pending setup o past)

-- nothing asked for it yet
abbrev pub unasked : Setup → ℕ → List Entry → List Pending
unasked setup o past = filter (λ p. not (is_marked (marks p.number past))) (pending setup o past)

-- that of the oldest order
abbrev pub of_oldest : List Pending → Option Due
of_oldest ps = option_map (λ p. OfOrder p.number) (slice_get ps 0)

-- ---- the order of rank

-- the low 48 bits of a time are written
abbrev pub to_write : ℕ → Due
to_write time = ToAsk (WriteTime (time % 2 ^ 48))

-- by the talk
abbrev pub in_rank : Poll → ℕ → List Turn → List (Option Due)
in_rank poll moment ts =
    when (restart_due ts) (ToAsk clear_restart)
    ∷ option_map to_write (time_due ts)
    ∷ when (recording_due poll ts) (ToAsk RecordTime)
    ∷ when (disabling_due poll ts) (ToAsk disable)
    ∷ when (integrity_due poll moment ts) (ToAsk integrity_poll)
    ∷ when (enabling_due poll ts) (ToAsk enable)
    ∷ when (events_due poll moment ts) (ToAsk event_poll)
    ∷ []

-- OPERATE and orders that wait come before all of these
abbrev pub first_due : Setup → ℕ → List Entry → ℕ → Poll → Option Due
first_due setup o past moment poll =
    first_of (of_oldest (selected setup o past) ∷ of_oldest (unasked setup o past)
    ∷ in_rank poll moment (talk setup o past))

-- what is due of outstation o at a moment: nothing while a request awaits its answer
abbrev pub due_at : Setup → ℕ → List Entry → ℕ → Option Due
due_at setup o past moment =
    if is_some (asked_of setup o past) then None
    else option_and_then (first_due setup o past moment) (poll_at setup o)

-- ---- the law

-- a request of one fragment with this number, which asks for no confirmation, is what is due: it names the order, or it
-- names none and asks for this
abbrev pub IsDue : ℕ → Due → Request → Type 0
IsDue number (OfOrder n) r = (r.bond ≡ Some n) × (slice_index r.octets 0 ≡ 192 + number)
IsDue number (ToAsk asks) r = (r.bond ≡ None) × (asking_of (octets_of r) ≡ asks_for number asks)

-- a reply gives what is due, or nothing where nothing is
abbrev pub GivesDue : ℕ → Option Due → Reply → Type 0
GivesDue number None reply = reply ≡ replies.Nothing
GivesDue number (Some due) (replies.Request r) = IsDue number due r
GivesDue number (Some due) _ = ⊥

-- a poll gives what is due, and no other step a request
abbrev pub StepGives : Setup → List Entry → Step → Reply → Type 0
StepGives setup past (steps.Poll o moment wall) reply =
    GivesDue (next_number (talk setup o past)) (due_at setup o past (moment_at past (steps.Poll o moment wall))) reply
StepGives setup past _ reply = request_of reply ≡ None

abbrev pub EntryGives : Setup → List Entry → Step → Result Reply StepFault → Type 0
EntryGives setup past step (Ok reply) = StepGives setup past step reply
EntryGives setup past step (Err fault) = Unit {0}

-- the newest entry
abbrev pub Requests : Setup → List Entry → Type 0
Requests setup [] = Unit {0}
Requests setup (e ∷ past) = EntryGives setup past e.step e.reply
