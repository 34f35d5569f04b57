-- What is asked of a state between steps.
use Rattle.std.specs.Prelude.{ℕ, Bool, true, false, ◌&&◌, ◌||◌, is_some, length, slice_get, Option, Some, None}
use Rattle.dnp_master.specs.Master.{Master, task_given}
use Rattle.gw_station.specs.Client.{Client, is_started, is_up}
use Rattle.gw_station.specs.Pump.{offered}
use Rattle.gw_steps.specs.declared.step.Reply.{Reply}
use Rattle.gw_steps.specs.declared.step.Reply.TheVariants as replies
use Rattle.gw_steps.specs.State.{State}
use Rattle.gw_control.specs.Orders.{Outgoing}
use Rattle.gw_steps.specs.Controls.{order_for}

-- ---- of outstations

-- a poll at a moment would be answered with a request that isn't an order's
abbrev pub is_due : ℕ → Option Master → Bool
is_due moment None = false
is_due moment (Some m) = is_some (task_given moment 0 m)

-- a poll at a moment would be answered with a request, of an order or of what is due
abbrev pub is_poll_due_of : ℕ → Option Outgoing → Option Master → Bool
is_poll_due_of moment q m = is_due moment m || is_some (order_for m q)

-- a poll of an outstation at the largest moment so far would
abbrev pub is_poll_due : State → ℕ → Bool
is_poll_due s o = is_poll_due_of s.moment (slice_get s.controls.outgoing o) (slice_get s.outstations o)

-- ---- of clients

-- a client is started; no absent one is
abbrev pub started_at : Option Client → Bool
started_at None = false
started_at (Some k) = is_started k.stage

-- how many news wait at a place, and how many were dropped
abbrev pub queued_at : Option Client → ℕ
queued_at None = 0
queued_at (Some k) = length k.queue

abbrev pub dropped_at : Option Client → ℕ
dropped_at None = 0
dropped_at (Some k) = k.dropped

-- how many I formats sent to a client are not acknowledged
abbrev pub unacknowledged_at : Option Client → ℕ
unacknowledged_at None = 0
unacknowledged_at (Some k) = length k.window.waiting

-- a pump at a moment would be answered with an APDU
abbrev pub offers_at : ℕ → Client → Bool
offers_at moment k = is_up k.stage && is_some (offered moment k)

abbrev pub has_offer : ℕ → Option Client → Bool
has_offer moment None = false
has_offer moment (Some k) = offers_at moment k

-- a step is answered with an APDU
abbrev pub gives_apdu : Reply → Bool
gives_apdu (replies.Apdu apdu) = true
gives_apdu _ = false
