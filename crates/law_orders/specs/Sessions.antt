-- Whose sessions a step ends: STOPDT act that is taken ends the session of its client, and so does the end of its
-- connection (IEC 60870-5-104, 5.3).
use Rattle.std.specs.Prelude.{ℕ, Bool, true, false, ◌&&◌, ◌==◌}
use Rattle.iec_apci.specs.declared.apdu.Apdu.{Apdu}
use Rattle.iec_apci.specs.declared.apdu.Apdu.TheVariants.{U}
use Rattle.iec_apci.specs.declared.apdu.Signal.TheVariants.{StopAct}
use Rattle.gw_steps.specs.declared.step.Step.{Step}
use Rattle.gw_steps.specs.declared.step.Step.TheVariants as steps
use Rattle.gw_steps.specs.declared.step.Reply.{Reply}
use Rattle.gw_steps.specs.declared.step.Reply.TheVariants as replies
use Rattle.law_history.specs.Life.{has_bit}

abbrev pub is_stop : Apdu → Bool
is_stop (U StopAct) = true
is_stop _ = false

-- an APDU ends its client's session: it closes the connection, or is STOPDT act and taken
abbrev pub ends_by : Reply → Apdu → Bool
ends_by (replies.Closed why) apdu = true
ends_by replies.Taken apdu = is_stop apdu
ends_by _ apdu = false

-- a step with this reply ends the session of client c, if one stands
abbrev pub ends_session : Step → Reply → ℕ → Bool
ends_session (steps.Frame d apdu moment) reply c = ends_by reply apdu && (c == d)
ends_session (steps.ClientDown d moment) reply c = c == d
ends_session (steps.Tick moment) (replies.Ticked closed) c = has_bit c closed
ends_session _ reply c = false
