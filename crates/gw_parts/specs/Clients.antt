-- All clients, and what is asked of them.
use Rattle.std.specs.Prelude.{ℕ, ◌+◌, ◌^◌, ◌<◌, Bool, false, List, Option, Some, None}
use Rattle.gw_map.specs.Settings.{Setup, station_clocks}
use Rattle.iec_apci.specs.declared.apdu.Apdu.{Apdu}
use Rattle.iec_window.specs.Counts.{sent_in_all}
use Rattle.gw_station.specs.declared.event.Event.{Event}
use Rattle.gw_station.specs.declared.event.Event.TheVariants.{Taken}
use Rattle.gw_station.specs.Client.{Client, is_timed_out}
use Rattle.gw_station.specs.Frames.{event_of}
use Rattle.gw_station.specs.Pump.{given}
use Rattle.gw_steps.specs.declared.step.Reply.{Reply}
use Rattle.gw_steps.specs.Steps.{client_reply, reply_giving}

-- each of them, and how many news there were
pub record Clients : Type 0 where
  pub each : List Client
  pub news : ℕ

-- what becomes of an APDU; nothing does where there is no such client
abbrev pub event_at : Setup → Apdu → Option Client → Event
event_at setup apdu None = Taken
event_at setup apdu (Some k) = event_of setup apdu k

-- its connection is closed as time has passed
abbrev pub is_timed_out_at : ℕ → Option Client → Bool
is_timed_out_at moment None = false
is_timed_out_at moment (Some k) = is_timed_out moment k

-- the reply to a pump at a moment
abbrev pub reply_to_pump : Setup → ℕ → Option Client → Reply
reply_to_pump setup moment =
    client_reply (λ k. reply_giving (given (station_clocks setup.station) moment k))

-- one more I format that is received can be counted in 64 bits
pub record CanCount (k : Client) : Type 0 where
  pub received : k.window.received + 1 < 2 ^ 64

-- one more I format that is sent can be counted in 64 bits
pub record CanPump (k : Client) : Type 0 where
  pub sent : sent_in_all k.window + 1 < 2 ^ 64
