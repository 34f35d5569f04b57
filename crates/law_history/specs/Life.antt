-- What each client lived through: its turns since it came up, newest first. What was said of its commands, and what
-- became of its orders, is what the controls told in the state of that moment; all else is told by steps and replies
-- alone.
use Rattle.std.specs.List.{filter}
use Rattle.std.specs.Prelude.{ℕ, zero, suc, ◌/◌, ◌%◌, Bool, false, ◌==◌, ◌<◌, List}
use Rattle.std.specs.Prelude.{[], ◌∷◌, Option, Some, None, option_map, if◌then◌else◌}
use Rattle.gw_model.specs.declared.observation.Observation.{Observation}
use Rattle.gw_map.specs.Settings.{Setup, station_clocks}
use Rattle.gw_picture.specs.Log.{picture_of}
use Rattle.iec_apci.specs.declared.apdu.Apdu.{Apdu}
use Rattle.iec_apci.specs.declared.apdu.Apdu.TheVariants.{U}
use Rattle.iec_apci.specs.declared.apdu.Signal.TheVariants.{StartAct, StopAct}
use Rattle.iec_command.specs.declared.command.Command.{Command}
use Rattle.gw_control.specs.declared.answer.Outcome.{Outcome}
use Rattle.gw_station.specs.declared.event.Said.{Said}
use Rattle.gw_steps.specs.declared.step.Step.{Step}
use Rattle.gw_steps.specs.declared.step.Step.TheVariants as steps
use Rattle.gw_steps.specs.declared.step.Reply.{Reply}
use Rattle.gw_steps.specs.declared.step.Reply.TheVariants as replies
use Rattle.gw_steps.specs.State.{client_limit}
use Rattle.gw_steps.specs.Steps.{latest, outcomes_of, said_to}
use Rattle.gw_steps.specs.Runs.{Entry, state_after, unless_fault}
use Rattle.gw_steps.specs.Said.{ApduMeaning, said}
use Rattle.law_history.specs.Log.{log_of, news_of_step}

-- what a step brought to a client
pub record Brought : Type 0 where
  -- news and losses, in order; there may be none
  pub news : List Observation
  -- what became of its orders
  pub outcomes : List Outcome

-- how an APDU was taken
pub record Taking : Type 0 where
  -- what the picture showed then
  pub picture : List Observation
  -- what is said then of a command for a control
  pub said : Command → Said

pub data Turn : Type 0 where
  -- this was brought, and nothing else happened
  Idle : Brought → Turn
  -- its APDU was taken so
  Takes : Apdu → Taking → Turn
  -- this was put out to it
  PutsOut : ApduMeaning → Turn
  -- its connection was closed, or is lost
  Ends : Turn

-- the turn that brings these news and outcomes
abbrev pub bringing : List Observation → List Outcome → Turn
bringing xs outcomes = Idle (record { news = xs; outcomes = outcomes })

abbrev pub nothing_new : Turn
nothing_new = bringing [] []

-- octets that aren't one APDU say nothing: a run puts out none
abbrev pub puts_out : Option ApduMeaning → Turn
puts_out None = nothing_new
puts_out (Some said) = PutsOut said

-- what becomes of its APDU, by the reply
abbrev pub turn_taking : Apdu → List Observation → (Command → Said) → Reply → Turn
turn_taking apdu picture said (replies.Closed why) = Ends
turn_taking apdu picture said _ = Takes apdu (record { picture = picture; said = said })

-- what a pump gives it
abbrev pub turn_giving : Setup → Reply → Turn
turn_giving setup (replies.Apdu apdu) = puts_out (said (station_clocks setup.station) apdu)
turn_giving setup _ = nothing_new

-- bit c of a number is set
abbrev pub has_bit : ℕ → ℕ → Bool
has_bit zero n = n % 2 == 1
has_bit (suc c) n = has_bit c (n / 2)

-- whether a tick closes it
abbrev pub is_closed_in : ℕ → Reply → Bool
is_closed_in c (replies.Ticked closed) = has_bit c closed
is_closed_in c _ = false

-- what becomes of orders in a step
abbrev pub outcomes_in : Setup → List Entry → Step → List Outcome
outcomes_in setup past step = outcomes_of (state_after setup past) step

-- of those of client c
abbrev pub outcomes_for : ℕ → List Outcome → List Outcome
outcomes_for c xs = filter (λ x. x.client == c) xs

-- what is said of a command that client c sends at a moment
abbrev pub said_in : Setup → ℕ → List Entry → ℕ → Command → Said
said_in setup c past moment =
    let s = state_after setup past in said_to setup s (latest s moment) c

-- what a step with this reply is to client c; none where its connection stands anew
abbrev pub turn_with : Setup → ℕ → List Entry → Step → Reply → Option Turn
turn_with setup c past (steps.ClientUp d moment) reply = if d == c then None else Some nothing_new
turn_with setup c past (steps.ClientDown d moment) reply = Some (if d == c then Ends else nothing_new)
turn_with setup c past (steps.Frame d apdu moment) reply =
    Some (if d == c
    then turn_taking apdu (picture_of setup.rows (log_of setup past)) (said_in setup c past moment) reply
    else nothing_new)
turn_with setup c past (steps.Pump d moment) reply = Some (if d == c then turn_giving setup reply else nothing_new)
turn_with setup c past (steps.Tick moment) reply = Some (if is_closed_in c reply then Ends
    else bringing [] (outcomes_for c (outcomes_in setup past (steps.Tick moment))))
turn_with setup c past step reply = Some (bringing (news_of_step setup (log_of setup past) past step)
    (outcomes_for c (outcomes_in setup past step)))

-- a step with a fault is nothing to anybody
abbrev pub turn_of : Setup → ℕ → List Entry → Entry → Option Turn
turn_of setup c past e = unless_fault (Some nothing_new) (turn_with setup c past e.step) e.reply

-- with one turn more
abbrev pub lived : Option Turn → List Turn → List Turn
lived None ts = []
lived (Some t) ts = t ∷ ts

-- the turns of client c since it came up, also of a connection that ended
abbrev pub life : Setup → ℕ → List Entry → List Turn
life setup c [] = []
life setup c (e ∷ past) = lived (turn_of setup c past e) (life setup c past)

-- a law of each client's life
abbrev pub OfEachLife : (List Turn → Type 0) → Setup → List Entry → Type 0
OfEachLife Law setup past = (c : ℕ) → c < client_limit → Law (life setup c past)

-- ---- sessions

-- STARTDT act begins a session, where none stands, and STOPDT act ends it
abbrev pub session_with : Turn → Option (List Turn) → Option (List Turn)
session_with Ends s = None
session_with (Takes (U StopAct) taking) s = None
session_with (Takes (U StartAct) taking) None = Some []
session_with t s = option_map (λ ts. t ∷ ts) s

-- the turns of the session that stands, if one does
abbrev pub session : List Turn → Option (List Turn)
session [] = None
session (t ∷ ts) = session_with t (session ts)

abbrev pub turns_in : Option (List Turn) → List Turn
turns_in None = []
turns_in (Some ts) = ts
