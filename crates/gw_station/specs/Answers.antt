-- What becomes of an ASDU of a client that doesn't close its connection.
use Rattle.std.specs.Prelude.{ℕ, ◌+◌, ◌-◌, ◌≤◌, Bool, true, false, List, []}
use Rattle.std.specs.Prelude.{◌∷◌, ◌++◌, length, map, Option, Some, None}
use Rattle.gw_model.specs.declared.observation.Observation.{Observation}
use Rattle.gw_map.specs.Settings.{Setup}
use Rattle.iec_apci.specs.declared.apdu.Asdu.{Asdu}
use Rattle.iec_command.specs.declared.command.Command.{Command}
use Rattle.gw_judge.specs.declared.judging.Judged.{Judged}
use Rattle.gw_judge.specs.declared.judging.Judged.TheVariants.{Accepted}
use Rattle.gw_answers.specs.declared.outgoing.AsduAnswer.{AsduAnswer}
use Rattle.gw_answers.specs.declared.outgoing.AsduAnswer.TheVariants.{Made}
use Rattle.gw_answers.specs.declared.outgoing.OwnAsdu.{OwnAsdu}
use Rattle.gw_answers.specs.Outgoing.{command_with, confirmed}
use Rattle.gw_answers.specs.Interrogations.{asked_addresses, is_accepted_act, answer_to}
use Rattle.gw_answers.specs.Answers.{answered}
use Rattle.gw_station.specs.declared.event.Said.{Said}
use Rattle.gw_station.specs.declared.event.Said.TheVariants.{Confirm, Negative, Ordered, Done, Failed}
use Rattle.gw_station.specs.Client.{Client}

-- an interrogation is pending: something is left of its answer
abbrev pub is_pending : List OwnAsdu → Bool
is_pending [] = false
is_pending (part ∷ rest) = true

-- answers, one more where there is one
abbrev pub answers_with : Option AsduAnswer → List AsduAnswer → List AsduAnswer
answers_with None waiting = waiting
answers_with (Some answer) waiting = waiting ++ answer ∷ []

-- an ASDU that was judged is an interrogation that is accepted
abbrev pub is_asking : Judged → Client → Bool
is_asking (Accepted command) c = is_accepted_act (is_pending c.rest) command
is_asking _ c = false

-- an interrogation that is accepted copies the picture; what waits then is older
abbrev pub older_with : Judged → Bool → Client → ℕ
older_with j true c = length c.queue
older_with j false c = c.older

abbrev pub rest_with : Setup → List Observation → Judged → Bool → Client → List OwnAsdu
rest_with setup picture (Accepted command) true c =
    answer_to (asked_addresses setup command.common_address) command picture
rest_with setup picture _ _ c = c.rest

-- an ASDU that was judged, while the picture shows this
abbrev pub client_judging : Setup → List Observation → Asdu → Judged → Client → Client
client_judging setup picture asdu j c = record c {
  answers = answers_with (answered setup picture (is_pending c.rest) asdu j) c.answers;
  older = older_with j (is_asking j c) c;
  rest = rest_with setup picture j (is_asking j c) c;
}

-- ---- what is said of a command for a control

-- an order is done: its termination (10)
abbrev pub terminated : Command → OwnAsdu
terminated c = command_with 10 false c

-- its activation or deactivation is confirmed, also negatively; what is an order waits for its outcome, which confirms
-- and terminates it, or confirms it negatively
abbrev pub told : Command → Said → List OwnAsdu
told command Confirm = confirmed false command ∷ []
told command Negative = confirmed true command ∷ []
told command Ordered = []
told command Done = confirmed false command ∷ terminated command ∷ []
told command Failed = confirmed true command ∷ []

-- an order holds two places until its outcome
abbrev pub held_with : Said → ℕ → ℕ
held_with Confirm held = held
held_with Negative held = held
held_with Ordered held = held + 2
held_with Done held = held - 2
held_with Failed held = held - 2

abbrev pub client_told : Command → Said → Client → Client
client_told command said c = record c {
  answers = c.answers ++ map Made (told command said);
  held = held_with said c.held;
}

-- so many answers may wait
abbrev pub places : ℕ
places = 32

-- the places that are taken: by answers that wait, and by orders
abbrev pub places_taken : Client → ℕ
places_taken c = length c.answers + c.held

-- there are places for what is said
abbrev pub CanBeTold : Command → Said → Client → Type 0
CanBeTold command said c = places_taken (client_told command said c) ≤ places
