-- Worked runs of one outstation, which came up at moment 5000: other times than the defaults, and each habit by itself.
use Rattle.std.specs.Prelude.{ℕ, ◌+◌, true, false, List, [], ◌∷◌, Option}
use Rattle.gw_model.specs.declared.poll.Poll.{Poll}
use Rattle.gw_entries.specs.Example.{outstation}
use Rattle.gw_map.specs.Settings.{Setup}
use Rattle.gw_steps.specs.declared.step.Step.{Step}
use Rattle.gw_steps.specs.declared.step.Step.TheVariants as steps
use Rattle.gw_steps.specs.Example.{response, setup}
use Rattle.gw_steps.specs.Runs.{Entry}
use Rattle.law_history.specs.Example.{history_of}
use Rattle.law_orders.specs.Talk.{next_number, talk}
use Rattle.law_orders.specs.Requests.{Due, due_at}

-- events every 3 seconds, all every 40, and an answer in 0.7
abbrev pub polled : Poll
polled = record { poll_ms = 3000; integrity_ms = 40000; response_ms = 700; unsolicited = false; lan_time = false }

abbrev pub polled_once : Poll
polled_once = record polled { integrity_ms = 0 }

abbrev pub with_unsolicited : Poll
with_unsolicited = record polled { unsolicited = true }

abbrev pub with_time : Poll
with_time = record polled { lan_time = true }

abbrev pub setup_of : Poll → Setup
setup_of poll = record setup { outstations = record outstation { poll = poll } ∷ [] }

-- ---- steps

-- a poll, with its wall time
abbrev pub polls : ℕ → Step
polls moment = steps.Poll 0 moment (1700000000000 + moment)

abbrev pub ticks : ℕ → Step
ticks moment = steps.Tick moment

abbrev pub comes : ℕ → List ℕ → Step
comes moment octets = steps.Fragment (response octets []) moment

-- a response of a sequence number with its internal indications, and one of its own accord
abbrev pub answer : ℕ → ℕ → ℕ → ℕ → Step
answer moment sequence first second = comes moment ((192 + sequence) ∷ 0x81 ∷ first ∷ second ∷ [])

abbrev pub unsolicited : ℕ → ℕ → ℕ → Step
unsolicited moment first second = comes moment (0xD0 ∷ 0x82 ∷ first ∷ second ∷ [])

-- ---- runs

abbrev pub made : Poll → List Step → List Entry
made poll ss = history_of (setup_of poll) (steps.OutstationUp 0 5000 ∷ ss)

-- what is due then at a moment, and by which number
abbrev pub due_after : Poll → List Step → ℕ → Option Due
due_after poll ss moment = due_at (setup_of poll) 0 (made poll ss) moment

abbrev pub number_after : Poll → List Step → ℕ
number_after poll ss = next_number (talk (setup_of poll) 0 (made poll ss))

-- ---- what happened

-- the integrity poll was given at 5100, and answered with these indications
abbrev pub answered : ℕ → ℕ → List Step → List Step
answered first second more = polls 5100 ∷ answer 5200 0 first second ∷ more

-- the time was needed, and its recording asked for at 5300
abbrev pub recording : List Step → List Step
recording more = answered 0x10 0 (polls 5300 ∷ more)
