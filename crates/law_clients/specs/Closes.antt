-- Closes (IEC 60870-5-104, 5.1 to 5.3): in a step without a fault an APDU of a client closes its connection for the
-- first cause that holds, and is taken where none does. Of an I format: no session stands; N(S) or N(R) is wrong; its
-- ASDU is malformed; there are no places for its answer. Of an S format: N(R) is wrong. Of a U format: it wants a
-- confirmation, and 32 wait.
use Rattle.std.specs.Prelude.{◌≡◌, ℕ, ◌+◌, ◌-◌, ◌%◌, Bool, true, false, ◌==◌, ◌&&◌, not, is_none, is_some}
use Rattle.std.specs.Prelude.{nat_le, nat_lt, List, [], ◌∷◌, length, take, Option, Some, None, Result, Ok}
use Rattle.gw_model.specs.First.{when, first_of}
use Rattle.gw_map.specs.Settings.{Setup}
use Rattle.iec_apci.specs.Apdu.{confirmation_of}
use Rattle.iec_apci.specs.declared.apdu.Apdu.{Apdu}
use Rattle.iec_apci.specs.declared.apdu.Apdu.TheVariants.{I, S, U}
use Rattle.gw_judge.specs.Judging.{judged}
use Rattle.gw_judge.specs.declared.judging.Judged.{Judged}
use Rattle.gw_judge.specs.declared.judging.Judged.TheVariants as judgements
use Rattle.gw_answers.specs.Answers.{places_for}
use Rattle.iec_apci.specs.declared.why.Why.{Why}
use Rattle.iec_apci.specs.declared.why.Why.TheVariants.{Sequence, NotStarted, Malformed, Flooded}
use Rattle.gw_steps.specs.declared.step.Step.{Step}
use Rattle.gw_steps.specs.declared.step.Step.TheVariants as steps
use Rattle.gw_steps.specs.declared.step.Reply.{Reply}
use Rattle.gw_steps.specs.declared.step.Reply.TheVariants as replies
use Rattle.gw_steps.specs.declared.step.StepFault.{StepFault}
use Rattle.gw_steps.specs.Runs.{Entry}
use Rattle.law_history.specs.Life.{Turn, Takes, session, turns_in}
use Rattle.law_clients.specs.Numbers.{sent, taken}
use Rattle.law_clients.specs.Interrogations.{interrogation, is_pending}
use Rattle.law_clients.specs.Line.{owed}
use Rattle.law_clients.specs.Frames.{held}
use Rattle.law_clients.specs.Connection.{OfStanding, connection, turns}
use Rattle.law_clients.specs.Signals.{most_waiting, waiting}

-- ---- N(R)

-- how many sequence numbers there are
abbrev pub numbers : ℕ
numbers = 32768

-- of so many I formats that were put out, how many lie beyond those that N(R) acknowledges
abbrev pub beyond : ℕ → ℕ → ℕ
beyond nr sent = (sent + numbers - nr) % numbers

-- how many I formats are acknowledged: all but those beyond the last N(R)
abbrev pub acknowledged : List Turn → ℕ
acknowledged [] = 0
acknowledged (Takes (I ns nr asdu) taking ∷ ts) = sent ts - beyond nr (sent ts)
acknowledged (Takes (S nr) taking ∷ ts) = sent ts - beyond nr (sent ts)
acknowledged (_ ∷ ts) = acknowledged ts

-- N(R) is right: no more lie beyond it than beyond the last one
abbrev pub is_right_receive : ℕ → List Turn → Bool
is_right_receive nr ts = nat_lt nr numbers && nat_le (beyond nr (sent ts)) (sent ts - acknowledged ts)

-- ---- causes

abbrev pub is_malformed : Judged → Bool
is_malformed judgements.Malformed = true
is_malformed _ = false

-- so many places there are
abbrev pub places : ℕ
places = 32

-- the places that answers and orders take in a session, and those that the answer to an ASDU wants
abbrev pub places_with : Setup → List Turn → Judged → ℕ
places_with setup hs j =
    length (owed setup hs) + held setup hs + places_for (is_pending (interrogation setup hs)) j

-- why an I format closes the connection, its ASDU judged so: the causes in their order
abbrev pub causes : Setup → List Turn → ℕ → ℕ → Judged → List (Option Why)
causes setup ts ns nr j =
    when (is_none (session ts)) NotStarted
    ∷ when (not (ns == taken ts % numbers && is_right_receive nr ts)) Sequence
    ∷ when (is_malformed j) Malformed
    ∷ when (nat_lt places (places_with setup (turns_in (session ts)) j)) Flooded
    ∷ []

-- why an APDU does, if it does
abbrev pub close_due : Setup → List Turn → Apdu → Option Why
close_due setup ts (I ns nr asdu) =
    first_of (causes setup ts ns nr (judged setup (take asdu.len asdu.octets)))
close_due setup ts (S nr) = when (not (is_right_receive nr ts)) Sequence
close_due setup ts (U signal) =
    when (is_some (confirmation_of signal) && nat_le most_waiting (length (waiting ts))) Flooded

-- ---- the law

abbrev pub reply_for : Option Why → Reply
reply_for None = replies.Taken
reply_for (Some why) = replies.Closed why

abbrev pub ClosesBy : Setup → List Entry → Step → Result Reply StepFault → Type 0
ClosesBy setup past (steps.Frame c apdu moment) (Ok reply) =
    OfStanding (λ x. reply ≡ reply_for (close_due setup (turns x) apdu)) (connection setup c past)
ClosesBy setup past _ _ = Unit {0}

abbrev pub Closes : Setup → List Entry → Type 0
Closes setup [] = Unit {0}
Closes setup (e ∷ past) = ClosesBy setup past e.step e.reply
