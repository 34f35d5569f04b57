-- The texts of replies.
use Rattle.std.specs.Prelude.{ℕ, zero, suc, ◌+◌, ◌/◌, ◌%◌, ◌==◌, Bool, true, false, List, []}
use Rattle.std.specs.Prelude.{◌∷◌, ◌++◌, take, codes, Option, Some, None, Result, Ok, Err}
use Rattle.dnp_app.specs.Requests.{octets_of}
use Rattle.gw_steps.specs.declared.step.Reply.{Reply}
use Rattle.gw_steps.specs.declared.step.Reply.TheVariants as replies
use Rattle.dnp_master.specs.declared.verdict.Verdict.{Verdict}
use Rattle.dnp_master.specs.declared.verdict.Verdict.TheVariants as verdicts
use Rattle.dnp_master.specs.declared.verdict.Ignored.{Ignored}
use Rattle.dnp_master.specs.declared.verdict.Ignored.TheVariants.{NoRequest, WrongSequence, WrongFirst}
use Rattle.iec_apci.specs.declared.why.Why.{Why}
use Rattle.iec_apci.specs.declared.why.Why.TheVariants.{Sequence, NotStarted, Malformed, Flooded, Timer}
use Rattle.gw_steps.specs.declared.step.StepFault.{StepFault}
use Rattle.gw_steps.specs.declared.step.StepFault.TheVariants.{NoOutstation, NoClient, NotUp, AlreadyUp, Memory, Spent}
use Rattle.cmd_text.specs.Hex.{spaced_digits}

-- a verdict with the confirmation that is to be sent, where there is one
abbrev pub with_confirm : List ℕ → Option (List ℕ) → List ℕ
with_confirm verdict None = verdict
with_confirm verdict (Some octets) = verdict ++ codes " confirm" ++ spaced_digits octets

abbrev pub ignored_name : Ignored → List ℕ
ignored_name NoRequest = codes "NoRequest"
ignored_name WrongSequence = codes "WrongSequence"
ignored_name WrongFirst = codes "WrongFirst"

abbrev pub why_name : Why → List ℕ
why_name Sequence = codes "Sequence"
why_name NotStarted = codes "NotStarted"
why_name Malformed = codes "Malformed"
why_name Flooded = codes "Flooded"
why_name Timer = codes "Timer"

abbrev pub fault_name : StepFault → List ℕ
fault_name NoOutstation = codes "1 NoOutstation"
fault_name NoClient = codes "2 NoClient"
fault_name NotUp = codes "3 NotUp"
fault_name AlreadyUp = codes "4 AlreadyUp"
fault_name Memory = codes "5 Memory"
fault_name Spent = codes "6 Spent"

-- whether the answer ended
abbrev pub end_words : Bool → List ℕ
end_words true = codes " end"
end_words false = []

abbrev pub verdict_words : Verdict → List ℕ
verdict_words (verdicts.Accepted confirm end control) = with_confirm (codes "accepted") confirm ++ end_words end
verdict_words (verdicts.Repeated confirm) = with_confirm (codes "repeated") confirm
verdict_words (verdicts.Ignored why) = codes "ignored " ++ ignored_name why

-- a client's number, which has one digit, where it was closed
abbrev pub client_word : ℕ → Bool → List ℕ
client_word client true = 32 ∷ (48 + client) ∷ []
client_word client false = []

-- of so many clients from one on, those whose bit is set
abbrev pub closed_words : ℕ → ℕ → ℕ → List ℕ
closed_words client zero closed = []
closed_words client (suc more) closed =
    client_word client (closed % 2 == 1) ++ closed_words (client + 1) more (closed / 2)

abbrev pub reply_words : Reply → List ℕ
reply_words replies.Done = codes "ok"
reply_words (replies.Verdict verdict) = verdict_words verdict
reply_words (replies.Apdu apdu) = codes "apdu" ++ spaced_digits (take apdu.len apdu.octets)
reply_words replies.Taken = codes "taken"
reply_words (replies.Closed why) = codes "closed " ++ why_name why
reply_words replies.Nothing = codes "nothing"
reply_words (replies.Request request) = codes "request" ++ spaced_digits (octets_of request)
reply_words (replies.Ticked closed) = codes "ticked" ++ closed_words 0 8 closed

abbrev pub answer_words : Result Reply StepFault → List ℕ
answer_words (Ok reply) = reply_words reply
answer_words (Err fault) = codes "fault " ++ fault_name fault

-- the line that tells a reply
abbrev pub reply_line : Result Reply StepFault → List ℕ
reply_line reply = answer_words reply ++ 10 ∷ []
