-- What became of an order: the requests that named it and their answers, in turn. Nothing that is lost or late takes
-- one of these back.
use Rattle.std.specs.Prelude.{ℕ, Bool, false, ◌==◌, List, [], ◌∷◌, ◌++◌}
use Rattle.std.specs.Prelude.{Option, Some, None, option_map, if◌then◌else◌}
use Rattle.std.specs.Option.{option_to_list}
use Rattle.gw_model.specs.First.{when}
use Rattle.dnp_app.specs.declared.request.Request.{Request}
use Rattle.dnp_app.specs.Echo.{echo_of, is_taken}
use Rattle.dnp_app.specs.Operating.{Operating, operating_of}
use Rattle.dnp_app.specs.Requests.{octets_of}
use Rattle.dnp_master.specs.declared.verdict.Verdict.TheVariants.{Accepted}
use Rattle.gw_steps.specs.declared.step.Step.{Step}
use Rattle.gw_steps.specs.declared.step.Step.TheVariants as steps
use Rattle.gw_steps.specs.declared.step.Reply.{Reply}
use Rattle.gw_steps.specs.declared.step.Reply.TheVariants as replies
use Rattle.gw_steps.specs.Runs.{Entry, unless_fault}

pub data Mark : Type 0 where
  -- an outstation was asked for it, by this request
  Asked : ℕ → Request → Mark
  -- the last fragment of the answer came: the outstation took what was asked for, or it didn't
  Answered : Bool → Mark

-- ---- requests

-- the request in a reply
abbrev pub request_of : Reply → Option Request
request_of (replies.Request r) = Some r
request_of _ = None

-- the request that a step gives, with its outstation
abbrev pub given_by : Step → Reply → Option (ℕ × Request)
given_by (steps.Poll outstation moment wall) reply =
    option_map {U = ℕ × Request} (λ r. (outstation, r)) (request_of reply)
given_by _ reply = None

-- the request that an entry gives
abbrev pub given_in : Entry → Option (ℕ × Request)
given_in e = unless_fault None (given_by e.step) e.reply

-- this one goes to that outstation; or else the one before does
abbrev pub request_after : ℕ → Option (ℕ × Request) → Option Request → Option Request
request_after o None before = before
request_after o (Some given) before = if given.0 == o then Some given.1 else before

-- the last request that was given to an outstation, whatever it asks for
abbrev pub last_request : ℕ → List Entry → Option Request
last_request o [] = None
last_request o (e ∷ past) = request_after o (given_in e) (last_request o past)

-- ---- answers

-- a fragment that is accepted ends the answer to the last request
abbrev pub is_end : Reply → Bool
is_end (replies.Verdict (Accepted confirm end control)) = end
is_end _ = false

-- the octets that end an answer, with their outstation
abbrev pub answer_by : Step → Reply → Option (ℕ × List ℕ)
answer_by (steps.Fragment f moment) reply = when (is_end reply) (f.outstation, f.octets)
answer_by _ reply = None

abbrev pub answer_in : Entry → Option (ℕ × List ℕ)
answer_in e = unless_fault None (answer_by e.step) e.reply

-- the outstation took what a request operates, by the octets of both (IEEE Std 1815, 4.4): the answer gives the object
-- back as it was sent, with status 0
abbrev pub took : Option Operating → List ℕ → Bool
took None answer = false
took (Some operating) answer = is_taken operating.index operating.act (echo_of answer)

-- ---- marks

-- a request names an order
abbrev pub is_number : ℕ → Option ℕ → Bool
is_number n None = false
is_number n (Some number) = number == n

abbrev pub names : ℕ → Request → Bool
names n r = is_number n r.bond

-- the mark of a request that is given
abbrev pub mark_asked : ℕ → Option (ℕ × Request) → Option Mark
mark_asked n None = None
mark_asked n (Some given) = when (names n given.1) (Asked given.0 given.1)

-- the mark of the octets that answer a request
abbrev pub mark_answering : ℕ → List ℕ → Option Request → Option Mark
mark_answering n answer None = None
mark_answering n answer (Some r) = when (names n r) (Answered (took (operating_of (octets_of r)) answer))

abbrev pub mark_answered : ℕ → List Entry → Option (ℕ × List ℕ) → Option Mark
mark_answered n past None = None
mark_answered n past (Some answer) = mark_answering n answer.1 (last_request answer.0 past)

-- what became of order n, newest first
abbrev pub marks : ℕ → List Entry → List Mark
marks n [] = []
marks n (e ∷ past) =
    option_to_list (mark_asked n (given_in e)) ++ (option_to_list (mark_answered n past (answer_in e)) ++ marks n past)
