-- Which fragments were accepted, by steps and replies alone (IEEE Std 1815, 4.2.2 and clause 5).
use Rattle.std.specs.Prelude.{ℕ, ◌+◌, ◌%◌, Bool, false, ◌&&◌, not, ◌==◌, List, [], ◌∷◌, Option}
use Rattle.std.specs.Prelude.{Some, None, option_map, slice_get, slice_index, if◌then◌else◌}
use Rattle.gw_model.specs.declared.poll.Poll.{Poll}
use Rattle.gw_map.specs.Settings.{Setup}
use Rattle.dnp_app.specs.Response.{Fragment, is_unsolicited}
use Rattle.dnp_master.specs.Master.{is_late}
use Rattle.dnp_master.specs.Fragments.{control_in, is_begun_rightly, is_last}
use Rattle.gw_steps.specs.declared.step.Step.{Step}
use Rattle.gw_steps.specs.declared.step.Step.TheVariants as steps
use Rattle.gw_steps.specs.declared.step.Reply.{Reply}
use Rattle.gw_steps.specs.declared.step.Reply.TheVariants as replies
use Rattle.gw_steps.specs.State.{later}
use Rattle.gw_steps.specs.Steps.{moment_of}
use Rattle.gw_steps.specs.Runs.{Entry, unless_fault}

-- ---- moments

-- the largest moment that a step without a fault brought
abbrev pub moment_after : List Entry → ℕ
moment_after [] = 0
moment_after (e ∷ past) =
    let so_far = moment_after past in unless_fault so_far (λ reply. later so_far (moment_of e.step)) e.reply

-- ---- unsolicited responses

-- what the last accepted unsolicited octets of an outstation are after a step without a fault: an unsolicited
-- response is taken, or is the last one again
abbrev pub last_after : ℕ → Option (List ℕ) → Step → Option (List ℕ)
last_after o last (steps.OutstationUp p moment) = if p == o then None else last
last_after o last (steps.OutstationDown p moment) = if p == o then None else last
last_after o last (steps.Fragment f moment) =
    if (f.outstation == o) && is_unsolicited f then Some f.octets else last
last_after o last _ = last

-- the octets of the last accepted unsolicited response since the outstation came up
abbrev pub last_text : ℕ → List Entry → Option (List ℕ)
last_text o [] = None
last_text o (e ∷ past) = let last = last_text o past in unless_fault last (λ reply. last_after o last e.step) e.reply

-- an unsolicited response that is the last accepted one again
abbrev pub is_repeated : List Entry → Fragment → Bool
is_repeated past f = is_unsolicited f && is_last (last_text f.outstation past) f.octets

-- ---- requests and their answers

-- a request that awaits its answer: its sequence number, how many fragments of the answer were accepted, and when it
-- was given or the last of these came
pub record AskedRequest : Type 0 where
  pub sequence : ℕ
  pub fragments : ℕ
  pub since : ℕ

-- the sequence number is the next one, and FIR is set in the first fragment alone
abbrev pub is_in_sequence : AskedRequest → Fragment → Bool
is_in_sequence a f = (control_in f).sequence == (a.sequence + a.fragments) % 16

abbrev pub is_in_place : AskedRequest → Fragment → Bool
is_in_place a f = is_begun_rightly (not (a.fragments == 0)) (control_in f).fir

abbrev pub is_answer : Option AskedRequest → Fragment → Bool
is_answer None f = false
is_answer (Some a) f = is_in_sequence a f && is_in_place a f

-- one fragment more came at a moment; FIN ends the answer
abbrev pub asked_with : ℕ → Fragment → Option AskedRequest → Option AskedRequest
asked_with moment f None = None
asked_with moment f (Some a) =
    if (control_in f).fin then None else Some (record a { fragments = a.fragments + 1; since = moment })

-- what awaits its answer at a moment, of an outstation that is polled so: no request that is late
abbrev pub asked_at : ℕ → Option Poll → Option AskedRequest → Option AskedRequest
asked_at moment (Some poll) (Some a) = if is_late moment poll a.since then None else Some a
asked_at moment poll asked = asked

-- how an outstation is polled
abbrev pub poll_at : Setup → ℕ → Option Poll
poll_at setup o = option_map (λ outstation. outstation.poll) (slice_get setup.outstations o)

-- what awaits after a step without a fault, made at a moment: a connection begins and ends with nothing that awaits
abbrev pub asked_after : Setup → ℕ → ℕ → Step → Reply → Option AskedRequest → Option AskedRequest
asked_after setup o moment (steps.OutstationUp p _) reply asked = if p == o then None else asked
asked_after setup o moment (steps.OutstationDown p _) reply asked = if p == o then None else asked
asked_after setup o moment (steps.Poll p _ wall) (replies.Request request) asked =
    if p == o then Some (record { sequence = slice_index request.octets 0 % 16; fragments = 0; since = moment })
    else asked
asked_after setup o moment (steps.Fragment f _) reply asked =
    if (f.outstation == o) && (not (is_unsolicited f) && is_answer asked f) then asked_with moment f asked else asked
asked_after setup o moment (steps.Tick _) reply asked = asked_at moment (poll_at setup o) asked
asked_after setup o moment _ reply asked = asked

-- the request of an outstation that awaits its answer
abbrev pub asked_of : Setup → ℕ → List Entry → Option AskedRequest
asked_of setup o [] = None
asked_of setup o (e ∷ past) =
    let asked = asked_of setup o past in
    unless_fault asked
    (λ reply. asked_after setup o (later (moment_after past) (moment_of e.step)) e.step reply asked) e.reply

-- ---- accepted

-- an unsolicited response that isn't the last one again, or the next fragment of the answer that is awaited
abbrev pub is_accepted : Setup → List Entry → Fragment → Bool
is_accepted setup past f =
    if is_unsolicited f then not (is_last (last_text f.outstation past) f.octets)
    else is_answer (asked_of setup f.outstation past) f
