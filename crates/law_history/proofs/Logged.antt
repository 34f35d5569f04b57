-- The pictures of a life are those of the log, and show the rows of the settings.
use Rattle.std.proofs.Common.{◌≡◌, ℕ, Bool, true, false, List, [], ◌∷◌, ◌++◌}
use Rattle.std.proofs.Common.{Option, Some, None, Result, Ok, Err, refl, sym, subst}
use Rattle.std.specs.Prelude.{◌==◌, if◌then◌else◌}
use Rattle.std.proofs.lemmas.List.{append-nil}
use Rattle.gw_model.specs.declared.observation.Observation.{Observation}
use Rattle.gw_map.specs.Settings.{Setup, station_clocks}
use Rattle.gw_picture.specs.Log.{picture_of}
use Rattle.gw_picture.specs.Shown.{ShowsRows}
use Rattle.iec_apci.specs.declared.apdu.Apdu.{Apdu}
use Rattle.iec_command.specs.declared.command.Command.{Command}
use Rattle.gw_control.specs.declared.answer.Outcome.{Outcome}
use Rattle.gw_station.specs.declared.event.Said.{Said}
use Rattle.gw_steps.specs.declared.step.Step.{Step}
use Rattle.gw_steps.specs.declared.step.Step.TheVariants as steps
use Rattle.gw_steps.specs.declared.step.Reply.{Reply}
use Rattle.gw_steps.specs.declared.step.Reply.TheVariants as replies
use Rattle.gw_steps.specs.declared.step.StepFault.{StepFault}
use Rattle.gw_steps.specs.Runs.{Entry, AtEach}
use Rattle.gw_steps.specs.Said.{ApduMeaning, said}
use Rattle.gw_steps.proofs.Running.{entry, last_place, at_each}
use Rattle.law_history.specs.Log.{log_of}
use Rattle.law_history.specs.Life.{Turn, Idle, bringing, Takes, PutsOut, Ends, puts_out, turn_taking, turn_giving}
use Rattle.law_history.specs.Life.{is_closed_in, nothing_new, outcomes_for, outcomes_in, said_in, turn_of, lived, life}
use Rattle.gw_steps.specs.Premises.{IsSoundRun}
use Rattle.law_history.proofs.Places.{Place, places}

-- a picture is that of a log, and shows each row by its type
pub record IsPictureOf (setup : Setup) (log picture : List Observation) : Type 0 where
  pub same : picture ≡ picture_of setup.rows log
  pub rows : ShowsRows setup.rows picture

-- a log that grew by a life's news, with its pictures on the way
abbrev pub IsLogged : Setup → List Observation → List Turn → Type 0
IsLogged setup log [] = Unit {0}
IsLogged setup log (Idle brought ∷ ts) = (before : List Observation) × (log ≡ before ++ brought.news)
    × IsLogged setup before ts
IsLogged setup log (Takes a taking ∷ ts) = IsPictureOf setup log taking.picture × IsLogged setup log ts
IsLogged setup log (PutsOut said ∷ ts) = IsLogged setup log ts
IsLogged setup log (Ends ∷ ts) = IsLogged setup log ts

-- a turn that brings no news; it may bring outcomes
abbrev IsQuiet : Setup → List Observation → Turn → Type 0
IsQuiet setup log t = (ts : List Turn) → IsLogged setup log ts → IsLogged setup log (t ∷ ts)

idle : (setup : Setup) (log : List Observation) (outcomes : List Outcome) → IsQuiet setup log (bringing [] outcomes)
idle setup log outcomes ts logged = (log, sym (append-nil log), logged)

taking : (setup : Setup) (log : List Observation) (a : Apdu) (said : Command → Said) (r : Reply)
    → ShowsRows setup.rows (picture_of setup.rows log)
    → IsQuiet setup log (turn_taking a (picture_of setup.rows log) said r)
taking setup log a said replies.Done shows ts logged = (record { same = refl; rows = shows }, logged)
taking setup log a said (replies.Verdict v) shows ts logged = (record { same = refl; rows = shows }, logged)
taking setup log a said (replies.Request x) shows ts logged = (record { same = refl; rows = shows }, logged)
taking setup log a said (replies.Apdu x) shows ts logged = (record { same = refl; rows = shows }, logged)
taking setup log a said replies.Taken shows ts logged = (record { same = refl; rows = shows }, logged)
taking setup log a said (replies.Closed why) shows ts logged = logged
taking setup log a said replies.Nothing shows ts logged = (record { same = refl; rows = shows }, logged)
taking setup log a said (replies.Ticked bits) shows ts logged = (record { same = refl; rows = shows }, logged)

putting : (setup : Setup) (log : List Observation) (x : Option ApduMeaning) → IsQuiet setup log (puts_out x)
putting setup log None = idle setup log []
putting setup log (Some x) = λ ts logged. logged

giving : (setup : Setup) (log : List Observation) (r : Reply) → IsQuiet setup log (turn_giving setup r)
giving setup log replies.Done = idle setup log []
giving setup log (replies.Verdict v) = idle setup log []
giving setup log (replies.Request x) = idle setup log []
giving setup log (replies.Apdu x) = putting setup log (said (station_clocks setup.station) x)
giving setup log replies.Taken = idle setup log []
giving setup log (replies.Closed why) = idle setup log []
giving setup log replies.Nothing = idle setup log []
giving setup log (replies.Ticked bits) = idle setup log []

-- one turn more, where the log stays
quiet : (setup : Setup) (log : List Observation) (ts : List Turn) (here : Bool) (t : Turn) (outcomes : List Outcome)
    → IsQuiet setup log t → IsLogged setup log ts
    → IsLogged setup (log ++ []) ((if here then t else bringing [] outcomes) ∷ ts)
quiet setup log ts true t outcomes is logged = subst (λ (l : List Observation). IsLogged setup l (t ∷ ts))
    (sym (append-nil log)) (is ts logged)
quiet setup log ts false t outcomes is logged = subst (λ (l : List Observation).
    IsLogged setup l (bringing [] outcomes ∷ ts)) (sym (append-nil log)) (idle setup log outcomes ts logged)

begins : (setup : Setup) (log : List Observation) (ts : List Turn) (here : Bool) → IsLogged setup log ts
    → IsLogged setup (log ++ []) (lived (if here then None else Some nothing_new) ts)
begins setup log ts true logged = tt
begins setup log ts false logged = (log, refl, logged)

-- the picture after a history shows each row by its type
abbrev ShowsLog : Setup → List Entry → Type 0
ShowsLog setup past = ShowsRows setup.rows (picture_of setup.rows (log_of setup past))

logged_more : (setup : Setup) (c : ℕ) (past : List Entry) (e : Entry) (ts : List Turn) → ShowsLog setup past
    → IsLogged setup (log_of setup past) ts
    → IsLogged setup (log_of setup (e ∷ past)) (lived (turn_of setup c past e) ts)
logged_more setup c past e ts shows logged = by e.step e.reply
  where
    log : List Observation
    log = log_of setup past

    by : (step : Step) (reply : Result Reply StepFault) → IsLogged setup (log_of setup (entry step reply ∷ past))
        (lived (turn_of setup c past (entry step reply)) ts)
    by step (Err f) = (log, refl, logged)
    by (steps.OutstationUp o m) (Ok r) = (log, refl, logged)
    by (steps.OutstationDown o m) (Ok r) = (log, refl, logged)
    by (steps.Fragment f m) (Ok r) = (log, refl, logged)
    by (steps.Poll o m wall) (Ok r) = (log, refl, logged)
    by (steps.ClientUp d m) (Ok r) = begins setup log ts (d == c) logged
    by (steps.ClientDown d m) (Ok r) = quiet setup log ts (d == c) Ends [] (λ us is. is) logged
    by (steps.Frame d a m) (Ok r) =
        let said : Command → Said = said_in setup c past m in
        quiet setup log ts (d == c) (turn_taking a (picture_of setup.rows log) said r) [] (taking setup log a said r shows)
        logged
    by (steps.Pump d m) (Ok r) = quiet setup log ts (d == c) (turn_giving setup r) [] (giving setup log r) logged
    by (steps.Tick m) (Ok r) =
        quiet setup log ts (is_closed_in c r) Ends (outcomes_for c (outcomes_in setup past (steps.Tick m)))
        (λ us is. is) logged

from_each : (setup : Setup) (c : ℕ) (past : List Entry) → AtEach (ShowsLog setup) past
    → IsLogged setup (log_of setup past) (life setup c past)
from_each setup c [] at = tt
from_each setup c (e ∷ past) at = logged_more setup c past e (life setup c past)
    (last_place (ShowsLog setup) past at.1) (from_each setup c past at.1)

pub logged : (setup : Setup) (c : ℕ) (past : List Entry) → IsSoundRun setup past
    → IsLogged setup (log_of setup past) (life setup c past)
logged setup c past run = from_each setup c past (at_each (Place setup) (ShowsLog setup) (λ past place.
    subst (ShowsRows setup.rows) place.known.tied.picture place.known.sound.rows) past (places setup past run))
