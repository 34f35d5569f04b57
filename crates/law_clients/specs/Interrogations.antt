-- Interrogations (IEC 60870-5-101, 7.4.5 and 7.4.8): what was put out of the answer to the interrogation of a session
-- is the front of it, and all of it once its last termination is out: for each common address that it asks the
-- confirmation, of its rows those that show totals (counter interrogation) or all others (station interrogation), each as
-- the picture showed it at the act, in the order of the rows, and the termination.
use Rattle.std.specs.Prelude.{◌≡◌, ℕ, ◌==◌, Bool, true, false, not, nat_lt, ◌&&◌, ◌||◌, List, [], ◌∷◌, ◌++◌}
use Rattle.std.specs.Prelude.{length, map, filter, zip, flat_map, Option, Some, None, option_map, IfSome, if◌then◌else◌}
use Rattle.gw_model.specs.declared.observation.Observation.{Observation}
use Rattle.gw_entries.specs.declared.row.Row.{Row}
use Rattle.gw_entries.specs.declared.row.Show.{Show}
use Rattle.gw_entries.specs.declared.row.Show.TheVariants as shows
use Rattle.gw_map.specs.Settings.{Setup}
use Rattle.iec_apci.specs.declared.apdu.Apdu.TheVariants.{I}
use Rattle.iec_command.specs.declared.command.Command.{Command}
use Rattle.iec_command.specs.declared.command.Action.{Action}
use Rattle.iec_command.specs.declared.command.Action.TheVariants as actions
use Rattle.gw_judge.specs.declared.judging.Judged.{Judged}
use Rattle.gw_judge.specs.declared.judging.Judged.TheVariants.{Accepted}
use Rattle.gw_answers.specs.declared.outgoing.OwnAsdu.{OwnAsdu}
use Rattle.gw_answers.specs.declared.outgoing.OwnAsdu.TheVariants as outgoing
use Rattle.gw_answers.specs.Interrogations.{asked_addresses, is_accepted_act, answer_to}
use Rattle.gw_answers.specs.Meaning.{Meant, Tells, Commands, Unread}
use Rattle.gw_station.specs.Frames.{judged_asdu}
use Rattle.gw_steps.specs.Runs.{Entry}
use Rattle.gw_steps.specs.Said.{IFormat}
use Rattle.law_history.specs.Life.{Turn, Takes, PutsOut, session, turns_in, OfEachLife}
use Rattle.law_clients.specs.Fates.{fates}

pub record Interrogation : Type 0 where
  -- the act, and the common addresses that it asks
  pub command : Command
  pub asked : List ℕ
  -- how many news of the session came before it, and what the picture showed
  pub since : ℕ
  pub rows : List Observation
  -- what was put out of its answer
  pub said : List OwnAsdu

-- ---- what is put out of an answer

abbrev pub is_interrogation : Action → Bool
is_interrogation (actions.Interrogation qualifier) = true
is_interrogation (actions.CounterInterrogation qualifier) = true
is_interrogation _ = false

-- the station's confirmation (7) or termination (10) of an interrogation, not negative
abbrev pub parts_of_command : Command → List OwnAsdu
parts_of_command c =
    if is_interrogation c.action && not c.negative && (c.cause == 7 || c.cause == 10)
    then outgoing.Command c ∷ [] else []

-- observations of cause 20 (interrogated by station interrogation) or 37 (requested by general counter request)
abbrev pub parts_in : Meant → List OwnAsdu
parts_in (Tells asdu) =
    if asdu.cause == 20 || asdu.cause == 37 then
    map (outgoing.Observation asdu.cause asdu.originator) asdu.observations
    else []
parts_in (Commands c) = parts_of_command c
parts_in (Unread octets) = []

abbrev pub is_termination : OwnAsdu → Bool
is_termination (outgoing.Command c) = c.cause == 10
is_termination (outgoing.Observation cause originator x) = false

-- it is pending until as many terminations are put out as it asks common addresses
abbrev pub is_pending : Option Interrogation → Bool
is_pending None = false
is_pending (Some q) = nat_lt (length (filter is_termination q.said)) (length q.asked)

-- ---- the answer that it gets

-- for each common address the confirmation, what the picture showed of what is asked, and the termination
abbrev pub answer_told : Interrogation → List OwnAsdu
answer_told q = answer_to q.asked q.command q.rows

-- ---- the interrogation of a session

-- an act that is accepted, which is one while none is pending, begins one: so many news of the session came before it,
-- and the picture showed this
abbrev pub interrogation_of : Setup → ℕ → List Observation → Command → Interrogation
interrogation_of setup since picture command = record {
  command = command;
  asked = asked_addresses setup command.common_address;
  since = since;
  rows = picture;
  said = [];
}

abbrev pub begun : Setup → ℕ → List Observation → Judged → Option Interrogation → Option Interrogation
begun setup since picture (Accepted command) q =
    if is_accepted_act (is_pending q) command then Some (interrogation_of setup since picture command) else q
begun setup since picture _ q = q

abbrev pub interrogation_telling : Meant → Interrogation → Interrogation
interrogation_telling meant q = record q { said = q.said ++ parts_in meant }

-- the last one of a session
abbrev pub interrogation : Setup → List Turn → Option Interrogation
interrogation setup [] = None
interrogation setup (Takes (I ns nr asdu) taking ∷ ts) =
    begun setup (length (fates setup.station ts)) taking.picture (judged_asdu setup asdu) (interrogation setup ts)
interrogation setup (PutsOut (IFormat ns nr meant) ∷ ts) =
    option_map (interrogation_telling meant) (interrogation setup ts)
interrogation setup (_ ∷ ts) = interrogation setup ts

-- ---- the answer that is due, apart from the code's words for it

abbrev pub shows_total : Show → Bool
shows_total shows.Total = true
shows_total _ = false

-- the rows that an action asks for, by what they show: the general request of counters (type 101, QCC 5) the totals, the
-- interrogation of the station (type 100, QOI 20) all others
abbrev pub is_due : Action → Show → Bool
is_due (actions.CounterInterrogation qualifier) show = qualifier == 5 && shows_total show
is_due (actions.Interrogation qualifier) show = qualifier == 20 && not (shows_total show)
is_due _ show = false

-- what a picture shows of those with a common address, in the order of the rows
abbrev pub rows_due : Action → List Row → List Observation → ℕ → List Observation
rows_due action rows picture common =
    map (λ (shown : Row × Observation). shown.1)
    (filter (λ (shown : Row × Observation). shown.0.common_address == common && is_due action shown.0.show)
    (zip rows picture))

-- they are told with cause 37 (requested by general counter request), or 20 (interrogated by station interrogation)
abbrev pub cause_due : Action → ℕ
cause_due (actions.CounterInterrogation qualifier) = 37
cause_due _ = 20

-- under a common address: the confirmation (7), these rows, and the termination (10)
abbrev pub part_due : Command → ℕ → ℕ → OwnAsdu
part_due c common cause =
    outgoing.Command (record c { cause = cause; negative = false; common_address = common })

abbrev pub section_due : List Row → Command → List Observation → ℕ → List OwnAsdu
section_due rows c picture common =
    part_due c common 7
    ∷ (map (outgoing.Observation (cause_due c.action) 0) (rows_due c.action rows picture common)
    ++ part_due c common 10 ∷ [])

abbrev pub answer_due : List Row → Interrogation → List OwnAsdu
answer_due rows q = flat_map (section_due rows q.command q.rows) q.asked

-- ---- the law

-- what was put out is the front of an answer, and all of it once the interrogation isn't pending
pub record IsAnsweredInOrder (answer : List OwnAsdu) (q : Interrogation) : Type 0 where
  pub rest : List OwnAsdu
  pub in_order : q.said ++ rest ≡ answer
  pub whole : is_pending (Some q) ≡ false → rest ≡ []

abbrev pub AnswersInterrogation : Setup → List Turn → Type 0
AnswersInterrogation setup ts =
    IfSome (interrogation setup (turns_in (session ts))) (λ q. IsAnsweredInOrder (answer_due setup.rows q) q)

abbrev pub Interrogations : Setup → List Entry → Type 0
Interrogations setup past = OfEachLife (AnswersInterrogation setup) setup past
