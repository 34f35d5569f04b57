-- The answer to an interrogation is the one that is due, row by row.
use Rattle.std.proofs.Common.{◌≡◌, ℕ, Bool, true, false, cond, ◌&&◌, ◌==◌, List, [], ◌∷◌}
use Rattle.std.proofs.Common.{◌++◌, length, map, Option, Some, None, refl, ap, ap₂, subst, inl, inr}
use Rattle.std.specs.Prelude.{not, option_map, filter, zip, flat_map, IfSome}
use Rattle.std.proofs.lemmas.Bool.{and_parts, cases_Bool}
use Rattle.gw_model.specs.declared.observation.Value.{Value}
use Rattle.gw_model.specs.declared.observation.Value.TheVariants as values
use Rattle.gw_model.specs.declared.observation.Observation.{Observation}
use Rattle.gw_model.specs.declared.point.ObjectKey.{ObjectKey}
use Rattle.gw_model.specs.Values.{is_total}
use Rattle.gw_entries.specs.declared.row.Row.{Row}
use Rattle.gw_entries.specs.declared.row.Show.{Show}
use Rattle.gw_entries.specs.declared.row.Show.TheVariants as shows
use Rattle.gw_map.specs.Settings.{Setup}
use Rattle.gw_picture.specs.Shown.{is_value_of, ShowsRow, ShowsRows}
use Rattle.iec_apci.specs.declared.apdu.Apdu.{Apdu}
use Rattle.iec_apci.specs.declared.apdu.Apdu.TheVariants.{I, S, U}
use Rattle.iec_apci.specs.declared.apdu.Signal.TheVariants as signals
use Rattle.iec_command.specs.declared.command.Command.{Command}
use Rattle.iec_command.specs.declared.command.Action.{Action}
use Rattle.iec_command.specs.declared.command.Action.TheVariants as actions
use Rattle.gw_judge.specs.declared.judging.Judged.{Judged}
use Rattle.gw_judge.specs.declared.judging.Judged.TheVariants.{Malformed, Refuse, Accepted}
use Rattle.gw_answers.specs.declared.outgoing.OwnAsdu.{OwnAsdu}
use Rattle.gw_answers.specs.Interrogations.{is_general, is_accepted_act, is_asked_by, cause_for, rows_under, answer_under}
use Rattle.gw_station.specs.Frames.{judged_asdu}
use Rattle.gw_steps.specs.Runs.{Entry}
use Rattle.gw_steps.specs.Said.{ApduMeaning, IFormat, SFormat, UFormat}
use Rattle.law_history.specs.Log.{log_of}
use Rattle.law_history.specs.Life.{Taking, Turn, Idle, Takes, PutsOut, Ends, session_with, session, turns_in, life}
use Rattle.law_history.proofs.Logged.{IsLogged, logged}
use Rattle.law_history.proofs.Places.{Place, of_each}
use Rattle.law_clients.specs.Fates.{fates}
use Rattle.law_clients.specs.Interrogations.{Interrogation, is_pending, answer_told, interrogation_telling}
use Rattle.law_clients.specs.Interrogations.{begun, interrogation, shows_total, is_due, rows_due, cause_due}
use Rattle.law_clients.specs.Interrogations.{section_due, answer_due, IsAnsweredInOrder, Interrogations}
use Rattle.law_clients.proofs.Line.{IsToldInOrder, told_in_order}

-- ---- rows

-- a row shows a total where its value is one
shown_total : (show : Show) (value : Value) → is_value_of show value ≡ true → is_total value ≡ shows_total show
shown_total shows.Single (values.Single on) is = refl
shown_total shows.Double (values.Double state) is = refl
shown_total shows.Scaled (values.Scaled number) is = refl
shown_total shows.Word (values.Word word) is = refl
shown_total shows.Total (values.Total count) is = refl
shown_total _ _ is = absurd cc

-- the code's test by values is that by rows
same_asked : (action : Action) (row : Row) (x : Observation) → is_general action ≡ true → ShowsRow row x
    → is_asked_by action x ≡ is_due action row.show
same_asked (actions.CounterInterrogation qualifier) row x general shows =
    rw general (shown_total row.show x.value shows.value)
same_asked (actions.Interrogation qualifier) row x general shows =
    rw general (ap not (shown_total row.show x.value shows.value))
same_asked (actions.Single x) row y general shows = absurd cc
same_asked (actions.Double x) row y general shows = absurd cc
same_asked (actions.Setpoint x) row y general shows = absurd cc
same_asked actions.Read row x general shows = absurd cc

same_rows : (action : Action) (rows : List Row) (picture : List Observation) (common : ℕ) → is_general action ≡ true
    → ShowsRows rows picture → rows_under action picture common ≡ rows_due action rows picture common
same_rows action [] [] common general shows = refl
same_rows action [] (x ∷ picture) common general shows = absurd shows
same_rows action (row ∷ rows) [] common general shows = absurd shows
same_rows action (row ∷ rows) (x ∷ picture) common general shows =
    rw same_test
    (by (row.common_address == common && is_due action row.show)
    (same_rows action rows picture common general shows.1))
  where
    same_test : (x.common == common && is_asked_by action x)
        ≡ (row.common_address == common && is_due action row.show)
    same_test = ap₂ (λ (here asked : Bool). here && asked)
        (ap (λ (object : ObjectKey). object.common_address == common) shows.0.object)
        (same_asked action row x general shows.0)

    others : List (Row × Observation)
    others = filter (λ (shown : Row × Observation).
        shown.0.common_address == common && is_due action shown.0.show) (zip rows picture)

    by : (due : Bool) → rows_under action picture common ≡ rows_due action rows picture common
        → cond due (x ∷ rows_under action picture common) (rows_under action picture common)
        ≡ map (λ (shown : Row × Observation). shown.1) (cond due ((row, x) ∷ others) others)
    by true rest = ap (λ (xs : List Observation). x ∷ xs) rest
    by false rest = rest

-- ---- answers

same_cause : (action : Action) → cause_for action ≡ cause_due action
same_cause (actions.CounterInterrogation qualifier) = refl
same_cause _ = refl

same_section : (rows : List Row) (c : Command) (picture : List Observation) (common : ℕ)
    → is_general c.action ≡ true → ShowsRows rows picture
    → answer_under c picture common ≡ section_due rows c picture common
same_section rows c picture common general shows =
    rw (same_cause c.action, same_rows c.action rows picture common general shows) refl

same_sections : (rows : List Row) (c : Command) (picture : List Observation) (asked : List ℕ)
    → is_general c.action ≡ true → ShowsRows rows picture
    → flat_map (answer_under c picture) asked ≡ flat_map (section_due rows c picture) asked
same_sections rows c picture [] general shows = refl
same_sections rows c picture (common ∷ asked) general shows =
    ap₂ (λ (parts more : List OwnAsdu). parts ++ more) (same_section rows c picture common general shows)
    (same_sections rows c picture asked general shows)

-- ---- the interrogation of a session

-- it is a general one, and its picture shows the rows of the settings
record IsAsked (setup : Setup) (q : Interrogation) : Type 0 where
  general : is_general q.command.action ≡ true
  rows : ShowsRows setup.rows q.rows

same_answer : (setup : Setup) (q : Interrogation) → IsAsked setup q → answer_told q ≡ answer_due setup.rows q
same_answer setup q is = same_sections setup.rows q.command q.rows q.asked is.general is.rows

accepted_general : (pending : Bool) (c : Command) → is_accepted_act pending c ≡ true → is_general c.action ≡ true
accepted_general pending c accepted =
    let one = and_parts (c.cause == 6 && is_general c.action) (not pending) accepted in
    (and_parts (c.cause == 6) (is_general c.action) one.0).1

abbrev SessionAsks : Setup → Option (List Turn) → Type 0
SessionAsks setup s = IfSome (interrogation setup (turns_in s)) (IsAsked setup)

asks_begun : (setup : Setup) (since : ℕ) (picture : List Observation) (j : Judged) (q : Option Interrogation)
    → ShowsRows setup.rows picture → IfSome q (IsAsked setup)
    → IfSome (begun setup since picture j q) (IsAsked setup)
asks_begun setup since picture Malformed q shows is = is
asks_begun setup since picture (Refuse cause execute) q shows is = is
asks_begun setup since picture (Accepted command) q shows is =
    elim (cases_Bool (is_accepted_act (is_pending q) command)) [
      | inl accepted ↦
          rw accepted (record { general = accepted_general (is_pending q) command accepted; rows = shows })
      | inr other ↦ rw other is
    ]

asks_telling : (setup : Setup) (said : ApduMeaning) (hs : List Turn) → SessionAsks setup (Some hs)
    → SessionAsks setup (Some (PutsOut said ∷ hs))
asks_telling setup (SFormat nr) hs is = is
asks_telling setup (UFormat signal) hs is = is
asks_telling setup (IFormat ns nr meant) hs is = by (interrogation setup hs) is
  where
    by : (q : Option Interrogation) → IfSome q (IsAsked setup)
        → IfSome (option_map (interrogation_telling meant) q) (IsAsked setup)
    by None is = tt
    by (Some q) is = record { general = is.general; rows = is.rows }

asks_taking : (setup : Setup) (a : Apdu) (taking : Taking) (s : Option (List Turn)) → ShowsRows setup.rows taking.picture
    → SessionAsks setup s → SessionAsks setup (session_with (Takes a taking) s)
asks_taking setup (I ns nr asdu) taking None shows is = tt
asks_taking setup (I ns nr asdu) taking (Some hs) shows is = asks_begun setup (length (fates setup.station hs))
    taking.picture (judged_asdu setup asdu) (interrogation setup hs) shows is
asks_taking setup (U signals.StopAct) taking s shows is = tt
asks_taking setup (U signals.StartAct) taking None shows is = tt
asks_taking setup (U signals.StartCon) taking None shows is = tt
asks_taking setup (U signals.StopCon) taking None shows is = tt
asks_taking setup (U signals.TestAct) taking None shows is = tt
asks_taking setup (U signals.TestCon) taking None shows is = tt
asks_taking setup (U signals.StartAct) taking (Some hs) shows is = is
asks_taking setup (U signals.StartCon) taking (Some hs) shows is = is
asks_taking setup (U signals.StopCon) taking (Some hs) shows is = is
asks_taking setup (U signals.TestAct) taking (Some hs) shows is = is
asks_taking setup (U signals.TestCon) taking (Some hs) shows is = is
asks_taking setup (S nr) taking None shows is = tt
asks_taking setup (S nr) taking (Some hs) shows is = is

asks : (setup : Setup) (log : List Observation) (ts : List Turn) → IsLogged setup log ts
    → SessionAsks setup (session ts)
asks setup log [] logged = tt
asks setup log (Idle brought ∷ ts) logged = by (session ts) (asks setup logged.0 ts logged.2)
  where
    by : (s : Option (List Turn)) → SessionAsks setup s → SessionAsks setup (session_with (Idle brought) s)
    by None is = tt
    by (Some hs) is = is
asks setup log (Takes a taking ∷ ts) logged =
    asks_taking setup a taking (session ts) logged.0.rows (asks setup log ts logged.1)
asks setup log (PutsOut said ∷ ts) logged = by (session ts) (asks setup log ts logged)
  where
    by : (s : Option (List Turn)) → SessionAsks setup s → SessionAsks setup (session_with (PutsOut said) s)
    by None is = tt
    by (Some hs) is = asks_telling setup said hs is
asks setup log (Ends ∷ ts) logged = tt

-- ---- the law

answers : (setup : Setup) (q : Option Interrogation) → IfSome q IsToldInOrder → IfSome q (IsAsked setup)
    → IfSome q (λ i. IsAnsweredInOrder (answer_due setup.rows i) i)
answers setup None told is = tt
answers setup (Some q) told is = subst (λ (answer : List OwnAsdu). IsAnsweredInOrder answer q)
    (same_answer setup q is) told

pub answers_interrogations : (setup : Setup) (past : List Entry) → Place setup past → Interrogations setup past
answers_interrogations setup past place c within =
    let ts : List Turn = life setup c past in
    answers setup (interrogation setup (turns_in (session ts)))
    (of_each setup (λ (ts : List Turn). IfSome (interrogation setup (turns_in (session ts))) IsToldInOrder)
    (told_in_order setup place.given.settings.queue) past place c within)
    (asks setup (log_of setup past) ts (logged setup c past place.given))
