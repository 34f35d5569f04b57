-- What comes to clients in the turns of their lives, and what the picture shows in them, is under known common addresses.
use Rattle.std.specs.Prelude.{IfSome, IsTrue, slice_get}
use Rattle.std.specs.List.{AllByRecursion}
use Rattle.std.proofs.Common.{◌≡◌, ℕ, ◌+◌, Bool, true, false, cond, ◌==◌, List, [], ◌∷◌}
use Rattle.std.proofs.Common.{◌++◌, Option, Some, None, Result, Ok, Err, refl, ap, ◌∙◌}
use Rattle.gw_model.specs.Clocks.{Clocks}
use Rattle.gw_model.specs.Keys.{same_key}
use Rattle.gw_model.specs.declared.observation.Observation.{Observation}
use Rattle.gw_model.specs.declared.point.ObjectKey.{ObjectKey}
use Rattle.gw_model.specs.declared.point.PointKey.{PointKey}
use Rattle.gw_model.specs.declared.point.Report.{Report}
use Rattle.gw_entries.specs.declared.row.Row.{Row}
use Rattle.gw_map.specs.Settings.{Setup, is_known, row_from, row_object, station_clocks}
use Rattle.gw_translate.specs.Image.{image_of, is_news_of}
use Rattle.gw_picture.specs.Log.{picture_of}
use Rattle.gw_picture.specs.Loss.{is_lost_with, losses_of, losses_of_row, lost}
use Rattle.gw_picture.specs.Opening.{opening}
use Rattle.gw_picture.specs.Picture.{news_after, news_by_row, news_of_report}
use Rattle.gw_picture.proofs.Images.{image_object}
use Rattle.gw_picture.proofs.Logs.{shown_by, last_observation-object}
use Rattle.iec_apci.specs.declared.apdu.Apdu.{Apdu}
use Rattle.iec_command.specs.declared.command.Command.{Command}
use Rattle.gw_control.specs.declared.answer.Outcome.{Outcome}
use Rattle.gw_station.specs.declared.event.Said.{Said}
use Rattle.gw_station.proofs.All.{all-append}
use Rattle.gw_steps.specs.declared.step.Step.{Step}
use Rattle.gw_steps.specs.declared.step.Step.TheVariants as steps
use Rattle.gw_steps.specs.declared.step.Reply.{Reply}
use Rattle.gw_steps.specs.declared.step.Reply.TheVariants as replies
use Rattle.gw_steps.specs.declared.step.StepFault.{StepFault}
use Rattle.gw_steps.specs.Said.{ApduMeaning, said}
use Rattle.gw_steps.specs.Runs.{Entry, state_after}
use Rattle.law_history.specs.Accepted.{is_accepted}
use Rattle.law_history.specs.Log.{log_of, news_after_log, news_of_step}
use Rattle.law_history.specs.Life.{Turn, Idle, Takes, PutsOut, Ends, bringing, nothing_new}
use Rattle.law_history.specs.Life.{puts_out, turn_taking, turn_giving, is_closed_in, outcomes_in}
use Rattle.law_history.specs.Life.{outcomes_for, said_in, turn_with, turn_of, lived, life}
use Rattle.gw_steps.specs.Premises.{HasKnownRows}
use Rattle.law_history.proofs.Told.{filter_all}
use Rattle.law_clients.proofs.KnownCommands.{IsKnownObservation}
use Rattle.law_clients.proofs.KnownOrders.{IsKnownOutcome, orders_known, outcomes_known}

-- ---- pictures

abbrev IsKnownRow : Setup → Row → Type 0
IsKnownRow setup row = IsTrue (is_known setup row.common_address)

-- an observation of a row's object is under the row's common address
of_row : (setup : Setup) (row : Row) (x : Observation) → x.common ≡ row.common_address → IsKnownRow setup row
    → IsKnownObservation setup x
of_row setup row x same known = ap (is_known setup) same ∙ known

pub picture_known : (setup : Setup) (rows : List Row) (log : List Observation)
    → AllByRecursion (IsKnownRow setup) rows → AllByRecursion (IsKnownObservation setup) (picture_of rows log)
picture_known setup [] log all = tt
picture_known setup (row ∷ rows) log all =
    let object = last_observation-object (row_object row) (opening row) log refl in (
      of_row setup row (shown_by log row) (ap (λ (o : ObjectKey). o.common_address) object) all.0,
      picture_known setup rows log all.1,
    )

-- ---- losses

losses_known : (setup : Setup) (o : ℕ) (rows : List Row) (picture : List Observation)
    → AllByRecursion (IsKnownObservation setup) picture → AllByRecursion (IsKnownObservation setup) (losses_of o rows picture)
losses_known setup o [] picture all = tt
losses_known setup o (row ∷ rows) [] all = tt
losses_known setup o (row ∷ rows) (x ∷ picture) all =
    all-append (IsKnownObservation setup) (losses_of_row o row x) (losses_of o rows picture) (one (is_lost_with o row x))
    (losses_known setup o rows picture all.1)
  where
    one : (b : Bool) → AllByRecursion (IsKnownObservation setup) (cond b (lost x ∷ []) [])
    one true = (all.0, tt)
    one false = tt

-- ---- news

-- the row for a point is one of the rows
found_row : (setup : Setup) (n : ℕ) (key : PointKey) (rows : List Row) → AllByRecursion (IsKnownRow setup) rows
    → IfSome (row_from n key rows) (λ found. IsKnownRow setup found.1)
found_row setup n key [] all = tt
found_row setup n key (row ∷ rows) all = by (same_key row.key key) (found_row setup (n + 1) key rows all.1)
  where
    by : (b : Bool) → IfSome (row_from (n + 1) key rows) (λ found. IsKnownRow setup found.1)
        → IfSome (cond b (Some (n, row)) (row_from (n + 1) key rows)) (λ found. IsKnownRow setup found.1)
    by true others = all.0
    by false others = others

image_known : (setup : Setup) (clocks : Clocks) (row : Row) (r : Report) → IsKnownRow setup row
    → IsKnownObservation setup (image_of clocks row r)
image_known setup clocks row r known = of_row setup row (image_of clocks row r)
    (ap (λ (o : ObjectKey). o.common_address) (image_object clocks row r)) known

news_known : (setup : Setup) (r : Report) (shown : Option Observation) (image : Observation) → IsKnownObservation setup image
    → AllByRecursion (IsKnownObservation setup) (news_after r shown image)
news_known setup r None image is = tt
news_known setup r (Some before) image is = by (is_news_of r before image)
  where
    by : (b : Bool) → AllByRecursion (IsKnownObservation setup) (cond b (image ∷ []) [])
    by true = (is, tt)
    by false = tt

report_known : (setup : Setup) (picture : List Observation) (r : Report) (found : Option (ℕ × Row))
    → IfSome found (λ (x : ℕ × Row). IsKnownRow setup x.1)
    → AllByRecursion (IsKnownObservation setup) (news_by_row (station_clocks setup.station) picture r found)
report_known setup picture r None known = tt
report_known setup picture r (Some found) known =
    news_known setup r (slice_get picture found.0) (image_of (station_clocks setup.station) found.1 r)
    (image_known setup (station_clocks setup.station) found.1 r known)

reports_known : (setup : Setup) (log : List Observation) (rs : List Report) → HasKnownRows setup
    → AllByRecursion (IsKnownObservation setup) (news_after_log setup log rs)
reports_known setup log [] known = tt
reports_known setup log (r ∷ rs) known =
    let xs : List Observation =
    news_of_report (station_clocks setup.station) setup.rows (picture_of setup.rows log) r in
    all-append (IsKnownObservation setup) xs (news_after_log setup (log ++ xs) rs)
    (report_known setup (picture_of setup.rows log) r (row_from 0 r.key setup.rows)
    (found_row setup 0 r.key setup.rows known)) (reports_known setup (log ++ xs) rs known)

step_known : (setup : Setup) (log : List Observation) (past : List Entry) (step : Step) → HasKnownRows setup
    → AllByRecursion (IsKnownObservation setup) (news_of_step setup log past step)
step_known setup log past (steps.OutstationDown o m) known =
    losses_known setup o setup.rows (picture_of setup.rows log) (picture_known setup setup.rows log known)
step_known setup log past (steps.Fragment f m) known = by (is_accepted setup past f)
  where
    by : (b : Bool) → AllByRecursion (IsKnownObservation setup) (cond b (news_after_log setup log f.reports) [])
    by true = reports_known setup log f.reports known
    by false = tt
step_known setup log past (steps.OutstationUp o m) known = tt
step_known setup log past (steps.Poll o m wall) known = tt
step_known setup log past (steps.ClientUp c m) known = tt
step_known setup log past (steps.ClientDown c m) known = tt
step_known setup log past (steps.Frame c apdu m) known = tt
step_known setup log past (steps.Pump c m) known = tt
step_known setup log past (steps.Tick m) known = tt

-- ---- turns

-- news and outcomes that it brings are under known common addresses, and so is what the picture shows
abbrev pub IsKnownTurn : Setup → Turn → Type 0
IsKnownTurn setup (Idle brought) =
    AllByRecursion (IsKnownObservation setup) brought.news × AllByRecursion (IsKnownOutcome setup) brought.outcomes
IsKnownTurn setup (Takes a taking) = AllByRecursion (IsKnownObservation setup) taking.picture
IsKnownTurn setup (PutsOut said) = Unit {0}
IsKnownTurn setup Ends = Unit {0}

own_outcomes : (setup : Setup) (c : ℕ) (past : List Entry) (step : Step)
    → AllByRecursion (IsKnownOutcome setup) (outcomes_for c (outcomes_in setup past step))
own_outcomes setup c past step =
    filter_all (IsKnownOutcome setup) (λ (x : Outcome). x.client == c) (outcomes_in setup past step)
    (outcomes_known setup (state_after setup past) step (orders_known setup past))

brought_known : (setup : Setup) (c : ℕ) (past : List Entry) (step : Step) → HasKnownRows setup
    → IsKnownTurn setup
    (bringing (news_of_step setup (log_of setup past) past step) (outcomes_for c (outcomes_in setup past step)))
brought_known setup c past step known =
    (step_known setup (log_of setup past) past step known, own_outcomes setup c past step)

taking_known : (setup : Setup) (apdu : Apdu) (picture : List Observation) (said : Command → Said) (r : Reply)
    → AllByRecursion (IsKnownObservation setup) picture → IsKnownTurn setup (turn_taking apdu picture said r)
taking_known setup apdu picture said (replies.Closed why) all = tt
taking_known setup apdu picture said replies.Done all = all
taking_known setup apdu picture said (replies.Verdict verdict) all = all
taking_known setup apdu picture said (replies.Request request) all = all
taking_known setup apdu picture said (replies.Apdu given) all = all
taking_known setup apdu picture said replies.Taken all = all
taking_known setup apdu picture said replies.Nothing all = all
taking_known setup apdu picture said (replies.Ticked closed) all = all

put_out_known : (setup : Setup) (x : Option ApduMeaning) → IsKnownTurn setup (puts_out x)
put_out_known setup None = (tt, tt)
put_out_known setup (Some x) = tt

giving_known : (setup : Setup) (r : Reply) → IsKnownTurn setup (turn_giving setup r)
giving_known setup (replies.Apdu given) = put_out_known setup (said (station_clocks setup.station) given)
giving_known setup replies.Done = (tt, tt)
giving_known setup (replies.Verdict verdict) = (tt, tt)
giving_known setup (replies.Request request) = (tt, tt)
giving_known setup replies.Taken = (tt, tt)
giving_known setup (replies.Closed why) = (tt, tt)
giving_known setup replies.Nothing = (tt, tt)
giving_known setup (replies.Ticked closed) = (tt, tt)

-- one of two turns
either : (setup : Setup) (b : Bool) (t u : Turn) → IsKnownTurn setup t → IsKnownTurn setup u
    → IsKnownTurn setup (cond b t u)
either setup true t u one other = one
either setup false t u one other = other

up_known : (setup : Setup) (b : Bool) → IfSome (cond b None (Some nothing_new)) (IsKnownTurn setup)
up_known setup true = tt
up_known setup false = (tt, tt)

turn_known : (setup : Setup) (c : ℕ) (past : List Entry) (step : Step) (r : Reply) → HasKnownRows setup
    → IfSome (turn_with setup c past step r) (IsKnownTurn setup)
turn_known setup c past (steps.ClientUp d m) r known = up_known setup (d == c)
turn_known setup c past (steps.ClientDown d m) r known = either setup (d == c) Ends nothing_new tt (tt, tt)
turn_known setup c past (steps.Frame d apdu m) r known =
    let picture : List Observation = picture_of setup.rows (log_of setup past) in
    either setup (d == c) (turn_taking apdu picture (said_in setup c past m) r) nothing_new
    (taking_known setup apdu picture (said_in setup c past m) r
    (picture_known setup setup.rows (log_of setup past) known)) (tt, tt)
turn_known setup c past (steps.Pump d m) r known =
    either setup (d == c) (turn_giving setup r) nothing_new (giving_known setup r) (tt, tt)
turn_known setup c past (steps.Tick m) r known =
    either setup (is_closed_in c r) Ends (bringing [] (outcomes_for c (outcomes_in setup past (steps.Tick m)))) tt
    (tt, own_outcomes setup c past (steps.Tick m))
turn_known setup c past (steps.OutstationUp o m) r known = brought_known setup c past (steps.OutstationUp o m) known
turn_known setup c past (steps.OutstationDown o m) r known =
    brought_known setup c past (steps.OutstationDown o m) known
turn_known setup c past (steps.Fragment f m) r known = brought_known setup c past (steps.Fragment f m) known
turn_known setup c past (steps.Poll o m wall) r known = brought_known setup c past (steps.Poll o m wall) known

entry_known : (setup : Setup) (c : ℕ) (past : List Entry) (e : Entry) → HasKnownRows setup
    → IfSome (turn_of setup c past e) (IsKnownTurn setup)
entry_known setup c past e known = by e.reply
  where
    by : (reply : Result Reply StepFault)
        → IfSome (turn_of setup c past (record { step = e.step; reply = reply })) (IsKnownTurn setup)
    by (Ok r) = turn_known setup c past e.step r known
    by (Err f) = (tt, tt)

lived_known : (setup : Setup) (turn : Option Turn) (ts : List Turn) → IfSome turn (IsKnownTurn setup)
    → AllByRecursion (IsKnownTurn setup) ts → AllByRecursion (IsKnownTurn setup) (lived turn ts)
lived_known setup None ts is all = tt
lived_known setup (Some t) ts is all = (is, all)

-- each turn of a client's life is
pub life_known : (setup : Setup) → HasKnownRows setup → (c : ℕ) (past : List Entry)
    → AllByRecursion (IsKnownTurn setup) (life setup c past)
life_known setup known c [] = tt
life_known setup known c (e ∷ past) =
    lived_known setup (turn_of setup c past e) (life setup c past) (entry_known setup c past e known)
    (life_known setup known c past)
