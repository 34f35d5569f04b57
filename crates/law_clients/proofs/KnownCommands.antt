-- The common addresses of commands that are accepted, of what answers them and of what an interrogation asks are known.
use Rattle.std.specs.Prelude.{IfSome, IsTrue, option_map, slice_get}
use Rattle.std.specs.List.{AllByRecursion, list_any}
use Rattle.std.proofs.Common.{◌≡◌, ℕ, zero, suc, Bool, true, false, cond, ◌&&◌, ◌||◌, ◌==◌, List, []}
use Rattle.std.proofs.Common.{◌∷◌, ◌++◌, map, Option, Some, None, Result, Ok, Err, refl, ap, inl, inr}
use Rattle.std.proofs.lemmas.Bool.{cases_Bool, eq-eqb}
use Rattle.gw_model.specs.declared.observation.Observation.{Observation}
use Rattle.gw_entries.specs.declared.row.Row.{Row}
use Rattle.gw_entries.specs.Setup.{OutstationSetup, StationSetup}
use Rattle.gw_map.specs.Settings.{Setup, is_among, is_known, known_addresses, known_in, row_at_from}
use Rattle.iec_apci.specs.declared.apdu.Apdu.{Apdu}
use Rattle.iec_apci.specs.declared.apdu.Apdu.TheVariants.{I, S, U}
use Rattle.iec_apci.specs.declared.apdu.Asdu.{Asdu}
use Rattle.iec_command.specs.declared.command.Command.{Command}
use Rattle.iec_command.specs.declared.command.Action.{Action}
use Rattle.iec_command.specs.declared.command.Action.TheVariants as actions
use Rattle.iec_command.specs.declared.fault.CommandFault.{CommandFault}
use Rattle.iec_command.specs.declared.fault.CommandFault.TheVariants.{Short, Long, UnknownType, Count}
use Rattle.iec_command.specs.Commands.{command_of}
use Rattle.gw_judge.specs.Acceptable.{object_for}
use Rattle.gw_judge.specs.Judging.{has_known_cause, has_object, is_addressed, is_for_all, judged, judged_by, judged_reading}
use Rattle.gw_judge.specs.declared.judging.Judged.{Judged}
use Rattle.gw_judge.specs.declared.judging.Judged.TheVariants as judgements
use Rattle.gw_judge.proofs.Accepted.{first_refusal}
use Rattle.gw_answers.specs.declared.outgoing.AsduAnswer.{AsduAnswer}
use Rattle.gw_answers.specs.declared.outgoing.AsduAnswer.TheVariants.{Returned, Made}
use Rattle.gw_answers.specs.declared.outgoing.OwnAsdu.{OwnAsdu}
use Rattle.gw_answers.specs.declared.outgoing.OwnAsdu.TheVariants as outgoing
use Rattle.gw_answers.specs.Answers.{answered, answered_action, command_by, control_command, first_asked, refused_act, shown_by}
use Rattle.gw_answers.specs.Interrogations.{answer_to, answer_under, asked_addresses, cause_for, is_accepted_act, rows_under}
use Rattle.gw_answers.specs.Outgoing.{command_with, confirmed, under}
use Rattle.gw_station.specs.declared.event.Said.{Said}
use Rattle.gw_station.specs.declared.event.Said.TheVariants.{Confirm, Negative, Ordered, Done, Failed}
use Rattle.gw_station.specs.Answers.{rest_with, told}
use Rattle.gw_station.specs.Client.{Client}
use Rattle.gw_station.specs.Frames.{command_in, judged_asdu}
use Rattle.gw_station.proofs.All.{all-append}
use Rattle.law_history.proofs.Told.{filter_all}

-- ---- what is under known common addresses

abbrev pub IsKnownObservation : Setup → Observation → Type 0
IsKnownObservation setup x = IsTrue (is_known setup x.common)

abbrev pub IsKnownCommand : Setup → Command → Type 0
IsKnownCommand setup c = IsTrue (is_known setup c.common_address)

abbrev pub IsKnownAsdu : Setup → OwnAsdu → Type 0
IsKnownAsdu setup (outgoing.Command c) = IsKnownCommand setup c
IsKnownAsdu setup (outgoing.Observation cause originator x) = IsKnownObservation setup x

-- what comes back may be for any
abbrev pub IsKnownAnswer : Setup → AsduAnswer → Type 0
IsKnownAnswer setup (Returned asdu cause) = Unit {0}
IsKnownAnswer setup (Made x) = IsKnownAsdu setup x

-- ---- what is accepted

-- for a known common address, or for all stations
abbrev pub IsJudgedFor : Setup → Judged → Type 0
IsJudgedFor setup (judgements.Accepted c) = is_addressed setup c ≡ true
IsJudgedFor setup judgements.Malformed = Unit {0}
IsJudgedFor setup (judgements.Refuse cause execute) = Unit {0}

accepted_for : (setup : Setup) (c : Command) (cause station object : Bool) → is_addressed setup c ≡ station
    → IsJudgedFor setup (judged_by (first_refusal cause station object) c)
accepted_for setup c true true true is = is
accepted_for setup c true true false is = tt
accepted_for setup c true false object is = tt
accepted_for setup c false station object is = tt

judged_for : (setup : Setup) (octets : List ℕ) → IsJudgedFor setup (judged setup octets)
judged_for setup octets = by (command_of octets)
  where
    by : (r : Result Command CommandFault) → IsJudgedFor setup (judged_reading setup r)
    by (Ok c) = accepted_for setup c (has_known_cause c) (is_addressed setup c) (has_object setup c) refl
    by (Err Short) = tt
    by (Err Long) = tt
    by (Err UnknownType) = tt
    by (Err Count) = tt

pub asdu_judged_for : (setup : Setup) (asdu : Asdu) → IsJudgedFor setup (judged_asdu setup asdu)
asdu_judged_for setup asdu = judged_for setup _

-- a command for a control isn't for all stations
not_for_all : (known all : Bool) → known || (false && all) ≡ true → known ≡ true
not_for_all true all is = refl
not_for_all false all is = absurd cc

control_known : (setup : Setup) (c : Command) (action : Action)
    → is_known setup c.common_address || (is_for_all action && c.common_address == 65535) ≡ true
    → IfSome (control_command c action) (IsKnownCommand setup)
control_known setup c (actions.Single x) is =
    not_for_all (is_known setup c.common_address) (c.common_address == 65535) is
control_known setup c (actions.Double x) is =
    not_for_all (is_known setup c.common_address) (c.common_address == 65535) is
control_known setup c (actions.Setpoint x) is =
    not_for_all (is_known setup c.common_address) (c.common_address == 65535) is
control_known setup c (actions.Interrogation qualifier) is = tt
control_known setup c (actions.CounterInterrogation qualifier) is = tt
control_known setup c actions.Read is = tt

judged_known : (setup : Setup) (j : Judged) → IsJudgedFor setup j
    → IfSome (command_by j) (IsKnownCommand setup)
judged_known setup (judgements.Accepted c) is = control_known setup c c.action is
judged_known setup judgements.Malformed is = tt
judged_known setup (judgements.Refuse cause execute) is = tt

-- the command for a control that an APDU carries has a known common address
pub command_known : (setup : Setup) (apdu : Apdu) → IfSome (command_in setup apdu) (IsKnownCommand setup)
command_known setup (I ns nr asdu) =
    judged_known setup (judged_asdu setup asdu) (asdu_judged_for setup asdu)
command_known setup (S nr) = tt
command_known setup (U signal) = tt

-- ---- what is asked

-- all that are known are
all_among : (known : List ℕ) → AllByRecursion (λ n. IsTrue (is_among known n)) known
all_among known = each known (λ n is. is)
  where
    each : (some : List ℕ) → ((n : ℕ) → list_any (λ address. address == n) some ≡ true → IsTrue (is_among known n))
        → AllByRecursion (λ n. IsTrue (is_among known n)) some
    each [] within = tt
    each (x ∷ some) within = (
      within x (ap (λ (b : Bool). b || list_any (λ address. address == x) some) (eq-eqb x x refl)),
      each some (λ n is. within n (behind (x == n) (list_any (λ address. address == n) some) is)),
    )
      where
        behind : (here there : Bool) → there ≡ true → here || there ≡ true
        behind true there is = refl
        behind false there is = is

-- and there is one
first_known : (station : StationSetup) (outstations : List OutstationSetup) (n : ℕ)
    → IsTrue (is_among (known_in station outstations) (first_asked (known_in station outstations) n))
first_known station [] n =
    ap (λ (b : Bool). b || false) (eq-eqb station.common_address station.common_address refl)
first_known station (o ∷ more) n = rw (eq-eqb o.common_address o.common_address refl) refl

not_all : (known all : Bool) → known || (all && false) ≡ true → known ≡ true
not_all true all is = refl
not_all false true is = absurd cc
not_all false false is = absurd cc

pub asked_known : (setup : Setup) (all : Bool) (n : ℕ) → is_known setup n || (all && n == 65535) ≡ true
    → AllByRecursion (λ common. IsTrue (is_known setup common)) (asked_addresses setup n)
asked_known setup all n is = elim (cases_Bool (n == 65535)) [
  | inl every ↦ rw every (all_among (known_addresses setup))
  | inr one ↦ rw one (not_all (is_known setup n) all (rw one at is), tt)
]

first_asked_known : (setup : Setup) (all : Bool) (n : ℕ) → is_known setup n || (all && n == 65535) ≡ true
    → IsTrue (is_known setup (first_asked (asked_addresses setup n) n))
first_asked_known setup all n is = elim (cases_Bool (n == 65535)) [
  | inl every ↦ rw every (first_known setup.station setup.outstations n)
  | inr one ↦ rw one (not_all (is_known setup n) all (rw one at is))
]

-- ---- the answer to an interrogation

rows_known : (setup : Setup) (cause : ℕ) (c : Command) (xs : List Observation) → IsKnownCommand setup c
    → AllByRecursion (IsKnownObservation setup) xs
    → AllByRecursion (IsKnownAsdu setup) (map (outgoing.Observation cause 0) xs ++ command_with 10 false c ∷ [])
rows_known setup cause c [] known all = (known, tt)
rows_known setup cause c (x ∷ xs) known all = (all.0, rows_known setup cause c xs known all.1)

answer_known : (setup : Setup) (asked : List ℕ) (c : Command) (picture : List Observation)
    → AllByRecursion (λ common. IsTrue (is_known setup common)) asked → AllByRecursion (IsKnownObservation setup) picture
    → AllByRecursion (IsKnownAsdu setup) (answer_to asked c picture)
answer_known setup [] c picture known all = tt
answer_known setup (common ∷ asked) c picture known all =
    all-append (IsKnownAsdu setup) (answer_under c picture common) (answer_to asked c picture) (
      known.0,
      rows_known setup (cause_for c.action) (under common c) (rows_under c.action picture common) known.0
          (filter_all (IsKnownObservation setup) _ picture all),
    )
    (answer_known setup asked c picture known.1 all)

pub rest_known : (setup : Setup) (picture : List Observation) (j : Judged) (asks : Bool) (k : Client)
    → IsJudgedFor setup j → AllByRecursion (IsKnownObservation setup) picture → AllByRecursion (IsKnownAsdu setup) k.rest
    → AllByRecursion (IsKnownAsdu setup) (rest_with setup picture j asks k)
rest_known setup picture (judgements.Accepted c) true k is all rest =
    answer_known setup (asked_addresses setup c.common_address) c picture
    (asked_known setup (is_for_all c.action) c.common_address is) all
rest_known setup picture (judgements.Accepted c) false k is all rest = rest
rest_known setup picture judgements.Malformed asks k is all rest = rest
rest_known setup picture (judgements.Refuse cause execute) asks k is all rest = rest

-- ---- the answer at once

at_place : (setup : Setup) (picture : List Observation) (n : ℕ) → AllByRecursion (IsKnownObservation setup) picture
    → IfSome (slice_get picture n) (IsKnownObservation setup)
at_place setup [] n all = tt
at_place setup (x ∷ picture) zero all = all.0
at_place setup (x ∷ picture) (suc n) all = at_place setup picture n all.1

shown_known : (setup : Setup) (picture : List Observation) (found : Option (ℕ × Row))
    → AllByRecursion (IsKnownObservation setup) picture → IfSome (shown_by picture found) (IsKnownObservation setup)
shown_known setup picture None all = tt
shown_known setup picture (Some found) all = at_place setup picture found.0 all

read_known : (setup : Setup) (originator : ℕ) (x : Option Observation) → IfSome x (IsKnownObservation setup)
    → IfSome (option_map (λ y. Made (outgoing.Observation 5 originator y)) x) (IsKnownAnswer setup)
read_known setup originator None is = tt
read_known setup originator (Some x) is = is

refused_known : (setup : Setup) (pending all : Bool) (c : Command)
    → is_known setup c.common_address || (all && c.common_address == 65535) ≡ true
    → IfSome (refused_act setup pending c) (IsKnownAnswer setup)
refused_known setup pending all c is = by (is_accepted_act pending c)
  where
    first : ℕ
    first = first_asked (asked_addresses setup c.common_address) c.common_address

    by : (accepted : Bool)
        → IfSome (cond accepted None (Some (Made (confirmed true (under first c))))) (IsKnownAnswer setup)
    by true = tt
    by false = first_asked_known setup all c.common_address is

action_known : (setup : Setup) (picture : List Observation) (pending : Bool) (c : Command) (action : Action)
    → is_known setup c.common_address || (is_for_all action && c.common_address == 65535) ≡ true
    → AllByRecursion (IsKnownObservation setup) picture
    → IfSome (answered_action setup picture pending c action) (IsKnownAnswer setup)
action_known setup picture pending c (actions.Interrogation qualifier) is all =
    refused_known setup pending true c is
action_known setup picture pending c (actions.CounterInterrogation qualifier) is all =
    refused_known setup pending true c is
action_known setup picture pending c actions.Read is all =
    let object = object_for c in
    read_known setup c.originator _
    (shown_known setup picture (row_at_from 0 object.common_address object.address setup.rows) all)
action_known setup picture pending c (actions.Single x) is all = tt
action_known setup picture pending c (actions.Double x) is all = tt
action_known setup picture pending c (actions.Setpoint x) is all = tt

pub answer_at_once_known : (setup : Setup) (picture : List Observation) (pending : Bool) (asdu : Asdu) (j : Judged)
    → IsJudgedFor setup j → AllByRecursion (IsKnownObservation setup) picture
    → IfSome (answered setup picture pending asdu j) (IsKnownAnswer setup)
answer_at_once_known setup picture pending asdu judgements.Malformed is all = tt
answer_at_once_known setup picture pending asdu (judgements.Refuse cause execute) is all = tt
answer_at_once_known setup picture pending asdu (judgements.Accepted c) is all =
    action_known setup picture pending c c.action is all

-- ---- what is said of a command for a control

pub told_known : (setup : Setup) (c : Command) (said : Said) → IsKnownCommand setup c
    → AllByRecursion (IsKnownAnswer setup) (map Made (told c said))
told_known setup c Confirm known = (known, tt)
told_known setup c Negative known = (known, tt)
told_known setup c Ordered known = tt
told_known setup c Done known = (known, (known, tt))
told_known setup c Failed known = (known, tt)
