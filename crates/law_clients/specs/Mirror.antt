-- Mirror: once the first confirmation of a station interrogation was put out, and while no news since its act was
-- dropped, the observations put out from then on, followed by those that wait, have as their last values what the
-- picture shows, for each row under a common address that was asked which isn't shown as a total.
use Rattle.std.specs.List.{list_any}
use Rattle.std.specs.Prelude.{◌≡◌, ℕ, ◌==◌, Bool, true, false, ◌&&◌, ◌||◌, List, [], ◌∷◌}
use Rattle.std.specs.Prelude.{◌++◌, length, drop, slice_get, Option, Some, None, IfSome, if◌then◌else◌}
use Rattle.gw_model.specs.declared.observation.Value.{Value}
use Rattle.gw_model.specs.declared.observation.Quality.{Quality}
use Rattle.gw_model.specs.declared.observation.Observation.{Observation}
use Rattle.gw_model.specs.First.{when}
use Rattle.gw_model.specs.declared.point.ObjectKey.{ObjectKey}
use Rattle.gw_model.specs.Keys.{object_of, same_object}
use Rattle.gw_model.specs.Values.{is_total}
use Rattle.gw_entries.specs.declared.row.Row.{Row}
use Rattle.gw_map.specs.Settings.{Setup, row_object}
use Rattle.gw_picture.specs.Log.{picture_of}
use Rattle.iec_apci.specs.declared.apdu.Apdu.TheVariants.{I}
use Rattle.iec_command.specs.declared.command.Action.{Action}
use Rattle.iec_command.specs.declared.command.Action.TheVariants as actions
use Rattle.gw_judge.specs.declared.judging.Judged.{Judged}
use Rattle.gw_judge.specs.declared.judging.Judged.TheVariants.{Accepted}
use Rattle.gw_answers.specs.declared.outgoing.AsduAnswer.TheVariants.{Made}
use Rattle.gw_answers.specs.declared.outgoing.OwnAsdu.{OwnAsdu}
use Rattle.gw_answers.specs.declared.outgoing.OwnAsdu.TheVariants as outgoing
use Rattle.gw_answers.specs.Interrogations.{asked_addresses, is_accepted_act}
use Rattle.gw_answers.specs.Meaning.{Meant, Tells, Commands, Unread}
use Rattle.gw_station.specs.declared.sending.Sending.{Sending}
use Rattle.gw_station.specs.declared.sending.Sending.TheVariants as sendings
use Rattle.gw_station.specs.Frames.{judged_asdu}
use Rattle.gw_steps.specs.Runs.{Entry}
use Rattle.gw_steps.specs.Said.{IFormat}
use Rattle.law_history.specs.Log.{log_of}
use Rattle.law_history.specs.Life.{Turn, Takes, PutsOut, session, OfEachLife}
use Rattle.law_clients.specs.Fates.{Element, items_of, is_dropped, fates}
use Rattle.law_clients.specs.Interrogations.{parts_in, is_pending, interrogation}
use Rattle.law_clients.specs.Line.{line}

-- ---- last values

-- a value and its quality
pub record Known : Type 0 where
  pub value : Value
  pub quality : Quality

abbrev pub known_of : Observation → Known
known_of x = record { value = x.value; quality = x.quality }

-- what is known of an object after observations, where this was known before
abbrev pub last_known : ObjectKey → Option Known → List Observation → Option Known
last_known object known [] = known
last_known object known (x ∷ xs) =
    last_known object (if same_object (object_of x) object then Some (known_of x) else known) xs

-- the last value and quality in a list of observations, or none
abbrev pub last_value : ObjectKey → List Observation → Option Known
last_value object xs = last_known object None xs

-- ---- what is put out, and what waits

-- observations of cause 3 (spontaneous), 5 (requested), 20 or 37 (interrogated)
abbrev pub observations_in : Meant → List Observation
observations_in (Tells asdu) =
    if asdu.cause == 3 || asdu.cause == 5 || asdu.cause == 20 || asdu.cause == 37 then asdu.observations else []
observations_in (Commands c) = []
observations_in (Unread octets) = []

abbrev pub observations_of : Sending → List Observation
observations_of (sendings.Answer (Made (outgoing.Observation cause originator x))) = x ∷ []
observations_of (sendings.News x) = x ∷ []
observations_of (sendings.Part (outgoing.Observation cause originator x)) = x ∷ []
observations_of _ = []

-- the observations that wait, in the order in which they go
abbrev pub waiting_in : List Sending → List Observation
waiting_in [] = []
waiting_in (s ∷ line) = observations_of s ++ waiting_in line

-- ---- what is told

-- the first confirmation of an interrogation that is put out is its own, since no other is accepted before
abbrev pub is_confirmed_by : List OwnAsdu → Bool
is_confirmed_by (outgoing.Command c ∷ parts) = c.cause == 7
is_confirmed_by _ = false

abbrev pub told_with : Meant → Option (List Observation) → Option (List Observation)
told_with meant None = if is_confirmed_by (parts_in meant) then Some [] else None
told_with meant (Some told) = Some (told ++ observations_in meant)

-- the observations put out in turns, from the first confirmation of an interrogation on; none before that
abbrev pub told : List Turn → Option (List Observation)
told [] = None
told (PutsOut (IFormat ns nr meant) ∷ ts) = told_with meant (told ts)
told (_ ∷ ts) = told ts

-- ---- an act

abbrev pub is_station_interrogation : Action → Bool
is_station_interrogation (actions.Interrogation qualifier) = true
is_station_interrogation _ = false

-- the common addresses that a turn after others of its session asks, where it is the act of a station interrogation
abbrev pub asked_by : Setup → Bool → Judged → Option (List ℕ)
asked_by setup pending (Accepted command) =
    when (is_accepted_act pending command && is_station_interrogation command.action)
    (asked_addresses setup command.common_address)
asked_by setup pending _ = None

abbrev pub asked_in : Setup → Turn → List Turn → Option (List ℕ)
asked_in setup (Takes (I ns nr asdu) taking) ts =
    asked_by setup (is_pending (interrogation setup ts)) (judged_asdu setup asdu)
asked_in setup _ ts = None

-- ---- the law

-- of the news since, none was dropped
abbrev pub NoneDropped : ℕ → List Element → Type 0
NoneDropped since elements = items_of is_dropped (drop since elements) ≡ []

-- for each row under one of these common addresses that isn't shown as a total, the last value of a list is what the
-- picture shows
abbrev pub KnowsPicture : Setup → List ℕ → List Observation → List Observation → Type 0
KnowsPicture setup asked picture known =
    (n : ℕ) (row : Row) (x : Observation) → slice_get setup.rows n ≡ Some row → slice_get picture n ≡ Some x
    → list_any (λ common. common == row.common_address) asked ≡ true → is_total x.value ≡ false
    → last_value (row_object row) known ≡ Some (known_of x)

-- of the news since so many none was dropped: what was told and what waits is what the picture shows
pub record MirrorsPicture (setup : Setup) (asked : List ℕ) (log : List Observation) (hs : List Turn) (since : ℕ)
    (told : List Observation) : Type 0 where
  pub knows : NoneDropped since (fates setup.station hs)
      → KnowsPicture setup asked (picture_of setup.rows log) (told ++ waiting_in (line setup hs))

-- after each act of a session, once its first confirmation was put out
abbrev pub Mirrors : Setup → List Observation → List Turn → Type 0
Mirrors setup log hs =
    (newer older : List Turn) (act : Turn) (asked : List ℕ) → hs ≡ newer ++ act ∷ older
    → asked_in setup act older ≡ Some asked
    → IfSome (told newer) (MirrorsPicture setup asked log hs (length (fates setup.station older)))

abbrev pub Mirror : Setup → List Entry → Type 0
Mirror setup past = OfEachLife (λ ts. IfSome (session ts) (Mirrors setup (log_of setup past))) setup past
