-- The answer to an interrogation (IEC 60870-5-101, 7.4.5 and 7.4.8).
use Rattle.std.specs.Prelude.{ℕ, Bool, false, not, ◌&&◌, ◌==◌, List, [], ◌∷◌, ◌++◌, map, filter, if◌then◌else◌}
use Rattle.std.specs.List.{flat_map}
use Rattle.gw_model.specs.declared.observation.Observation.{Observation}
use Rattle.gw_model.specs.Values.{is_total}
use Rattle.gw_map.specs.Settings.{Setup, known_addresses}
use Rattle.iec_command.specs.declared.command.Command.{Command}
use Rattle.iec_command.specs.declared.command.Action.{Action}
use Rattle.iec_command.specs.declared.command.Action.TheVariants.{Interrogation, CounterInterrogation}
use Rattle.gw_answers.specs.declared.outgoing.OwnAsdu.{OwnAsdu}
use Rattle.gw_answers.specs.declared.outgoing.OwnAsdu.TheVariants as outgoing
use Rattle.gw_answers.specs.Outgoing.{command_with, under}

-- the station interrogation (QOI 20), and the general request of counters without freeze (QCC 5)
abbrev pub is_general : Action → Bool
is_general (Interrogation qualifier) = qualifier == 20
is_general (CounterInterrogation qualifier) = qualifier == 5
is_general _ = false

-- the activation of one is accepted where none is pending
abbrev pub is_accepted_act : Bool → Command → Bool
is_accepted_act pending c = c.cause == 6 && is_general c.action && not pending

-- totals answer a counter interrogation, all else a station interrogation
abbrev pub is_asked_by : Action → Observation → Bool
is_asked_by (CounterInterrogation qualifier) x = is_total x.value
is_asked_by _ x = not (is_total x.value)

-- with cause 37 (requested by general counter request), or 20 (interrogated by station interrogation)
abbrev pub cause_for : Action → ℕ
cause_for (CounterInterrogation qualifier) = 37
cause_for _ = 20

-- the common addresses that are asked: one, or for all stations (65535) those that are known
abbrev pub asked_addresses : Setup → ℕ → List ℕ
asked_addresses setup common = if common == 65535 then known_addresses setup else common ∷ []

-- what the picture shows of what is asked under a common address, in the order of its rows
abbrev pub rows_under : Action → List Observation → ℕ → List Observation
rows_under action picture common = filter (λ x. x.common == common && is_asked_by action x) picture

-- the answer under the act's common address: the confirmation (7), these rows, and the termination (10)
abbrev pub answer_with : Command → List Observation → List OwnAsdu
answer_with c rows =
    command_with 7 false c
    ∷ (map (outgoing.Observation (cause_for c.action) 0) rows ++ command_with 10 false c ∷ [])

abbrev pub answer_under : Command → List Observation → ℕ → List OwnAsdu
answer_under c picture common = answer_with (under common c) (rows_under c.action picture common)

-- an answer under each common address that is asked, in their order, all from one picture
abbrev pub answer_to : List ℕ → Command → List Observation → List OwnAsdu
answer_to asked c picture = flat_map (answer_under c picture) asked
