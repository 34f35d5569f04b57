-- What a pump puts out reads as one APDU.
use Rattle.std.proofs.Common.{◌≡◌, ℕ, List, [], ◌∷◌, Option, Some, None, Result, Ok, Err, refl, sym, ap, subst, ◌∙◌}
use Rattle.std.specs.Prelude.{slice_get, option_map}
use Rattle.gw_map.specs.Settings.{Setup, station_clocks}
use Rattle.iec_apci.specs.Apdu.{ApduContent}
use Rattle.gw_station.specs.declared.sending.Sending.{Sending}
use Rattle.gw_station.specs.Client.{Client, is_up}
use Rattle.gw_station.specs.Pump.{offered, content_of, given}
use Rattle.gw_station.proofs.Sends.{content_fits}
use Rattle.gw_steps.specs.declared.step.Step.{Step}
use Rattle.gw_steps.specs.declared.step.Step.TheVariants as steps
use Rattle.gw_steps.specs.declared.step.Reply.{Reply}
use Rattle.gw_steps.specs.declared.step.StepFault.{StepFault}
use Rattle.gw_steps.specs.declared.step.StepFault.TheVariants.{NoClient}
use Rattle.gw_steps.specs.State.{State}
use Rattle.gw_steps.specs.Steps.{Allowed, outcome, needs, can_be_counted, reply_to, fault_of, client_reply, reply_giving, latest}
use Rattle.gw_steps.specs.Runs.{Entry, state_after}
use Rattle.gw_steps.proofs.Inversion.{answered, who_is_up}
use Rattle.gw_steps.proofs.Saying.{said-content}
use Rattle.law_history.proofs.Places.{Place}
use Rattle.law_clients.specs.Apdus.{ReadsAsOne, Apdus}

-- what is made of an offer reads as one
given_reads : (setup : Setup) (c m : ℕ) (k : Client) (x : Option Sending)
    → ReadsAsOne setup (steps.Pump c m)
    (Ok (reply_giving (option_map (content_of (station_clocks setup.station) k) x)))
given_reads setup c m k None = tt
given_reads setup c m k (Some sending) =
    let content : ApduContent = content_of (station_clocks setup.station) k sending in
    rw (said-content (station_clocks setup.station) content
    (content_fits (station_clocks setup.station) k sending)) refl

pump_reads : (setup : Setup) (c m : ℕ) (r : Reply) (s : State) → outcome setup s (steps.Pump c m) ≡ Ok r
    → ReadsAsOne setup (steps.Pump c m) (Ok r)
pump_reads setup c m r s e =
    let step : Step = steps.Pump c m in
    let told = answered (fault_of s step) (can_be_counted s (needs setup s step)) (reply_to setup s step) r e in
    let up = who_is_up (λ (k : Client). is_up k.stage) NoClient (slice_get s.clients c) told.0 in
    let reply : reply_giving (given (station_clocks setup.station) (latest s m) up.0) ≡ r =
    sym (ap (client_reply (λ (k : Client). reply_giving
    (given (station_clocks setup.station) (latest s m) k))) up.1) ∙ told.2 in
    subst (λ (x : Reply). ReadsAsOne setup step (Ok x)) reply (given_reads setup c m up.0 (offered (latest s m) up.0))

by_reply : (setup : Setup) (s : State) (step : Step) (reply : Result Reply StepFault) (new : State)
    → Allowed setup s step reply new → ReadsAsOne setup step reply
by_reply setup s (steps.Pump c m) (Ok r) new allowed = pump_reads setup c m r s allowed.0
by_reply setup s (steps.Pump c m) (Err f) new allowed = tt
by_reply setup s (steps.OutstationUp o m) reply new allowed = tt
by_reply setup s (steps.OutstationDown o m) reply new allowed = tt
by_reply setup s (steps.Fragment f m) reply new allowed = tt
by_reply setup s (steps.Poll o m wall) reply new allowed = tt
by_reply setup s (steps.ClientUp c m) reply new allowed = tt
by_reply setup s (steps.ClientDown c m) reply new allowed = tt
by_reply setup s (steps.Frame c a m) reply new allowed = tt
by_reply setup s (steps.Tick m) reply new allowed = tt

pub reads_apdus : (setup : Setup) (past : List Entry) → Place setup past → Apdus setup past
reads_apdus setup [] place = tt
reads_apdus setup (e ∷ past) place = by_reply setup (state_after setup past) e.step e.reply
    (state_after setup (e ∷ past)) place.last.0
