-- News: at each point of a run the picture is that of the log, and for each client's session the observations that
-- were put out with cause 3 (spontaneous), followed by those queued, are the news since its STARTDT, in order, less
-- those dropped. An I format is put out in a session alone, and carries what a station may say: under a common address
-- that clients may use, but for what comes back as unknown.
use Rattle.std.specs.Prelude.{◌≡◌, ◌⊎◌, ℕ, ◌≤◌, ◌==◌, true, ◌||◌}
use Rattle.std.specs.Prelude.{IsTrue, is_some, List, ◌∷◌, ◌++◌, length, IfSome}
use Rattle.std.specs.List.{AllByRecursion}
use Rattle.gw_model.specs.Fit.{IsFit}
use Rattle.gw_entries.specs.Setup.{StationSetup}
use Rattle.gw_map.specs.Settings.{Setup, is_known, station_clocks}
use Rattle.gw_picture.specs.Log.{picture_of}
use Rattle.iec_asdu.specs.Asdu.{Asdu}
use Rattle.iec_command.specs.declared.command.Command.{Command}
use Rattle.gw_answers.specs.Meaning.{Meant, Tells, Commands, Unread, IsRefusedWith}
use Rattle.gw_station.specs.Client.{Client, is_started}
use Rattle.gw_steps.specs.Runs.{Entry, state_after}
use Rattle.gw_steps.specs.Said.{IFormat}
use Rattle.law_history.specs.Log.{log_of}
use Rattle.law_history.specs.Life.{Turn, PutsOut, life, session, turns_in, OfEachLife}
use Rattle.gw_steps.specs.Premises.{client_at}
use Rattle.law_clients.specs.Fates.{items_of, is_queued, is_dropped, is_kept, fates, gone}

-- ---- what a station may say

-- process information: spontaneous (3), requested (5), or interrogated (20, 37), of observations that are fit, all under
-- one common address, which is a known one
pub record IsInformation (setup : Setup) (asdu : Asdu) : Type 0 where
  pub cause : IsTrue (asdu.cause == 3 || asdu.cause == 5 || asdu.cause == 20 || asdu.cause == 37)
  pub known : IsTrue (is_known setup asdu.common_address)
  pub common : AllByRecursion (λ x. x.common ≡ asdu.common_address) asdu.observations
  pub fit : AllByRecursion (IsFit (station_clocks setup.station)) asdu.observations

-- the confirmation of an activation (7) or a deactivation (9), or a termination (10), under a known common address
pub record IsConfirmation (setup : Setup) (c : Command) : Type 0 where
  pub cause : IsTrue (c.cause == 7 || c.cause == 9 || c.cause == 10)
  pub known : IsTrue (is_known setup c.common_address)

-- what is unknown comes back: P/N is set, and the cause is one from 44 to 47
abbrev pub IsUnknown : Meant → Type 0
IsUnknown meant = (cause : ℕ) × (44 ≤ cause) × (cause ≤ 47) × IsRefusedWith cause meant

-- an I format carries one of these
abbrev pub IsOfStation : Setup → Meant → Type 0
IsOfStation setup (Tells asdu) = IsInformation setup asdu ⊎ IsUnknown (Tells asdu)
IsOfStation setup (Commands c) = IsConfirmation setup c ⊎ IsUnknown (Commands c)
IsOfStation setup (Unread octets) = IsUnknown (Unread octets)

-- ---- the law

-- what was put out of a session's news, then what is queued, are all that came, less what was dropped
pub record TellsNews (station : StationSetup) (hs : List Turn) (k : Client) : Type 0 where
  pub in_order : gone station hs ++ k.queue ≡ items_of is_kept (fates station hs)
  pub queued : k.queue ≡ items_of is_queued (fates station hs)
  pub dropped : k.dropped ≡ length (items_of is_dropped (fates station hs))

-- an I format is put out in a session alone, and carries what the station says
abbrev pub Speaks : Setup → List Turn → Type 0
Speaks setup (PutsOut (IFormat ns nr meant) ∷ ts) =
    (is_some (session ts) ≡ true) × IsOfStation setup meant
Speaks setup _ = Unit {0}

pub record News (setup : Setup) (past : List Entry) : Type 0 where
  pub picture : (state_after setup past).picture ≡ picture_of setup.rows (log_of setup past)
  pub sessions : (c : ℕ) →
      IfSome (client_at setup c past) (λ k. is_started k.stage ≡ is_some (session (life setup c past)))
  pub queues : (c : ℕ) →
      IfSome (client_at setup c past) (TellsNews setup.station (turns_in (session (life setup c past))))
  pub speaks : OfEachLife (Speaks setup) setup past
