-- What every client's part keeps, by the settings of the station: what waits can be sent, no more waits than may, and
-- the counts of steps and of news are no fewer than its I formats and what it dropped.
use Rattle.std.specs.Prelude.{◌≡◌, ℕ, ◌≤◌, false, length}
use Rattle.std.specs.List.{AllByRecursion}
use Rattle.gw_model.specs.Clocks.{Clocks}
use Rattle.gw_map.specs.Settings.{station_clocks}
use Rattle.gw_entries.specs.Setup.{StationSetup}
use Rattle.iec_command.specs.Commands.{IsWhole}
use Rattle.iec_window.specs.Counts.{WindowCounts, sent_in_all}
use Rattle.gw_answers.specs.Octets.{IsReturnable}
use Rattle.gw_answers.specs.Meaning.{CanSendAnswer, CanSendOutgoing, IsSendable}
use Rattle.gw_station.specs.declared.event.Event.{Event}
use Rattle.gw_station.specs.declared.event.Event.TheVariants as events
use Rattle.gw_station.specs.declared.sending.Sending.{Sending}
use Rattle.gw_station.specs.declared.sending.Sending.TheVariants as sendings
use Rattle.gw_station.specs.Client.{Client, is_started, limits_of, most_confirmations}
use Rattle.gw_station.specs.Answers.{places, places_taken}

-- what is put out can be spelled
abbrev pub IsReturnableSending : Sending → Type 0
IsReturnableSending (sendings.Answer answer) = IsReturnable answer
IsReturnableSending _ = Unit {0}

-- what is put out can be sent: U and S formats always can
abbrev pub CanSend : Clocks → Sending → Type 0
CanSend clocks (sendings.Answer answer) = CanSendAnswer clocks answer
CanSend clocks (sendings.News x) = IsSendable clocks x
CanSend clocks (sendings.Part part) = CanSendOutgoing clocks part
CanSend clocks _ = Unit {0}

-- a command that an APDU carried has fields that fit
abbrev pub IsWholeEvent : Event → Type 0
IsWholeEvent (events.Command command) = IsWhole command
IsWholeEvent _ = Unit {0}

-- what answers the client can be sent
abbrev pub CanAnswer : Clocks → Client → Type 0
CanAnswer clocks c = AllByRecursion (CanSendAnswer clocks) c.answers × AllByRecursion (CanSendOutgoing clocks) c.rest

-- after so many steps: at most k I formats wait for their acknowledgement
pub record IsSoundWindow (station : StationSetup) (steps : ℕ) (w : WindowCounts) : Type 0 where
  pub limits : w.limits ≡ limits_of station
  pub waiting : length w.waiting ≤ station.k
  pub received : w.received ≤ steps
  pub sent : sent_in_all w ≤ steps

-- after so many steps and news
pub record IsSoundClient (station : StationSetup) (steps news : ℕ) (c : Client) : Type 0 where
  pub window : IsSoundWindow station steps c.window
  -- so many confirmations of U formats may wait, and so many answers with the places that orders hold
  pub confirmations : length c.confirmations ≤ most_confirmations
  pub places : places_taken c ≤ places
  -- there are orders in a session alone
  pub stopped : is_started c.stage ≡ false → c.held ≡ 0
  -- an answer that isn't to a read has cause 7, 9, 10 or 44 to 47
  pub answers : AllByRecursion (CanSendAnswer (station_clocks station)) c.answers
  -- as many news may wait as the settings tell
  pub limit : c.limit ≡ station.queue
  pub few : length c.queue ≤ c.limit
  pub sendable : AllByRecursion (IsSendable (station_clocks station)) c.queue
  pub dropped : c.dropped ≤ news
  -- what is left of the answer to an interrogation
  pub rest : AllByRecursion (CanSendOutgoing (station_clocks station)) c.rest

-- no more news wait than may
abbrev pub WaitsWithin : Client → Type 0
WaitsWithin c = length c.queue ≤ c.limit
