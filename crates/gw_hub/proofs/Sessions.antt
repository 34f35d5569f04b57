-- What every hub keeps of its clients: outside of a session no news wait, and none were dropped.
use Rattle.std.specs.Prelude.{replicate}
use Rattle.std.proofs.Common.{◌≡◌, ℕ, zero, suc, Option, Some, None, List, [], ◌∷◌}
use Rattle.std.proofs.Common.{drop, inl, inr, refl, sym, ap, subst, ◌∙◌, arith}
use Rattle.std.specs.List.{AllByRecursion}
use Rattle.std.proofs.lemmas.Bool.{cases_Bool}
use Rattle.gw_model.specs.declared.observation.Observation.{Observation}
use Rattle.gw_model.specs.Places.{change}
use Rattle.gw_model.specs.Clocks.{Clocks}
use Rattle.gw_map.specs.Settings.{Setup}
use Rattle.iec_apci.specs.declared.apdu.Apdu.{Apdu}
use Rattle.iec_apci.specs.declared.apdu.Apdu.TheVariants.{I, S, U}
use Rattle.iec_apci.specs.declared.apdu.Signal.{Signal}
use Rattle.iec_apci.specs.declared.apdu.Signal.TheVariants.{StartAct, StopAct}
use Rattle.iec_window.specs.declared.limits.Limits.{Limits}
use Rattle.iec_apci.specs.declared.why.Why.{Why}
use Rattle.gw_station.specs.declared.sending.Sending.{Sending}
use Rattle.gw_station.specs.declared.sending.Sending.TheVariants as sendings
use Rattle.gw_station.specs.Client.{Client, client_after_close, client_after_tick, client_after_up}
use Rattle.gw_station.specs.Client.{client_down, client_with_news, is_started, is_timed_out}
use Rattle.gw_station.specs.Frames.{client_after_apdu, client_by, client_taking, client_with_session, close_of}
use Rattle.gw_station.specs.Pump.{line, together, client_after_pump, client_by_offer, offered}
use Rattle.gw_station.proofs.Front.{drop_none}
use Rattle.gw_control.specs.declared.answer.Outcome.{Outcome}
use Rattle.iec_command.specs.declared.command.Command.{Command}
use Rattle.gw_station.specs.declared.event.Event.{Event}
use Rattle.gw_station.specs.declared.event.Event.TheVariants as events
use Rattle.gw_station.specs.declared.event.Said.{Said}
use Rattle.gw_steps.specs.Steps.{client_answered}
use Rattle.gw_station.specs.Answers.{client_told}
use Rattle.gw_steps.specs.Controls.{client_told_of, clients_told, said_of_outcome}
use Rattle.gw_hub.specs.Hub.{KeepsToSession}
use Rattle.gw_hub.proofs.Each.{all_kept}

-- ---- one client

pub kept_after_close : (c : Client) → KeepsToSession (client_after_close c)
kept_after_close c = record { outside = λ _. (refl, refl) }

pub kept_after_up : (moment : ℕ) (c : Client) → KeepsToSession (client_after_up moment c)
kept_after_up moment c = record { outside = λ _. (refl, refl) }

pub kept_after_tick : (moment : ℕ) (c : Client) → KeepsToSession c → KeepsToSession (client_after_tick moment c)
kept_after_tick moment c holds = elim (cases_Bool (is_timed_out moment c)) [
  | inl late ↦ rw late (kept_after_close c)
  | inr on ↦ rw on holds
]

pub kept_with_news : (xs : List Observation) (c : Client) → KeepsToSession c → KeepsToSession (client_with_news xs c)
kept_with_news xs c holds = record {
  outside = λ idle. rw idle ((holds.outside idle).0, omega (arith, (holds.outside idle).1));
}

with_session : (signal : Signal) (c : Client) → KeepsToSession c → KeepsToSession (client_with_session signal c)
with_session StartAct c holds = elim (cases_Bool (is_started c.stage)) [
  | inl is ↦ rw is holds
  | inr isnt ↦ rw isnt (record { outside = λ e. absurd cc })
]
with_session StopAct c holds = elim (cases_Bool (is_started c.stage)) [
  | inl is ↦ rw is (record { outside = λ _. (refl, refl) })
  | inr isnt ↦ rw isnt holds
]
with_session _ c holds = holds

taking : (setup : Setup) (picture : List Observation) (moment : ℕ) (apdu : Apdu) (c : Client) → KeepsToSession c
    → KeepsToSession (client_taking setup picture moment apdu c)
taking setup picture moment (I ns nr asdu) c holds = record { outside = holds.outside }
taking setup picture moment (S nr) c holds = record { outside = holds.outside }
taking setup picture moment (U signal) c holds = record { outside = (with_session signal c holds).outside }

after_apdu : (why : Option Why) (c d : Client) → KeepsToSession d → KeepsToSession (client_by why c d)
after_apdu None c d holds = holds
after_apdu (Some why) c d holds = kept_after_close c

pub kept_after_apdu : (setup : Setup) (picture : List Observation) (moment : ℕ) (apdu : Apdu) (c : Client)
    → KeepsToSession c → KeepsToSession (client_after_apdu setup picture moment apdu c)
kept_after_apdu setup picture moment apdu c holds =
    after_apdu (close_of setup apdu c) c (client_taking setup picture moment apdu c)
    (taking setup picture moment apdu c holds)

pub kept_told : (command : Command) (said : Said) (c : Client) → KeepsToSession c
    → KeepsToSession (client_told command said c)
kept_told command said c holds = record { outside = holds.outside }

pub kept_after_pump : (clocks : Clocks) (moment : ℕ) (c : Client) → KeepsToSession c
    → KeepsToSession (client_after_pump clocks moment c)
kept_after_pump clocks moment c holds = go (offered moment c)
  where
    go : (x : Option Sending) → KeepsToSession (client_by_offer clocks moment x c)
    go None = holds
    go (Some (sendings.News x)) =
        let n : ℕ = together clocks (line c) in
        record { outside = λ idle. (ap (drop n) (holds.outside idle).0 ∙ drop_none n, (holds.outside idle).1) }
    go (Some _) = record { outside = holds.outside }

-- ---- all clients

pub kept_at_first : (limits : Limits) (queue n : ℕ)
    → AllByRecursion KeepsToSession (replicate n (client_down limits queue))
kept_at_first limits queue zero = tt
kept_at_first limits queue (suc n) = (record { outside = λ _. (refl, refl) }, kept_at_first limits queue n)

pub kept_answered : (said : Command → Said) (event : Event) (c : Client) → KeepsToSession c
    → KeepsToSession (client_answered said event c)
kept_answered said events.Taken c holds = holds
kept_answered said (events.Command command) c holds = record { outside = holds.outside }
kept_answered said (events.Closed why) c holds = holds

-- clients were told of outcomes
pub kept_outcomes : (xs : List Outcome) (cs changed : List Client) → changed ≡ clients_told xs cs
    → AllByRecursion KeepsToSession cs → AllByRecursion KeepsToSession changed
kept_outcomes xs cs changed e all = subst (AllByRecursion KeepsToSession) (sym e) (go xs cs all)
  where
    go : (xs : List Outcome) (cs : List Client) → AllByRecursion KeepsToSession cs
        → AllByRecursion KeepsToSession (clients_told xs cs)
    go [] cs all = all
    go (x ∷ xs) cs all = go xs (change x.client (client_told_of x) cs)
        (all_kept KeepsToSession x.client (client_told_of x) cs _ refl (kept_told x.command (said_of_outcome x)) all)
