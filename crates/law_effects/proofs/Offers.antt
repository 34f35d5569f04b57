-- A step tells of each client for which it brings something to be put out.
use Rattle.std.proofs.Common.{◌≡◌, ℕ, Bool, true, false, cond, not, ◌&&◌, List, length}
use Rattle.std.proofs.Common.{Option, Some, None, option_map, refl, sym, ap, ◌∙◌, inl, inr}
use Rattle.std.specs.Prelude.{is_some, slice_get}
use Rattle.std.proofs.lemmas.Bool.{and_parts, cases_eq}
use Rattle.std.proofs.lemmas.List.{length-map}
use Rattle.gw_model.specs.Clocks.{Clocks}
use Rattle.gw_model.specs.Places.{change}
use Rattle.gw_model.specs.declared.control.Order.{Order}
use Rattle.gw_map.specs.Settings.{Setup, station_clocks}
use Rattle.gw_picture.proofs.Lists.{change-here, change-length, change-there}
use Rattle.dnp_app.specs.Response.{Fragment}
use Rattle.iec_apci.specs.declared.apdu.Apdu.{Apdu}
use Rattle.gw_station.specs.declared.event.Event.{Event}
use Rattle.gw_station.specs.declared.sending.Sending.{Sending}
use Rattle.gw_station.specs.declared.sending.Sending.TheVariants as sendings
use Rattle.gw_station.specs.Client.{Client, is_timed_out, is_up}
use Rattle.gw_station.specs.Frames.{event_of}
use Rattle.gw_station.specs.Pump.{client_after_pump, client_by_offer, client_with_sent, offered}
use Rattle.gw_steps.specs.declared.step.Step.{Step}
use Rattle.gw_steps.specs.declared.step.Step.TheVariants as steps
use Rattle.gw_steps.specs.Controls.{order_due}
use Rattle.gw_steps.specs.Effects.{Effects, answered, done_by, effects_of, effects_of_apdu}
use Rattle.gw_steps.specs.Effects.{effects_of_event, effects_of_fragment, ending_of, ends_session}
use Rattle.gw_steps.specs.Effects.{is_so, judged, no_client, no_effects, only, or_offered, reported}
use Rattle.gw_steps.specs.Queries.{has_offer, offers_at}
use Rattle.gw_steps.specs.State.{State}
use Rattle.gw_steps.specs.Steps.{after, is_accepting, latest, parts_after_fragment, parts_after_poll}
use Rattle.law_effects.specs.Rousing.{becomes_offered}
use Rattle.law_effects.proofs.Coming.{is_now, none_comes, offer_told}

-- ---- a word for each client

only_many : (c : ℕ) → length (only c) ≡ 8
only_many c = change-length c (λ _. true) no_client

event_many : (setup : Setup) (s : State) (moment c : ℕ) (apdu : Apdu) (event : Event)
    → length (effects_of_event setup s moment c apdu event).due_clients ≡ 8
event_many setup s moment c apdu event = by (ends_session apdu event)
  where
    by : (ends : Bool)
        → length (cond ends (ending_of s c) (record no_effects { command = judged setup s moment c event })).due_clients
        ≡ 8
    by true = only_many c
    by false = refl

apdu_many : (setup : Setup) (s : State) (moment c : ℕ) (apdu : Apdu) (k : Option Client)
    → length (effects_of_apdu setup s moment c apdu k).due_clients ≡ 8
apdu_many setup s moment c apdu None = refl
apdu_many setup s moment c apdu (Some k) = event_many setup s moment c apdu (event_of setup apdu k)

fragment_many : (s : State) (f : Fragment) → length (effects_of_fragment s f).due_clients ≡ 8
fragment_many s f = by (is_accepting s f)
  where
    by : (taken : Bool)
        → length (cond taken (record no_effects { reported = Some (reported s f); ended = answered s f }) no_effects).due_clients
        ≡ 8
    by true = refl
    by false = refl

many : (setup : Setup) (s : State) (step : Step) → length s.clients ≡ 8 → length (done_by setup s step).due_clients ≡ 8
many setup s (steps.OutstationUp o m) eight = refl
many setup s (steps.OutstationDown o m) eight = refl
many setup s (steps.Fragment f m) eight = fragment_many s f
many setup s (steps.Poll o m wall) eight = refl
many setup s (steps.ClientUp c m) eight = only_many c
many setup s (steps.ClientDown c m) eight = only_many c
many setup s (steps.Frame c apdu m) eight = apdu_many setup s (latest s m) c apdu (slice_get s.clients c)
many setup s (steps.Pump c m) eight = refl
many setup s (steps.Tick m) eight = length-map s.clients (is_timed_out (latest s m)) ∙ eight

-- ---- steps that may bring something to any client

-- all for which something may be put out are told of
all_told : (setup : Setup) (s : State) (step : Step) (before : Bool) (d : ℕ) → length s.clients ≡ 8
    → length (after setup s step).clients ≡ 8
    → has_offer (after setup s step).moment (slice_get (after setup s step).clients d) && not before ≡ true
    → is_so (slice_get (or_offered (after setup s step).moment (done_by setup s step).due_clients
    (after setup s step).clients) d) ≡ true
all_told setup s step before d eight still comes =
    offer_told (after setup s step).moment d (done_by setup s step).due_clients (after setup s step).clients
    (many setup s step eight ∙ sym still)
    (is_now before (has_offer (after setup s step).moment (slice_get (after setup s step).clients d)) comes)

fragment_offers : (setup : Setup) (s : State) (f : Fragment) (m d : ℕ) → length s.clients ≡ 8
    → length (after setup s (steps.Fragment f m)).clients ≡ 8
    → becomes_offered s (steps.Fragment f m) (after setup s (steps.Fragment f m)) d ≡ true
    → is_so (slice_get (effects_of setup s (steps.Fragment f m)).due_clients d) ≡ true
fragment_offers setup s f m d eight still comes = by (is_accepting s f) (fragment_many s f) still comes
  where
    moment : ℕ
    moment = latest s m

    told : Effects
    told = record no_effects { reported = Some (reported s f); ended = answered s f }

    doing : Bool → Effects
    doing taken = cond taken told no_effects

    clients : Bool → List Client
    clients taken = (cond taken (parts_after_fragment setup s moment f) s).clients

    by : (taken : Bool) → length (doing taken).due_clients ≡ 8 → length (clients taken) ≡ 8
        → has_offer moment (slice_get (clients taken) d) && not (has_offer moment (slice_get s.clients d)) ≡ true
        → is_so (slice_get (cond (is_some (doing taken).reported) (or_offered moment (doing taken).due_clients (clients taken))
        (doing taken).due_clients) d) ≡ true
    by true each there is =
        offer_told moment d no_client (clients true) (each ∙ sym there)
        (is_now (has_offer moment (slice_get s.clients d)) (has_offer moment (slice_get (clients true) d)) is)
    by false each there is =
        none_comes (has_offer moment (slice_get s.clients d)) (has_offer moment (slice_get s.clients d)) _ (λ it. it) is

-- ---- a poll

polled : (s : State) (moment o wall d : ℕ) (told : Bool) (order : Option Order)
    → has_offer moment (slice_get (parts_after_poll s moment o wall order).clients d)
    && not (has_offer moment (slice_get s.clients d)) ≡ true
    → told ≡ true
polled s moment o wall d told None comes =
    none_comes (has_offer moment (slice_get s.clients d)) (has_offer moment (slice_get s.clients d)) told (λ is. is) comes
polled s moment o wall d told (Some order) comes =
    none_comes (has_offer moment (slice_get s.clients d)) (has_offer moment (slice_get s.clients d)) told (λ is. is) comes

-- ---- a pump

sent_up : (clocks : Clocks) (moment : ℕ) (x : Sending) (k : Client)
    → is_up (client_with_sent clocks moment x k).stage ≡ is_up k.stage
sent_up clocks moment (sendings.Confirm signal) k = refl
sent_up clocks moment sendings.Test k = refl
sent_up clocks moment (sendings.Answer answer) k = refl
sent_up clocks moment (sendings.News x) k = refl
sent_up clocks moment (sendings.Part part) k = refl
sent_up clocks moment sendings.SFormat k = refl

-- there is an offer after a pump only if there was one before
pumped : (clocks : Clocks) (moment : ℕ) (k : Client) → offers_at moment (client_after_pump clocks moment k) ≡ true
    → offers_at moment k ≡ true
pumped clocks moment k is = by (offered moment k) refl is
  where
    by : (x : Option Sending) → offered moment k ≡ x → offers_at moment (client_by_offer clocks moment x k) ≡ true
        → offers_at moment k ≡ true
    by None first offers = offers
    by (Some x) first offers =
        let up : is_up k.stage ≡ true =
        sym (sent_up clocks moment x k)
        ∙ (and_parts (is_up (client_with_sent clocks moment x k).stage)
        (is_some (offered moment (client_with_sent clocks moment x k))) offers).0 in
        ap (λ (b : Bool). b && is_some (offered moment k)) up ∙ ap (λ (y : Option Sending). is_some y) first

pumped_at : (clocks : Clocks) (moment : ℕ) (k : Option Client)
    → has_offer moment (option_map (client_after_pump clocks moment) k) ≡ true → has_offer moment k ≡ true
pumped_at clocks moment None is = is
pumped_at clocks moment (Some k) is = pumped clocks moment k is

pump_offers : (clocks : Clocks) (moment c d : ℕ) (ks : List Client) (told : Bool)
    → has_offer moment (slice_get (change c (client_after_pump clocks moment) ks) d)
    && not (has_offer moment (slice_get ks d)) ≡ true
    → told ≡ true
pump_offers clocks moment c d ks told comes =
    none_comes (has_offer moment (slice_get ks d))
    (has_offer moment (slice_get (change c (client_after_pump clocks moment) ks) d)) told
    (λ is. elim (cases_eq c d) [
      | inl e ↦ pumped_at clocks moment (slice_get ks d)
          (sym (ap (has_offer moment)
          (ap (λ (x : ℕ). slice_get (change x (client_after_pump clocks moment) ks) d) e
          ∙ change-here d (client_after_pump clocks moment) ks)) ∙ is)
      | inr ne ↦ sym (ap (has_offer moment) (change-there c d (client_after_pump clocks moment) ks ne)) ∙ is
    ]) comes

-- ---- each step

pub offers_told : (setup : Setup) (s : State) (step : Step) (d : ℕ) → length s.clients ≡ 8
    → length (after setup s step).clients ≡ 8 → becomes_offered s step (after setup s step) d ≡ true
    → is_so (slice_get (effects_of setup s step).due_clients d) ≡ true
offers_told setup s (steps.OutstationUp o m) d eight still comes =
    all_told setup s (steps.OutstationUp o m) _ d eight still comes
offers_told setup s (steps.OutstationDown o m) d eight still comes =
    all_told setup s (steps.OutstationDown o m) _ d eight still comes
offers_told setup s (steps.Fragment f m) d eight still comes = fragment_offers setup s f m d eight still comes
offers_told setup s (steps.Poll o m wall) d eight still comes =
    polled s (latest s m) o wall d _ (order_due s o) comes
offers_told setup s (steps.ClientUp c m) d eight still comes =
    all_told setup s (steps.ClientUp c m) _ d eight still comes
offers_told setup s (steps.ClientDown c m) d eight still comes =
    all_told setup s (steps.ClientDown c m) _ d eight still comes
offers_told setup s (steps.Frame c apdu m) d eight still comes =
    all_told setup s (steps.Frame c apdu m) _ d eight still comes
offers_told setup s (steps.Pump c m) d eight still comes =
    pump_offers (station_clocks setup.station) (latest s m) c d s.clients _ comes
offers_told setup s (steps.Tick m) d eight still comes = all_told setup s (steps.Tick m) false d eight still comes
