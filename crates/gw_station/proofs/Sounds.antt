-- Whatever becomes of a client, what waits can be sent and is no more than may wait, and the steps and news count no
-- fewer than its I formats and what it dropped.
use Rattle.std.proofs.Common.{◌≡◌, ℕ, ◌+◌, ◌-◌, ◌<◌, ◌≤◌, Bool, true, false, List, [], ◌∷◌, ◌++◌}
use Rattle.std.proofs.Common.{drop, length, map, Option, Some, None, refl, sym, ap, subst, ◌∙◌, arith, inl, inr}
use Rattle.std.proofs.lemmas.List.{length-append, length-drop}
use Rattle.std.specs.Prelude.{IfSome}
use Rattle.std.specs.List.{AllByRecursion}
use Rattle.std.proofs.lemmas.Bool.{cases_Bool, true≢false}
use Rattle.gw_model.specs.declared.observation.Observation.{Observation}
use Rattle.gw_model.specs.Clocks.{Clocks}
use Rattle.gw_entries.specs.Setup.{StationSetup}
use Rattle.iec_apci.specs.declared.apdu.Apdu.{Apdu}
use Rattle.iec_apci.specs.declared.apdu.Apdu.TheVariants.{I, S, U}
use Rattle.iec_apci.specs.declared.apdu.Signal.{Signal}
use Rattle.iec_apci.specs.declared.apdu.Signal.TheVariants.{StartAct, StartCon, StopAct, StopCon, TestAct, TestCon}
use Rattle.iec_apci.specs.Apdu.{confirmation_of}
use Rattle.gw_station.specs.declared.client.Stage.{Stage}
use Rattle.gw_station.specs.declared.client.Stage.TheVariants.{Down, Stopped, Started}
use Rattle.iec_apci.specs.declared.why.Why.{Why}
use Rattle.iec_command.specs.declared.command.Command.{Command}
use Rattle.iec_command.specs.Commands.{IsWhole}
use Rattle.iec_window.specs.declared.limits.Limits.{Limits}
use Rattle.iec_window.specs.Counts.{WindowCounts}
use Rattle.iec_window.specs.Sequence.{is_right_send, is_right_receive, new_acknowledgements}
use Rattle.iec_window.specs.Steps.{counts_at_start, counts_after_right_s, counts_after_right_i}
use Rattle.iec_window.specs.Steps.{counts_after_s, counts_after_i, counts_after_sending_s}
use Rattle.iec_window.specs.Steps.{counts_after_sending_i, counts_after_sending_test}
use Rattle.gw_map.specs.Settings.{Setup, station_clocks}
use Rattle.gw_station.specs.declared.event.Said.{Said}
use Rattle.gw_answers.specs.declared.outgoing.AsduAnswer.{AsduAnswer}
use Rattle.gw_answers.specs.declared.outgoing.AsduAnswer.TheVariants.{Made}
use Rattle.gw_answers.proofs.Sendable.{confirmed_can}
use Rattle.gw_answers.specs.declared.outgoing.OwnAsdu.{OwnAsdu}
use Rattle.gw_answers.specs.Meaning.{CanSendAnswer, CanSendOutgoing, IsSendable}
use Rattle.gw_station.specs.declared.sending.Sending.{Sending}
use Rattle.gw_station.specs.declared.sending.Sending.TheVariants as sendings
use Rattle.gw_station.specs.declared.event.Said.TheVariants as saids
use Rattle.gw_station.specs.Answers.{client_judging, client_told, held_with, places, terminated, told, CanBeTold}
use Rattle.gw_station.specs.Client.{Client, is_started, queue_with, overflow, is_timed_out, client_anew}
use Rattle.gw_station.specs.Client.{client_with_news, client_after_close, client_after_up, client_after_tick}
use Rattle.gw_station.specs.Frames.{floods, judged_asdu, close_of, confirmations_with}
use Rattle.gw_station.specs.Frames.{window_with_signal, client_with_session, client_with_signal}
use Rattle.gw_station.specs.Frames.{client_taking, client_by, client_after_apdu}
use Rattle.gw_station.specs.Pump.{line, offered, together, client_without_news}
use Rattle.gw_station.specs.Pump.{client_without_parts, client_by_offer, client_after_pump, IsRoomy}
use Rattle.gw_station.specs.Sound.{CanAnswer, IsSoundClient, IsSoundWindow}
use Rattle.gw_station.proofs.All.{all-append, all-drop}
use Rattle.gw_station.proofs.Places.{answers_few, confirmations_few, not_flooded}
use Rattle.gw_station.proofs.Line.{offered_roomy}
use Rattle.iec_window.proofs.Right.{right_sent, sent_one_more}

pub sendable-append : (clocks : Clocks) (xs ys : List Observation) → AllByRecursion (IsSendable clocks) xs
    → AllByRecursion (IsSendable clocks) ys
    → AllByRecursion (IsSendable clocks) (xs ++ ys)
sendable-append clocks xs ys ax ay = all-append (IsSendable clocks) xs ys ax ay

-- ---- a window

window_later : (station : StationSetup) (n m : ℕ) (w : WindowCounts) → n ≤ m → IsSoundWindow station n w
    → IsSoundWindow station m w
window_later station n m w le sound = record {
  limits = sound.limits;
  waiting = sound.waiting;
  received = omega (arith, le, sound.received);
  sent = omega (arith, le, sound.sent);
}

-- a right N(R) came
window_after_right : (station : StationSetup) (n nr moment : ℕ) (w : WindowCounts) → is_right_receive nr w ≡ true
    → IsSoundWindow station n w → IsSoundWindow station n (counts_after_right_s nr moment w)
window_after_right station n nr moment w right sound = record {
  limits = sound.limits;
  waiting = omega (arith, length-drop (new_acknowledgements nr w) w.waiting, sound.waiting);
  received = sound.received;
  sent = omega (arith, right_sent nr moment w right, sound.sent);
}

window_after_s : (station : StationSetup) (n nr moment : ℕ) (w : WindowCounts) → IsSoundWindow station n w
    → IsSoundWindow station n (counts_after_s nr moment w)
window_after_s station n nr moment w sound = elim (cases_Bool (is_right_receive nr w)) [
  | inl right ↦ rw right (window_after_right station n nr moment w right sound)
  | inr wrong ↦ rw wrong sound
]

-- an I format came in a step
window_after_i : (station : StationSetup) (n ns nr moment : ℕ) (w : WindowCounts) → IsSoundWindow station n w
    → IsSoundWindow station (n + 1) (counts_after_i ns nr moment w)
window_after_i station n ns nr moment w sound = elim (cases_Bool (is_right_send ns w)) [
  | inl next ↦ elim (cases_Bool (is_right_receive nr w)) [
    | inl right ↦ rw (next, right) (one_more (window_after_right station n nr moment w right sound))
    | inr wrong ↦ rw (next, wrong) later
  ]
  | inr other ↦ rw other later
]
  where
    later : IsSoundWindow station (n + 1) w
    later = window_later station n (n + 1) w (omega arith) sound

    one_more : IsSoundWindow station n (counts_after_right_s nr moment w)
        → IsSoundWindow station (n + 1) (counts_after_right_i nr moment w)
    one_more after = record {
      limits = after.limits;
      waiting = after.waiting;
      received = omega (arith, after.received);
      sent = omega (arith, after.sent);
    }

-- an I format was sent in a step, where one may be sent
window_after_sending : (station : StationSetup) (n moment : ℕ) (w : WindowCounts) → length w.waiting < w.limits.k
    → IsSoundWindow station n w
    → IsSoundWindow station (n + 1) (counts_after_sending_i moment w)
window_after_sending station n moment w room sound = record {
  limits = sound.limits;
  waiting = omega (arith, length-append w.waiting (moment ∷ []), room, ap (λ (limits : Limits). limits.k) sound.limits);
  received = omega (arith, sound.received);
  sent = omega (arith, sound.sent, sent_one_more moment w);
}

-- ---- one part changes

-- more steps were made, and more news came
pub sound_later : (station : StationSetup) (n m i j : ℕ) (c : Client) → n ≤ m → i ≤ j → IsSoundClient station n i c
    → IsSoundClient station m j c
sound_later station n m i j c le few sound = record {
  window = window_later station n m c.window le sound.window;
  confirmations = sound.confirmations;
  places = sound.places;
  stopped = sound.stopped;
  answers = sound.answers;
  limit = sound.limit;
  few = sound.few;
  sendable = sound.sendable;
  dropped = omega (arith, few, sound.dropped);
  rest = sound.rest;
}

with_window : (station : StationSetup) (n m i : ℕ) (w : WindowCounts) (c : Client) → IsSoundWindow station m w
    → IsSoundClient station n i c → IsSoundClient station m i (record c { window = w })
with_window station n m i w c window sound = record {
  window = window;
  confirmations = sound.confirmations;
  places = sound.places;
  stopped = sound.stopped;
  answers = sound.answers;
  limit = sound.limit;
  few = sound.few;
  sendable = sound.sendable;
  dropped = sound.dropped;
  rest = sound.rest;
}

with_confirmations : (station : StationSetup) (n i : ℕ) (waiting : List Signal) (c : Client) → length waiting ≤ 32
    → IsSoundClient station n i c → IsSoundClient station n i (record c { confirmations = waiting })
with_confirmations station n i waiting c few sound = record {
  window = sound.window;
  confirmations = few;
  places = sound.places;
  stopped = sound.stopped;
  answers = sound.answers;
  limit = sound.limit;
  few = sound.few;
  sendable = sound.sendable;
  dropped = sound.dropped;
  rest = sound.rest;
}

-- what answers it, and how many of the queue came before the interrogation that is pending
with_answers : (station : StationSetup) (n i held older : ℕ) (answers : List AsduAnswer) (rest : List OwnAsdu)
    (c : Client)
    → length answers + held ≤ places → (is_started c.stage ≡ false → held ≡ 0)
    → AllByRecursion (CanSendAnswer (station_clocks station)) answers
    → AllByRecursion (CanSendOutgoing (station_clocks station)) rest → IsSoundClient station n i c
    → IsSoundClient station n i (record c { answers = answers; held = held; older = older; rest = rest })
with_answers station n i held older answers rest c few none can can_rest sound = record {
  window = sound.window;
  confirmations = sound.confirmations;
  places = few;
  stopped = none;
  answers = can;
  limit = sound.limit;
  few = sound.few;
  sendable = sound.sendable;
  dropped = sound.dropped;
  rest = can_rest;
}

-- nothing of a session
anew : (station : StationSetup) (n i : ℕ) (stage : Stage) (c : Client) → IsSoundClient station n i c
    → IsSoundClient station n i (client_anew stage c)
anew station n i stage c sound = record {
  window = sound.window;
  confirmations = sound.confirmations;
  places = omega arith;
  stopped = λ none. refl;
  answers = tt;
  limit = sound.limit;
  few = omega arith;
  sendable = tt;
  dropped = omega arith;
  rest = tt;
}

-- ---- news

-- news that can be sent come
pub sound_with_news : (station : StationSetup) (n i : ℕ) (xs : List Observation) (c : Client)
    → AllByRecursion (IsSendable (station_clocks station)) xs → IsSoundClient station n i c
    → IsSoundClient station n (i + length xs) (client_with_news xs c)
sound_with_news station n i xs c all sound = record {
  window = sound.window;
  confirmations = sound.confirmations;
  places = sound.places;
  stopped = sound.stopped;
  answers = sound.answers;
  limit = sound.limit;
  few = fits (is_started c.stage);
  sendable = sends (is_started c.stage);
  dropped = counts (is_started c.stage);
  rest = sound.rest;
}
  where
    sends : (started : Bool)
        → AllByRecursion (IsSendable (station_clocks station)) (queue_with xs c.limit started c.queue)
    sends true =
        all-drop (IsSendable (station_clocks station)) (length (c.queue ++ xs) - c.limit) (c.queue ++ xs)
        (sendable-append (station_clocks station) c.queue xs sound.sendable all)
    sends false = sound.sendable

    fits : (started : Bool) → length (queue_with xs c.limit started c.queue) ≤ c.limit
    fits true = omega (arith, length-drop (length (c.queue ++ xs) - c.limit) (c.queue ++ xs))
    fits false = sound.few

    counts : (started : Bool) → c.dropped + overflow xs c.limit started c.queue ≤ i + length xs
    counts true = omega (arith, length-append c.queue xs, sound.few, sound.dropped)
    counts false = omega (arith, sound.dropped)

-- ---- a connection

pub sound_after_close : (station : StationSetup) (n i : ℕ) (c : Client) → IsSoundClient station n i c
    → IsSoundClient station n i (client_after_close c)
sound_after_close station n i c sound = anew station n i Down c sound

pub sound_after_up : (station : StationSetup) (n i moment : ℕ) (c : Client) → IsSoundClient station n i c
    → IsSoundClient station n i (client_after_up moment c)
sound_after_up station n i moment c sound =
    with_confirmations station n i []
    (record (client_anew Stopped c) { window = counts_at_start c.window.limits moment }) (omega arith)
    (with_window station n n i (counts_at_start c.window.limits moment) (client_anew Stopped c)
    (record { limits = sound.window.limits; waiting = omega arith; received = omega arith; sent = omega arith })
    (anew station n i Stopped c sound))

pub sound_after_tick : (station : StationSetup) (n i moment : ℕ) (c : Client) → IsSoundClient station n i c
    → IsSoundClient station n i (client_after_tick moment c)
sound_after_tick station n i moment c sound = elim (cases_Bool (is_timed_out moment c)) [
  | inl late ↦ rw late (sound_after_close station n i c sound)
  | inr on ↦ rw on sound
]

-- ---- an APDU

with_session : (station : StationSetup) (n i : ℕ) (signal : Signal) (c : Client) → IsSoundClient station n i c
    → IsSoundClient station n i (client_with_session signal c)
with_session station n i StartAct c sound = elim (cases_Bool (is_started c.stage)) [
  | inl is ↦ rw is sound
  | inr isnt ↦ rw isnt (anew station n i Started c sound)
]
with_session station n i StopAct c sound = elim (cases_Bool (is_started c.stage)) [
  | inl is ↦ rw is (anew station n i Stopped c sound)
  | inr isnt ↦ rw isnt sound
]
with_session station n i TestAct c sound = sound
with_session station n i StartCon c sound = sound
with_session station n i StopCon c sound = sound
with_session station n i TestCon c sound = sound

window_after_signal : (station : StationSetup) (n moment : ℕ) (signal : Signal) (w : WindowCounts)
    → IsSoundWindow station n w → IsSoundWindow station n (window_with_signal moment signal w)
window_after_signal station n moment TestCon w sound =
    record { limits = sound.limits; waiting = sound.waiting; received = sound.received; sent = sound.sent }
window_after_signal station n moment _ w sound =
    record { limits = sound.limits; waiting = sound.waiting; received = sound.received; sent = sound.sent }

with_signal : (station : StationSetup) (n i moment : ℕ) (signal : Signal) (c : Client) → floods signal c ≡ false
    → IsSoundClient station n i c → IsSoundClient station n i (client_with_signal moment signal c)
with_signal station n i moment signal c fits sound =
    let w : WindowCounts = window_with_signal moment signal c.window in
    with_confirmations station n i (confirmations_with (confirmation_of signal) c.confirmations)
    (record (client_with_session signal c) { window = w })
    (confirmations_few signal c fits sound.confirmations)
    (with_window station n n i w (client_with_session signal c)
    (window_after_signal station n moment signal c.window sound.window) (with_session station n i signal c sound))

taking : (station : StationSetup) (n i : ℕ) (setup : Setup) (picture : List Observation) (moment : ℕ) (a : Apdu)
    (c : Client) → close_of setup a c ≡ None
    → CanAnswer (station_clocks station) (client_taking setup picture moment a c) → IsSoundClient station n i c
    → IsSoundClient station (n + 1) i (client_taking setup picture moment a c)
taking station n i setup picture moment (I ns nr asdu) c taken can sound =
    let d : Client = client_judging setup picture asdu (judged_asdu setup asdu) c in
    with_window station n (n + 1) i (counts_after_i ns nr moment c.window) d
    (window_after_i station n ns nr moment c.window sound.window)
    (with_answers station n i c.held d.older d.answers d.rest c
    (answers_few setup picture ns nr asdu (judged_asdu setup asdu) c taken) sound.stopped can.0 can.1 sound)
taking station n i setup picture moment (S nr) c taken can sound =
    with_window station n (n + 1) i (counts_after_s nr moment c.window) c
    (window_later station n (n + 1) (counts_after_s nr moment c.window) (omega arith)
    (window_after_s station n nr moment c.window sound.window)) sound
taking station n i setup picture moment (U signal) c taken can sound =
    sound_later station n (n + 1) i i (client_with_signal moment signal c) (omega arith) (omega arith)
    (with_signal station n i moment signal c (not_flooded (floods signal c) taken) sound)

-- a step with an APDU
pub sound_after_apdu : (station : StationSetup) (n i : ℕ) (setup : Setup) (picture : List Observation) (moment : ℕ)
    (a : Apdu) (c : Client) → CanAnswer (station_clocks station) (client_after_apdu setup picture moment a c)
    → IsSoundClient station n i c → IsSoundClient station (n + 1) i (client_after_apdu setup picture moment a c)
sound_after_apdu station n i setup picture moment a c answers sound = go (close_of setup a c) refl
  where
    go : (why : Option Why) → close_of setup a c ≡ why
        → IsSoundClient station (n + 1) i (client_by why c (client_taking setup picture moment a c))
    go None e =
        taking station n i setup picture moment a c e (subst (λ (x : Option Why).
        CanAnswer (station_clocks station) (client_by x c (client_taking setup picture moment a c))) e answers) sound
    go (Some why) e = sound_later station n (n + 1) i i (client_after_close c) (omega arith) (omega arith)
        (sound_after_close station n i c sound)

-- something was said of a command, for which there are places
terminated_can : (clocks : Clocks) (c : Command) → IsWhole c → CanSendOutgoing clocks (terminated c)
terminated_can clocks c whole = (
  refl,
  record {
    cause = omega arith;
    originator = whole.originator;
    common_address = whole.common_address;
    address = whole.address;
    action = whole.action;
  },
)

told_can : (clocks : Clocks) (command : Command) (said : Said) → IsWhole command
    → AllByRecursion (CanSendAnswer clocks) (map Made (told command said))
told_can clocks command saids.Confirm whole = (confirmed_can clocks false command whole, tt)
told_can clocks command saids.Negative whole = (confirmed_can clocks true command whole, tt)
told_can clocks command saids.Ordered whole = tt
told_can clocks command saids.Done whole =
    (confirmed_can clocks false command whole, (terminated_can clocks command whole, tt))
told_can clocks command saids.Failed whole = (confirmed_can clocks true command whole, tt)

-- orders are made in a session alone
held_in_session : (said : Said) (command : Command) (c : Client) → (said ≡ saids.Ordered → is_started c.stage ≡ true)
    → (is_started c.stage ≡ false → c.held ≡ 0) → is_started c.stage ≡ false → held_with said c.held ≡ 0
held_in_session saids.Confirm command c started none stopped = none stopped
held_in_session saids.Negative command c started none stopped = none stopped
held_in_session saids.Ordered command c started none stopped = absurd (true≢false (sym (started refl) ∙ stopped))
held_in_session saids.Done command c started none stopped = omega (arith, none stopped)
held_in_session saids.Failed command c started none stopped = omega (arith, none stopped)

pub sound_told : (station : StationSetup) (n i : ℕ) (said : Said) (command : Command) (c : Client) → IsWhole command
    → CanBeTold command said c → (said ≡ saids.Ordered → is_started c.stage ≡ true) → IsSoundClient station n i c
    → IsSoundClient station n i (client_told command said c)
sound_told station n i said command c whole room started sound =
    let told = client_told command said c in
    with_answers station n i told.held c.older told.answers c.rest c room
    (held_in_session said command c started sound.stopped)
    (all-append (CanSendAnswer (station_clocks station)) c.answers _ sound.answers
    (told_can (station_clocks station) command said whole)) sound.rest sound

-- ---- a pump

-- a step in which something is put out, or nothing
pub sound_after_pump : (station : StationSetup) (clocks : Clocks) (n i moment : ℕ) (c : Client)
    → IsSoundClient station n i c → IsSoundClient station (n + 1) i (client_after_pump clocks moment c)
sound_after_pump station clocks n i moment c sound = go (offered moment c) (offered_roomy moment c)
  where
    later : IsSoundClient station (n + 1) i c
    later = sound_later station n (n + 1) i i c (omega arith) (omega arith) sound

    -- an I format was put out
    numbered : (d : Client) → length c.window.waiting < c.window.limits.k → IsSoundClient station (n + 1) i d
        → IsSoundClient station (n + 1) i (record d { window = counts_after_sending_i moment c.window })
    numbered d room rest = with_window station (n + 1) (n + 1) i (counts_after_sending_i moment c.window) d
        (window_after_sending station n moment c.window room sound.window) rest

    go : (x : Option Sending) → IfSome x (IsRoomy c.window)
        → IsSoundClient station (n + 1) i (client_by_offer clocks moment x c)
    go None room = later
    go (Some (sendings.Confirm signal)) room =
        with_confirmations station (n + 1) i (drop 1 c.confirmations) c
        (omega (arith, length-drop 1 c.confirmations, sound.confirmations)) later
    go (Some sendings.Test) room =
        let w = later.window in
        with_window station (n + 1) (n + 1) i (counts_after_sending_test moment c.window) c
        (record { limits = w.limits; waiting = w.waiting; received = w.received; sent = w.sent }) later
    go (Some (sendings.Answer answer)) room =
        numbered (record c { answers = drop 1 c.answers }) room
        (with_answers station (n + 1) i c.held c.older (drop 1 c.answers) c.rest c
        (omega (arith, length-drop 1 c.answers, sound.places)) sound.stopped
        (all-drop (CanSendAnswer (station_clocks station)) 1 c.answers sound.answers) sound.rest later)
    go (Some (sendings.News x)) room =
        let gone : ℕ = together clocks (line c) in
        numbered (client_without_news gone c) room (record {
          window = later.window;
          confirmations = sound.confirmations;
          places = sound.places;
          stopped = sound.stopped;
          answers = sound.answers;
          limit = sound.limit;
          few = omega (arith, length-drop gone c.queue, sound.few);
          sendable = all-drop (IsSendable (station_clocks station)) gone c.queue sound.sendable;
          dropped = sound.dropped;
          rest = sound.rest;
        })
    go (Some (sendings.Part part)) room =
        let gone : ℕ = together clocks (line c) in
        numbered (client_without_parts gone c) room
        (with_answers station (n + 1) i c.held c.older c.answers (drop gone c.rest) c sound.places sound.stopped
        sound.answers (all-drop (CanSendOutgoing (station_clocks station)) gone c.rest sound.rest) later)
    go (Some sendings.SFormat) room =
        let w = later.window in
        with_window station (n + 1) (n + 1) i (counts_after_sending_s c.window) c
        (record { limits = w.limits; waiting = w.waiting; received = w.received; sent = w.sent }) later

-- ---- all clients

-- more steps were made, and more news came
pub all_later : (station : StationSetup) (n m i j : ℕ) (cs : List Client) → n ≤ m → i ≤ j
    → AllByRecursion (IsSoundClient station n i) cs → AllByRecursion (IsSoundClient station m j) cs
all_later station n m i j [] le few all = tt
all_later station n m i j (c ∷ cs) le few all =
    (sound_later station n m i j c le few all.0, all_later station n m i j cs le few all.1)
