-- What ties a client's window to its life.
use Rattle.std.proofs.Common.{◌≡◌, ℕ, ◌+◌, ◌%◌, ◌<◌, ◌≤◌, true, List, [], ◌∷◌}
use Rattle.std.proofs.Common.{length, None, refl, sym, ap, subst, ◌∙◌, arith, inl, inr}
use Rattle.std.proofs.lemmas.Bool.{ltb-true, cases_Bool}
use Rattle.std.proofs.lemmas.List.{length-drop}
use Rattle.gw_map.specs.Settings.{Setup, station_clocks}
use Rattle.iec_apci.specs.declared.apdu.Apdu.{Apdu}
use Rattle.iec_apci.specs.declared.apdu.Apdu.TheVariants.{I, S, U}
use Rattle.iec_apci.specs.declared.apdu.Signal.{Signal}
use Rattle.iec_apci.specs.declared.apdu.Signal.TheVariants.{StartAct, StartCon, StopAct, StopCon, TestAct, TestCon}
use Rattle.iec_command.specs.declared.command.Command.{Command}
use Rattle.iec_window.specs.declared.limits.Limits.{Limits}
use Rattle.iec_window.specs.Counts.{WindowCounts, sent_in_all}
use Rattle.iec_window.specs.Sequence.{Acknowledges, new_acknowledgements, is_right_send, is_right_receive}
use Rattle.iec_window.specs.Steps.{counts_after_s, counts_after_i, counts_after_sending_i}
use Rattle.iec_window.proofs.Numbers.{number_of-ahead}
use Rattle.gw_station.specs.declared.event.Event.{Event}
use Rattle.gw_station.specs.declared.event.Event.TheVariants as events
use Rattle.gw_station.specs.declared.event.Said.{Said}
use Rattle.gw_station.specs.declared.sending.Sending.{Sending}
use Rattle.gw_station.specs.declared.sending.Sending.TheVariants as sendings
use Rattle.gw_station.specs.Client.{Client, client_with_news, is_started, limits_of}
use Rattle.gw_station.specs.Frames.{close_of, judged_asdu, client_taking, client_with_signal, window_with_signal, command_in, event_taking}
use Rattle.gw_station.specs.Pump.{has_room, content_of, client_with_sent}
use Rattle.iec_window.proofs.Right.{right_split, right_names, named_right, right_sent, sent_one_more}
use Rattle.gw_steps.specs.Steps.{client_answered}
use Rattle.gw_steps.specs.Said.{ApduMeaning, said_by}
use Rattle.law_history.specs.Life.{Taking, Turn, Idle, Takes, PutsOut, Ends}
use Rattle.law_history.proofs.Lives.{Becomes, IsFresh, Lives, lives_all}
use Rattle.law_clients.specs.Numbers.{NamesCount, SaysNumbers, sent, taken, last_receive_number}
use Rattle.law_clients.specs.Numbers.{KeepsWindow, IsRightReceive, HasNumbers, HasRightNumbers}
use Rattle.law_clients.proofs.Offered.{IsOffered, offered_is}
use Rattle.law_clients.proofs.Told.{same_beside}
use Rattle.gw_station.proofs.Opens.{open_s, IsOpen, open_i}

pub record WindowTied (setup : Setup) (ts : List Turn) (w : WindowCounts) : Type 0 where
  pub limits : w.limits ≡ limits_of setup.station
  pub sent : sent_in_all w ≡ sent ts
  pub received : w.received ≡ taken ts
  pub acknowledged : last_receive_number ts ≡ w.acknowledged % 32768
  pub few : length w.waiting ≤ setup.station.k

-- the window, and how many news may wait
pub record CountsTied (setup : Setup) (ts : List Turn) (k : Client) : Type 0 where
  pub window : WindowTied setup ts k.window
  pub limit : k.limit ≡ setup.station.queue

-- ---- one turn more

-- a window whose counts stay
pub record SameCounts (w new : WindowCounts) : Type 0 where
  pub limits : new.limits ≡ w.limits
  pub acknowledged : new.acknowledged ≡ w.acknowledged
  pub waiting : new.waiting ≡ w.waiting
  pub received : new.received ≡ w.received

same_counts : (w : WindowCounts) → SameCounts w w
same_counts w = record { limits = refl; acknowledged = refl; waiting = refl; received = refl }

window_same : (setup : Setup) (ts us : List Turn) (w new : WindowCounts) → sent us ≡ sent ts → taken us ≡ taken ts
    → last_receive_number us ≡ last_receive_number ts
    → SameCounts w new → WindowTied setup ts w → WindowTied setup us new
window_same setup ts us w new es et er same tied = record {
  limits = same.limits ∙ tied.limits;
  sent = omega (arith, same.acknowledged, ap length same.waiting, tied.sent, es);
  received = same.received ∙ (tied.received ∙ sym et);
  acknowledged = er ∙ (tied.acknowledged ∙ sym (ap (λ (n : ℕ). n % 32768) same.acknowledged));
  few = omega (arith, ap length same.waiting, tied.few);
}

-- an I format was put out
window_sent : (setup : Setup) (ts us : List Turn) (moment : ℕ) (w : WindowCounts) → sent us ≡ sent ts + 1
    → taken us ≡ taken ts → last_receive_number us ≡ last_receive_number ts
    → has_room w ≡ true → WindowTied setup ts w → WindowTied setup us (counts_after_sending_i moment w)
window_sent setup ts us moment w es et er room tied =
    let within : length w.waiting < w.limits.k = ltb-true (length w.waiting) w.limits.k room in
    let k : w.limits.k ≡ setup.station.k = ap (λ (l : Limits). l.k) tied.limits in
    let one : sent_in_all (counts_after_sending_i moment w) ≡ sent_in_all w + 1 = sent_one_more moment w in
    record {
      limits = tied.limits;
      sent = one ∙ (ap (λ (n : ℕ). n + 1) tied.sent ∙ sym es);
      received = tied.received ∙ sym et;
      acknowledged = er ∙ tied.acknowledged;
      few = omega (arith, one, within, k);
    }

-- an S format was taken
window_with_s : (setup : Setup) (ts : List Turn) (taking : Taking) (nr moment : ℕ) (w : WindowCounts)
    → is_right_receive nr w ≡ true
    → WindowTied setup ts w → WindowTied setup (Takes (S nr) taking ∷ ts) (counts_after_s nr moment w)
window_with_s setup ts taking nr moment w right tied =
    let parts = right_split nr w right in
    rw right (record {
      limits = tied.limits;
      sent = right_sent nr moment w right ∙ tied.sent;
      received = tied.received;
      acknowledged = number_of-ahead nr w.acknowledged parts.0;
      few = omega (arith, length-drop (new_acknowledgements nr w) w.waiting, tied.few);
    })

-- an I format was taken
window_with_i : (setup : Setup) (ts us : List Turn) (ns nr moment : ℕ) (w : WindowCounts) → sent us ≡ sent ts
    → taken us ≡ taken ts + 1 → last_receive_number us ≡ nr
    → is_right_send ns w ≡ true → is_right_receive nr w ≡ true → WindowTied setup ts w
    → WindowTied setup us (counts_after_i ns nr moment w)
window_with_i setup ts us ns nr moment w es et er next right tied =
    let parts = right_split nr w right in
    rw (next, right) (record {
      limits = tied.limits;
      sent = right_sent nr moment w right ∙ (tied.sent ∙ sym es);
      received = ap (λ (n : ℕ). n + 1) tied.received ∙ sym et;
      acknowledged = er ∙ number_of-ahead nr w.acknowledged parts.0;
      few = omega (arith, length-drop (new_acknowledgements nr w) w.waiting, tied.few);
    })

-- ---- an APDU is taken

-- a client whose counts stay
counts_same : (setup : Setup) (ts us : List Turn) (k new : Client) → sent us ≡ sent ts → taken us ≡ taken ts
    → last_receive_number us ≡ last_receive_number ts
    → SameCounts k.window new.window → new.limit ≡ k.limit → CountsTied setup ts k → CountsTied setup us new
counts_same setup ts us k new es et er same limit tied =
    record {
      window = window_same setup ts us k.window new.window es et er same tied.window;
      limit = limit ∙ tied.limit;
    }

answered_same : (said : Command → Said) (event : Event) (k : Client)
    → ((client_answered said event k).window ≡ k.window) × ((client_answered said event k).limit ≡ k.limit)
answered_same said events.Taken k = (refl, refl)
answered_same said (events.Command command) k = (refl, refl)
answered_same said (events.Closed why) k = (refl, refl)

signal_counts : (moment : ℕ) (signal : Signal) (w : WindowCounts) → SameCounts w (window_with_signal moment signal w)
signal_counts moment StartAct w = record { limits = refl; acknowledged = refl; waiting = refl; received = refl }
signal_counts moment StopAct w = record { limits = refl; acknowledged = refl; waiting = refl; received = refl }
signal_counts moment TestAct w = record { limits = refl; acknowledged = refl; waiting = refl; received = refl }
signal_counts moment StartCon w = record { limits = refl; acknowledged = refl; waiting = refl; received = refl }
signal_counts moment StopCon w = record { limits = refl; acknowledged = refl; waiting = refl; received = refl }
signal_counts moment TestCon w = record { limits = refl; acknowledged = refl; waiting = refl; received = refl }

signal_limit : (moment : ℕ) (signal : Signal) (k : Client) → (client_with_signal moment signal k).limit ≡ k.limit
signal_limit moment StartAct k = elim (cases_Bool (is_started k.stage)) [ inl is ↦ rw is refl | inr out ↦ rw out refl ]
signal_limit moment StopAct k = elim (cases_Bool (is_started k.stage)) [ inl is ↦ rw is refl | inr out ↦ rw out refl ]
signal_limit moment TestAct k = refl
signal_limit moment StartCon k = refl
signal_limit moment StopCon k = refl
signal_limit moment TestCon k = refl

took : (setup : Setup) (ts : List Turn) (a : Apdu) (taking : Taking) (moment : ℕ) (k : Client)
    → close_of setup a k ≡ None → CountsTied setup ts k
    → CountsTied setup (Takes a taking ∷ ts)
    (client_answered taking.said (event_taking (command_in setup a)) (client_taking setup taking.picture moment a k))
took setup ts (I ns nr asdu) taking moment k opens tied =
    let told : IsOpen ns nr (judged_asdu setup asdu) k = open_i ns nr (judged_asdu setup asdu) k opens in
    let between : Client = client_taking setup taking.picture moment (I ns nr asdu) k in
    let same = answered_same taking.said (event_taking (command_in setup (I ns nr asdu))) between in
    let us : List Turn = Takes (I ns nr asdu) taking ∷ ts in
    record {
      window = subst (WindowTied setup us) (sym same.0)
          (window_with_i setup ts us ns nr moment k.window refl refl refl told.send told.receive tied.window);
      limit = same.1 ∙ tied.limit;
    }
took setup ts (S nr) taking moment k opens tied =
    record {
      window = window_with_s setup ts taking nr moment k.window (open_s setup nr k opens) tied.window;
      limit = tied.limit;
    }
took setup ts (U signal) taking moment k opens tied =
    counts_same setup ts (Takes (U signal) taking ∷ ts) k (client_with_signal moment signal k) refl refl refl
    (signal_counts moment signal k.window) (signal_limit moment signal k) tied

-- ---- something is put out

abbrev pub says : Setup → Client → Sending → ApduMeaning
says setup k s = said_by (station_clocks setup.station)
    (content_of (station_clocks setup.station) k s)

gave : (setup : Setup) (ts : List Turn) (moment : ℕ) (s : Sending) (k : Client) → IsOffered k s → CountsTied setup ts k
    → CountsTied setup (PutsOut (says setup k s) ∷ ts) (client_with_sent (station_clocks setup.station) moment s k)
gave setup ts moment (sendings.Confirm signal) k is tied =
    counts_same setup ts (PutsOut (says setup k (sendings.Confirm signal)) ∷ ts) k
    (client_with_sent (station_clocks setup.station) moment (sendings.Confirm signal) k) refl refl refl (same_counts k.window) refl tied
gave setup ts moment sendings.Test k is tied =
    counts_same setup ts (PutsOut (says setup k sendings.Test) ∷ ts) k
    (client_with_sent (station_clocks setup.station) moment sendings.Test k) refl refl refl
    (record { limits = refl; acknowledged = refl; waiting = refl; received = refl }) refl tied
gave setup ts moment sendings.SFormat k is tied =
    counts_same setup ts (PutsOut (says setup k sendings.SFormat) ∷ ts) k
    (client_with_sent (station_clocks setup.station) moment sendings.SFormat k) refl refl refl
    (record { limits = refl; acknowledged = refl; waiting = refl; received = refl }) refl tied
gave setup ts moment (sendings.Answer answer) k is tied =
    record {
      window = window_sent setup ts (PutsOut (says setup k (sendings.Answer answer)) ∷ ts) moment k.window refl
          refl refl is.room tied.window;
      limit = tied.limit;
    }
gave setup ts moment (sendings.Part part) k is tied =
    record {
      window = window_sent setup ts (PutsOut (says setup k (sendings.Part part)) ∷ ts) moment k.window refl
          refl refl is.room tied.window;
      limit = tied.limit;
    }
gave setup ts moment (sendings.News x) k is tied =
    record {
      window = window_sent setup ts (PutsOut (says setup k (sendings.News x)) ∷ ts) moment k.window refl refl
          refl is.room tied.window;
      limit = tied.limit;
    }

-- ---- lives

fresh : (setup : Setup) (k : Client) → IsFresh setup k → CountsTied setup [] k
fresh setup k is = record {
  window = record {
    limits = is.limits;
    sent = omega (arith, is.acknowledged, ap length is.waiting);
    received = is.received;
    acknowledged = sym (ap (λ (n : ℕ). n % 32768) is.acknowledged);
    few = omega (arith, ap length is.waiting);
  };
  limit = is.limit;
}

counts_more : (setup : Setup) (t : Turn) (ts : List Turn) (k new : Client) → Lives setup ts k → Becomes setup t k new
    → CountsTied setup ts k → CountsTied setup (t ∷ ts) new
counts_more setup (Idle brought) ts k new lives is tied =
    let same = same_beside brought.outcomes (client_with_news brought.news k) in
    subst (CountsTied setup (Idle brought ∷ ts)) (sym is.becomes) (record {
      window = subst (WindowTied setup (Idle brought ∷ ts)) (sym same.window)
          (window_same setup ts (Idle brought ∷ ts) k.window k.window refl refl refl (same_counts k.window)
          tied.window);
      limit = same.limit ∙ tied.limit;
    })
counts_more setup Ends ts k new lives is tied = subst (CountsTied setup (Ends ∷ ts)) (sym is)
    (counts_same setup ts (Ends ∷ ts) k _ refl refl refl (same_counts k.window) refl tied)
counts_more setup (Takes a taking) ts k new lives is tied =
    subst (CountsTied setup (Takes a taking ∷ ts)) (sym is.becomes) (took setup ts a taking is.moment k is.opens tied)
counts_more setup (PutsOut said) ts k new lives is tied =
    subst (CountsTied setup (PutsOut said ∷ ts)) (sym is.becomes)
    (subst (λ (x : ApduMeaning). CountsTied setup (PutsOut x ∷ ts) (client_with_sent (station_clocks setup.station) is.moment is.sending k))
    (sym is.says)
    (gave setup ts is.moment is.sending k (offered_is is.moment k is.sending is.first) tied))

pub counts_tied : (setup : Setup) (ts : List Turn) (k : Client) → Lives setup ts k → CountsTied setup ts k
counts_tied setup = lives_all setup (CountsTied setup) (fresh setup) (counts_more setup)

-- ---- what N(R) names

-- one number names one count
same_count : (nr sent n m : ℕ) → NamesCount nr sent n → NamesCount nr sent m → n ≡ m
same_count nr sent n m a b = omega (arith, a.not_more, a.latest, a.number, b.not_more, b.latest, b.number)

last_named : (setup : Setup) (ts : List Turn) (w : WindowCounts) → setup.station.k < 32768 → WindowTied setup ts w
    → NamesCount (last_receive_number ts) (sent ts) w.acknowledged
last_named setup ts w small tied = record {
  not_more = omega (arith, tied.sent);
  latest = omega (arith, tied.sent, tied.few, small);
  number = tied.acknowledged;
}

window_kept : (setup : Setup) (ts : List Turn) (w : WindowCounts) → setup.station.k < 32768 → WindowTied setup ts w
    → KeepsWindow setup.station.k ts
window_kept setup ts w small tied = record {
  acknowledged = w.acknowledged;
  named = last_named setup ts w small tied;
  within = omega (arith, tied.sent, tied.few);
}

pub receive_is_right : (setup : Setup) (ts : List Turn) (nr : ℕ) (w : WindowCounts) → setup.station.k < 32768
    → WindowTied setup ts w
    → is_right_receive nr w ≡ true → IsRightReceive ts nr
receive_is_right setup ts nr w small tied right =
    let names : Acknowledges nr w (w.acknowledged + new_acknowledgements nr w) = right_names nr w right in
    record {
      acknowledged = w.acknowledged;
      count = w.acknowledged + new_acknowledgements nr w;
      last = last_named setup ts w small tied;
      named = record {
        not_more = omega (arith, tied.sent, names.not_more);
        latest = omega (arith, tied.sent, tied.few, small);
        number = names.number;
      };
      not_fewer = omega arith;
    }

pub right_receive_is : (setup : Setup) (ts : List Turn) (nr : ℕ) (w : WindowCounts) → setup.station.k < 32768
    → WindowTied setup ts w
    → IsRightReceive ts nr → is_right_receive nr w ≡ true
right_receive_is setup ts nr w small tied right =
    let same : right.acknowledged ≡ w.acknowledged =
    same_count (last_receive_number ts) (sent ts) right.acknowledged w.acknowledged right.last
    (last_named setup ts w small tied) in
    named_right nr w right.count (omega (arith, tied.few, small))
    (record {
      not_fewer = omega (arith, same, right.not_fewer);
      not_more = omega (arith, right.named.not_more, tied.sent);
      number = right.named.number;
    })

-- ---- the law

says_numbers : (setup : Setup) (ts : List Turn) (s : Sending) (k : Client) → WindowTied setup ts k.window
    → SaysNumbers (sent ts) (taken ts) (says setup k s)
says_numbers setup ts (sendings.Confirm signal) k tied = tt
says_numbers setup ts sendings.Test k tied = tt
says_numbers setup ts sendings.SFormat k tied = ap (λ (n : ℕ). n % 32768) tied.received
says_numbers setup ts (sendings.Answer answer) k tied =
    (ap (λ (n : ℕ). n % 32768) tied.sent, ap (λ (n : ℕ). n % 32768) tied.received)
says_numbers setup ts (sendings.Part part) k tied = (
  ap (λ (n : ℕ). n % 32768) tied.sent,
  ap (λ (n : ℕ). n % 32768)
      tied.received,
)
says_numbers setup ts (sendings.News x) k tied = (
  ap (λ (n : ℕ). n % 32768) tied.sent,
  ap (λ (n : ℕ). n % 32768)
      tied.received,
)

last_numbers : (setup : Setup) (ts : List Turn) (k : Client) → Lives setup ts k → HasNumbers ts
last_numbers setup [] k lives = tt
last_numbers setup (Idle brought ∷ ts) k lives = tt
last_numbers setup (Takes a taking ∷ ts) k lives = tt
last_numbers setup (Ends ∷ ts) k lives = tt
last_numbers setup (PutsOut said ∷ ts) k lives =
    let gave = lives.2 in
    subst (SaysNumbers (sent ts) (taken ts)) (sym gave.says)
    (says_numbers setup ts gave.sending lives.0 (counts_tied setup ts lives.0 lives.1).window)

pub right_numbers : (setup : Setup) → setup.station.k < 32768 → (ts : List Turn) (k : Client) → Lives setup ts k
    → HasRightNumbers setup.station.k ts
right_numbers setup small ts k lives =
    record {
      last = last_numbers setup ts k lives;
      window = window_kept setup ts k.window small
          (counts_tied setup ts k lives).window;
    }
