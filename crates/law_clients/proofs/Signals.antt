-- What ties the confirmations that wait to a client's turns.
use Rattle.std.proofs.Common.{◌≡◌, ℕ, ◌≤◌, List, [], ◌∷◌, ◌++◌, drop, take, map, length}
use Rattle.std.proofs.Common.{Option, Some, None, refl, sym, ap, subst, ◌∙◌, append_assoc, arith}
use Rattle.std.specs.Option.{option_to_list}
use Rattle.std.specs.Prelude.{slice_get, IfSome}
use Rattle.std.specs.List.{AllByRecursion}
use Rattle.std.proofs.lemmas.List.{append-nil}
use Rattle.gw_map.specs.Settings.{Setup, station_clocks}
use Rattle.gw_picture.proofs.Lists.{some_is}
use Rattle.iec_apci.specs.declared.apdu.Apdu.{Apdu}
use Rattle.iec_apci.specs.declared.apdu.Apdu.TheVariants.{I, S, U}
use Rattle.iec_apci.specs.declared.apdu.Signal.{Signal}
use Rattle.iec_apci.specs.declared.apdu.Signal.TheVariants.{StartAct, StartCon, StopAct, StopCon, TestAct, TestCon}
use Rattle.iec_apci.specs.Apdu.{confirmation_of}
use Rattle.gw_station.specs.declared.sending.Sending.{Sending}
use Rattle.gw_station.specs.declared.sending.Sending.TheVariants as sendings
use Rattle.gw_station.specs.Client.{Client}
use Rattle.gw_station.specs.Frames.{confirmations_with}
use Rattle.gw_station.specs.Pump.{client_with_sent}
use Rattle.gw_station.proofs.All.{all-append}
use Rattle.gw_steps.specs.Said.{ApduMeaning, UFormat}
use Rattle.gw_steps.specs.State.{State}
use Rattle.gw_steps.specs.Runs.{Entry, state_after}
use Rattle.law_history.specs.Life.{Taking, Turn, life, Idle, Takes, PutsOut, Ends}
use Rattle.gw_steps.specs.Premises.{client_at}
use Rattle.law_history.proofs.Places.{Place, SlotLives}
use Rattle.law_history.proofs.Told.{sound_at}
use Rattle.law_clients.proofs.Numbers.{WindowTied, says}
use Rattle.law_clients.specs.Connection.{At, Connection, TimedTurn, connection, turn_in, turns}
use Rattle.law_clients.specs.Signals.{ConfirmsInOrder, Signals, given, waiting, wanted}
use Rattle.law_clients.proofs.Links.{AllLinked, BecomesAt, ClientLinked, Linked, SlotLinked, TakesAt, linked_all}
use Rattle.law_clients.proofs.Offers.{IsOffer, offer_told}

-- ---- the tie

-- a confirmation is no act
abbrev pub IsCon : Signal → Type 0
IsCon StartAct = ⊥
IsCon StartCon = Unit {0}
IsCon StopAct = ⊥
IsCon StopCon = Unit {0}
IsCon TestAct = ⊥
IsCon TestCon = Unit {0}

-- what was wanted was put out, or waits
pub record SignalsTied (ts : List TimedTurn) (k : Client) : Type 0 where
  pub wanted : wanted (map turn_in ts) ≡ given (map turn_in ts) ++ k.confirmations
  pub cons : AllByRecursion IsCon k.confirmations

-- ---- one turn more

signals_same : (ts us : List TimedTurn) (k new : Client) → wanted (map turn_in us) ≡ wanted (map turn_in ts)
    → given (map turn_in us) ≡ given (map turn_in ts) → new.confirmations ≡ k.confirmations → SignalsTied ts k
    → SignalsTied us new
signals_same ts us k new ew eg same tied = record {
  wanted = ew ∙ (tied.wanted ∙ (ap (λ (xs : List Signal). xs ++ k.confirmations) (sym eg)
      ∙ ap (λ (xs : List Signal). given (map turn_in us) ++ xs) (sym same)));
  cons = subst (AllByRecursion IsCon) (sym same) tied.cons;
}

-- one confirmation more, if there is one
added : (x : Option Signal) (ws gs cs : List Signal) → ws ≡ gs ++ cs
    → ws ++ option_to_list x ≡ gs ++ confirmations_with x cs
added None ws gs cs e = append-nil ws ∙ e
added (Some signal) ws gs cs e =
    ap (λ (xs : List Signal). xs ++ signal ∷ []) e ∙ append_assoc gs cs (signal ∷ [])

confirms : (signal : Signal) → IfSome (confirmation_of signal) IsCon
confirms StartAct = tt
confirms StartCon = tt
confirms StopAct = tt
confirms StopCon = tt
confirms TestAct = tt
confirms TestCon = tt

cons_more : (x : Option Signal) (cs : List Signal) → IfSome x IsCon → AllByRecursion IsCon cs
    → AllByRecursion IsCon (confirmations_with x cs)
cons_more None cs is all = all
cons_more (Some signal) cs is all = all-append IsCon cs (signal ∷ []) all (is, tt)

took : (setup : Setup) (moment : ℕ) (a : Apdu) (taking : Taking) (ts : List TimedTurn) (k new : Client)
    → TakesAt setup moment a k new → SignalsTied ts k → SignalsTied (At moment (Takes a taking) ∷ ts) new
took setup moment (I ns nr asdu) taking ts k new takes tied =
    signals_same ts (At moment (Takes (I ns nr asdu) taking) ∷ ts) k new refl refl takes.confirmations tied
took setup moment (S nr) taking ts k new takes tied =
    signals_same ts (At moment (Takes (S nr) taking) ∷ ts) k new refl refl takes.confirmations tied
took setup moment (U signal) taking ts k new takes tied = record {
  wanted = added (confirmation_of signal) (wanted (map turn_in ts)) (given (map turn_in ts)) k.confirmations
      tied.wanted
      ∙ ap (λ (xs : List Signal). given (map turn_in ts) ++ xs) (sym takes.confirmations);
  cons = subst (AllByRecursion IsCon) (sym takes.confirmations)
      (cons_more (confirmation_of signal) k.confirmations (confirms signal) tied.cons);
}

-- a con that is put out is one of those given
given_more : (signal : Signal) (ts : List Turn) → IsCon signal
    → given (PutsOut (UFormat signal) ∷ ts) ≡ given ts ++ signal ∷ []
given_more StartAct ts is = absurd is
given_more StartCon ts is = refl
given_more StopAct ts is = absurd is
given_more StopCon ts is = refl
given_more TestAct ts is = absurd is
given_more TestCon ts is = refl

-- the first that waits is put out
confirmed : (moment : ℕ) (signal : Signal) (ts : List TimedTurn) (k : Client) (cs : List Signal)
    → k.confirmations ≡ cs → slice_get cs 0 ≡ Some signal → SignalsTied ts k
    → SignalsTied (At moment (PutsOut (UFormat signal)) ∷ ts) (record k { confirmations = drop 1 cs })
confirmed moment signal ts k [] same first tied = absurd cc
confirmed moment signal ts k (x ∷ cs) same first tied =
    let is : x ≡ signal = some_is x signal first in
    let all : AllByRecursion IsCon (x ∷ cs) = subst (AllByRecursion IsCon) same tied.cons in
    let con : IsCon signal = subst IsCon is all.0 in
    let gs : List Signal = given (map turn_in ts) in
    record {
      wanted = tied.wanted ∙ (ap (λ (xs : List Signal). gs ++ xs) same
          ∙ (sym (append_assoc gs (x ∷ []) cs)
          ∙ (ap (λ (y : Signal). (gs ++ y ∷ []) ++ cs) is
          ∙ ap (λ (xs : List Signal). xs ++ cs) (sym (given_more signal (map turn_in ts) con)))));
      cons = all.1;
    }

gave : (setup : Setup) (moment : ℕ) (s : Sending) (ts : List TimedTurn) (k : Client) → IsOffer moment k (Some s)
    → SignalsTied ts k → SignalsTied (At moment (PutsOut (says setup k s)) ∷ ts) (client_with_sent (station_clocks setup.station) moment s k)
gave setup moment (sendings.Confirm signal) ts k offer tied =
    confirmed moment signal ts k k.confirmations refl offer tied
gave setup moment sendings.Test ts k offer tied = signals_same ts _ k _ refl refl refl tied
gave setup moment (sendings.Answer answer) ts k offer tied = signals_same ts _ k _ refl refl refl tied
gave setup moment (sendings.News x) ts k offer tied = signals_same ts _ k _ refl refl refl tied
gave setup moment (sendings.Part part) ts k offer tied = signals_same ts _ k _ refl refl refl tied
gave setup moment sendings.SFormat ts k offer tied = signals_same ts _ k _ refl refl refl tied

signals_more : (setup : Setup) (began moment : ℕ) (turn : Turn) (ts : List TimedTurn) (k new : Client)
    → Linked setup began ts k → WindowTied setup (map turn_in ts) k.window → BecomesAt setup moment turn k new
    → SignalsTied ts k → SignalsTied (At moment turn ∷ ts) new
signals_more setup began moment (Idle brought) ts k new linked tied is so_far =
    signals_same ts (At moment (Idle brought) ∷ ts) k new refl refl is.confirmations so_far
signals_more setup began moment (Takes a taking) ts k new linked tied is so_far =
    took setup moment a taking ts k new is so_far
signals_more setup began moment (PutsOut said) ts k new linked tied is so_far =
    subst (SignalsTied (At moment (PutsOut said) ∷ ts)) (sym is.becomes)
    (subst (λ (x : ApduMeaning). SignalsTied (At moment (PutsOut x) ∷ ts) (client_with_sent (station_clocks setup.station) moment is.sending k))
    (sym is.says)
    (gave setup moment is.sending ts k (offer_told moment k (Some is.sending) is.first) so_far))
signals_more setup began moment Ends ts k new linked tied is so_far = absurd is

pub signals_tied : (setup : Setup) (began : ℕ) (ts : List TimedTurn) (k : Client) → Linked setup began ts k
    → SignalsTied ts k
signals_tied setup began = linked_all setup began SignalsTied
    (λ k is. record { wanted = sym is.confirmations; cons = subst (AllByRecursion IsCon) (sym is.confirmations) tt })
    (signals_more setup began)

-- ---- the law

drop_front : (xs ys : List Signal) → drop (length xs) (xs ++ ys) ≡ ys
drop_front [] ys = refl
drop_front (x ∷ xs) ys = drop_front xs ys

take_front : (xs ys : List Signal) → take (length xs) (xs ++ ys) ≡ xs
take_front [] ys = refl
take_front (x ∷ xs) ys = ap (λ (zs : List Signal). x ∷ zs) (take_front xs ys)

pub waiting_is : (ts : List TimedTurn) (k : Client) → SignalsTied ts k → waiting (map turn_in ts) ≡ k.confirmations
waiting_is ts k tied =
    ap (drop (length (given (map turn_in ts)))) tied.wanted ∙ drop_front (given (map turn_in ts)) k.confirmations

in_order : (x : Connection) (k : Client) → length k.confirmations ≤ 32 → SignalsTied x.timed k → ConfirmsInOrder x
in_order x k few tied = record {
  front = sym (ap (take (length (given (turns x)))) tied.wanted ∙ take_front (given (turns x)) k.confirmations);
  few = omega (arith, few, ap length (waiting_is x.timed k tied));
}

of_client : (setup : Setup) (x : Option Connection) (k : Client) → length k.confirmations ≤ 32
    → ClientLinked setup x k → IfSome x ConfirmsInOrder
of_client setup None k few linked = tt
of_client setup (Some x) k few linked = in_order x k few (signals_tied setup x.began x.timed k linked.1)

pub tells_signals : (setup : Setup) (past : List Entry) → Place setup past → AllLinked setup past → Signals setup past
tells_signals setup past place linked c within =
    by (client_at setup c past) refl (place.known.lives c) (linked c)
  where
    by : (s : Option Client) → client_at setup c past ≡ s → SlotLives setup c (life setup c past) s
        → SlotLinked setup (connection setup c past) s → IfSome (connection setup c past) ConfirmsInOrder
    by None at lives linked = absurd (omega (arith, lives, within))
    by (Some k) at lives linked =
        let s : State = state_after setup past in
        let mine = sound_at setup.station s.counts.steps s.counts.news s.clients c k at place.known.sound.clients in
        of_client setup (connection setup c past) k mine.confirmations linked
