-- What an APDU tells that doesn't close the connection, and a tick that does.
use Rattle.std.proofs.Common.{◌≡◌, ℕ, Bool, true, false, [], ◌∷◌, None, refl}
use Rattle.std.specs.Prelude.{◌&&◌, not, is_some}
use Rattle.gw_model.specs.First.{when, first_of}
use Rattle.gw_map.specs.Settings.{Setup}
use Rattle.iec_apci.specs.declared.apdu.Apdu.TheVariants.{S}
use Rattle.iec_window.specs.Sequence.{is_right_send, is_right_receive}
use Rattle.gw_judge.specs.declared.judging.Judged.{Judged}
use Rattle.iec_apci.specs.declared.why.Why.TheVariants.{Sequence, NotStarted, Malformed, Flooded, Timer}
use Rattle.gw_station.specs.Client.{Client, is_started as is_in_session, is_timed_out, close_by_tick}
use Rattle.gw_station.specs.Frames.{close_of, closes_judged, is_malformed, overfills}

pub open_s : (setup : Setup) (nr : ℕ) (k : Client) → close_of setup (S nr) k ≡ None
    → is_right_receive nr k.window ≡ true
open_s setup nr k = go (is_right_receive nr k.window)
  where
    go : (right : Bool) → first_of (when (not right) Sequence ∷ []) ≡ None → right ≡ true
    go true e = refl
    go false e = absurd cc

pub record IsOpen (ns nr : ℕ) (j : Judged) (k : Client) : Type 0 where
  pub started : is_in_session k.stage ≡ true
  pub send : is_right_send ns k.window ≡ true
  pub receive : is_right_receive nr k.window ≡ true
  pub whole : is_malformed j ≡ false
  pub places : overfills j k ≡ false

pub open_i : (ns nr : ℕ) (j : Judged) (k : Client) → first_of (closes_judged ns nr j k) ≡ None → IsOpen ns nr j k
open_i ns nr j k e = go (is_in_session k.stage) (is_right_send ns k.window) (is_right_receive nr k.window)
    (is_malformed j) (overfills j k) refl refl refl refl refl e
  where
    go : (started send receive malformed full : Bool) → is_in_session k.stage ≡ started
        → is_right_send ns k.window ≡ send → is_right_receive nr k.window ≡ receive
        → is_malformed j ≡ malformed → overfills j k ≡ full
        → first_of (when (not started) NotStarted ∷ when
        (not (send && receive)) Sequence ∷ when malformed Malformed ∷ when full Flooded ∷ []) ≡ None
        → IsOpen ns nr j k
    go true true true false false es en er em ef e = record {
      started = es;
      send = en;
      receive = er;
      whole = em;
      places = ef;
    }
    go true true true false true es en er em ef e = absurd cc
    go true true true true full es en er em ef e = absurd cc
    go true true false malformed full es en er em ef e = absurd cc
    go true false receive malformed full es en er em ef e = absurd cc
    go false send receive malformed full es en er em ef e = absurd cc

pub closed_late : (moment : ℕ) (k : Client) → is_some (close_by_tick moment k) ≡ is_timed_out moment k
closed_late moment k = go (is_timed_out moment k)
  where
    go : (late : Bool) → is_some (when late Timer) ≡ late
    go true = refl
    go false = refl
