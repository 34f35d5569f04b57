-- What is offered, and what is first in line.
use Rattle.std.proofs.Common.{◌≡◌, ℕ, Bool, true, false, cond, [], ◌∷◌, Option, Some, None, refl, subst}
use Rattle.std.specs.Prelude.{◌&&◌, option_map, slice_get}
use Rattle.gw_model.specs.First.{when, first_of}
use Rattle.gw_picture.proofs.Lists.{some_is}
use Rattle.iec_apci.specs.declared.apdu.Signal.{Signal}
use Rattle.iec_window.specs.Timers.{owes_ack, owes_test}
use Rattle.gw_station.specs.declared.sending.Sending.{Sending}
use Rattle.gw_station.specs.declared.sending.Sending.TheVariants as sendings
use Rattle.gw_station.specs.Client.{Client, is_started as is_in_session}
use Rattle.gw_station.specs.Pump.{has_room, line, offered}

-- the first in line, in a session, where an I format may be sent
pub record IsFirst (k : Client) (s : Sending) : Type 0 where
  pub in_session : is_in_session k.stage ≡ true
  pub room : has_room k.window ≡ true
  pub first : slice_get (line k) 0 ≡ Some s

abbrev pub IsOffered : Client → Sending → Type 0
IsOffered k (sendings.Confirm signal) = Unit {0}
IsOffered k sendings.Test = Unit {0}
IsOffered k (sendings.Answer answer) = IsFirst k (sendings.Answer answer)
IsOffered k (sendings.News x) = IsFirst k (sendings.News x)
IsOffered k (sendings.Part part) = IsFirst k (sendings.Part part)
IsOffered k sendings.SFormat = Unit {0}

first_offered : (k : Client) (s : Sending) → IsFirst k s → IsOffered k s
first_offered k (sendings.Confirm signal) is = tt
first_offered k sendings.Test is = tt
first_offered k (sendings.Answer answer) is = is
first_offered k (sendings.News x) is = is
first_offered k (sendings.Part part) is = is
first_offered k sendings.SFormat is = tt

pub offered_is : (moment : ℕ) (k : Client) (s : Sending) → offered moment k ≡ Some s → IsOffered k s
offered_is moment k s e =
    by (slice_get k.confirmations 0) (owes_test moment k.window) (is_in_session k.stage) (has_room k.window)
    (slice_get (line k) 0) (owes_ack moment k.window) refl refl refl e
  where
    by : (confirmation : Option Signal) (test started room : Bool) (first : Option Sending) (ack : Bool)
        → is_in_session k.stage ≡ started → has_room k.window ≡ room → slice_get (line k) 0 ≡ first
        → first_of (option_map sendings.Confirm confirmation ∷ when test sendings.Test ∷ cond
        (started && room) first None ∷ when ack sendings.SFormat ∷ []) ≡ Some s
        → IsOffered k s
    by (Some signal) test started room first ack es er el e =
        subst (IsOffered k) (some_is (sendings.Confirm signal) s e) tt
    by None true started room first ack es er el e = subst (IsOffered k) (some_is sendings.Test s e) tt
    by None false true true (Some x) ack es er el e =
        subst (IsOffered k) (some_is x s e) (first_offered k x (record { in_session = es; room = er; first = el }))
    by None false true true None true es er el e = subst (IsOffered k) (some_is sendings.SFormat s e) tt
    by None false true true None false es er el e = absurd cc
    by None false true false first true es er el e = subst (IsOffered k) (some_is sendings.SFormat s e) tt
    by None false true false first false es er el e = absurd cc
    by None false false room first true es er el e = subst (IsOffered k) (some_is sendings.SFormat s e) tt
    by None false false room first false es er el e = absurd cc
