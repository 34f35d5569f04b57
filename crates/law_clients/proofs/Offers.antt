-- What is due of what is offered, and where nothing is.
use Rattle.std.proofs.Common.{◌≡◌, ℕ, Bool, true, false, cond, [], ◌∷◌, Option, Some, None, refl, subst}
use Rattle.std.specs.Prelude.{◌&&◌, option_map, slice_get, IfSome}
use Rattle.gw_model.specs.First.{when, first_of}
use Rattle.iec_apci.specs.declared.apdu.Signal.{Signal}
use Rattle.iec_window.specs.Timers.{owes_ack, owes_test}
use Rattle.gw_station.specs.declared.sending.Sending.{Sending}
use Rattle.gw_station.specs.declared.sending.Sending.TheVariants as sendings
use Rattle.gw_station.specs.Client.{Client, is_started}
use Rattle.gw_station.specs.Pump.{has_room, information_offered, line, offered}
use Rattle.gw_station.proofs.All.{all-first, all-given}
use Rattle.gw_station.proofs.Line.{line_so}

-- no confirmation waits, and no test is due
pub record NoSignal (moment : ℕ) (k : Client) : Type 0 where
  pub confirmation : slice_get k.confirmations 0 ≡ None
  pub test : owes_test moment k.window ≡ false

-- what this being offered tells
abbrev pub IsOffer : ℕ → Client → Option Sending → Type 0
IsOffer moment k (Some (sendings.Confirm signal)) = slice_get k.confirmations 0 ≡ Some signal
IsOffer moment k (Some sendings.Test) =
    (slice_get k.confirmations 0 ≡ None) × (owes_test moment k.window ≡ true)
IsOffer moment k (Some sendings.SFormat) = NoSignal moment k × (owes_ack moment k.window ≡ true)
IsOffer moment k (Some (sendings.Answer answer)) = NoSignal moment k
IsOffer moment k (Some (sendings.News x)) = NoSignal moment k
IsOffer moment k (Some (sendings.Part part)) = NoSignal moment k
IsOffer moment k None = NoSignal moment k × (owes_ack moment k.window ≡ false)

-- I formats are in line
abbrev pub IsInformation : Sending → Type 0
IsInformation (sendings.Confirm signal) = ⊥
IsInformation sendings.Test = ⊥
IsInformation (sendings.Answer answer) = Unit {0}
IsInformation (sendings.News x) = Unit {0}
IsInformation (sendings.Part part) = Unit {0}
IsInformation sendings.SFormat = ⊥

pub informs : (k : Client) → IfSome (information_offered k) IsInformation
informs k = by (is_started k.stage && has_room k.window)
  where
    by : (may : Bool) → IfSome (cond may (slice_get (line k) 0) None) IsInformation
    by true = all-first IsInformation (line k) (line_so IsInformation k
        (all-given (λ answer. Unit {0}) (λ answer. tt) k.answers) (all-given (λ x. Unit {0}) (λ x. tt) k.queue)
        (all-given (λ part. Unit {0}) (λ part. tt) k.rest))
    by false = tt

information : (moment : ℕ) (k : Client) (s : Sending) → IsInformation s → NoSignal moment k
    → IsOffer moment k (Some s)
information moment k (sendings.Confirm signal) is none = absurd is
information moment k sendings.Test is none = absurd is
information moment k (sendings.Answer answer) is none = none
information moment k (sendings.News x) is none = none
information moment k (sendings.Part part) is none = none
information moment k sendings.SFormat is none = absurd is

pub offer_told : (moment : ℕ) (k : Client) (x : Option Sending) → offered moment k ≡ x → IsOffer moment k x
offer_told moment k x e = subst (IsOffer moment k) e
    (by (slice_get k.confirmations 0) (owes_test moment k.window) (information_offered k) (owes_ack moment k.window)
    refl refl (informs k) refl)
  where
    by : (confirmation : Option Signal) (test : Bool) (first : Option Sending) (ack : Bool)
        → slice_get k.confirmations 0 ≡ confirmation → owes_test moment k.window ≡ test
        → IfSome first IsInformation → owes_ack moment k.window ≡ ack
        → IsOffer moment k (first_of (option_map sendings.Confirm confirmation ∷ when test sendings.Test ∷ first
        ∷ when ack sendings.SFormat ∷ []))
    by (Some signal) test first ack ec et is ea = ec
    by None true first ack ec et is ea = (ec, et)
    by None false (Some s) ack ec et is ea = information moment k s is (record { confirmation = ec; test = et })
    by None false None true ec et is ea = (record { confirmation = ec; test = et }, ea)
    by None false None false ec et is ea = (record { confirmation = ec; test = et }, ea)
