-- What is put out first is of a kind, where all that waits is; so it can be spelled, where all answers can. Behind
-- answers and parts come news.
use Rattle.std.proofs.Common.{◌≡◌, ◌<◌, ◌≤◌, ℕ, zero, suc, Bool, true, false, cond, List, [], ◌∷◌, ◌++◌}
use Rattle.std.proofs.Common.{map, take, drop, length, Option, Some, None, ◌⊎◌, inl, inr, refl, sym, ap, arith}
use Rattle.std.specs.Prelude.{◌&&◌, is_some, option_map, slice_get, IfSome}
use Rattle.std.specs.List.{AllByRecursion}
use Rattle.std.proofs.lemmas.Bool.{ltb-true}
use Rattle.gw_model.specs.First.{when, first_of}
use Rattle.gw_model.specs.declared.observation.Observation.{Observation}
use Rattle.iec_apci.specs.declared.apdu.Signal.{Signal}
use Rattle.iec_window.specs.Counts.{WindowCounts}
use Rattle.iec_window.specs.Timers.{owes_ack, owes_test}
use Rattle.gw_answers.specs.declared.outgoing.AsduAnswer.{AsduAnswer}
use Rattle.gw_answers.specs.declared.outgoing.OwnAsdu.{OwnAsdu}
use Rattle.gw_answers.specs.Octets.{IsReturnable}
use Rattle.gw_station.specs.declared.sending.Sending.{Sending}
use Rattle.gw_station.specs.declared.sending.Sending.TheVariants as sendings
use Rattle.gw_station.specs.Client.{Client, is_started}
use Rattle.gw_station.specs.Pump.{has_room, line, information_offered, offered, IsRoomy, IsNext}
use Rattle.gw_station.specs.Sound.{IsReturnableSending}
use Rattle.gw_station.proofs.All.{all-append, all-take, all-drop, all-first, all-given, all-map}

-- ---- what is put out is of a kind

-- answers, news and parts of a kind are in line
pub line_so : (P : Sending → Type 0) (c : Client) → AllByRecursion (λ answer. P (sendings.Answer answer)) c.answers
    → AllByRecursion (λ x. P (sendings.News x)) c.queue → AllByRecursion (λ part. P (sendings.Part part)) c.rest
    → AllByRecursion P (line c)
line_so P c answers queue rest =
    let IsNews : Observation → Type 0 = λ x. P (sendings.News x) in
    let older = all-map P sendings.News (take c.older c.queue) (all-take IsNews c.older c.queue queue) in
    let later = all-map P sendings.News (drop c.older c.queue) (all-drop IsNews c.older c.queue queue) in
    let parts = all-map P sendings.Part c.rest rest in
    let behind = all-append P (map sendings.Part c.rest) (map sendings.News (drop c.older c.queue)) parts later in
    let news = all-append P (map sendings.News (take c.older c.queue)) _ older behind in
    all-append P (map sendings.Answer c.answers) _ (all-map P sendings.Answer c.answers answers) news

-- so are U and S formats
pub offered_so : (P : Sending → Type 0) → ((signal : Signal) → P (sendings.Confirm signal)) → P sendings.Test
    → P sendings.SFormat
    → (moment : ℕ) (c : Client) → AllByRecursion P (line c) → IfSome (offered moment c) P
offered_so P confirm test receipt moment c all = by_confirmation (slice_get c.confirmations 0)
  where
    by_receipt : (owes : Bool) → IfSome (first_of (when owes sendings.SFormat ∷ [])) P
    by_receipt true = receipt
    by_receipt false = tt

    by_first : (x : Option Sending) → IfSome x P
        → IfSome (first_of (x ∷ when (owes_ack moment c.window) sendings.SFormat ∷ [])) P
    by_first None is = by_receipt (owes_ack moment c.window)
    by_first (Some x) is = is

    by_line : (may : Bool) → IfSome
        (first_of (cond may (slice_get (line c) 0) None ∷ when (owes_ack moment c.window) sendings.SFormat ∷ [])) P
    by_line true = by_first (slice_get (line c) 0) (all-first P (line c) all)
    by_line false = by_receipt (owes_ack moment c.window)

    by_test : (owes : Bool)
        → IfSome (first_of (when owes sendings.Test ∷ information_offered c
        ∷ when (owes_ack moment c.window) sendings.SFormat ∷ [])) P
    by_test true = test
    by_test false = by_line (is_started c.stage && has_room c.window)

    by_confirmation : (x : Option Signal)
        → IfSome (first_of (option_map sendings.Confirm x ∷ when (owes_test moment c.window) sendings.Test
        ∷ information_offered c
        ∷ when (owes_ack moment c.window) sendings.SFormat ∷ [])) P
    by_confirmation None = by_test (owes_test moment c.window)
    by_confirmation (Some signal) = confirm signal

-- ---- an I format has room

roomy : (w : WindowCounts) (sending : Sending) → length w.waiting < w.limits.k → IsRoomy w sending
roomy w (sendings.Confirm signal) room = tt
roomy w sendings.Test room = tt
roomy w (sendings.Answer answer) room = room
roomy w (sendings.News x) room = room
roomy w (sendings.Part part) room = room
roomy w sendings.SFormat room = tt

information_roomy : (c : Client) → IfSome (information_offered c) (IsRoomy c.window)
information_roomy c = go (is_started c.stage) (has_room c.window) refl
  where
    first : (x : Option Sending) → length c.window.waiting < c.window.limits.k → IfSome x (IsRoomy c.window)
    first None room = tt
    first (Some sending) room = roomy c.window sending room

    go : (started room : Bool) → has_room c.window ≡ room
        → IfSome (cond (started && room) (slice_get (line c) 0) None) (IsRoomy c.window)
    go true true e = first (slice_get (line c) 0) (ltb-true (length c.window.waiting) c.window.limits.k e)
    go true false e = tt
    go false room e = tt

pub offered_roomy : (moment : ℕ) (c : Client) → IfSome (offered moment c) (IsRoomy c.window)
offered_roomy moment c = go (slice_get c.confirmations 0) (owes_test moment c.window) (owes_ack moment c.window)
    (information_offered c) (information_roomy c)
  where
    go : (confirmation : Option Signal) (test ack : Bool) (information : Option Sending)
        → IfSome information (IsRoomy c.window)
        → IfSome (first_of (option_map sendings.Confirm confirmation ∷ when test sendings.Test ∷ information
        ∷ when ack sendings.SFormat ∷ [])) (IsRoomy c.window)
    go (Some signal) test ack information room = tt
    go None true ack information room = tt
    go None false ack (Some sending) room = room
    go None false true None room = tt
    go None false false None room = tt

-- ---- it is next

next : (c : Client) (sending : Sending) → slice_get (line c) 0 ≡ Some sending → IsNext c sending
next c (sendings.Confirm signal) first = tt
next c sendings.Test first = tt
next c (sendings.Answer answer) first = tt
next c (sendings.News x) first = first
next c (sendings.Part part) first = first
next c sendings.SFormat first = tt

information_next : (c : Client) → IfSome (information_offered c) (IsNext c)
information_next c = go (is_started c.stage && has_room c.window) (slice_get (line c) 0) refl
  where
    go : (may : Bool) (x : Option Sending) → slice_get (line c) 0 ≡ x → IfSome (cond may x None) (IsNext c)
    go true (Some sending) first = next c sending first
    go true None first = tt
    go false x first = tt

pub offered_next : (moment : ℕ) (c : Client) → IfSome (offered moment c) (IsNext c)
offered_next moment c = go (slice_get c.confirmations 0) (owes_test moment c.window) (owes_ack moment c.window)
    (information_offered c) (information_next c)
  where
    go : (confirmation : Option Signal) (test ack : Bool) (information : Option Sending)
        → IfSome information (IsNext c)
        → IfSome (first_of (option_map sendings.Confirm confirmation ∷ when test sendings.Test ∷ information
        ∷ when ack sendings.SFormat ∷ [])) (IsNext c)
    go (Some signal) test ack information is = tt
    go None true ack information is = tt
    go None false ack (Some sending) is = is
    go None false true None is = tt
    go None false false None is = tt

-- ---- it can be spelled

-- news and parts aren't answers
pub offered_returnable : (moment : ℕ) (c : Client) → AllByRecursion IsReturnable c.answers
    → IfSome (offered moment c) IsReturnableSending
offered_returnable moment c all =
    let news = all-given (λ (x : Observation). IsReturnableSending (sendings.News x)) (λ x. tt) c.queue in
    let parts = all-given (λ (part : OwnAsdu). IsReturnableSending (sendings.Part part)) (λ part. tt) c.rest in
    offered_so IsReturnableSending (λ signal. tt) tt tt moment c (line_so IsReturnableSending c all news parts)

-- ---- what is first

pub first_answer : (c : Client) (answer : AsduAnswer) → slice_get c.answers 0 ≡ Some answer
    → Some (sendings.Answer answer) ≡ slice_get (line c) 0
first_answer c answer first = by c.answers first
  where
    by : (answers : List AsduAnswer) → slice_get answers 0 ≡ Some answer
        → Some (sendings.Answer answer) ≡ slice_get (line (record c { answers = answers })) 0
    by [] first = absurd cc
    by (x ∷ answers) first = ap (option_map sendings.Answer) (sym first)

-- news that came before an interrogation, where no answer waits
pub first_older : (c : Client) → c.answers ≡ [] → 0 < c.older → is_some (slice_get c.queue 0) ≡ true
    → option_map sendings.News (slice_get c.queue 0) ≡ slice_get (line c) 0
first_older c none some waits = rw none (by c.older c.queue some waits)
  where
    by : (older : ℕ) (queue : List Observation) → 0 < older → is_some (slice_get queue 0) ≡ true
        → option_map sendings.News (slice_get queue 0)
        ≡ slice_get (line (record c { answers = []; older = older; queue = queue })) 0
    by zero queue some waits = absurd (omega (arith, some))
    by (suc older) [] some waits = absurd cc
    by (suc older) (x ∷ queue) some waits = refl

-- a part, where neither an answer nor such news wait
pub first_part : (c : Client) (part : OwnAsdu) → c.answers ≡ []
    → (c.older ≤ 0) ⊎ (is_some (slice_get c.queue 0) ≡ false) → slice_get c.rest 0 ≡ Some part
    → Some (sendings.Part part) ≡ slice_get (line c) 0
first_part c part none no_news first = rw none (by c.older c.queue c.rest no_news first)
  where
    by : (older : ℕ) (queue : List Observation) (rest : List OwnAsdu)
        → (older ≤ 0) ⊎ (is_some (slice_get queue 0) ≡ false) → slice_get rest 0 ≡ Some part
        → Some (sendings.Part part)
        ≡ slice_get (line (record c { answers = []; older = older; queue = queue; rest = rest })) 0
    by older queue [] no_news first = absurd cc
    by zero queue (x ∷ rest) no_news first = ap (option_map sendings.Part) (sym first)
    by (suc older) [] (x ∷ rest) no_news first = ap (option_map sendings.Part) (sym first)
    by (suc older) (y ∷ queue) (x ∷ rest) (inl few) first = absurd (omega (arith, few))
    by (suc older) (y ∷ queue) (x ∷ rest) (inr no_one) first = absurd cc

-- where neither an answer nor a part waits
-- the oldest news are first, however many came before an interrogation
pub first_news : (c : Client) → c.answers ≡ [] → c.rest ≡ []
    → option_map sendings.News (slice_get c.queue 0) ≡ slice_get (line c) 0
first_news c none empty = rw (none, empty) (by c.older c.queue)
  where
    by : (older : ℕ) (queue : List Observation)
        → option_map sendings.News (slice_get queue 0)
        ≡ slice_get (map sendings.News (take older queue) ++ map sendings.News (drop older queue)) 0
    by zero [] = refl
    by zero (x ∷ queue) = refl
    by (suc older) [] = refl
    by (suc older) (x ∷ queue) = refl
