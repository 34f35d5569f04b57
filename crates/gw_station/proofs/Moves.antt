-- What is put out first, and what is left.
use Rattle.std.proofs.Common.{◌≡◌, ℕ, zero, suc, ◌-◌, ◌≤◌, Bool, true, false, cond, List, [], ◌∷◌, ◌++◌, map}
use Rattle.std.proofs.Common.{length, take, drop, Option, Some, None, refl, sym, ap, subst, ◌∙◌, arith, if◌then◌else◌}
use Rattle.std.specs.Prelude.{◌&&◌, option_map, slice_get, IfSome}
use Rattle.std.proofs.lemmas.List.{append-nil, length-take}
use Rattle.gw_model.specs.First.{when, first_of}
use Rattle.gw_model.specs.declared.observation.Observation.{Observation}
use Rattle.gw_model.specs.Clocks.{Clocks}
use Rattle.iec_apci.specs.declared.apdu.Signal.{Signal}
use Rattle.iec_apci.specs.Apdu.{ApduContent}
use Rattle.iec_window.specs.Timers.{owes_ack, owes_test}
use Rattle.gw_answers.specs.declared.outgoing.AsduAnswer.{AsduAnswer}
use Rattle.gw_answers.specs.declared.outgoing.OwnAsdu.{OwnAsdu}
use Rattle.gw_station.specs.declared.sending.Sending.{Sending}
use Rattle.gw_station.specs.declared.sending.Sending.TheVariants as sendings
use Rattle.gw_station.specs.Client.{Client, is_started}
use Rattle.iec_asdu.specs.Packing.{taken_of}
use Rattle.iec_asdu.proofs.Carried.{taken_of_within}
use Rattle.gw_station.specs.Answers.{is_pending}
use Rattle.gw_station.specs.Kept.{news_next}
use Rattle.gw_station.specs.Pump.{has_room, line, content_of, offered, given, together, client_with_sent}
use Rattle.gw_station.specs.Quiet.{IsQuiet}
use Rattle.gw_station.proofs.All.{all-first, all-given}
use Rattle.gw_station.proofs.Line.{line_so}
use Rattle.gw_station.proofs.Front.{line_of, split_anywhere, front_goes, drop_mapped, bare_line}
use Rattle.gw_station.proofs.Front.{news_together, news_first, parts_same, parts_within, part_first}

-- ---- nothing is put out

none_offered : (f : Sending → ApduContent) (x : Option Sending) → option_map f x ≡ None → x ≡ None
none_offered f None e = refl
none_offered f (Some x) e = absurd cc

pub quiet : (clocks : Clocks) (moment : ℕ) (c : Client) → given clocks moment c ≡ None → IsQuiet moment c
quiet clocks moment c e =
    by (owes_test moment c.window) (is_started c.stage) (has_room c.window) (owes_ack moment c.window) c.confirmations
    (line c) refl refl refl refl refl refl
    (none_offered (content_of clocks c) (offered moment c) e)
  where
    by : (test started room ack : Bool) (confirmations : List Signal) (l : List Sending)
        → owes_test moment c.window ≡ test → is_started c.stage ≡ started → has_room c.window ≡ room
        → owes_ack moment c.window ≡ ack → c.confirmations ≡ confirmations → line c ≡ l
        → first_of (option_map sendings.Confirm (slice_get confirmations 0) ∷ when test sendings.Test
        ∷ cond (started && room) (slice_get l 0) None ∷ when ack sendings.SFormat ∷ []) ≡ None
        → IsQuiet moment c
    by test started room ack (x ∷ xs) l et es er ea ec el e = absurd cc
    by true started room ack [] l et es er ea ec el e = absurd cc
    by false true true true [] [] et es er ea ec el e = absurd cc
    by false true true ack [] (x ∷ l) et es er ea ec el e = absurd cc
    by false true true false [] [] et es er ea ec el e =
        record { confirmations = ec; test = et; line = λ s r. el; receipt = ea }
    by false false room true [] l et es er ea ec el e = absurd cc
    by false false room false [] l et es er ea ec el e =
        record { confirmations = ec; test = et; line = λ s r. absurd cc; receipt = ea }
    by false true false true [] l et es er ea ec el e = absurd cc
    by false true false false [] l et es er ea ec el e =
        record { confirmations = ec; test = et; line = λ s r. absurd cc; receipt = ea }

-- ---- the front of the line is put out

-- answers, news and parts are in line, and no other
abbrev IsInLine : Sending → Type 0
IsInLine (sendings.Confirm signal) = ⊥
IsInLine sendings.Test = ⊥
IsInLine (sendings.Answer answer) = Unit {0}
IsInLine (sendings.News x) = Unit {0}
IsInLine (sendings.Part part) = Unit {0}
IsInLine sendings.SFormat = ⊥

informs : (c : Client) (s : Sending) → slice_get (line c) 0 ≡ Some s → IsInLine s
informs c s e =
    subst (λ (o : Option Sending). IfSome o IsInLine) e
    (all-first IsInLine (line c)
    (line_so IsInLine c (all-given (λ answer. IsInLine (sendings.Answer answer)) (λ answer. tt) c.answers)
    (all-given (λ x. IsInLine (sendings.News x)) (λ x. tt) c.queue)
    (all-given (λ part. IsInLine (sendings.Part part)) (λ part. tt) c.rest)))

-- news of a session whose interrogation is pending, or not
news_move : (clocks : Clocks) (n older : ℕ) (queue : List Observation) (rest : List OwnAsdu)
    → n ≤ length (if is_pending rest then take older queue else queue)
    → line_of [] (older - n) (drop n queue) rest ≡ drop n (line_of [] older queue rest)
news_move clocks n older queue [] few =
    split_anywhere (older - n) (drop n queue)
    ∙ (sym (append-nil (map sendings.News (drop n queue)))
    ∙ (sym (drop_mapped sendings.News n queue [] few)
    ∙ ap (drop n) (append-nil (map sendings.News queue) ∙ sym (split_anywhere older queue))))
news_move clocks n older queue (part ∷ rest) few =
    let within : n ≤ older = omega (arith, few, length-take older queue) in
    let goes = front_goes n (older - n) older queue (omega (arith, within)) in
    rw (goes.0, goes.1)
    (sym (drop_mapped sendings.News n (take older queue)
    (map sendings.Part (part ∷ rest) ++ map sendings.News (drop older queue)) few))

news_moves : (clocks : Clocks) (moment : ℕ) (c : Client) (x : Observation) → slice_get (line c) 0 ≡ Some (sendings.News x)
    → line (client_with_sent clocks moment (sendings.News x) c) ≡ drop (together clocks (line c)) (line c)
news_moves clocks moment c x e =
    let first = news_first c x e in
    let n : ℕ = together clocks (line c) in
    let same : n ≡ taken_of clocks (news_next c) =
    news_together clocks (line c) x e ∙ ap (taken_of clocks) first.front in
    let few : n ≤ length (news_next c) = omega (arith, same, taken_of_within clocks (news_next c)) in
    ap (λ (answers : List AsduAnswer). line_of answers (c.older - n) (drop n c.queue) c.rest) first.answers
    ∙ (news_move clocks n c.older c.queue c.rest few
    ∙ ap (λ (answers : List AsduAnswer). drop n (line_of answers c.older c.queue c.rest)) (sym first.answers))

parts_move : (clocks : Clocks) (moment : ℕ) (c : Client) (part : OwnAsdu)
    → slice_get (line c) 0 ≡ Some (sendings.Part part)
    → line (client_with_sent clocks moment (sendings.Part part) c) ≡ drop (together clocks (line c)) (line c)
parts_move clocks moment c part e =
    let first = part_first c part e in
    let n : ℕ = together clocks (line c) in
    let few : n ≤ length c.rest =
    omega (arith, parts_same clocks c part first, parts_within clocks c.rest part first.first) in
    let news : List Sending = map sendings.News (drop c.older c.queue) in
    bare_line c.answers c.older c.queue (drop n c.rest) first.answers first.older
    ∙ (sym (drop_mapped sendings.Part n c.rest news few) ∙ ap (drop n) (sym first.line))

answer_moves : (clocks : Clocks) (moment : ℕ) (c : Client) (answer : AsduAnswer) (answers : List AsduAnswer)
    → c.answers ≡ answers → slice_get (line c) 0 ≡ Some (sendings.Answer answer)
    → line (client_with_sent clocks moment (sendings.Answer answer) c) ≡ drop (together clocks (line c)) (line c)
answer_moves clocks moment c answer [] none e =
    absurd (no_answer c.older c.queue c.rest
    (ap (λ (xs : List AsduAnswer). slice_get (line_of xs c.older c.queue c.rest) 0) (sym none) ∙ e))
  where
    no_answer : (older : ℕ) (queue : List Observation) (rest : List OwnAsdu)
        → slice_get (line_of [] older queue rest) 0 ≡ Some (sendings.Answer answer) → ⊥
    no_answer zero [] [] e = cc
    no_answer zero (x ∷ queue) [] e = cc
    no_answer zero queue (part ∷ rest) e = cc
    no_answer (suc n) [] [] e = cc
    no_answer (suc n) [] (part ∷ rest) e = cc
    no_answer (suc n) (x ∷ queue) rest e = cc
answer_moves clocks moment c answer (a ∷ answers) is e = rw is refl

pub moves : (clocks : Clocks) (moment : ℕ) (c : Client) (first : Sending) → slice_get (line c) 0 ≡ Some first
    → line (client_with_sent clocks moment first c) ≡ drop (together clocks (line c)) (line c)
moves clocks moment c (sendings.News x) e = news_moves clocks moment c x e
moves clocks moment c (sendings.Part part) e = parts_move clocks moment c part e
moves clocks moment c (sendings.Answer answer) e = answer_moves clocks moment c answer c.answers refl e
moves clocks moment c (sendings.Confirm signal) e = absurd (informs c (sendings.Confirm signal) e)
moves clocks moment c sendings.Test e = absurd (informs c sendings.Test e)
moves clocks moment c sendings.SFormat e = absurd (informs c sendings.SFormat e)
