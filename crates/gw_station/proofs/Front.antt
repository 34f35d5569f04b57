-- What stands at the front of the line, and goes out together.
use Rattle.std.proofs.Common.{◌≡◌, ℕ, zero, suc, ◌+◌, ◌<◌, ◌≤◌, ◌==◌, min, ◌&&◌, Bool}
use Rattle.std.proofs.Common.{true, false, List, [], ◌∷◌, ◌++◌, map, length, take, drop, Option}
use Rattle.std.proofs.Common.{Some, None, refl, sym, ap, ◌∙◌, arith, inl, inr, if◌then◌else◌}
use Rattle.std.specs.Prelude.{slice_get}
use Rattle.std.specs.List.{AllByRecursion}
use Rattle.std.proofs.lemmas.Bool.{cases_Bool, eq-eqb}
use Rattle.std.proofs.lemmas.List.{length-take}
use Rattle.std.proofs.lemmas.Option.{same_Some}
use Rattle.gw_model.specs.declared.observation.Observation.{Observation}
use Rattle.gw_model.specs.Clocks.{Clocks}
use Rattle.iec_asdu.specs.Packing.{taken_of}
use Rattle.iec_asdu.proofs.Carried.{taken_of_within}
use Rattle.gw_answers.specs.declared.outgoing.AsduAnswer.{AsduAnswer}
use Rattle.gw_answers.specs.declared.outgoing.OwnAsdu.{OwnAsdu}
use Rattle.gw_answers.specs.declared.outgoing.OwnAsdu.TheVariants as outgoing
use Rattle.gw_answers.specs.Meaning.{IsSendable}
use Rattle.gw_station.specs.declared.sending.Sending.{Sending}
use Rattle.gw_station.specs.declared.sending.Sending.TheVariants as sendings
use Rattle.gw_station.specs.Answers.{is_pending}
use Rattle.gw_station.specs.Client.{Client}
use Rattle.gw_station.specs.Kept.{news_next, parts_front, parts_together}
use Rattle.gw_station.specs.Pump.{line, news_front, rows_front, together}
use Rattle.gw_station.specs.Sound.{CanSend}

-- the line of these
abbrev pub line_of : List AsduAnswer → ℕ → List Observation → List OwnAsdu → List Sending
line_of answers older queue rest =
    map sendings.Answer answers
    ++ (map sendings.News (take older queue)
    ++ (map sendings.Part rest ++ map sendings.News (drop older queue)))

-- ---- lists

pub take_none : {A : Type 0} (n : ℕ) → take {A = A} n [] ≡ []
take_none zero = refl
take_none (suc n) = refl

pub drop_none : {A : Type 0} (n : ℕ) → drop {A = A} n [] ≡ []
drop_none zero = refl
drop_none (suc n) = refl

-- where nothing stands between, it doesn't matter where a queue is split
pub split_anywhere : (n : ℕ) (queue : List Observation)
    → map sendings.News (take n queue) ++ map sendings.News (drop n queue) ≡ map sendings.News queue
split_anywhere zero queue = refl
split_anywhere (suc n) [] = refl
split_anywhere (suc n) (x ∷ queue) = ap (λ (s : List Sending). sendings.News x ∷ s) (split_anywhere n queue)

-- a front of a queue goes
pub front_goes : (n m older : ℕ) (queue : List Observation) → older ≡ n + m
    → (take m (drop n queue) ≡ drop n (take older queue)) × (drop m (drop n queue) ≡ drop older queue)
front_goes zero m older queue e =
    let same : m ≡ older = omega (arith, e) in
    (ap (λ (i : ℕ). take i queue) same, ap (λ (i : ℕ). drop i queue) same)
front_goes (suc n) m zero queue e = absurd (omega (arith, e))
front_goes (suc n) m (suc older) [] e = (take_none m, drop_none m)
front_goes (suc n) m (suc older) (x ∷ queue) e = front_goes n m older queue (omega (arith, e))

pub drop_mapped : {A B : Type 0} (f : A → B) (n : ℕ) (xs : List A) (ys : List B) → n ≤ length xs
    → drop n (map f xs ++ ys) ≡ map f (drop n xs) ++ ys
drop_mapped f zero xs ys few = refl
drop_mapped f (suc n) [] ys few = absurd (omega (arith, few))
drop_mapped f (suc n) (x ∷ xs) ys few = drop_mapped f n xs ys (omega (arith, few))

-- ---- news

news_alone : (xs : List Observation) (behind : List Sending) → news_front behind ≡ []
    → news_front (map sendings.News xs ++ behind) ≡ xs
news_alone [] behind none = none
news_alone (x ∷ xs) behind none = ap (λ (ys : List Observation). x ∷ ys) (news_alone xs behind none)

news_all : (xs : List Observation) → news_front (map sendings.News xs) ≡ xs
news_all [] = refl
news_all (x ∷ xs) = ap (λ (ys : List Observation). x ∷ ys) (news_all xs)

-- what goes out with news
pub news_together : (clocks : Clocks) (l : List Sending) (x : Observation) → slice_get l 0 ≡ Some (sendings.News x)
    → together clocks l ≡ taken_of clocks (news_front l)
news_together clocks [] x e = absurd cc
news_together clocks (sendings.News y ∷ l) x e = refl
news_together clocks (sendings.Confirm signal ∷ l) x e = absurd cc
news_together clocks (sendings.Test ∷ l) x e = absurd cc
news_together clocks (sendings.Answer answer ∷ l) x e = absurd cc
news_together clocks (sendings.Part part ∷ l) x e = absurd cc
news_together clocks (sendings.SFormat ∷ l) x e = absurd cc

-- where news are first, no answer waits, and the news at the front are those that may go next
pub record NewsFirst (c : Client) : Type 0 where
  pub answers : c.answers ≡ []
  pub front : news_front (line c) ≡ news_next c
  pub some : 0 < length (news_next c)

news_by : (answers : List AsduAnswer) (older : ℕ) (queue : List Observation) (rest : List OwnAsdu) (x : Observation)
    → slice_get (line_of answers older queue rest) 0 ≡ Some (sendings.News x)
    → (answers ≡ []) × (news_front (line_of answers older queue rest) ≡ (if is_pending rest then take older queue else queue))
    × (0 < length (if is_pending rest then take older queue else queue))
news_by (answer ∷ answers) older queue rest x e = absurd cc
news_by [] zero queue (part ∷ rest) x e = absurd cc
news_by [] (suc n) [] (part ∷ rest) x e = absurd cc
news_by [] (suc n) (y ∷ queue) (part ∷ rest) x e = (
  refl,
  news_alone (take (suc n) (y ∷ queue)) (map sendings.Part (part ∷ rest) ++ map sendings.News (drop n queue)) refl,
  omega arith,
)
news_by [] older [] [] x e = absurd (never (ap (λ (l : List Sending). slice_get l 0) (sym (split_anywhere older [])) ∙ e))
  where
    never : None ≡ Some (sendings.News x) → ⊥
    never e = cc
news_by [] older (y ∷ queue) [] x e =
    (refl, ap news_front (split_anywhere older (y ∷ queue)) ∙ news_all (y ∷ queue), omega arith)

pub news_first : (c : Client) (x : Observation) → slice_get (line c) 0 ≡ Some (sendings.News x) → NewsFirst c
news_first c x e =
    let r = news_by c.answers c.older c.queue c.rest x e in
    record { answers = r.0; front = r.1; some = r.2 }

-- ---- parts

pub rows_run : (cause originator : ℕ) (rest : List OwnAsdu) (xs : List Observation)
    → rows_front cause originator (map sendings.Part rest ++ map sendings.News xs) ≡ parts_front cause originator rest
rows_run cause originator [] [] = refl
rows_run cause originator [] (x ∷ xs) = refl
rows_run cause originator (outgoing.Command command ∷ rest) xs = refl
rows_run cause originator (outgoing.Observation c o x ∷ rest) xs = elim (cases_Bool (c == cause && o == originator)) [
  | inl same ↦ rw same (ap (λ (ys : List Observation). x ∷ ys) (rows_run cause originator rest xs))
  | inr other ↦ rw other
]

pub record PartFirst (c : Client) (part : OwnAsdu) : Type 0 where
  pub answers : c.answers ≡ []
  pub older : take c.older c.queue ≡ []
  pub line : line c ≡ map sendings.Part c.rest ++ map sendings.News (drop c.older c.queue)
  pub first : slice_get c.rest 0 ≡ Some part

part_by : (answers : List AsduAnswer) (older : ℕ) (queue : List Observation) (rest : List OwnAsdu) (part : OwnAsdu)
    → slice_get (line_of answers older queue rest) 0 ≡ Some (sendings.Part part)
    → (answers ≡ []) × (take older queue ≡ []) × (slice_get rest 0 ≡ Some part)
part_by (answer ∷ answers) older queue rest part e = absurd cc
part_by [] zero queue (p ∷ rest) part e = (refl, refl, ap (λ (s : Option Sending). read s) e)
  where
    read : Option Sending → Option OwnAsdu
    read (Some (sendings.Part q)) = Some q
    read _ = None
part_by [] (suc n) [] (p ∷ rest) part e = (refl, refl, ap (λ (s : Option Sending). read s) e)
  where
    read : Option Sending → Option OwnAsdu
    read (Some (sendings.Part q)) = Some q
    read _ = None
part_by [] (suc n) (y ∷ queue) rest part e = absurd cc
part_by [] zero [] [] part e = absurd cc
part_by [] zero (y ∷ queue) [] part e = absurd cc
part_by [] (suc n) [] [] part e = absurd cc

pub part_first : (c : Client) (part : OwnAsdu) → slice_get (line c) 0 ≡ Some (sendings.Part part) → PartFirst c part
part_first c part e =
    let r = part_by c.answers c.older c.queue c.rest part e in
    record { answers = r.0; older = r.1; line = rw (r.0, r.1) refl; first = r.2 }

-- what goes out with a part
pub rows_same : (c : Client) (part : OwnAsdu) (cause originator : ℕ) → PartFirst c part
    → rows_front cause originator (line c) ≡ parts_front cause originator c.rest
rows_same c part cause originator first =
    ap (rows_front cause originator) first.line
    ∙ rows_run cause originator c.rest (drop c.older c.queue)

parts_by : (clocks : Clocks) (rest : List OwnAsdu) (xs : List Observation) (part : OwnAsdu) → slice_get rest 0 ≡ Some part
    → together clocks (map sendings.Part rest ++ map sendings.News xs) ≡ parts_together clocks part rest
parts_by clocks [] xs part e = absurd cc
parts_by clocks (outgoing.Command command ∷ rest) xs part e =
    ap (λ (p : OwnAsdu). parts_together clocks p (outgoing.Command command ∷ rest)) (same_Some _ _ e)
parts_by clocks (outgoing.Observation cause originator x ∷ rest) xs part e =
    let parts : List OwnAsdu = outgoing.Observation cause originator x ∷ rest in
    front ∙ ap (λ (p : OwnAsdu). parts_together clocks p parts) (same_Some _ _ e)
  where
    both : (n : ℕ) → (n == n) ≡ true
    both n = eq-eqb n n refl

    front : taken_of clocks (x ∷ rows_front cause originator (map sendings.Part rest ++ map sendings.News xs))
        ≡ taken_of clocks (parts_front cause originator (outgoing.Observation cause originator x ∷ rest))
    front = rw (both cause, both originator)
        (ap (λ (ys : List Observation). taken_of clocks (x ∷ ys)) (rows_run cause originator rest xs))

pub parts_same : (clocks : Clocks) (c : Client) (part : OwnAsdu) → PartFirst c part
    → together clocks (line c) ≡ parts_together clocks part c.rest
parts_same clocks c part first =
    ap (together clocks) first.line ∙ parts_by clocks c.rest (drop c.older c.queue) part first.first

-- no more parts go than there are
front_within : (cause originator : ℕ) (rest : List OwnAsdu) → length (parts_front cause originator rest) ≤ length rest
front_within cause originator [] = omega arith
front_within cause originator (outgoing.Command command ∷ rest) = omega arith
front_within cause originator (outgoing.Observation c o x ∷ rest) = elim (cases_Bool (c == cause && o == originator)) [
  | inl same ↦ rw same (omega (arith, front_within cause originator rest))
  | inr other ↦ rw other (omega arith)
]

some_left : (rest : List OwnAsdu) (part : OwnAsdu) → slice_get rest 0 ≡ Some part → 1 ≤ length rest
some_left [] part e = absurd cc
some_left (p ∷ rest) part e = omega arith

pub parts_within : (clocks : Clocks) (rest : List OwnAsdu) (part : OwnAsdu) → slice_get rest 0 ≡ Some part
    → parts_together clocks part rest ≤ length rest
parts_within clocks rest (outgoing.Command command) e = some_left rest (outgoing.Command command) e
parts_within clocks rest (outgoing.Observation cause originator x) e =
    omega (
      arith,
      taken_of_within clocks (parts_front cause originator rest),
      front_within cause originator rest,
    )

-- where an answer doesn't wait, and no news before it, parts are first
pub bare_line : (answers : List AsduAnswer) (older : ℕ) (queue : List Observation) (rest : List OwnAsdu)
    → answers ≡ [] → take older queue ≡ []
    → line_of answers older queue rest ≡ map sendings.Part rest ++ map sendings.News (drop older queue)
bare_line answers older queue rest none no_news = rw (none, no_news) refl

-- ---- what goes together can be sent

pub news_sendable : (clocks : Clocks) (l : List Sending) → AllByRecursion (CanSend clocks) l
    → AllByRecursion (IsSendable clocks) (news_front l)
news_sendable clocks [] all = tt
news_sendable clocks (sendings.News x ∷ l) all = (all.0, news_sendable clocks l all.1)
news_sendable clocks (sendings.Confirm signal ∷ l) all = tt
news_sendable clocks (sendings.Test ∷ l) all = tt
news_sendable clocks (sendings.Answer answer ∷ l) all = tt
news_sendable clocks (sendings.Part part ∷ l) all = tt
news_sendable clocks (sendings.SFormat ∷ l) all = tt

pub rows_sendable : (clocks : Clocks) (cause originator : ℕ) (l : List Sending) → AllByRecursion (CanSend clocks) l
    → AllByRecursion (IsSendable clocks) (rows_front cause originator l)
rows_sendable clocks cause originator [] all = tt
rows_sendable clocks cause originator (sendings.Part (outgoing.Observation c o x) ∷ l) all =
    elim (cases_Bool (c == cause && o == originator)) [
      | inl same ↦ rw same (all.0, rows_sendable clocks cause originator l all.1)
      | inr other ↦ rw other tt
    ]
rows_sendable clocks cause originator (sendings.Part (outgoing.Command command) ∷ l) all = tt
rows_sendable clocks cause originator (sendings.News x ∷ l) all = tt
rows_sendable clocks cause originator (sendings.Confirm signal ∷ l) all = tt
rows_sendable clocks cause originator (sendings.Test ∷ l) all = tt
rows_sendable clocks cause originator (sendings.Answer answer ∷ l) all = tt
rows_sendable clocks cause originator (sendings.SFormat ∷ l) all = tt

-- ---- the first 127 news that may go

pub take_short : (n m : ℕ) (queue : List Observation) → n ≡ min (length queue) m → take n queue ≡ take m queue
take_short n zero queue e = let none : n ≡ 0 = omega (arith, e) in ap (λ (i : ℕ). take i queue) none
take_short n (suc m) [] e = take_none n
take_short zero (suc m) (x ∷ queue) e = absurd (omega (arith, e))
take_short (suc n) (suc m) (x ∷ queue) e = ap (λ (xs : List Observation). x ∷ xs) (take_short n m queue (omega (arith, e)))

pub take_older : (n m k : ℕ) (queue : List Observation) → n ≡ min (length (take k queue)) m
    → take n queue ≡ take m (take k queue)
take_older n zero k queue e = let none : n ≡ 0 = omega (arith, e) in ap (λ (i : ℕ). take i queue) none
take_older n (suc m) zero queue e = let none : n ≡ 0 = omega (arith, e) in ap (λ (i : ℕ). take i queue) none
take_older n (suc m) (suc k) [] e = take_none n
take_older zero (suc m) (suc k) (x ∷ queue) e = absurd (omega (arith, e))
take_older (suc n) (suc m) (suc k) (x ∷ queue) e =
    ap (λ (xs : List Observation). x ∷ xs) (take_older n m k queue (omega (arith, e)))

pub next_front : (c : Client) (n m : ℕ) → n ≡ min (length (news_next c)) m → take n c.queue ≡ take m (news_next c)
next_front c n m e = by (is_pending c.rest) e
  where
    by : (pending : Bool) → n ≡ min (length (if pending then take c.older c.queue else c.queue)) m
        → take n c.queue ≡ take m (if pending then take c.older c.queue else c.queue)
    by true e = take_older n m c.older c.queue e
    by false e = take_short n m c.queue e

pub next_within : (c : Client) → length (news_next c) ≤ length c.queue
next_within c = by (is_pending c.rest)
  where
    by : (pending : Bool) → length (if pending then take c.older c.queue else c.queue) ≤ length c.queue
    by true = omega (arith, length-take c.older c.queue)
    by false = omega arith
