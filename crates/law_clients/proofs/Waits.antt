-- What waits in a line, and what is meant by the first of it.
use Rattle.std.proofs.Common.{◌≡◌, ℕ, zero, suc, ◌+◌, ◌%◌, ◌<◌, ◌≤◌, Bool, true, false}
use Rattle.std.proofs.Common.{cond, eqb, List, [], ◌∷◌, ◌++◌, map, length, take, drop}
use Rattle.std.proofs.Common.{Option, refl, sym, ap, ◌∙◌, append_assoc, arith, inl, inr}
use Rattle.std.specs.Prelude.{◌⊎◌, ◌==◌, ◌&&◌, if◌then◌else◌}
use Rattle.std.specs.List.{AllByRecursion, flat_map}
use Rattle.std.proofs.lemmas.Bool.{cases_Bool, ne_eqb}
use Rattle.std.proofs.lemmas.List.{take-append-le, drop-append-le}
use Rattle.gw_model.specs.declared.observation.Observation.{Observation}
use Rattle.gw_model.specs.Clocks.{Clocks}
use Rattle.iec_asdu.specs.Packing.{taken_of}
use Rattle.iec_asdu.proofs.Carried.{taken_of_some, taken_of_within}
use Rattle.iec_command.specs.declared.command.Command.{Command}
use Rattle.gw_answers.specs.declared.outgoing.AsduAnswer.{AsduAnswer}
use Rattle.gw_answers.specs.declared.outgoing.AsduAnswer.TheVariants.{Returned, Made}
use Rattle.gw_answers.specs.declared.outgoing.OwnAsdu.{OwnAsdu}
use Rattle.gw_answers.specs.declared.outgoing.OwnAsdu.TheVariants as outgoing
use Rattle.gw_answers.specs.Outgoing.{command_with, under}
use Rattle.gw_answers.specs.Interrogations.{cause_for, rows_under, answer_to}
use Rattle.gw_answers.specs.Octets.{octets_in}
use Rattle.gw_answers.specs.Meaning.{Meant, Tells, Commands, Unread, asdu_of, packed_asdu, Means, CanSendAnswer}
use Rattle.gw_answers.proofs.Meant.{refused_with}
use Rattle.gw_station.specs.declared.sending.Sending.{Sending}
use Rattle.gw_station.specs.declared.sending.Sending.TheVariants as sendings
use Rattle.gw_station.specs.Pump.{news_front, rows_front, together}
use Rattle.gw_station.specs.Sound.{CanSend}
use Rattle.law_clients.specs.Fates.{Element, items_of, is_queued}
use Rattle.law_clients.specs.Interrogations.{Interrogation, is_interrogation, parts_in}
use Rattle.law_clients.specs.Line.{since_of, left_of, line_with, MeansFront}
use Rattle.law_clients.specs.Mirror.{observations_in, observations_of, waiting_in}
use Rattle.law_clients.proofs.Settled.{queued, items_of-append, queued_in}
use Rattle.law_clients.proofs.Parts.{IsRequested, IsApart}

-- ---- the observations that wait

pub waiting_in-append : (line more : List Sending) → waiting_in (line ++ more) ≡ waiting_in line ++ waiting_in more
waiting_in-append [] more = refl
waiting_in-append (s ∷ line) more =
    ap (λ (xs : List Observation). observations_of s ++ xs) (waiting_in-append line more)
    ∙ sym (append_assoc (observations_of s) (waiting_in line) (waiting_in more))

pub waiting_news : (xs : List Observation) → waiting_in (map sendings.News xs) ≡ xs
waiting_news [] = refl
waiting_news (x ∷ xs) = ap (λ (ys : List Observation). x ∷ ys) (waiting_news xs)

waiting_rows : (cause : ℕ) (xs : List Observation) (more : List OwnAsdu)
    → waiting_in (map sendings.Part (map (outgoing.Observation cause 0) xs ++ more))
    ≡ xs ++ waiting_in (map sendings.Part more)
waiting_rows cause [] more = refl
waiting_rows cause (x ∷ xs) more = ap (λ (ys : List Observation). x ∷ ys) (waiting_rows cause xs more)

-- of an answer to an interrogation its rows under each address that is asked
pub waiting_answer : (asked : List ℕ) (c : Command) (picture : List Observation)
    → waiting_in (map sendings.Part (answer_to asked c picture)) ≡ flat_map (rows_under c.action picture) asked
waiting_answer [] c picture = refl
waiting_answer (common ∷ asked) c picture =
    let xs : List Observation = rows_under c.action picture common in
    let end : OwnAsdu = command_with 10 false (under common c) in
    let more : List OwnAsdu = answer_to asked c picture in
    ap (λ (parts : List OwnAsdu). waiting_in (map sendings.Part parts))
    (append_assoc (map (outgoing.Observation (cause_for c.action) 0) xs) (end ∷ []) more)
    ∙ (waiting_rows (cause_for c.action) xs (end ∷ more)
    ∙ ap (λ (ys : List Observation). xs ++ ys) (waiting_answer asked c picture))

-- the line from the answer to the interrogation on
abbrev pub from_answer : Option Interrogation → List Element → List Sending
from_answer q elements = map sendings.Part (left_of q)
    ++ map sendings.News (items_of is_queued (drop (since_of q) elements))

pub waiting_from : (q : Option Interrogation) (es : List Element)
    → waiting_in (from_answer q es) ≡ waiting_in (map sendings.Part (left_of q))
    ++ items_of is_queued (drop (since_of q) es)
waiting_from q es =
    let later : List Observation = items_of is_queued (drop (since_of q) es) in
    let parts : List Sending = map sendings.Part (left_of q) in
    waiting_in-append parts (map sendings.News later)
    ∙ ap (λ (xs : List Observation). waiting_in parts ++ xs) (waiting_news later)

pub waiting_line : (owed : List AsduAnswer) (q : Option Interrogation) (es : List Element)
    → waiting_in (line_with owed q es)
    ≡ waiting_in (map sendings.Answer owed) ++ (items_of is_queued (take (since_of q) es)
    ++ waiting_in (from_answer q es))
waiting_line owed q es =
    let older : List Observation = items_of is_queued (take (since_of q) es) in
    waiting_in-append (map sendings.Answer owed) (map sendings.News older ++ from_answer q es)
    ∙ ap (λ (xs : List Observation). waiting_in (map sendings.Answer owed) ++ xs)
    (waiting_in-append (map sendings.News older) (from_answer q es)
    ∙ ap (λ (xs : List Observation). xs ++ waiting_in (from_answer q es)) (waiting_news older))

-- ---- news at the end of it

queue_joined : (es : List Element) (xs : List Observation)
    → items_of is_queued (es ++ map queued xs) ≡ items_of is_queued es ++ xs
queue_joined es xs =
    items_of-append is_queued es (map queued xs) ∙ ap (λ (ys : List Observation). items_of is_queued es ++ ys)
    (queued_in [] xs tt)

-- what waits from the answer on, where news joined those behind the mark
pub from_answer_joined : (q : Option Interrogation) (es fs : List Element) (xs : List Observation)
    → drop (since_of q) fs ≡ drop (since_of q) es ++ map queued xs
    → waiting_in (from_answer q fs) ≡ waiting_in (from_answer q es) ++ xs
from_answer_joined q es fs xs e =
    let parts : List Observation = waiting_in (map sendings.Part (left_of q)) in
    let later : List Observation = items_of is_queued (drop (since_of q) es) in
    waiting_from q fs
    ∙ (ap (λ (ys : List Observation). parts ++ ys) (ap (items_of is_queued) e ∙ queue_joined (drop (since_of q) es) xs)
    ∙ (sym (append_assoc parts later xs) ∙ ap (λ (ys : List Observation). ys ++ xs) (sym (waiting_from q es))))

-- what waits in all, where news joined all
pub line_joined : (owed : List AsduAnswer) (q : Option Interrogation) (es : List Element) (xs : List Observation)
    → since_of q ≤ length es
    → waiting_in (line_with owed q (es ++ map queued xs)) ≡ waiting_in (line_with owed q es) ++ xs
line_joined owed q es xs within =
    let fs : List Element = es ++ map queued xs in
    let answers : List Observation = waiting_in (map sendings.Answer owed) in
    let older : List Observation = items_of is_queued (take (since_of q) es) in
    let rest : List Observation = waiting_in (from_answer q es) in
    let front : items_of is_queued (take (since_of q) fs) ≡ older =
    ap (items_of is_queued) (take-append-le (since_of q) es (map queued xs) within) in
    let back = from_answer_joined q es fs xs (drop-append-le (since_of q) es (map queued xs) within) in
    waiting_line owed q fs
    ∙ (ap (λ (ys : List Observation). answers ++ (ys ++ waiting_in (from_answer q fs))) front
    ∙ (ap (λ (ys : List Observation). answers ++ (older ++ ys)) back
    ∙ (ap (λ (ys : List Observation). answers ++ ys) (sym (append_assoc older rest xs))
    ∙ (sym (append_assoc answers (older ++ rest) xs) ∙ ap (λ (ys : List Observation). ys ++ xs)
    (sym (waiting_line owed q es))))))

-- ---- the first in line

-- an answer isn't taken for a part, and rows have a cause of an interrogation
abbrev pub IsPlain : Sending → Type 0
IsPlain (sendings.Answer answer) = IsApart answer
IsPlain (sendings.Part part) = IsRequested part
IsPlain _ = Unit {0}

abbrev pub is_part : Sending → Bool
is_part (sendings.Part part) = true
is_part _ = false

-- none of the causes of observations is one of what is unknown
other_causes : (cause octet : ℕ) → octet % 64 ≡ cause → 44 ≤ cause → cause ≤ 47
    → (eqb octet 3 ≡ false) × (eqb octet 5 ≡ false) × (eqb octet 20 ≡ false) × (eqb octet 37 ≡ false)
other_causes cause octet is low high = (
  other 3 (omega arith),
  other 5 (omega arith),
  other 20 (omega arith),
  other 37
      (omega arith),
)
  where
    other : (n : ℕ) → (n % 64 ≤ 43) → eqb octet n ≡ false
    other n few = ne_eqb octet n (λ e. omega (arith, is, low, few, ap (λ (m : ℕ). m % 64) e))

-- the observations that an answer tells
answer_tells : (clocks : Clocks) (answer : AsduAnswer) (meant : Meant) → IsApart answer
    → CanSendAnswer clocks answer → Means clocks answer meant
    → observations_in meant ≡ observations_of (sendings.Answer answer)
answer_tells clocks (Returned asdu cause) (Tells a) plain can means =
    let refused = refused_with clocks cause (octets_in asdu) (Tells a) can.0 means in
    let others = other_causes cause a.cause refused.0 can.1 can.2 in
    rw (others.0, others.1, others.2, others.3) refl
answer_tells clocks (Returned asdu cause) (Commands c) plain can means = refl
answer_tells clocks (Returned asdu cause) (Unread octets) plain can means = refl
answer_tells clocks (Made (outgoing.Command c)) meant plain can means = ap observations_in means
answer_tells clocks (Made (outgoing.Observation cause originator x)) meant plain can means =
    ap observations_in means ∙ ap (λ (n : ℕ). observations_in (Tells (asdu_of clocks n originator x))) plain

-- news at the front of a line wait first
news_wait : (n : ℕ) (l : List Sending) → n ≤ length (news_front l)
    → waiting_in l ≡ take n (news_front l) ++ waiting_in (drop n l)
news_wait zero l few = refl
news_wait (suc n) [] few = absurd (omega (arith, few))
news_wait (suc n) (sendings.News x ∷ l) few =
    ap (λ (xs : List Observation). x ∷ xs) (news_wait n l (omega (arith, few)))
news_wait (suc n) (sendings.Answer answer ∷ l) few = absurd (omega (arith, few))
news_wait (suc n) (sendings.Part part ∷ l) few = absurd (omega (arith, few))
news_wait (suc n) (sendings.Confirm signal ∷ l) few = absurd (omega (arith, few))
news_wait (suc n) (sendings.Test ∷ l) few = absurd (omega (arith, few))
news_wait (suc n) (sendings.SFormat ∷ l) few = absurd (omega (arith, few))

-- and so do rows
rows_wait : (cause originator n : ℕ) (l : List Sending) → n ≤ length (rows_front cause originator l)
    → waiting_in l ≡ take n (rows_front cause originator l) ++ waiting_in (drop n l)
rows_wait cause originator zero l few = refl
rows_wait cause originator (suc n) [] few = absurd (omega (arith, few))
rows_wait cause originator (suc n) (sendings.Part (outgoing.Observation c o x) ∷ l) few =
    by (c == cause && o == originator) (λ few. rows_wait cause originator n l few) few
  where
    front : List Observation
    front = rows_front cause originator l

    by : (b : Bool) → (n ≤ length front → waiting_in l ≡ take n front ++ waiting_in (drop n l))
        → suc n ≤ length (if b then x ∷ front else [])
        → x ∷ waiting_in l ≡ take (suc n) (if b then x ∷ front else []) ++ waiting_in (drop n l)
    by true others few = ap (λ (xs : List Observation). x ∷ xs) (others (omega (arith, few)))
    by false others few = absurd (omega (arith, few))
rows_wait cause originator (suc n) (sendings.Part (outgoing.Command command) ∷ l) few = absurd (omega (arith, few))
rows_wait cause originator (suc n) (sendings.News x ∷ l) few = absurd (omega (arith, few))
rows_wait cause originator (suc n) (sendings.Answer answer ∷ l) few = absurd (omega (arith, few))
rows_wait cause originator (suc n) (sendings.Confirm signal ∷ l) few = absurd (omega (arith, few))
rows_wait cause originator (suc n) (sendings.Test ∷ l) few = absurd (omega (arith, few))
rows_wait cause originator (suc n) (sendings.SFormat ∷ l) few = absurd (omega (arith, few))

-- the first of a list, and those that go with it
with_first : (n : ℕ) (x : Observation) (xs : List Observation) (l : List Sending) → 0 < n → n ≤ length xs + 1
    → ((m : ℕ) → m ≤ length xs → waiting_in l ≡ take m xs ++ waiting_in (drop m l))
    → x ∷ waiting_in l ≡ take n (x ∷ xs) ++ waiting_in (drop n (sendings.News x ∷ l))
with_first zero x xs l some few each = absurd (omega (arith, some))
with_first (suc n) x xs l some few each = ap (λ (ys : List Observation). x ∷ ys) (each n (omega (arith, few)))

-- what an ASDU tells waited first
pub told_first : (clocks : Clocks) (l : List Sending) (meant : Meant) → MeansFront clocks l meant
    → AllByRecursion IsPlain l → AllByRecursion (CanSend clocks) l
    → waiting_in l ≡ observations_in meant ++ waiting_in (drop (together clocks l) l)
told_first clocks [] meant means plain can = absurd means
told_first clocks (sendings.Answer answer ∷ l) meant means plain can =
    ap (λ (xs : List Observation). xs ++ waiting_in l) (sym (answer_tells clocks answer meant plain.0 can.0 means))
told_first clocks (sendings.News x ∷ l) meant means plain can =
    let xs : List Observation = news_front l in
    let n : ℕ = taken_of clocks (x ∷ xs) in
    with_first n x xs l (taken_of_some clocks (x ∷ xs) (omega arith)) (omega (arith, taken_of_within clocks (x ∷ xs)))
    (λ m few. news_wait m l few)
    ∙ ap (λ (ys : List Observation). ys ++ waiting_in (drop n (sendings.News x ∷ l))) (sym (ap observations_in means))
told_first clocks (sendings.Part (outgoing.Command command) ∷ l) meant means plain can =
    ap (λ (xs : List Observation). xs ++ waiting_in l) (sym (ap observations_in means))
told_first clocks (sendings.Part (outgoing.Observation cause originator x) ∷ l) meant means plain can =
    let xs : List Observation = rows_front cause originator l in
    let n : ℕ = taken_of clocks (x ∷ xs) in
    rows_first n (taken_of_some clocks (x ∷ xs) (omega arith)) (omega (arith, taken_of_within clocks (x ∷ xs)))
    ∙ ap (λ (ys : List Observation). ys ++ waiting_in (drop n (sendings.Part (outgoing.Observation cause originator x) ∷ l)))
    (sym (ap observations_in means ∙ rows_told plain.0))
  where
    front : List Observation
    front = rows_front cause originator l

    rows_first : (n : ℕ) → 0 < n → n ≤ length front + 1
        → x ∷ waiting_in l ≡ take n (x ∷ front)
        ++ waiting_in (drop n (sendings.Part (outgoing.Observation cause originator x) ∷ l))
    rows_first zero some few = absurd (omega (arith, some))
    rows_first (suc n) some few =
        ap (λ (ys : List Observation). x ∷ ys) (rows_wait cause originator n l (omega (arith, few)))

    rows_told : (cause ≡ 20) ⊎ (cause ≡ 37)
        → observations_in (Tells (packed_asdu clocks cause originator x front))
        ≡ take (taken_of clocks (x ∷ front)) (x ∷ front)
    rows_told (inl is) = rw is refl
    rows_told (inr is) = rw is refl
told_first clocks (sendings.Confirm signal ∷ l) meant means plain can = absurd means
told_first clocks (sendings.Test ∷ l) meant means plain can = absurd means
told_first clocks (sendings.SFormat ∷ l) meant means plain can = absurd means

-- ---- only parts are taken for parts

abbrev pub begins_with_part : List Sending → Bool
begins_with_part [] = false
begins_with_part (s ∷ l) = is_part s

answer_apart : (clocks : Clocks) (answer : AsduAnswer) (meant : Meant) → IsApart answer
    → CanSendAnswer clocks answer → Means clocks answer meant → parts_in meant ≡ []
answer_apart clocks (Returned asdu cause) (Tells a) plain can means =
    let refused = refused_with clocks cause (octets_in asdu) (Tells a) can.0 means in
    let others = other_causes cause a.cause refused.0 can.1 can.2 in
    rw (others.2, others.3) refl
answer_apart clocks (Returned asdu cause) (Commands c) plain can means =
    negative_apart c (refused_with clocks cause (octets_in asdu) (Commands c) can.0 means).1
  where
    negative_apart : (c : Command) → c.negative ≡ true → parts_in (Commands c) ≡ []
    negative_apart c is = elim (cases_Bool (is_interrogation c.action)) [
      | inl one ↦ rw (one, is) refl
      | inr none ↦ rw none refl
    ]
answer_apart clocks (Returned asdu cause) (Unread octets) plain can means = refl
answer_apart clocks (Made (outgoing.Command c)) meant plain can means = ap parts_in means ∙ rw plain refl
answer_apart clocks (Made (outgoing.Observation cause originator x)) meant plain can means =
    ap parts_in means ∙ ap (λ (n : ℕ). parts_in (Tells (asdu_of clocks n originator x))) plain

pub apart : (clocks : Clocks) (l : List Sending) (meant : Meant) → begins_with_part l ≡ false
    → MeansFront clocks l meant → AllByRecursion IsPlain l → AllByRecursion (CanSend clocks) l
    → parts_in meant ≡ []
apart clocks [] meant other means plain can = absurd means
apart clocks (sendings.Answer answer ∷ l) meant other means plain can =
    answer_apart clocks answer meant plain.0 can.0 means
apart clocks (sendings.News x ∷ l) meant other means plain can = ap parts_in means
apart clocks (sendings.Part part ∷ l) meant other means plain can = absurd cc
apart clocks (sendings.Confirm signal ∷ l) meant other means plain can = absurd means
apart clocks (sendings.Test ∷ l) meant other means plain can = absurd means
apart clocks (sendings.SFormat ∷ l) meant other means plain can = absurd means

-- a part is first where no answer and no older news wait
pub part_first : (owed : List AsduAnswer) (xs : List Observation) (rest : List Sending)
    → begins_with_part (map sendings.Answer owed ++ (map sendings.News xs ++ rest)) ≡ true
    → (owed ≡ []) × (xs ≡ [])
part_first (answer ∷ owed) xs rest e = absurd cc
part_first [] (x ∷ xs) rest e = absurd cc
part_first [] [] rest e = (refl, refl)

-- the line from its first part on
abbrev pub from_part : List Sending → List Sending
from_part [] = []
from_part (s ∷ line) = cond (is_part s) (s ∷ line) (from_part line)

pub from_part_of : (owed : List AsduAnswer) (xs : List Observation) (p : OwnAsdu) (rest : List Sending)
    → from_part (map sendings.Answer owed ++ (map sendings.News xs ++ (sendings.Part p ∷ rest)))
    ≡ sendings.Part p ∷ rest
from_part_of (answer ∷ owed) xs p rest = from_part_of owed xs p rest
from_part_of [] (x ∷ xs) p rest = from_part_of [] xs p rest
from_part_of [] [] p rest = refl

-- news that go are before it
from_part_news : (n : ℕ) (l : List Sending) → n ≤ length (news_front l) → from_part (drop n l) ≡ from_part l
from_part_news zero l few = refl
from_part_news (suc n) [] few = absurd (omega (arith, few))
from_part_news (suc n) (sendings.News x ∷ l) few = from_part_news n l (omega (arith, few))
from_part_news (suc n) (sendings.Answer answer ∷ l) few = absurd (omega (arith, few))
from_part_news (suc n) (sendings.Part part ∷ l) few = absurd (omega (arith, few))
from_part_news (suc n) (sendings.Confirm signal ∷ l) few = absurd (omega (arith, few))
from_part_news (suc n) (sendings.Test ∷ l) few = absurd (omega (arith, few))
from_part_news (suc n) (sendings.SFormat ∷ l) few = absurd (omega (arith, few))

pub from_part_next : (clocks : Clocks) (l : List Sending) → begins_with_part l ≡ false
    → from_part (drop (together clocks l) l) ≡ from_part l
from_part_next clocks [] other = refl
from_part_next clocks (sendings.News x ∷ l) other =
    from_part_news (taken_of clocks (x ∷ news_front l)) (sendings.News x ∷ l) (taken_of_within clocks (x ∷ news_front l))
from_part_next clocks (sendings.Answer answer ∷ l) other = refl
from_part_next clocks (sendings.Part part ∷ l) other = absurd cc
from_part_next clocks (sendings.Confirm signal ∷ l) other = refl
from_part_next clocks (sendings.Test ∷ l) other = refl
from_part_next clocks (sendings.SFormat ∷ l) other = refl
