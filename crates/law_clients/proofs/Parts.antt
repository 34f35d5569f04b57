-- What is put out of the answer to an interrogation, and what isn't.
use Rattle.std.proofs.Common.{◌≡◌, ℕ, ◌+◌, ◌%◌, ◌<◌, ◌≤◌, Bool, true, false, eqb, List, []}
use Rattle.std.proofs.Common.{◌∷◌, ◌++◌, length, map, drop, Option, Some, None, refl, sym, ap}
use Rattle.std.proofs.Common.{subst, ◌∙◌, append_assoc, length-append, arith, inl, inr, take}
use Rattle.std.proofs.Math.Bool.{and-false}
use Rattle.std.specs.Prelude.{◌&&◌, ◌||◌, not, nat_lt, filter, option_map, ◌⊎◌}
use Rattle.std.specs.List.{AllByRecursion}
use Rattle.std.proofs.lemmas.Bool.{lt-ltb, le-ltb, ne_eqb}
use Rattle.std.proofs.lemmas.List.{append-nil, take-append-drop, drop-drop}
use Rattle.std.proofs.lemmas.List.Elements.{filter-append}
use Rattle.gw_model.specs.declared.observation.Observation.{Observation}
use Rattle.gw_model.specs.Clocks.{Clocks}
use Rattle.iec_command.specs.declared.command.Command.{Command}
use Rattle.iec_command.specs.declared.command.Action.{Action}
use Rattle.iec_command.specs.declared.command.Action.TheVariants as actions
use Rattle.gw_answers.specs.declared.outgoing.AsduAnswer.{AsduAnswer}
use Rattle.gw_answers.specs.declared.outgoing.AsduAnswer.TheVariants.{Returned, Made}
use Rattle.gw_answers.specs.declared.outgoing.OwnAsdu.{OwnAsdu}
use Rattle.gw_answers.specs.declared.outgoing.OwnAsdu.TheVariants as outgoing
use Rattle.gw_answers.specs.Interrogations.{is_general, is_accepted_act, cause_for, rows_under, answer_with, answer_under, answer_to}
use Rattle.gw_answers.specs.Outgoing.{command_with, under}
use Rattle.gw_answers.specs.Octets.{octets_in}
use Rattle.gw_answers.specs.Meaning.{Meant, Tells, Commands, Unread, asdu_of, packed_asdu, Means, CanSendAnswer}
use Rattle.gw_answers.proofs.Meant.{refused_with}
use Rattle.gw_station.specs.Answers.{is_pending as is_asked}
use Rattle.gw_station.proofs.All.{all-append}
use Rattle.law_clients.specs.Interrogations.{Interrogation, is_interrogation, parts_of_command, parts_in}
use Rattle.law_clients.specs.Interrogations.{is_termination, is_pending, answer_told, interrogation_telling}
use Rattle.law_clients.specs.Fates.{spontaneous_of}

-- ---- kinds of answers and parts

-- a part of an answer to an interrogation has a cause of one: 20 or 37
abbrev pub IsRequested : OwnAsdu → Type 0
IsRequested (outgoing.Command c) = Unit {0}
IsRequested (outgoing.Observation cause originator x) = (cause ≡ 20) ⊎ (cause ≡ 37)

-- an answer that isn't taken for a part of the answer to an interrogation
abbrev pub IsApart : AsduAnswer → Type 0
IsApart (Returned asdu cause) = Unit {0}
IsApart (Made (outgoing.Command c)) = is_interrogation c.action && not c.negative ≡ false
IsApart (Made (outgoing.Observation cause originator x)) = cause ≡ 5

-- a part of the answer to an interrogation
abbrev pub IsOfInterrogation : OwnAsdu → Type 0
IsOfInterrogation (outgoing.Command c) =
    is_interrogation c.action && not c.negative && (eqb c.cause 7 || eqb c.cause 10) ≡ true
IsOfInterrogation (outgoing.Observation cause originator x) = Unit {0}

-- ---- what is no news

-- what comes back has a cause that isn't spontaneous
not_spontaneous : (cause octet : ℕ) → octet % 64 ≡ cause → 44 ≤ cause → eqb octet 3 ≡ false
not_spontaneous cause octet e from = ne_eqb octet 3 (λ (is : octet ≡ 3). omega (arith, e, from, is))

pub answer_no_news : (clocks : Clocks) (answer : AsduAnswer) (meant : Meant) → CanSendAnswer clocks answer
    → Means clocks answer meant → spontaneous_of meant ≡ []
answer_no_news clocks (Returned asdu cause) (Tells told) can means =
    let refused = refused_with clocks cause (octets_in asdu) (Tells told) can.0 means in
    rw (not_spontaneous cause told.cause refused.0 can.1) refl
answer_no_news clocks (Returned asdu cause) (Commands c) can means = refl
answer_no_news clocks (Returned asdu cause) (Unread octets) can means = refl
answer_no_news clocks (Made (outgoing.Command c)) meant can means = ap spontaneous_of means
answer_no_news clocks (Made (outgoing.Observation cause originator x)) meant can means =
    ap spontaneous_of means
    ∙ ap (λ (n : ℕ). spontaneous_of (Tells (asdu_of clocks n originator x))) can.0

pub part_no_news : (clocks : Clocks) (part : OwnAsdu) (meant : Meant) → IsRequested part
    → Means clocks (Made part) meant → spontaneous_of meant ≡ []
part_no_news clocks (outgoing.Command c) meant is means = ap spontaneous_of means
part_no_news clocks (outgoing.Observation cause originator x) meant (inl is) means =
    ap spontaneous_of means
    ∙ ap (λ (n : ℕ). spontaneous_of (Tells (asdu_of clocks n originator x))) is
part_no_news clocks (outgoing.Observation cause originator x) meant (inr is) means =
    ap spontaneous_of means
    ∙ ap (λ (n : ℕ). spontaneous_of (Tells (asdu_of clocks n originator x))) is

-- ---- what isn't of it

no_parts : (c : Command) → is_interrogation c.action && not c.negative ≡ false → parts_of_command c ≡ []
no_parts c e = rw e refl

negative_apart : (c : Command) → c.negative ≡ true → parts_of_command c ≡ []
negative_apart c e = no_parts c (ap (λ (b : Bool). is_interrogation c.action && not b) e
    ∙ and-false (is_interrogation c.action))

-- an octet of a cause from 44 on is neither 20 nor 37
neither : (cause octet : ℕ) → octet % 64 ≡ cause → 44 ≤ cause → eqb octet 20 || eqb octet 37 ≡ false
neither cause octet e from =
    rw (
      ne_eqb octet 20 (λ (is : octet ≡ 20). omega (arith, e, from, is)),
      ne_eqb octet
          37 (λ (is : octet ≡ 37). omega (arith, e, from, is)),
    ) refl

pub answer_apart : (clocks : Clocks) (answer : AsduAnswer) (meant : Meant) → CanSendAnswer clocks answer
    → IsApart answer → Means clocks answer meant → parts_in meant ≡ []
answer_apart clocks (Returned asdu cause) (Tells told) can is means =
    let refused = refused_with clocks cause (octets_in asdu) (Tells told) can.0 means in
    rw (neither cause told.cause refused.0 can.1) refl
answer_apart clocks (Returned asdu cause) (Commands c) can is means =
    negative_apart c (refused_with clocks cause (octets_in asdu) (Commands c) can.0 means).1
answer_apart clocks (Returned asdu cause) (Unread octets) can is means = refl
answer_apart clocks (Made (outgoing.Command c)) meant can is means =
    ap parts_in means ∙ no_parts c is
answer_apart clocks (Made (outgoing.Observation cause originator x)) meant can is means =
    ap parts_in means ∙ ap (λ (n : ℕ). parts_in (Tells (asdu_of clocks n originator x))) is

pub news_apart : (clocks : Clocks) (x : Observation) (xs : List Observation) (meant : Meant)
    → meant ≡ Tells (packed_asdu clocks 3 0 x xs) → parts_in meant ≡ []
news_apart clocks x xs meant means = ap parts_in means

-- nothing of it was put out
pub told_nothing : (meant : Meant) (q : Option Interrogation) → parts_in meant ≡ []
    → option_map (interrogation_telling meant) q ≡ q
told_nothing meant None none = refl
told_nothing meant (Some q) none = ap (λ (parts : List OwnAsdu). Some (record q { said = parts }))
    (ap (λ (parts : List OwnAsdu). q.said ++ parts) none ∙ append-nil q.said)

-- ---- what is of it

pub part_told : (clocks : Clocks) (part : OwnAsdu) (meant : Meant) → IsOfInterrogation part → IsRequested part
    → Means clocks (Made part) meant
    → parts_in meant ≡ part ∷ []
part_told clocks (outgoing.Command c) meant is requested means = ap parts_in means ∙ rw is refl
part_told clocks (outgoing.Observation cause originator x) meant is (inl asked) means =
    ap parts_in means ∙ rw asked refl
part_told clocks (outgoing.Observation cause originator x) meant is (inr asked) means =
    ap parts_in means ∙ rw asked refl

-- ---- an act that is accepted

pub accepted_is : (pending : Bool) (c : Command) → is_accepted_act pending c ≡ true → is_interrogation c.action ≡ true
accepted_is pending c e = general c.action (middle (eqb c.cause 6) (is_general c.action) (not pending) e)
  where
    middle : (a b d : Bool) → a && b && d ≡ true → b ≡ true
    middle true true d e = refl
    middle true false d e = absurd cc
    middle false b d e = absurd cc

    general : (action : Action) → is_general action ≡ true → is_interrogation action ≡ true
    general (actions.Single x) e = absurd cc
    general (actions.Double x) e = absurd cc
    general (actions.Setpoint x) e = absurd cc
    general (actions.Interrogation qualifier) e = refl
    general (actions.CounterInterrogation qualifier) e = refl
    general actions.Read e = absurd cc

rows_are : (cause originator : ℕ) (xs : List Observation) (rest : List OwnAsdu)
    → AllByRecursion IsOfInterrogation rest
    → AllByRecursion IsOfInterrogation (map (outgoing.Observation cause originator) xs ++ rest)
rows_are cause originator [] rest all = all
rows_are cause originator (x ∷ xs) rest all = (tt, rows_are cause originator xs rest all)

answer_with_is : (c : Command) (xs : List Observation) → is_interrogation c.action ≡ true
    → AllByRecursion IsOfInterrogation (answer_with c xs)
answer_with_is c xs e =
    (rw e refl, rows_are (cause_for c.action) 0 xs (command_with 10 false c ∷ []) (rw e refl, tt))

-- so is each part of the answer to one, under each address
pub answer_is : (asked : List ℕ) (c : Command) (picture : List Observation) → is_interrogation c.action ≡ true
    → AllByRecursion IsOfInterrogation (answer_to asked c picture)
answer_is [] c picture e = tt
answer_is (common ∷ asked) c picture e =
    all-append IsOfInterrogation (answer_under c picture common) (answer_to asked c picture)
    (answer_with_is (under common c) (rows_under c.action picture common) e) (answer_is asked c picture e)

-- ---- terminations

-- how many are among parts
abbrev pub terminations : List OwnAsdu → ℕ
terminations parts = length (filter is_termination parts)

terminations-append : (xs ys : List OwnAsdu) → terminations (xs ++ ys) ≡ terminations xs + terminations ys
terminations-append xs ys =
    ap length (filter-append is_termination xs ys)
    ∙ length-append (filter is_termination xs) (filter is_termination ys)

rows_go_on : (cause originator : ℕ) (xs : List Observation) (more : List OwnAsdu)
    → terminations (map (outgoing.Observation cause originator) xs ++ more) ≡ terminations more
rows_go_on cause originator [] more = refl
rows_go_on cause originator (x ∷ xs) more = rows_go_on cause originator xs more

-- an answer has one
answer_ends : (c : Command) (xs : List Observation) → terminations (answer_with c xs) ≡ 1
answer_ends c xs = rows_go_on (cause_for c.action) 0 xs (command_with 10 false c ∷ [])

-- as many as addresses are asked
all_end : (asked : List ℕ) (c : Command) (picture : List Observation)
    → terminations (answer_to asked c picture) ≡ length asked
all_end [] c picture = refl
all_end (common ∷ asked) c picture =
    terminations-append (answer_under c picture common) (answer_to asked c picture)
    ∙ omega (
      arith,
      answer_ends (under common c) (rows_under c.action picture common),
      all_end asked c picture,
    )

-- ---- the last part is a termination

-- whatever is left of parts has one, if it is something
abbrev AreEnded : List OwnAsdu → Type 0
AreEnded [] = Unit {0}
AreEnded (part ∷ parts) = (0 < terminations (part ∷ parts)) × AreEnded parts

-- a part more, in front of parts that have one
one_more : (part : OwnAsdu) (parts : List OwnAsdu) → 0 < terminations parts → AreEnded parts → AreEnded (part ∷ parts)
one_more part parts some ended =
    (omega (arith, terminations-append (part ∷ []) parts), ended)

rows_ended : (cause originator : ℕ) (xs : List Observation) (more : List OwnAsdu) → 0 < terminations more
    → AreEnded more → AreEnded (map (outgoing.Observation cause originator) xs ++ more)
rows_ended cause originator [] more some ended = ended
rows_ended cause originator (x ∷ xs) more some ended =
    let rest : List OwnAsdu = map (outgoing.Observation cause originator) xs ++ more in
    one_more (outgoing.Observation cause originator x) rest (omega (arith, some, rows_go_on cause originator xs more))
    (rows_ended cause originator xs more some ended)

answer_ended : (c : Command) (xs : List Observation) (more : List OwnAsdu) → AreEnded more
    → AreEnded (answer_with c xs ++ more)
answer_ended c xs more ended =
    let rows : List OwnAsdu = map (outgoing.Observation (cause_for c.action) 0) xs in
    let behind : List OwnAsdu = command_with 10 false c ∷ more in
    let some : 0 < terminations behind = omega arith in
    let same : (rows ++ command_with 10 false c ∷ []) ++ more ≡ rows ++ behind =
    append_assoc rows (command_with 10 false c ∷ []) more in
    subst (λ (parts : List OwnAsdu). AreEnded (command_with 7 false c ∷ parts)) (sym same)
    (one_more (command_with 7 false c) (rows ++ behind)
    (omega (arith, some, rows_go_on (cause_for c.action) 0 xs behind))
    (rows_ended (cause_for c.action) 0 xs behind some (some, ended)))

all_ended : (asked : List ℕ) (c : Command) (picture : List Observation) → AreEnded (answer_to asked c picture)
all_ended [] c picture = tt
all_ended (common ∷ asked) c picture =
    answer_ended (under common c) (rows_under c.action picture common) (answer_to asked c picture)
    (all_ended asked c picture)

ended_behind : (said rest : List OwnAsdu) → AreEnded (said ++ rest) → AreEnded rest
ended_behind [] rest ended = ended
ended_behind (part ∷ said) rest ended = ended_behind said rest ended.1

-- fewer are out than addresses are asked while something is left
pending_while : (out : ℕ) (asked : ℕ) (rest : List OwnAsdu) → out + terminations rest ≡ asked → AreEnded rest
    → nat_lt out asked ≡ is_asked rest
pending_while out asked [] e ended = le-ltb out asked (omega (arith, e))
pending_while out asked (part ∷ rest) e ended = lt-ltb out asked (omega (arith, e, ended.0))

-- an interrogation is pending while something is left of its answer
pub pending_is : (q : Interrogation) (rest : List OwnAsdu) → q.said ++ rest ≡ answer_told q
    → is_pending (Some q) ≡ is_asked rest
pending_is q rest e =
    pending_while (terminations q.said) (length q.asked) rest
    (sym (terminations-append q.said rest) ∙ (ap terminations e ∙ all_end q.asked q.command q.rows))
    (ended_behind q.said rest (subst AreEnded (sym e) (all_ended q.asked q.command q.rows)))

-- more parts were said
pub said_more : (n : ℕ) (said rest : List OwnAsdu) → (said ++ take n rest) ++ drop n rest ≡ said ++ rest
said_more n said rest =
    append_assoc said (take n rest) (drop n rest)
    ∙ ap (λ (parts : List OwnAsdu). said ++ parts) (take-append-drop n rest)

-- what is left is what is behind as many as were said
pub left_more : (said n : ℕ) (rest answer : List OwnAsdu) → rest ≡ drop said answer
    → drop n rest ≡ drop (said + n) answer
left_more said n rest answer is = ap (drop n) is ∙ drop-drop n said answer

-- ---- what waits before

pub nothing_asked : (rest : List OwnAsdu) → is_asked rest ≡ false → rest ≡ []
nothing_asked [] e = refl
nothing_asked (part ∷ rest) e = absurd cc
