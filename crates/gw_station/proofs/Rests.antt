-- What is left of an answer in sections, behind the parts that were put out.
use Rattle.std.proofs.Common.{◌≡◌, ◌+◌, ◌-◌, ◌<◌, ◌≤◌, ℕ, zero, suc, true, false, List, [], ◌∷◌, ◌++◌}
use Rattle.std.proofs.Common.{length, map, drop, Option, Some, None, refl, sym, ap, subst, ◌∙◌, append_assoc, arith}
use Rattle.std.specs.Prelude.{is_some, option_map, slice_get, IfSome, IsSomeAnd}
use Rattle.std.proofs.Math.Seq.{drop-append-add}
use Rattle.std.proofs.lemmas.Bool.{eq-eqb}
use Rattle.std.proofs.lemmas.List.{drop-drop, length-append, length-map}
use Rattle.std.proofs.lemmas.Option.{same_Some, slice_get-map}
use Rattle.gw_model.specs.declared.observation.Observation.{Observation}
use Rattle.iec_command.specs.declared.command.Command.{Command}
use Rattle.gw_answers.specs.declared.interrogation.AnswerSection.{AnswerSection}
use Rattle.gw_answers.specs.declared.outgoing.OwnAsdu.{OwnAsdu}
use Rattle.gw_answers.specs.declared.outgoing.OwnAsdu.TheVariants as outgoing
use Rattle.gw_answers.specs.Outgoing.{command_with}
use Rattle.gw_answers.specs.Interrogations.{cause_for, answer_with}
use Rattle.gw_answers.specs.Sections.{joined, parts_of}
use Rattle.gw_station.specs.Answers.{is_pending}
use Rattle.gw_station.specs.Kept.{parts_front, parts_left, rows_at, HasPart}

-- ---- one section, and more behind it

-- a section has a confirmation and a termination more than it has rows
answer_long : (c : Command) (rows : List Observation) → length (answer_with c rows) ≡ length rows + 2
answer_long c rows =
    let row : Observation → OwnAsdu = outgoing.Observation (cause_for c.action) 0 in
    let last : List OwnAsdu = command_with 10 false c ∷ [] in
    omega (arith, length-append (map row rows) last, length-map rows row)

-- where not all parts were put out, one is left
pending_before_last : (done : ℕ) (parts : List OwnAsdu) → done < length parts → is_pending (drop done parts) ≡ true
pending_before_last done [] more = absurd (omega (arith, more))
pending_before_last zero (part ∷ parts) more = refl
pending_before_last (suc done) (part ∷ parts) more = pending_before_last done parts (omega (arith, more))

-- a part that stands at a place is first behind those before it
first_behind : (done : ℕ) (parts more : List OwnAsdu) (part : OwnAsdu) → Some part ≡ slice_get parts done
    → Some part ≡ slice_get (drop done (parts ++ more)) 0
first_behind done [] more part e = absurd cc
first_behind zero (p ∷ parts) more part e = e
first_behind (suc done) (p ∷ parts) more part e = first_behind done parts more part e

-- so many more go
left_behind : (done count : ℕ) (parts : List OwnAsdu) → drop (done + count) parts ≡ drop count (drop done parts)
left_behind done count parts = sym (drop-drop count done parts)

-- all that is left of a section goes, and some behind it
all_go : (done count : ℕ) (parts more : List OwnAsdu) → done ≤ length parts → length parts - done ≤ count
    → drop (count - (length parts - done)) more ≡ drop count (drop done (parts ++ more))
all_go done count parts more within past =
    let n : ℕ = count - (length parts - done) in
    let all : length parts + n ≡ done + count = omega (arith, within, past) in
    sym (drop-append-add parts more n)
    ∙ (ap (λ (m : ℕ). drop m (parts ++ more)) all ∙ left_behind done count (parts ++ more))

-- ---- the part at a place

row_at : (f : Observation → OwnAsdu) (last : OwnAsdu) (rows : List Observation) (n : ℕ) (x : Observation)
    → slice_get rows n ≡ Some x → Some (f x) ≡ slice_get (map f rows ++ last ∷ []) n
row_at f last [] n x e = absurd cc
row_at f last (y ∷ rows) zero x e = ap (option_map f) (sym e)
row_at f last (y ∷ rows) (suc n) x e = row_at f last rows n x e

last_at : (f : Observation → OwnAsdu) (last : OwnAsdu) (rows : List Observation) (n : ℕ) → slice_get rows n ≡ None
    → n < length rows + 1 → Some last ≡ slice_get (map f rows ++ last ∷ []) n
last_at f last [] zero e few = refl
last_at f last [] (suc n) e few = absurd (omega (arith, few))
last_at f last (y ∷ rows) zero e few = absurd cc
last_at f last (y ∷ rows) (suc n) e few = last_at f last rows n e (omega (arith, few))

-- a row behind the confirmation, and the termination behind the rows
pub row_of_answer : (c : Command) (rows : List Observation) (place : ℕ) (x : Observation) → 0 < place
    → slice_get rows (place - 1) ≡ Some x
    → Some (outgoing.Observation (cause_for c.action) 0 x) ≡ slice_get (answer_with c rows) place
row_of_answer c rows zero x some e = absurd (omega (arith, some))
row_of_answer c rows (suc n) x some e =
    let same : suc n - 1 ≡ n = omega arith in
    row_at (outgoing.Observation (cause_for c.action) 0) (command_with 10 false c) rows n x
    (ap (λ (m : ℕ). slice_get rows m) (sym same) ∙ e)

pub last_of_answer : (c : Command) (rows : List Observation) (place : ℕ) → 0 < place → place < length rows + 2
    → slice_get rows (place - 1) ≡ None → Some (command_with 10 false c) ≡ slice_get (answer_with c rows) place
last_of_answer c rows zero some few e = absurd (omega (arith, some))
last_of_answer c rows (suc n) some few e =
    let same : suc n - 1 ≡ n = omega arith in
    last_at (outgoing.Observation (cause_for c.action) 0) (command_with 10 false c) rows n
    (ap (λ (m : ℕ). slice_get rows m) (sym same) ∙ e) (omega (arith, few))

-- ---- the rows that are left

-- before a command, all rows are at the front
rows_front : (f : ℕ) (k : Command) (rows : List Observation) (more : List OwnAsdu)
    → rows ≡ parts_front f 0 (map (outgoing.Observation f 0) rows ++ outgoing.Command k ∷ more)
rows_front f k [] more = refl
rows_front f k (x ∷ rows) more =
    rw (eq-eqb f f refl) (ap (λ (xs : List Observation). x ∷ xs) (rows_front f k rows more))

row_first : (f : ℕ) (k : Command) (rows : List Observation) (more : List OwnAsdu) (n cause originator : ℕ)
    (x : Observation) → n ≤ length rows
    → slice_get (drop n (map (outgoing.Observation f 0) rows ++ outgoing.Command k ∷ more)) 0
    ≡ Some (outgoing.Observation cause originator x)
    → (drop n rows
    ≡ parts_front cause originator (drop n (map (outgoing.Observation f 0) rows ++ outgoing.Command k ∷ more)))
    × (0 < length (drop n rows))
row_first f k [] more zero cause originator x within e = absurd cc
row_first f k [] more (suc n) cause originator x within e = absurd (omega (arith, within))
row_first f k (y ∷ rows) more zero cause originator x within e =
    let same_cause : f ≡ cause = cc in
    let same_originator : 0 ≡ originator = cc in
    let whole : List OwnAsdu = map (outgoing.Observation f 0) (y ∷ rows) ++ outgoing.Command k ∷ more in (
      rows_front f k (y ∷ rows) more
          ∙ (ap (λ (n : ℕ). parts_front f n whole) same_originator
          ∙ ap (λ (n : ℕ). parts_front n originator whole) same_cause),
      omega arith,
    )
row_first f k (y ∷ rows) more (suc n) cause originator x within e =
    row_first f k rows more n cause originator x (omega (arith, within)) e

-- where a row is first, the rows behind it have its cause and originator
rows_behind : (done : ℕ) (c : Command) (rows : List Observation) (more : List OwnAsdu) (cause originator : ℕ)
    (x : Observation) → done < length rows + 2
    → slice_get (drop done (answer_with c rows ++ more)) 0 ≡ Some (outgoing.Observation cause originator x)
    → (drop (done - 1) rows ≡ parts_front cause originator (drop done (answer_with c rows ++ more)))
    × (0 < length (drop (done - 1) rows))
rows_behind zero c rows more cause originator x within e = absurd cc
rows_behind (suc n) c rows more cause originator x within e =
    let f : ℕ = cause_for c.action in
    let same : suc n - 1 ≡ n = omega arith in
    let whole = append_assoc (map (outgoing.Observation f 0) rows) (command_with 10 false c ∷ []) more in
    rw (same, whole) (row_first f (record c { cause = 10; negative = false }) rows more n cause originator x
    (omega (arith, within)) (rw whole at e))

-- ---- the sections of an answer

-- the parts of a section come before those of the sections behind it
section_first : (n : ℕ) (sections : List (List OwnAsdu)) (parts : List OwnAsdu) → slice_get sections n ≡ Some parts
    → joined (drop n sections) ≡ parts ++ joined (drop (suc n) sections)
section_first n [] parts e = absurd cc
section_first zero (p ∷ sections) parts e = ap (λ (ps : List OwnAsdu). ps ++ joined sections) (same_Some p parts e)
section_first (suc n) (p ∷ sections) parts e = section_first n sections parts e

-- the section of which parts are left
record IsNext (section done : ℕ) (answer : List AnswerSection) : Type 0 where
  next : AnswerSection
  there : slice_get answer section ≡ Some next
  within : done < length next.rows.items + 2

abbrev parts_in : AnswerSection → List OwnAsdu
parts_in section = answer_with section.command section.rows.items

next_section : (section done : ℕ) (answer : List AnswerSection) → HasPart section done (parts_of answer)
    → IsNext section done answer
next_section section done answer has =
    by (slice_get answer section) refl
    (subst (λ (o : Option (List OwnAsdu)). IsSomeAnd o (λ parts. done < length parts))
    (slice_get-map parts_in answer section) has)
  where
    by : (found : Option AnswerSection) → slice_get answer section ≡ found
        → IsSomeAnd (option_map parts_in found) (λ parts. done < length parts) → IsNext section done answer
    by None there few = absurd few
    by (Some next) there few = record {
      next = next;
      there = there;
      within = omega (arith, few, answer_long next.command next.rows.items);
    }

-- its parts
section_at : (section : ℕ) (answer : List AnswerSection) (next : AnswerSection) → slice_get answer section ≡ Some next
    → slice_get (parts_of answer) section ≡ Some (parts_in next)
section_at section answer next there = slice_get-map parts_in answer section ∙ ap (option_map parts_in) there

-- the parts of the sections behind it
abbrev behind : ℕ → List AnswerSection → List OwnAsdu
behind section answer = joined (drop (suc section) (parts_of answer))

-- what is left is of that section, and of those behind it
left_is : (section done : ℕ) (answer : List AnswerSection) (next : AnswerSection)
    → slice_get answer section ≡ Some next
    → parts_left section done (Some (parts_of answer)) ≡ drop done (parts_in next ++ behind section answer)
left_is section done answer next there =
    ap (drop done) (section_first section (parts_of answer) (parts_in next) (section_at section answer next there))

-- ---- as the station keeps it

-- an answer of which a part is left is pending
pub pending_of : {A : Type 0} (items : A → List AnswerSection) (section done : ℕ) (answer : Option A)
    → IfSome answer (λ a. HasPart section done (parts_of (items a)))
    → is_pending (parts_left section done (option_map (λ a. parts_of (items a)) answer)) ≡ is_some answer
pending_of items section done None has = refl
pending_of items section done (Some a) has =
    let n = next_section section done (items a) has in
    ap is_pending (left_is section done (items a) n.next n.there)
    ∙ pending_before_last done (parts_in n.next ++ behind section (items a)) (omega (
      arith,
      n.within,
      answer_long n.next.command n.next.rows.items,
      length-append (parts_in n.next) (behind section (items a)),
    ))

-- the part at a place of the next section is first
pub first_of : (section done : ℕ) (answer : List AnswerSection) (next : AnswerSection) (part : OwnAsdu)
    → slice_get answer section ≡ Some next
    → Some part ≡ slice_get (answer_with next.command next.rows.items) done
    → Some part ≡ slice_get (parts_left section done (Some (parts_of answer))) 0
first_of section done answer next part there e =
    first_behind done (parts_in next) (behind section answer) part e
    ∙ ap (λ (parts : List OwnAsdu). slice_get parts 0) (sym (left_is section done answer next there))

-- where a row is first, the rows that are left of the section have its cause and originator
rows_of : (section done : ℕ) (answer : List AnswerSection) → HasPart section done (parts_of answer)
    → (cause originator : ℕ) (x : Observation)
    → slice_get (parts_left section done (Some (parts_of answer))) 0 ≡ Some (outgoing.Observation cause originator x)
    → (rows_at section done answer ≡ parts_front cause originator (parts_left section done (Some (parts_of answer))))
    × (0 < length (rows_at section done answer))
rows_of section done answer has cause originator x e =
    let n = next_section section done answer has in
    let left = left_is section done answer n.next n.there in
    rw (left, n.there) (rows_behind done n.next.command n.next.rows.items (behind section answer) cause originator x n.within
    (ap (λ (parts : List OwnAsdu). slice_get parts 0) (sym left) ∙ e))

pub rows_of_answer : {A : Type 0} (items : A → List AnswerSection) (section done : ℕ) (answer : Option A) (a : A)
    (behind : List Observation) (parts : List OwnAsdu) → answer ≡ Some a
    → IfSome answer (λ a. HasPart section done (parts_of (items a))) → behind ≡ rows_at section done (items a)
    → parts_left section done (option_map (λ a. parts_of (items a)) answer) ≡ parts
    → (cause originator : ℕ) (x : Observation) → slice_get parts 0 ≡ Some (outgoing.Observation cause originator x)
    → (behind ≡ parts_front cause originator parts) × (0 < length behind)
rows_of_answer items section done None a behind parts is has so shown cause originator x first = absurd cc
rows_of_answer items section done (Some b) a behind parts is has so shown cause originator x first =
    let rows : behind ≡ rows_at section done (items b) =
    so ∙ ap (λ y. rows_at section done (items y)) (sym (same_Some b a is)) in
    let r = rows_of section done (items b) has cause originator x
    (ap (λ (ps : List OwnAsdu). slice_get ps 0) shown ∙ first) in (
      rows ∙ (r.0 ∙ ap (parts_front cause originator) shown),
      subst (λ (xs : List Observation). 0 < length xs) (sym rows) r.1,
    )

-- ---- some are put out

-- a section of which not all parts were put out goes
pub section_goes : (section done count rows : ℕ) (answer : List AnswerSection) (next : AnswerSection)
    → slice_get answer section ≡ Some next → rows ≡ length next.rows.items
    → IfSome (slice_get (parts_of answer) section) (λ parts. done < length parts) → rows + 2 - done ≤ count
    → drop (count - (rows + 2 - done)) (parts_left (section + 1) 0 (Some (parts_of answer)))
    ≡ drop count (parts_left section done (Some (parts_of answer)))
section_goes section done count rows answer next there is within past =
    let long = answer_long next.command next.rows.items in
    let few : done < length (parts_in next) =
    subst (λ (o : Option (List OwnAsdu)). IfSome o (λ parts. done < length parts)) (section_at section answer next there)
    within in
    let same : count - (rows + 2 - done) ≡ count - (length (parts_in next) - done) = omega (arith, long, is) in
    let behind_it : section + 1 ≡ suc section = omega arith in
    rw (behind_it, same) (all_go done count (parts_in next) (behind section answer) (omega (arith, few))
    (omega (arith, long, is, past))
    ∙ ap (drop count) (sym (left_is section done answer next there)))

-- of each section the confirmation is first
pub starts : (section : ℕ) (answer : List AnswerSection)
    → IfSome (slice_get (parts_of answer) section) (λ parts. 0 < length parts)
starts section answer =
    subst (λ (o : Option (List OwnAsdu)). IfSome o (λ parts. 0 < length parts))
    (sym (slice_get-map parts_in answer section)) (by (slice_get answer section))
  where
    by : (found : Option AnswerSection) → IfSome (option_map parts_in found) (λ parts. 0 < length parts)
    by None = tt
    by (Some next) = omega arith

pub begins : (answer : List AnswerSection) → 0 < length answer → HasPart 0 0 (parts_of answer)
begins [] some = absurd (omega (arith, some))
begins (next ∷ answer) some = omega arith
