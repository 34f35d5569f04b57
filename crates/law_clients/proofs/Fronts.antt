-- What goes out together: what it means, and what it leaves.
use Rattle.std.proofs.Common.{◌≡◌, ℕ, zero, suc, ◌≤◌, ◌==◌, ◌&&◌, Bool, true, false}
use Rattle.std.proofs.Common.{List, [], ◌∷◌, ◌++◌, map, length, take, drop, Option, Some}
use Rattle.std.proofs.Common.{refl, sym, ap, subst, ◌∙◌, arith, inl, inr, if◌then◌else◌}
use Rattle.std.specs.Prelude.{◌⊎◌, slice_get}
use Rattle.std.specs.List.{AllByRecursion}
use Rattle.std.proofs.lemmas.Bool.{eq-eqb, eqb-true, and_parts}
use Rattle.std.proofs.lemmas.Option.{same_Some}
use Rattle.gw_model.specs.declared.observation.Observation.{Observation}
use Rattle.gw_model.specs.Clocks.{Clocks}
use Rattle.gw_map.specs.Settings.{Setup, station_clocks}
use Rattle.iec_asdu.specs.Packing.{taken_of}
use Rattle.iec_asdu.proofs.Carried.{taken_of_within}
use Rattle.gw_answers.specs.declared.outgoing.AsduAnswer.{AsduAnswer}
use Rattle.gw_answers.specs.declared.outgoing.OwnAsdu.{OwnAsdu}
use Rattle.gw_answers.specs.declared.outgoing.OwnAsdu.TheVariants as outgoing
use Rattle.gw_answers.specs.Octets.{packed_octets}
use Rattle.gw_answers.specs.Meaning.{Meant, Tells, meaning_of, packed_asdu, IsSendable}
use Rattle.gw_answers.proofs.Meant.{answer_means, outgoing_means, packed_mean}
use Rattle.gw_station.specs.declared.sending.Sending.{Sending}
use Rattle.gw_station.specs.declared.sending.Sending.TheVariants as sendings
use Rattle.gw_station.specs.Client.{Client}
use Rattle.gw_station.specs.Kept.{parts_front, parts_together}
use Rattle.gw_station.specs.Pump.{line, news_front, rows_front, together, part_octets}
use Rattle.gw_station.specs.Sound.{CanSend}
use Rattle.gw_station.proofs.All.{all-take}
use Rattle.gw_station.proofs.Front.{news_sendable, rows_sendable, news_together, news_first}
use Rattle.gw_station.proofs.Front.{part_first, rows_run, parts_same, next_front, next_within}
use Rattle.law_clients.specs.Fates.{spontaneous_of}
use Rattle.law_clients.specs.Interrogations.{parts_in}
use Rattle.law_clients.specs.Line.{MeansFront, SaysFirst}
use Rattle.law_clients.proofs.Numbers.{says}
use Rattle.law_clients.proofs.Offered.{IsOffered}
use Rattle.law_clients.proofs.Parts.{IsRequested, IsOfInterrogation, part_told, part_no_news}

-- ---- an ASDU means the front of the line

packed_so : (clocks : Clocks) (cause originator : ℕ) (x : Observation) (xs : List Observation)
    → IsSendable clocks x → AllByRecursion (IsSendable clocks) xs
    → meaning_of clocks (packed_octets clocks cause originator (x ∷ xs))
    ≡ Tells (packed_asdu clocks cause originator x xs)
packed_so clocks cause originator x xs can all =
    packed_mean clocks cause originator x xs
    (all-take (IsSendable clocks) (taken_of clocks (x ∷ xs)) (x ∷ xs) (can, all))

answer_front : (clocks : Clocks) (l : List Sending) (answer : AsduAnswer) (meant : Meant)
    → slice_get l 0 ≡ Some (sendings.Answer answer) → MeansFront clocks (sendings.Answer answer ∷ []) meant
    → MeansFront clocks l meant
answer_front clocks [] answer meant e means = absurd cc
answer_front clocks (s ∷ l) answer meant e means =
    subst (λ (t : Sending). MeansFront clocks (t ∷ l) meant) (sym (same_Some _ _ e)) means

news_means : (clocks : Clocks) (l : List Sending) (x : Observation)
    → slice_get l 0 ≡ Some (sendings.News x) → AllByRecursion (CanSend clocks) l
    → MeansFront clocks l (meaning_of clocks (packed_octets clocks 3 0 (news_front l)))
news_means clocks [] x e all = absurd cc
news_means clocks (sendings.News y ∷ l) x e all =
    packed_so clocks 3 0 y (news_front l) all.0 (news_sendable clocks l all.1)
news_means clocks (sendings.Confirm signal ∷ l) x e all = absurd cc
news_means clocks (sendings.Test ∷ l) x e all = absurd cc
news_means clocks (sendings.Answer answer ∷ l) x e all = absurd cc
news_means clocks (sendings.Part part ∷ l) x e all = absurd cc
news_means clocks (sendings.SFormat ∷ l) x e all = absurd cc

part_read : OwnAsdu → Option Sending → OwnAsdu
part_read d (Some (sendings.Part part)) = part
part_read d _ = d

part_means : (clocks : Clocks) (l : List Sending) (part : OwnAsdu)
    → slice_get l 0 ≡ Some (sendings.Part part) → AllByRecursion (CanSend clocks) l
    → MeansFront clocks l (meaning_of clocks (part_octets clocks l part))
unfolding part_read
part_means clocks [] part e all = absurd cc
part_means clocks (sendings.Part (outgoing.Command command) ∷ l) part e all =
    let same : outgoing.Command command ≡ part = ap (part_read part) e in
    subst (λ (p : OwnAsdu). MeansFront clocks (sendings.Part (outgoing.Command command) ∷ l)
    (meaning_of clocks (part_octets clocks (sendings.Part (outgoing.Command command) ∷ l) p))) same
    (outgoing_means clocks (outgoing.Command command) all.0)
part_means clocks (sendings.Part (outgoing.Observation cause originator x) ∷ l) part e all =
    let row : OwnAsdu = outgoing.Observation cause originator x in
    let same : row ≡ part = ap (part_read part) e in
    subst (λ (p : OwnAsdu). MeansFront clocks (sendings.Part row ∷ l)
    (meaning_of clocks (part_octets clocks (sendings.Part row ∷ l) p))) same
    (ap (λ (xs : List Observation). meaning_of clocks (packed_octets clocks cause originator xs)) front
    ∙ packed_so clocks cause originator x (rows_front cause originator l) all.0
    (rows_sendable clocks cause originator l all.1))
  where
    front : rows_front cause originator (sendings.Part (outgoing.Observation cause originator x) ∷ l)
        ≡ x ∷ rows_front cause originator l
    front = rw (eq-eqb cause cause refl, eq-eqb originator originator refl) refl
part_means clocks (sendings.Confirm signal ∷ l) part e all = absurd cc
part_means clocks (sendings.Test ∷ l) part e all = absurd cc
part_means clocks (sendings.Answer answer ∷ l) part e all = absurd cc
part_means clocks (sendings.News x ∷ l) part e all = absurd cc
part_means clocks (sendings.SFormat ∷ l) part e all = absurd cc

-- what is offered says the front of the line
pub says_front : (setup : Setup) (x : Sending) (k : Client) → IsOffered k x
    → CanSend (station_clocks setup.station) x → AllByRecursion (CanSend (station_clocks setup.station)) (line k)
    → SaysFirst setup (line k) (says setup k x)
says_front setup (sendings.Confirm signal) k is can all = tt
says_front setup sendings.Test k is can all = tt
says_front setup sendings.SFormat k is can all = tt
says_front setup (sendings.Answer answer) k is can all =
    answer_front (station_clocks setup.station) (line k) answer _ is.first
    (answer_means (station_clocks setup.station) answer can)
says_front setup (sendings.News x) k is can all =
    news_means (station_clocks setup.station) (line k) x is.first all
says_front setup (sendings.Part part) k is can all =
    part_means (station_clocks setup.station) (line k) part is.first all

-- ---- news that go

-- as many as one ASDU carries, from the front of the queue
pub record NewsGo (clocks : Clocks) (k : Client) (meant : Meant) : Type 0 where
  pub first : Observation
  pub others : List Observation
  pub means : meant ≡ Tells (packed_asdu clocks 3 0 first others)
  pub told : take (taken_of clocks (first ∷ others)) (first ∷ others) ≡ take (together clocks (line k)) k.queue
  pub within : together clocks (line k) ≤ length k.queue
  pub answers : k.answers ≡ []

news_meant : (clocks : Clocks) (l : List Sending) (x : Observation) (meant : Meant)
    → slice_get l 0 ≡ Some (sendings.News x) → MeansFront clocks l meant
    → (y : Observation) × (ys : List Observation) × (news_front l ≡ y ∷ ys)
    × (meant ≡ Tells (packed_asdu clocks 3 0 y ys))
news_meant clocks [] x meant e means = absurd cc
news_meant clocks (sendings.News y ∷ l) x meant e means = (y, news_front l, refl, means)
news_meant clocks (sendings.Confirm signal ∷ l) x meant e means = absurd cc
news_meant clocks (sendings.Test ∷ l) x meant e means = absurd cc
news_meant clocks (sendings.Answer answer ∷ l) x meant e means = absurd cc
news_meant clocks (sendings.Part part ∷ l) x meant e means = absurd cc
news_meant clocks (sendings.SFormat ∷ l) x meant e means = absurd cc

pub news_go : (clocks : Clocks) (k : Client) (x : Observation) (meant : Meant)
    → slice_get (line k) 0 ≡ Some (sendings.News x) → MeansFront clocks (line k) meant
    → NewsGo clocks k meant
news_go clocks k x meant e means =
    let first = news_first k x e in
    let is = news_meant clocks (line k) x meant e means in
    let n : ℕ = together clocks (line k) in
    let front : List Observation = news_front (line k) in
    let size : n ≡ taken_of clocks front = news_together clocks (line k) x e in
    let few : n ≤ length front = omega (arith, size, taken_of_within clocks front) in
    let next = ap length first.front in
    record {
      first = is.0;
      others = is.1;
      means = is.3;
      told = ap (λ (xs : List Observation). take (taken_of clocks xs) xs) (sym is.2)
          ∙ (ap (λ (m : ℕ). take m front) (sym size)
          ∙ (ap (take n) first.front ∙ sym (next_front k n n (omega (arith, few, next)))));
      within = omega (arith, few, next, next_within k);
      answers = first.answers;
    }

-- ---- parts that go

-- those of a cause and originator at the front of the parts
parts_run : (cause originator : ℕ) (n : ℕ) (rest : List OwnAsdu) → n ≤ length (parts_front cause originator rest)
    → take n rest ≡ map (outgoing.Observation cause originator) (take n (parts_front cause originator rest))
parts_run cause originator zero rest few = refl
parts_run cause originator (suc n) [] few = absurd (omega (arith, few))
parts_run cause originator (suc n) (outgoing.Command command ∷ rest) few = absurd (omega (arith, few))
parts_run cause originator (suc n) (outgoing.Observation c o x ∷ rest) few =
    by (c == cause && o == originator) (λ same. both (and_parts (c == cause) (o == originator) same))
    (λ m few. parts_run cause originator m rest few) few
  where
    both : (c == cause ≡ true) × (o == originator ≡ true) → (c ≡ cause) × (o ≡ originator)
    both same = (eqb-true c cause same.0, eqb-true o originator same.1)

    front : List Observation
    front = parts_front cause originator rest

    by : (b : Bool) → (b ≡ true → (c ≡ cause) × (o ≡ originator))
        → ((m : ℕ) → m ≤ length front → take m rest ≡ map (outgoing.Observation cause originator) (take m front))
        → suc n ≤ length (if b then x ∷ front else [])
        → outgoing.Observation c o x ∷ take n rest
        ≡ map (outgoing.Observation cause originator) (take (suc n) (if b then x ∷ front else []))
    by false same run few = absurd (omega (arith, few))
    by true same run few =
        let are = same refl in
        ap (λ (i : ℕ). outgoing.Observation i o x ∷ take n rest) are.0
        ∙ (ap (λ (i : ℕ). outgoing.Observation cause i x ∷ take n rest) are.1
        ∙ ap (λ (parts : List OwnAsdu). outgoing.Observation cause originator x ∷ parts)
        (run n (omega (arith, few))))

-- what an ASDU of rows says of the answer to an interrogation, and no news
rows_go : (clocks : Clocks) (cause originator : ℕ) (x : Observation) (xs : List Observation)
    → (cause ≡ 20) ⊎ (cause ≡ 37)
    → (parts_in (Tells (packed_asdu clocks cause originator x xs))
    ≡ map (outgoing.Observation cause originator) (take (taken_of clocks (x ∷ xs)) (x ∷ xs)))
    × (spontaneous_of (Tells (packed_asdu clocks cause originator x xs)) ≡ [])
rows_go clocks cause originator x xs (inl is) = (rw is refl, rw is refl)
rows_go clocks cause originator x xs (inr is) = (rw is refl, rw is refl)

parts_meant : (clocks : Clocks) (rest : List OwnAsdu) (news : List Observation) (part : OwnAsdu) (meant : Meant)
    → slice_get rest 0 ≡ Some part → AllByRecursion IsRequested rest → AllByRecursion IsOfInterrogation rest
    → MeansFront clocks (map sendings.Part rest ++ map sendings.News news) meant
    → parts_in meant ≡ take (parts_together clocks part rest) rest
parts_meant clocks [] news part meant e requested of_it means = absurd cc
parts_meant clocks (outgoing.Command command ∷ rest) news part meant e requested of_it means =
    let all : List OwnAsdu = outgoing.Command command ∷ rest in
    subst (λ (p : OwnAsdu). parts_in meant ≡ take (parts_together clocks p all) all)
    (same_Some _ _ e) (part_told clocks (outgoing.Command command) meant of_it.0 requested.0 means)
parts_meant clocks (outgoing.Observation cause originator x ∷ rest) news part meant e requested of_it means =
    subst (λ (p : OwnAsdu). parts_in meant ≡ take (parts_together clocks p all) all)
    (same_Some _ _ e)
    (ap parts_in is ∙ (goes.0 ∙ (sym run ∙ ap (λ (m : ℕ). take m all) (sym size))))
  where
    all : List OwnAsdu
    all = outgoing.Observation cause originator x ∷ rest

    xs : List Observation
    xs = parts_front cause originator rest

    n : ℕ
    n = taken_of clocks (x ∷ xs)

    is : meant ≡ Tells (packed_asdu clocks cause originator x xs)
    is = means ∙ ap (λ (ys : List Observation). Tells (packed_asdu clocks cause originator x ys))
        (rows_run cause originator rest news)

    goes : (parts_in (Tells (packed_asdu clocks cause originator x xs))
        ≡ map (outgoing.Observation cause originator) (take n (x ∷ xs)))
        × (spontaneous_of (Tells (packed_asdu clocks cause originator x xs)) ≡ [])
    goes = rows_go clocks cause originator x xs requested.0

    front : parts_front cause originator all ≡ x ∷ xs
    front = rw (eq-eqb cause cause refl, eq-eqb originator originator refl) refl

    size : parts_together clocks (outgoing.Observation cause originator x) all ≡ n
    size = ap (taken_of clocks) front

    run : take n all ≡ map (outgoing.Observation cause originator) (take n (x ∷ xs))
    run = parts_run cause originator n all (omega (arith, taken_of_within clocks (x ∷ xs), ap length front))
        ∙ ap (λ (ys : List Observation). map (outgoing.Observation cause originator) (take n ys)) front

pub parts_go : (clocks : Clocks) (k : Client) (part : OwnAsdu) (meant : Meant)
    → slice_get (line k) 0 ≡ Some (sendings.Part part) → AllByRecursion IsRequested k.rest
    → AllByRecursion IsOfInterrogation k.rest → MeansFront clocks (line k) meant
    → parts_in meant ≡ take (together clocks (line k)) k.rest
parts_go clocks k part meant e requested of_it means =
    let first = part_first k part e in
    subst (λ (n : ℕ). parts_in meant ≡ take n k.rest) (sym (parts_same clocks k part first))
    (parts_meant clocks k.rest (drop k.older k.queue) part meant first.first requested of_it
    (subst (λ (l : List Sending). MeansFront clocks l meant) first.line means))

-- and no news, whatever is of it
parts_no_news_by : (clocks : Clocks) (rest : List OwnAsdu) (news : List Observation) (part : OwnAsdu)
    (meant : Meant)
    → slice_get rest 0 ≡ Some part → AllByRecursion IsRequested rest
    → MeansFront clocks (map sendings.Part rest ++ map sendings.News news) meant
    → spontaneous_of meant ≡ []
parts_no_news_by clocks [] news part meant e requested means = absurd cc
parts_no_news_by clocks (outgoing.Command command ∷ rest) news part meant e requested means =
    part_no_news clocks (outgoing.Command command) meant requested.0 means
parts_no_news_by clocks (outgoing.Observation cause originator x ∷ rest) news part meant e requested means =
    ap spontaneous_of means
    ∙ (rows_go clocks cause originator x
    (rows_front cause originator (map sendings.Part rest ++ map sendings.News news)) requested.0).1

pub parts_no_news : (clocks : Clocks) (k : Client) (part : OwnAsdu) (meant : Meant)
    → slice_get (line k) 0 ≡ Some (sendings.Part part) → AllByRecursion IsRequested k.rest
    → MeansFront clocks (line k) meant → spontaneous_of meant ≡ []
parts_no_news clocks k part meant e requested means =
    let first = part_first k part e in
    parts_no_news_by clocks k.rest (drop k.older k.queue) part meant first.first requested
    (subst (λ (l : List Sending). MeansFront clocks l meant) first.line means)
