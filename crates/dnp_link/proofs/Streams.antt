-- The reading of a stream goes on event by event, and doesn't depend on how the stream is cut.
use Rattle.std.proofs.Common.{◌≡◌, ℕ, zero, suc, ◌+◌, ◌≤◌, ◌<◌, List, [], ◌∷◌, ◌++◌, length, get_or}
use Rattle.std.proofs.Common.{take, drop, Option, Some, None, refl, sym, ◌∙◌, ap, inl, inr, ◌⊎◌, arith, length-drop}
use Rattle.std.proofs.lemmas.List.{drop-append-le, take_more, flat_map_more}
use Rattle.std.specs.List.{flat_map}
use Rattle.dnp_link.specs.Stream.{Event, Framed, Dropped, octets_used_by, event_at_front, Reading, octets_used_if_any}
use Rattle.dnp_link.specs.Stream.{reading_with_first, reading_within, reading, reading_with_front, joined_readings}
use Rattle.dnp_link.proofs.Front.{front_taken, front-append}

-- what an optional event makes of the reading
abbrev onward : ℕ → List ℕ → Option Event → Reading
onward n octets None = record { events = []; rest = octets }
onward n octets (Some e) = reading_with_first e (reading_within n (drop (octets_used_by e) octets))

pub taken_some : (e : Event) → 0 < octets_used_by e
taken_some (Framed c) = omega arith
taken_some (Dropped why) = omega arith

front_nil : (octets : List ℕ) → length octets ≤ 0 → event_at_front octets ≡ None
unfolding event_at_front
front_nil [] h = refl
front_nil (x ∷ octets) h = absurd (omega arith)

step : (n : ℕ) (octets : List ℕ) (o : Option Event) → event_at_front octets ≡ o
    → reading_within (suc n) octets ≡ onward n octets o
step n octets None e = rw (e, reading_within) refl
step n octets (Some x) e = rw (e, reading_within) refl

decided : (o : Option Event) → (o ≡ None) ⊎ ((e : Event) × (o ≡ Some e))
decided None = inl refl
decided (Some e) = inr (e, refl)

-- more steps than octets change nothing
enough : (n m : ℕ) (octets : List ℕ) → length octets ≤ n → length octets ≤ m
    → reading_within n octets ≡ reading_within m octets
enough zero zero octets h g = refl
enough zero (suc m) octets h g = sym (step m octets None (front_nil octets h))
enough (suc n) zero octets h g = step n octets None (front_nil octets g)
enough (suc n) (suc m) octets h g =
    elim (decided (event_at_front octets)) [
      | inl none ↦ step n octets None none ∙ sym (step m octets None none)
      | inr some ↦
          let t = front_taken octets some.0 some.1 in
          let p = taken_some some.0 in
          step n octets (Some some.0) some.1
          ∙ (ap (reading_with_first some.0) (enough n m (drop (octets_used_by some.0) octets) (omega (
            arith,
            length-drop (octets_used_by some.0) octets,
          )) (omega (arith, length-drop (octets_used_by some.0) octets)))
          ∙ sym (step m octets (Some some.0) some.1))
    ]

-- what octets say that show an event
pub reading_event : (octets : List ℕ) (e : Event) → event_at_front octets ≡ Some e
    → reading octets ≡ reading_with_first e (reading (drop (octets_used_by e) octets))
unfolding reading
reading_event octets e h =
    let t = front_taken octets e h in
    let p = taken_some e in
    enough (length octets) (suc (length octets)) octets (omega arith) (omega arith)
    ∙ (step (length octets) octets (Some e) h
    ∙ ap (reading_with_first e) (enough (length octets) (length (drop (octets_used_by e) octets))
    (drop (octets_used_by e) octets) (omega (arith, length-drop (octets_used_by e) octets)) (omega arith)))

-- what octets say that show nothing
pub reading_none : (octets : List ℕ) → event_at_front octets ≡ None
    → reading octets ≡ record { events = []; rest = octets }
unfolding reading
reading_none octets h =
    enough (length octets) (suc (length octets)) octets (omega arith) (omega arith) ∙ step (length octets) octets None h

cut_none : (a b : List ℕ) → event_at_front a ≡ None
    → reading (a ++ b) ≡ joined_readings (reading a) (reading ((reading a).rest ++ b))
cut_none a b h = sym (ap (λ (r : Reading). joined_readings r (reading (r.rest ++ b))) (reading_none a h))

cut_some : (a b : List ℕ) (e : Event) → event_at_front a ≡ Some e
    → reading (drop (octets_used_by e) a ++ b)
    ≡ joined_readings (reading (drop (octets_used_by e) a)) (reading ((reading (drop (octets_used_by e) a)).rest ++ b))
    → reading (a ++ b) ≡ joined_readings (reading a) (reading ((reading a).rest ++ b))
cut_some a b e h behind =
    reading_event (a ++ b) e (front-append a b e h)
    ∙ (ap (λ t. reading_with_first e (reading t)) (drop-append-le (octets_used_by e) a b (front_taken a e h))
    ∙ (ap (reading_with_first e) behind
    ∙ sym (ap (λ (r : Reading). joined_readings r (reading (r.rest ++ b))) (reading_event a e h))))

cut_within : (n : ℕ) (a b : List ℕ) → length a ≤ n
    → reading (a ++ b) ≡ joined_readings (reading a) (reading ((reading a).rest ++ b))
cut_within zero a b h = cut_none a b (front_nil a h)
cut_within (suc n) a b h =
    elim (decided (event_at_front a)) [
      | inl none ↦ cut_none a b none
      | inr some ↦
          let t = front_taken a some.0 some.1 in
          let p = taken_some some.0 in
          cut_some a b some.0 some.1
          (cut_within n (drop (octets_used_by some.0) a) b (omega (arith, length-drop (octets_used_by some.0) a)))
    ]

-- however a stream is cut, it says the same
pub reading-append : (a b : List ℕ) → reading (a ++ b) ≡ joined_readings (reading a) (reading ((reading a).rest ++ b))
reading-append a b = cut_within (length a) a b (omega arith)

-- the reading goes on by what the front shows
reading_on : (octets : List ℕ) (o : Option Event) → o ≡ event_at_front octets
    → reading octets ≡ reading_with_front o (drop (octets_used_if_any o) octets)
reading_on octets None h = reading_none octets (sym h)
reading_on octets (Some e) h = reading_event octets e (sym h)

pub reading_is : (octets : List ℕ) → reading octets
    ≡ reading_with_front (event_at_front octets) (drop (octets_used_if_any (event_at_front octets)) octets)
reading_is octets = reading_on octets (event_at_front octets) refl

-- one more piece, whose events went to the end
pub record IsSoFar (octets : List ℕ) (events : List Event) (held : List ℕ) : Type 0 where
  pub events_are : events ≡ (reading octets).events
  pub held_is : held ≡ (reading octets).rest

pub one_more : (octets piece : List ℕ) (events new : List Event) (held fed left : List ℕ) → IsSoFar octets events held
    → fed ≡ held ++ piece → new ≡ events ++ (reading fed).events → left ≡ (reading fed).rest
    → IsSoFar (octets ++ piece) new left
one_more octets piece events new held fed left s f e l =
    let fed_is : fed ≡ (reading octets).rest ++ piece = f ∙ ap (λ t. t ++ piece) s.held_is in
    let cut = reading-append octets piece in
    record {
      events_are = e ∙ (ap (λ t. t ++ (reading fed).events) s.events_are
          ∙ (ap (λ t. (reading octets).events ++ (reading t).events) fed_is
          ∙ sym (ap (λ (r : Reading). r.events) cut)));
      held_is = l ∙ (ap (λ t. (reading t).rest) fed_is ∙ sym (ap (λ (r : Reading). r.rest) cut));
    }

pub nothing_yet : (events : List Event) (held : List ℕ) → events ≡ [] → held ≡ [] → IsSoFar [] events held
unfolding reading
nothing_yet events held e h = record { events_are = e; held_is = h }

-- one more piece of several
pub pieces_more : {X : Type 0} (f : X → List ℕ) (pieces : List X) (i : ℕ) (d : X) → i < length pieces
    → flat_map f (take i pieces) ++ f (get_or pieces i d) ≡ flat_map f (take (i + 1) pieces)
pieces_more f pieces i d h =
    flat_map_more f [] (take i pieces) (get_or pieces i d) ∙ ap (flat_map f) (sym (take_more pieces i d h))
