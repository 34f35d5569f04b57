-- What a meter does with one event, and with events one after another.
use Rattle.std.proofs.Common.{◌≡◌, ℕ, ◌+◌, List, [], ◌∷◌, ◌++◌, length, take, Option, Some, None, IfSome, Result, Ok}
use Rattle.std.proofs.Common.{Err, is_ok, OnOk, true, refl, sym, ◌∙◌, ap, subst, arith, length-append, append_assoc}
use Rattle.std.specs.Io.KnownBytes.{Consumes, IsAtEnd}
use Rattle.std.proofs.lemmas.List.{append-nil}
use Rattle.std.proofs.lemmas.List.Elements.{filter_map-append}
use Rattle.dnp_link.specs.Stream.{Event, Reading, reading, reading_with_first, joined_readings}
use Rattle.dnp_link.proofs.Streams.{reading-append}
use Rattle.dnp_transport.specs.Fragment.{fragments_of}
use Rattle.dnp_transport.specs.Runs.{answers_from, series_after, fragment_in, fragments_in}
use Rattle.dnp_transport.proofs.WholeRuns.{answers_from-append, series_after-append, whole}
use Rattle.bench_layers.specs.declared.meter.Meter.{Meter}
use Rattle.bench_layers.specs.Counts.{segment_in, segments_in, counts_of}
use Rattle.bench_layers.specs.Meter.{Meters}

-- no event at all
pub meters_nothing : (m : Meter) → Meters m m []
meters_nothing m = record { series = refl; events_more = omega arith; fragments_more = omega arith }

-- some events, and then some more
pub meters_more : (a b c : Meter) (first more : List Event) → Meters a b first → Meters b c more
    → Meters a c (first ++ more)
meters_more a b c first more x y =
    let before = segments_in first in
    let behind = segments_in more in
    let all : segments_in (first ++ more) ≡ before ++ behind = filter_map-append segment_in first more in
    let fragments : fragments_in (answers_from a.assembler (segments_in (first ++ more)))
    ≡ fragments_in (answers_from a.assembler before) ++ fragments_in (answers_from b.assembler behind) =
    ap (λ s. fragments_in (answers_from a.assembler s)) all
    ∙ (ap fragments_in (answers_from-append a.assembler before behind)
    ∙ (filter_map-append fragment_in (answers_from a.assembler before)
    (answers_from (series_after a.assembler before) behind)
    ∙ ap (λ q. fragments_in (answers_from a.assembler before) ++ fragments_in (answers_from q behind))
    (sym x.series))) in
    record {
      series = y.series ∙ (ap (λ q. series_after q behind) x.series
          ∙ (sym (series_after-append a.assembler before behind) ∙ ap (series_after a.assembler) (sym all)));
      events_more = omega (arith, x.events_more, y.events_more, length-append first more);
      fragments_more = omega (
        arith,
        x.fragments_more,
        y.fragments_more,
        ap length fragments,
        length-append (fragments_in (answers_from a.assembler before)) (fragments_in (answers_from b.assembler behind)),
      );
    }

-- where this meter takes the events that are left, the first one has taken all
abbrev pub Completes : Meter → Meter → List Event → List Event → Type 0
Completes first now left all = (end : Meter) → Meters now end left → Meters first end all

-- the event at the front was taken
pub event_taken : (first now next : Meter) (octets behind : List ℕ) (e : Event) (all : List Event)
    → reading octets ≡ reading_with_first e (reading behind) → Meters now next (e ∷ [])
    → Completes first now (reading octets).events all → Completes first next (reading behind).events all
event_taken first now next octets behind e all reads taken completes end left =
    completes end (subst (Meters now end) (sym (ap (λ (r : Reading). r.events) reads))
    (meters_more now next end (e ∷ []) (reading behind).events taken left))

-- nothing is left
pub all_taken : (first now : Meter) (octets rest : List ℕ) (all : List Event)
    → reading octets ≡ record { events = []; rest = rest } → Completes first now (reading octets).events all
    → Meters first now all
all_taken first now octets rest all reads completes =
    completes now (subst (Meters now now) (sym (ap (λ (r : Reading). r.events) reads)) (meters_nothing now))

-- what was counted of a stream so far, and what of it is held back
pub record IsSoFar (first now : Meter) (octets held : List ℕ) : Type 0 where
  pub counted : Meters first now (reading octets).events
  pub held_is : held ≡ (reading octets).rest

pub nothing_yet : (first : Meter) (held : List ℕ) → held ≡ [] → IsSoFar first first [] held
unfolding reading
nothing_yet first held none = record { counted = meters_nothing first; held_is = none }

-- one more piece of the stream
pub piece_more : (first now next : Meter) (octets piece held fed left : List ℕ) → IsSoFar first now octets held
    → fed ≡ held ++ piece → Meters now next (reading fed).events → left ≡ (reading fed).rest
    → IsSoFar first next (octets ++ piece) left
piece_more first now next octets piece held fed left so_far fed_is taken left_is =
    let all : fed ≡ (reading octets).rest ++ piece = fed_is ∙ ap (λ t. t ++ piece) so_far.held_is in
    let goes_on : reading (octets ++ piece) ≡ joined_readings (reading octets) (reading fed) =
    reading-append octets piece ∙ ap (λ t. joined_readings (reading octets) (reading t)) (sym all) in
    record {
      counted = subst (Meters first next) (sym (ap (λ (r : Reading). r.events) goes_on))
          (meters_more first now next _ _ so_far.counted taken);
      held_is = left_is ∙ sym (ap (λ (r : Reading). r.rest) goes_on);
    }

-- a new meter that took a whole stream has its counts
pub stream_counted : (first last : Meter) (octets : List ℕ) (o : ℕ) → first.assembler ≡ None → first.events ≡ 0
    → first.fragments ≡ 0 → Meters first last (reading octets).events
    → o ≡ length octets → record { octets = o; events = last.events; fragments = last.fragments } ≡ counts_of octets
stream_counted first last octets o series no_events no_fragments counted long =
    let segments = segments_in (reading octets).events in
    let events : last.events ≡ length (reading octets).events = omega (arith, counted.events_more) in
    let given : fragments_in (answers_from first.assembler segments) ≡ fragments_of segments =
    ap (λ q. fragments_in (answers_from q segments)) series ∙ whole segments in
    let fragments : last.fragments ≡ length (fragments_of segments) =
    omega (arith, counted.fragments_more, ap length given) in
    rw (long, events, fragments) refl

-- the octets that a reader gave so far, and what was counted of them
pub record IsRead (old new : Option (List ℕ)) (first now : Meter) (held : List ℕ) (count : ℕ) : Type 0 where
  pub octets : List ℕ
  pub consumed : Consumes old new octets
  pub so_far : IsSoFar first now octets held
  pub long : count ≡ length octets

pub consumes_nothing : (known : Option (List ℕ)) → Consumes known known []
consumes_nothing None = tt
consumes_nothing (Some xs) = refl

pub consumes_none : (a b : Option (List ℕ)) (n : ℕ) (octets : List ℕ) → n ≡ 0 → Consumes a b (take n octets)
    → Consumes a b []
consumes_none a b n octets zero consumed = subst (λ n. Consumes a b (take n octets)) zero consumed

consumes_more : (a b c : Option (List ℕ)) (first more : List ℕ) → Consumes a b first → Consumes b c more
    → Consumes a c (first ++ more)
consumes_more None b c first more x y = tt
consumes_more (Some xs) None c first more x y = absurd x
consumes_more (Some xs) (Some ys) None first more x y = absurd y
consumes_more (Some xs) (Some ys) (Some zs) first more x y =
    x ∙ (ap (λ t. first ++ t) y ∙ sym (append_assoc first more zs))

pub nothing_read : (known : Option (List ℕ)) (first : Meter) (held : List ℕ) → held ≡ []
    → IsRead known known first first held 0
nothing_read known first held none =
    record { octets = []; consumed = consumes_nothing known; so_far = nothing_yet first held none; long = refl }

pub read_more : (old known left : Option (List ℕ)) (first now next : Meter) (held fed rest piece : List ℕ)
    (count total : ℕ) → IsRead old known first now held count → Consumes known left piece → total ≡ count + length piece
    → fed ≡ held ++ piece → Meters now next (reading fed).events → rest ≡ (reading fed).rest
    → IsRead old left first next rest total
read_more old known left first now next held fed rest piece count total so_far consumed long fed_is taken rest_is =
    record {
      octets = so_far.octets ++ piece;
      consumed = consumes_more old known left so_far.octets piece so_far.consumed consumed;
      so_far = piece_more first now next so_far.octets piece held fed rest so_far.so_far fed_is taken rest_is;
      long = omega (arith, so_far.long, length-append so_far.octets piece);
    }

-- where the reader is at its end, it gave all that it had
at_end : (old left : Option (List ℕ)) (octets : List ℕ) (P : List ℕ → Type 0) → Consumes old left octets → IsAtEnd left
    → P octets → IfSome old P
at_end None left octets P consumed end p = tt
at_end (Some xs) None octets P consumed end p = absurd consumed
at_end (Some xs) (Some ys) octets P consumed end p =
    subst P (sym (consumed ∙ (ap (λ t. octets ++ t) end ∙ append-nil octets))) p

-- the counts at the reader's end are those of all its octets
pub all_read : (old known left : Option (List ℕ)) (first last : Meter) (held : List ℕ) (count : ℕ)
    → first.assembler ≡ None → first.events ≡ 0 → first.fragments ≡ 0 → IsRead old known first last held count
    → Consumes known left [] → IsAtEnd left → IfSome old
    (λ octets. record { octets = count; events = last.events; fragments = last.fragments } ≡ counts_of octets)
all_read old known left first last held count series no_events no_fragments so_far consumed end =
    at_end old left so_far.octets
    (λ octets. record { octets = count; events = last.events; fragments = last.fragments } ≡ counts_of octets)
    (subst (Consumes old left) (append-nil so_far.octets)
    (consumes_more old known left so_far.octets [] so_far.consumed consumed)) end
    (stream_counted first last so_far.octets count series no_events no_fragments so_far.so_far.counted so_far.long)

-- a fact of what went well
pub of_ok : {T E P : Type 0} (r : Result T E) → true ≡ is_ok r → OnOk r P → P
of_ok (Ok x) ok p = p
of_ok (Err e) bad p = cc
