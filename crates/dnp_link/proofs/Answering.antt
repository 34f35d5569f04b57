-- What a feed answers, and what it holds back then.
use Rattle.std.proofs.Common.{◌≡◌, ℕ, ◌≤◌, ◌<◌, Bool, true, false, if◌then◌else◌, List, length, drop}
use Rattle.std.proofs.Common.{Option, Some, None, IfSome, refl, sym, ◌∙◌, ap, subst, arith, length-drop}
use Rattle.dnp_link.specs.declared.event.SkipReason.TheVariants.{BadBlockCrc}
use Rattle.dnp_link.specs.declared.reading.Front.TheVariants.{Whole}
use Rattle.dnp_link.specs.Frame.{FrameContent, block_count, frame_length, are_sealed}
use Rattle.dnp_link.specs.Stream.{Event, Framed, Dropped, content_at, user_length, octets_used_by, event_at_front}
use Rattle.dnp_link.specs.Stream.{octets_used_if_any, reading_with_first, reading, reading_with_front}
use Rattle.dnp_link.specs.Front.{event_shown_by, Tells}
use Rattle.dnp_link.proofs.Front.{front_taken, length-user_data_in_blocks}
use Rattle.dnp_link.proofs.Streams.{taken_some, reading_event, reading_none}

-- a feed that held back old has answered o, and holds back new
pub record GoesOn (old new : List ℕ) (o : Option Event) : Type 0 where
  pub event : o ≡ event_at_front old
  pub rest : new ≡ drop (octets_used_if_any (event_at_front old)) old
  pub reads : reading old ≡ reading_with_front o new
  pub shorter : IfSome o (λ _. length new < length old)

-- the event was answered, and its octets are used up
pub goes_on : (old new : List ℕ) (e : Event) (n : ℕ) → Some e ≡ event_at_front old → n ≡ octets_used_by e
    → new ≡ drop n old → GoesOn old new (Some e)
goes_on old new e n shown used moved =
    let front : event_at_front old ≡ Some e = sym shown in
    let behind : new ≡ drop (octets_used_by e) old = moved ∙ ap (λ k. drop k old) used in
    record {
      event = shown;
      rest = behind ∙ ap (λ (o : Option Event). drop (octets_used_if_any o) old) shown;
      reads = reading_event old e front ∙ ap (λ t. reading_with_first e (reading t)) (sym behind);
      shorter =
          omega (arith, ap length behind, length-drop (octets_used_by e) old, front_taken old e front, taken_some e);
    }

-- nothing was answered
pub waits : (old : List ℕ) → None ≡ event_at_front old → GoesOn old old None
waits old shown = record {
  event = shown;
  rest = ap (λ (o : Option Event). drop (octets_used_if_any o) old) shown;
  reads = reading_none old (sym shown);
  shorter = tt;
}

some_none : {c : FrameContent} → ◌≡◌ {A = Option FrameContent} (Some c) None → ⊥
some_none h = cc

none_some : {c : FrameContent} → ◌≡◌ {A = Option FrameContent} None (Some c) → ⊥
none_some h = cc

some_same : (f c : FrameContent) → ◌≡◌ {A = Option FrameContent} (Some f) (Some c) → f ≡ c
some_same f c h = cc

-- a frame was to be read, and a data block is wrong: so the first octet is dropped
pub dropped_block : (b : Bool) (c : FrameContent) (o : Option Event) → None ≡ (if b then Some c else None)
    → (if b then Some (Framed c) else Some (Dropped BadBlockCrc)) ≡ o → Some (Dropped BadBlockCrc) ≡ o
dropped_block true c o none shown = absurd (none_some none)
dropped_block false c o none shown = shown

-- a frame was read: so it is what the front shows
pub framed : (b : Bool) (c f : FrameContent) (o : Option Event) → Some f ≡ (if b then Some c else None)
    → (if b then Some (Framed c) else Some (Dropped BadBlockCrc)) ≡ o → Some (Framed f) ≡ o
framed true c f o some shown = ap (λ (x : FrameContent). Some (Framed x)) (some_same f c some) ∙ shown
framed false c f o some shown = absurd (some_none some)

-- the octets that it uses up are those that LENGTH tells
pub used_by_frame : (len : ℕ) (octets : List ℕ) (f : FrameContent) (b : Bool) → len ≡ user_length octets
    → frame_length len ≤ length octets
    → Some f ≡ (if b then Some (content_at octets) else None) → frame_length len ≡ octets_used_by (Framed f)
used_by_frame len octets f true told whole some =
    let u = user_length octets in
    let room : frame_length u ≤ length octets =
    let P : ℕ → Type 0 = λ n. frame_length n ≤ length octets in
    subst P told whole in
    let size : length (content_at octets).user ≡ u =
    length-user_data_in_blocks (block_count u) u (drop 10 octets) refl (omega (arith, length-drop 10 octets)) in
    let same : f ≡ content_at octets = some_same f (content_at octets) some in
    let user : length f.user ≡ len = ap (λ (x : FrameContent). length x.user) same ∙ (size ∙ sym told) in
    ap frame_length (sym user)
used_by_frame len octets f false told whole some = absurd (some_none some)

-- what a whole frame shows, where its data blocks are right
abbrev frame_if_sealed : ℕ → List ℕ → Option FrameContent
frame_if_sealed len octets = if are_sealed (block_count len) len (drop 10 octets)
    then Some (content_at octets) else None

-- a data block was wrong, and the first octet is dropped
pub block_dropped : (len : ℕ) (octets again old new : List ℕ) → octets ≡ old → again ≡ old
    → event_shown_by (Whole len) octets ≡ event_at_front octets
    → None ≡ (if are_sealed (block_count len) len (drop 10 again) then Some (content_at again) else None)
    → new ≡ drop 1 old → GoesOn old new (Some (Dropped BadBlockCrc))
block_dropped len octets again old new same same' shown none moved =
    let at_old : event_shown_by (Whole len) old ≡ event_at_front old =
    subst (λ (x : List ℕ). event_shown_by (Whole len) x ≡ event_at_front x) same shown in
    let none_at_old : None ≡ frame_if_sealed len old =
    subst (λ (x : List ℕ). ◌≡◌ {A = Option FrameContent} None (frame_if_sealed len x)) same' none in
    goes_on old new (Dropped BadBlockCrc) 1 (dropped_block (are_sealed (block_count len) len (drop 10 old))
    (content_at old) (event_at_front old) none_at_old at_old) refl moved

-- a frame was given, and its octets are used up
pub frame_given : (len : ℕ) (octets again old new : List ℕ) (f : FrameContent) (n : ℕ) → octets ≡ old → again ≡ old
    → event_shown_by (Whole len) octets ≡ event_at_front octets
    → Tells (Whole len) octets
    → Some f ≡ (if are_sealed (block_count len) len (drop 10 again) then Some (content_at again) else None)
    → n ≡ frame_length len → new ≡ drop n old → GoesOn old new (Some (Framed f))
frame_given len octets again old new f n same same' shown tested some used moved =
    let at_old : event_shown_by (Whole len) old ≡ event_at_front old =
    subst (λ (x : List ℕ). event_shown_by (Whole len) x ≡ event_at_front x) same shown in
    let some_at_old : Some f ≡ frame_if_sealed len old =
    subst (λ (x : List ℕ). ◌≡◌ {A = Option FrameContent} (Some f) (frame_if_sealed len x)) same' some in
    let told : Tells (Whole len) old = subst (Tells (Whole len)) same tested in
    let sealed = are_sealed (block_count len) len (drop 10 old) in
    goes_on old new (Framed f) n (framed sealed (content_at old) f (event_at_front old) some_at_old at_old)
    (used ∙ used_by_frame len old f sealed told.1 told.2 some_at_old) moved
