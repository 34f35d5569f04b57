-- What was gathered of one frame more, of a feed, and of a piece of a stream.
use Rattle.std.proofs.Common.{Vec, Global, ◌≡◌, ℕ, List, [], ◌∷◌, ◌++◌, Option}
use Rattle.std.proofs.Common.{Some, None, map, refl, sym, ◌∙◌, ap, subst}
use Rattle.std.specs.Prelude.{option_map, option_to_list}
use Rattle.std.proofs.lemmas.List.{map-append}
use Rattle.std.proofs.lemmas.List.Elements.{filter_map-append}
use Rattle.dnp_link.specs.Frame.{FrameContent}
use Rattle.dnp_link.specs.Stream.{Reading, reading, joined_readings}
use Rattle.dnp_link.proofs.Streams.{reading-append}
use Rattle.dnp_transport.specs.Fragment.{fragments_of}
use Rattle.dnp_receive.specs.declared.gathering.Gathering.{Gathering}
use Rattle.dnp_receive.specs.Delivery.{frame_in, frames_of, station_at, replies_by, delivered_user_data}
use Rattle.dnp_receive.specs.Completion.{reply_owed, fragment_completed}
use Rattle.dnp_receive.specs.Receiver.{HasTaken}
use Rattle.dnp_receive.specs.Gathering.{HasGathered}
use Rattle.dnp_receive.proofs.Receiving.{replies_by-more, fragments-more}

-- what was gathered are frames that these come behind, all of them together
pub record Completes (own peer : ℕ) (g : Gathering) (left all : List FrameContent) : Type 0 where
  pub so_far : List FrameContent
  pub gathered : HasGathered own peer so_far g
  pub together : so_far ++ left ≡ all

-- the fragments of what frames deliver
abbrev given : ℕ → ℕ → List FrameContent → List (List ℕ)
given own peer frames = fragments_of (delivered_user_data (station_at own peer) frames)

map-to_list : {X Y : Type 0} (f : X → Y) (o : Option X) → map f (option_to_list o) ≡ option_to_list (option_map f o)
map-to_list f None = refl
map-to_list f (Some x) = refl

-- one frame more was taken, and what it brought was added
pub gathered_more : (own peer : ℕ) (before : List FrameContent) (old new : Gathering) (c : FrameContent)
    (reply : Option (List ℕ)) (fragment : Option (Vec ℕ Global)) → HasGathered own peer before old
    → HasTaken own peer (before ++ c ∷ []) new.receiver → reply ≡ reply_owed own peer before c
    → option_map (λ f. f.items) fragment ≡ fragment_completed own peer before c
    → new.replies.items ≡ old.replies.items ++ option_to_list reply
    → new.fragments.items ≡ old.fragments.items ++ option_to_list fragment
    → HasGathered own peer (before ++ c ∷ []) new
gathered_more own peer before old new c reply fragment h taken owed completed replies fragments =
    let octets_of = map (λ (f : Vec ℕ Global). f.items) in
    record {
      taken = taken;
      replies =
          replies
          ∙ (ap (λ (rs : List (List ℕ)). rs ++ option_to_list reply) h.replies
          ∙ (ap (λ (r : Option (List ℕ)). replies_by (station_at own peer) before ++ option_to_list r) owed
          ∙ sym (replies_by-more (station_at own peer) before c)));
      fragments =
          ap octets_of fragments
          ∙ (map-append (λ (f : Vec ℕ Global). f.items) old.fragments.items (option_to_list fragment)
          ∙ (ap (λ (fs : List (List ℕ)). fs ++ octets_of (option_to_list fragment)) h.fragments
          ∙ (ap (λ (fs : List (List ℕ)). given own peer before ++ fs)
          (map-to_list (λ (f : Vec ℕ Global). f.items) fragment)
          ∙ (ap (λ (o : Option (List ℕ)). given own peer before ++ option_to_list o) completed
          ∙ sym (fragments-more own peer before c)))));
    }

-- ---- a stream in pieces

-- all frames of the stream so far were gathered, and what shows nothing yet is held back
pub record IsSoFar (own peer : ℕ) (octets : List ℕ) (g : Gathering) (held : List ℕ) : Type 0 where
  pub gathered : HasGathered own peer (frames_of (reading octets).events) g
  pub held_is : held ≡ (reading octets).rest

pub nothing_yet : (own peer : ℕ) (g : Gathering) (held : List ℕ) → HasGathered own peer [] g → held ≡ []
    → IsSoFar own peer [] g held
unfolding reading
nothing_yet own peer g held gathered none = record { gathered = gathered; held_is = none }

-- one more piece
pub piece_more : (own peer : ℕ) (now next : Gathering) (octets piece held fed left : List ℕ)
    → IsSoFar own peer octets now held → fed ≡ held ++ piece
    → HasGathered own peer (frames_of (reading octets).events ++ frames_of (reading fed).events) next
    → left ≡ (reading fed).rest → IsSoFar own peer (octets ++ piece) next left
piece_more own peer now next octets piece held fed left so_far fed_is gathered left_is =
    let all : fed ≡ (reading octets).rest ++ piece = fed_is ∙ ap (λ t. t ++ piece) so_far.held_is in
    let goes_on : reading (octets ++ piece) ≡ joined_readings (reading octets) (reading fed) =
    reading-append octets piece ∙ ap (λ t. joined_readings (reading octets) (reading t)) (sym all) in
    let frames : frames_of (reading (octets ++ piece)).events
    ≡ frames_of (reading octets).events ++ frames_of (reading fed).events =
    ap (λ (r : Reading). frames_of r.events) goes_on
    ∙ filter_map-append frame_in (reading octets).events (reading fed).events in
    record {
      gathered = subst (λ (fs : List FrameContent). HasGathered own peer fs next) (sym frames) gathered;
      held_is = left_is ∙ sym (ap (λ (r : Reading). r.rest) goes_on);
    }
