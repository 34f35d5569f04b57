-- What a receiver gives for one frame, and for frames one after another.
use Rattle.std.proofs.Common.{◌≡◌, ℕ, Bool, true, false, cond, List, [], ◌∷◌, ◌++◌, Option}
use Rattle.std.proofs.Common.{Some, None, refl, sym, ◌∙◌, ap, subst, inl, inr, append_assoc}
use Rattle.std.specs.Prelude.{option_and_then, option_to_list, reverse, filter}
use Rattle.std.specs.List.{cons_option}
use Rattle.std.proofs.lemmas.Bool.{cases_Bool, cond-true, cond-false}
use Rattle.std.proofs.lemmas.List.{append-nil, append_cancel_left, reverse-append}
use Rattle.std.proofs.lemmas.List.Elements.{filter-append}
use Rattle.dnp_link.specs.Frame.{FrameContent}
use Rattle.dnp_link.specs.Station.{Station}
use Rattle.dnp_link.specs.Secondary.{decision_on, station_after, answer_by, answer_of}
use Rattle.dnp_link.specs.declared.secondary.Answer.{Answer}
use Rattle.dnp_transport.specs.Segment.{is_whole}
use Rattle.dnp_transport.specs.Fragment.{fragments_ended_in, fragments_of}
use Rattle.dnp_transport.specs.Series.{Series, step}
use Rattle.dnp_transport.specs.Runs.{series_after, fragment_in}
use Rattle.dnp_transport.proofs.WholeRuns.{series_after-append, each}
use Rattle.dnp_receive.specs.Delivery.{station_at, station_after_all, reply_by, replies_by, user_data_by, delivered_user_data}
use Rattle.dnp_receive.specs.Answers.{is_delivery, handed_on}
use Rattle.dnp_receive.specs.Completion.{fragment_ended_by, reply_owed, fragment_completed, replies_owed, fragments_completed}
use Rattle.dnp_receive.specs.Receiver.{Reception, HasTaken}

-- ---- one segment more

-- a list with an element more, if there is one
abbrev with_last : {X : Type 0} → List X → Option X → List X
with_last xs o = xs ++ option_to_list o

to_list-injective : {X : Type 0} (a b : Option X) → option_to_list a ≡ option_to_list b → a ≡ b
to_list-injective None None same = refl
to_list-injective None (Some y) same = absurd cc
to_list-injective (Some x) None same = absurd cc
to_list-injective (Some x) (Some y) same = cc

history-whole : (segments : List (List ℕ)) (s : List ℕ) → is_whole s ≡ true
    → reverse (filter is_whole (segments ++ s ∷ [])) ≡ s ∷ reverse (filter is_whole segments)
history-whole segments s whole =
    ap reverse (filter-append is_whole segments (s ∷ [])
    ∙ ap (λ (t : List (List ℕ)). filter is_whole segments ++ t) (cond-true _ _ _ whole))
    ∙ reverse-append (filter is_whole segments) (s ∷ [])

history-empty : (segments : List (List ℕ)) (s : List ℕ) → is_whole s ≡ false
    → reverse (filter is_whole (segments ++ s ∷ [])) ≡ reverse (filter is_whole segments)
history-empty segments s empty =
    ap reverse (filter-append is_whole segments (s ∷ [])
    ∙ ap (λ (t : List (List ℕ)). filter is_whole segments ++ t) (cond-false _ _ _ empty)
    ∙ append-nil (filter is_whole segments))

-- the fragments of segments and one more
fragments_of-more : (segments : List (List ℕ)) (s : List ℕ)
    → fragments_of (segments ++ s ∷ []) ≡ fragments_of segments ++ option_to_list (fragment_ended_by segments s)
fragments_of-more segments s = elim (cases_Bool (is_whole s)) [
  | inl whole ↦
      ap fragments_ended_in (history-whole segments s whole)
      ∙ ap (with_last (fragments_of segments)) (sym (cond-true _ _ _ whole))
  | inr empty ↦
      ap fragments_ended_in (history-empty segments s empty)
      ∙ (sym (append-nil (fragments_of segments))
      ∙ ap (with_last (fragments_of segments)) (sym (cond-false _ _ _ empty)))
]

-- so the assembler gives the fragment that looking back finds
step_ends : (segments : List (List ℕ)) (s : List ℕ)
    → fragment_in (step (series_after None segments) s).0 ≡ fragment_ended_by segments s
step_ends segments s =
    to_list-injective _ _
    (append_cancel_left (fragments_of segments) _ _ (sym (each segments s) ∙ fragments_of-more segments s))

-- ---- one frame more

cons_option-append : {X : Type 0} (o : Option X) (a b : List X) → cons_option o (a ++ b) ≡ cons_option o a ++ b
cons_option-append None a b = refl
cons_option-append (Some x) a b = refl

cons_option-nil : {X : Type 0} (o : Option X) → cons_option o [] ≡ option_to_list o
cons_option-nil None = refl
cons_option-nil (Some x) = refl

-- a list, and behind it one that begins with an element, if there is one
append-cons_option : {X : Type 0} (front : List X) (o : Option X) (rest : List X)
    → with_last front o ++ rest ≡ front ++ cons_option o rest
append-cons_option front None rest = ap (λ (xs : List _). xs ++ rest) (append-nil front)
append-cons_option front (Some x) rest = append_assoc front (x ∷ []) rest

station_after_all-more : (s : Station) (a : List FrameContent) (c : FrameContent)
    → station_after_all s (a ++ c ∷ []) ≡ station_after (station_after_all s a) c
station_after_all-more s [] c = refl
station_after_all-more s (first ∷ a) c = station_after_all-more (station_after s first) a c

pub replies_by-more : (s : Station) (a : List FrameContent) (c : FrameContent)
    → replies_by s (a ++ c ∷ []) ≡ replies_by s a ++ option_to_list (reply_by (station_after_all s a) c)
replies_by-more s [] c = cons_option-nil (reply_by s c)
replies_by-more s (first ∷ a) c =
    ap (cons_option (reply_by s first)) (replies_by-more (station_after s first) a c)
    ∙ cons_option-append (reply_by s first) (replies_by (station_after s first) a) _

delivered_user_data-more : (s : Station) (a : List FrameContent) (c : FrameContent)
    → delivered_user_data s (a ++ c ∷ [])
    ≡ delivered_user_data s a ++ option_to_list (user_data_by (station_after_all s a) c)
delivered_user_data-more s [] c = cons_option-nil (user_data_by s c)
delivered_user_data-more s (first ∷ a) c =
    ap (cons_option (user_data_by s first)) (delivered_user_data-more (station_after s first) a c)
    ∙ cons_option-append (user_data_by s first) (delivered_user_data (station_after s first) a) _

-- one segment more is delivered, or none
fragments_if : (segments : List (List ℕ)) (o : Option (List ℕ))
    → fragments_of (segments ++ option_to_list o)
    ≡ fragments_of segments ++ option_to_list (option_and_then (fragment_ended_by segments) o)
fragments_if segments None = ap fragments_of (append-nil segments) ∙ sym (append-nil (fragments_of segments))
fragments_if segments (Some s) = fragments_of-more segments s

pub fragments-more : (own peer : ℕ) (before : List FrameContent) (c : FrameContent)
    → fragments_of (delivered_user_data (station_at own peer) (before ++ c ∷ []))
    ≡ fragments_of (delivered_user_data (station_at own peer) before)
    ++ option_to_list (fragment_completed own peer before c)
fragments-more own peer before c =
    ap fragments_of (delivered_user_data-more (station_at own peer) before c)
    ∙ fragments_if (delivered_user_data (station_at own peer) before)
    (user_data_by (station_after_all (station_at own peer) before) c)

-- ---- frames one after another

replies_go_on : (own peer : ℕ) (before frames : List FrameContent)
    → replies_by (station_at own peer) before ++ replies_owed own peer before frames
    ≡ replies_by (station_at own peer) (before ++ frames)
replies_go_on own peer before [] = append-nil _ ∙ ap (replies_by (station_at own peer)) (sym (append-nil before))
replies_go_on own peer before (c ∷ more) =
    let rest = replies_owed own peer (before ++ c ∷ []) more in
    sym (append-cons_option (replies_by (station_at own peer) before) (reply_owed own peer before c) rest)
    ∙ (ap (λ (t : List (List ℕ)). t ++ rest) (sym (replies_by-more (station_at own peer) before c))
    ∙ (replies_go_on own peer (before ++ c ∷ []) more
    ∙ ap (replies_by (station_at own peer)) (append_assoc before (c ∷ []) more)))

-- the fragments of what frames deliver
abbrev fragments_from : ℕ → ℕ → List FrameContent → List (List ℕ)
fragments_from own peer frames = fragments_of (delivered_user_data (station_at own peer) frames)

fragments_go_on : (own peer : ℕ) (before frames : List FrameContent)
    → fragments_from own peer before ++ fragments_completed own peer before frames
    ≡ fragments_from own peer (before ++ frames)
fragments_go_on own peer before [] = append-nil _ ∙ ap (fragments_from own peer) (sym (append-nil before))
fragments_go_on own peer before (c ∷ more) =
    let rest = fragments_completed own peer (before ++ c ∷ []) more in
    sym (append-cons_option (fragments_from own peer before) (fragment_completed own peer before c) rest)
    ∙ (ap (λ (t : List (List ℕ)). t ++ rest) (sym (fragments-more own peer before c))
    ∙ (fragments_go_on own peer (before ++ c ∷ []) more
    ∙ ap (fragments_from own peer) (append_assoc before (c ∷ []) more)))

pub replies_owed_in_turn : (own peer : ℕ) (frames : List FrameContent)
    → replies_owed own peer [] frames ≡ replies_by (station_at own peer) frames
replies_owed_in_turn own peer frames = replies_go_on own peer [] frames

pub fragments_completed_in_turn : (own peer : ℕ) (frames : List FrameContent)
    → fragments_completed own peer [] frames ≡ fragments_of (delivered_user_data (station_at own peer) frames)
fragments_completed_in_turn own peer frames = fragments_go_on own peer [] frames

-- ---- one call

-- What a call does, by the receiver as it is: the station has taken the frame, and the assembler its user data,
-- where that is delivered.
record Steps (old new : Reception) (c : FrameContent) (fragment : Option (List ℕ)) : Type 0 where
  pub station : new.station ≡ station_after old.station c
  pub series : new.series ≡ series_after old.series (option_to_list (user_data_by old.station c))
  pub given :
      fragment
      ≡ option_and_then (λ (segment : List ℕ). fragment_in (step old.series segment).0) (user_data_by old.station c)

-- by all frames so far
taken_more : (own peer : ℕ) (before : List FrameContent) (old new : Reception) (c : FrameContent)
    (fragment : Option (List ℕ)) → HasTaken own peer before old → Steps old new c fragment
    → HasTaken own peer (before ++ c ∷ []) new
taken_more own peer before old new c fragment h steps =
    let s = station_at own peer in
    let user = user_data_by (station_after_all s before) c in
    let delivered = delivered_user_data s before in
    record {
      station =
          steps.station ∙ (ap (λ (t : Station). station_after t c) h.station
          ∙ sym (station_after_all-more s before c));
      series =
          steps.series
          ∙ (ap (λ (t : Station). series_after old.series (option_to_list (user_data_by t c))) h.station
          ∙ (ap (λ (q : Option Series). series_after q (option_to_list user)) h.series
          ∙ (sym (series_after-append None delivered (option_to_list user))
          ∙ ap (series_after None) (sym (delivered_user_data-more s before c)))));
    }

ends_if : (segments : List (List ℕ)) (o : Option (List ℕ))
    → option_and_then (λ (segment : List ℕ). fragment_in (step (series_after None segments) segment).0) o
    ≡ option_and_then (fragment_ended_by segments) o
ends_if segments None = refl
ends_if segments (Some s) = step_ends segments s

fragment_by_all : (own peer : ℕ) (before : List FrameContent) (old new : Reception) (c : FrameContent)
    (fragment : Option (List ℕ)) → HasTaken own peer before old → Steps old new c fragment
    → fragment ≡ fragment_completed own peer before c
fragment_by_all own peer before old new c fragment h steps =
    let s = station_at own peer in
    let user = user_data_by (station_after_all s before) c in
    let given = λ (q : Option Series) (o : Option (List ℕ)).
    option_and_then (λ (segment : List ℕ). fragment_in (step q segment).0) o in
    steps.given
    ∙ (ap (λ (t : Station). given old.series (user_data_by t c)) h.station
    ∙ (ap (λ (q : Option Series). given q user) h.series
    ∙ ends_if (delivered_user_data s before) user))

is_delivery-answer_by : (s : Station) (deliver : Bool) (reply : Option ℕ)
    → is_delivery (answer_by s deliver reply) ≡ deliver
is_delivery-answer_by s true None = refl
is_delivery-answer_by s true (Some control) = refl
is_delivery-answer_by s false None = refl
is_delivery-answer_by s false (Some control) = refl

-- the user data that the answer hands on are those that the station delivers
handed_on-answer_of : (s : Station) (c : FrameContent) (a : Answer) (user : List ℕ) → a ≡ answer_of s c → user ≡ c.user
    → handed_on a user ≡ user_data_by s c
handed_on-answer_of s c a user is same =
    ap (λ (o : List ℕ). handed_on a o) same
    ∙ ap (λ (b : Bool). cond b (Some c.user) None)
    (ap is_delivery is ∙ is_delivery-answer_by s (decision_on s c).deliver (decision_on s c).reply)

-- what is kept and given after a call, by all frames so far
pub record IsAnswered (own peer : ℕ) (before : List FrameContent) (c : FrameContent) (new : Reception)
    (fragment : Option (List ℕ)) : Type 0 where
  pub taken : HasTaken own peer (before ++ c ∷ []) new
  pub completed : fragment ≡ fragment_completed own peer before c

-- the station has taken the frame, and the assembler what the answer hands on
pub answered : (own peer : ℕ) (before : List FrameContent) (now old new : Reception) (c : FrameContent) (a : Answer)
    (user : List ℕ) (fragment : Option (List ℕ)) → HasTaken own peer before now → old ≡ now
    → a ≡ answer_of old.station c → new.station ≡ station_after old.station c → user ≡ c.user
    → new.series ≡ series_after old.series (option_to_list (handed_on a user))
    → fragment ≡ option_and_then (λ (segment : List ℕ). fragment_in (step old.series segment).0) (handed_on a user)
    → IsAnswered own peer before c new fragment
answered own peer before now old new c a user fragment h is_now is station same series given =
    let has_taken : HasTaken own peer before old = subst (HasTaken own peer before) (sym is_now) h in
    let handed = handed_on-answer_of old.station c a user is same in
    let steps : Steps old new c fragment = record {
      station = station;
      series = series ∙ ap (λ (o : Option (List ℕ)). series_after old.series (option_to_list o)) handed;
      given = given ∙ ap (option_and_then (λ (o : List ℕ). fragment_in (step old.series o).0)) handed;
    } in
    record {
      taken = taken_more own peer before old new c fragment has_taken steps;
      completed = fragment_by_all own peer before old new c fragment has_taken steps;
    }
