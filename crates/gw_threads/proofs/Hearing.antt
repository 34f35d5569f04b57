-- The responses that the octets of an outstation say, piece after piece.
use Rattle.std.proofs.Common.{◌≡◌, ℕ, List, [], ◌∷◌, ◌++◌, Option, Some, None, Result, Ok}
use Rattle.std.proofs.Common.{Err, refl, sym, ap, subst, ◌∙◌, ◌⊎◌, inl, inr, append_assoc}
use Rattle.std.specs.Prelude.{IfNone, filter_map, option_to_list}
use Rattle.std.specs.List.{cons_option}
use Rattle.std.specs.Result.{result_ok}
use Rattle.std.proofs.lemmas.List.{append-nil, append_cancel_left}
use Rattle.std.proofs.lemmas.List.Elements.{filter_map-append}
use Rattle.gw_model.specs.Outcome.{UnlessMemory}
use Rattle.dnp_link.specs.Frame.{FrameContent}
use Rattle.dnp_link.specs.Stream.{Event, Framed, Reading, joined_readings, reading, reading_with_first}
use Rattle.dnp_link.proofs.Streams.{reading-append}
use Rattle.dnp_app.specs.declared.fault.AppFault.{AppFault}
use Rattle.dnp_app.specs.declared.fault.AppFault.TheVariants as faults
use Rattle.dnp_app.specs.Response.{Fragment, is_memory, response_of}
use Rattle.dnp_receive.specs.Completion.{fragment_completed, fragments_completed}
use Rattle.dnp_receive.specs.Delivery.{frame_in, frames_of, response_at, stream_responses}
use Rattle.dnp_receive.specs.Receiver.{HasTaken, Reception}
use Rattle.dnp_receive.proofs.Receiving.{fragments_completed_in_turn}
use Rattle.gw_map.specs.Settings.{Setup}
use Rattle.gw_steps.specs.declared.step.Step.TheVariants as steps
use Rattle.gw_steps.specs.declared.step.Reply.{Reply}
use Rattle.gw_steps.specs.declared.step.StepFault.{StepFault}
use Rattle.gw_steps.specs.declared.step.StepFault.TheVariants.{AlreadyUp, Memory, NoClient, NoOutstation, NotUp, Spent}
use Rattle.run_shared.specs.Turn.{Answers, Pass}
use Rattle.run_ends.specs.Ends.{Gives, IsOfFrames}
use Rattle.run_ends.specs.declared.ends.Arrival.{Arrival}
use Rattle.run_ends.specs.declared.ends.Arrival.TheVariants as arrivals
use Rattle.run_ends.specs.declared.worker_end.WorkerEnd.{WorkerEnd}
use Rattle.run_ends.specs.declared.worker_end.WorkerEnd.TheVariants as ends
use Rattle.run_ends.proofs.Runs.{appends-more}
use Rattle.gw_threads.specs.Calls.{Call, given_by}
use Rattle.gw_threads.specs.Sends.{TellsOutstationLoss}
use Rattle.gw_threads.proofs.Calling.{calls_then, given_then}
use Rattle.gw_threads.specs.Heard.{Hears, HearsFrames, HearsOctets, HearsOf, HearsPiece}
use Rattle.gw_threads.specs.Heard.{IsDrained, IsSaid, MayLeave, response_in, responses_completed}
use Rattle.gw_threads.proofs.Framing.{nothing}

-- ---- what is said, and what may be left of it

none_left : (result : Option WorkerEnd) → MayLeave result []
none_left None = refl
none_left (Some (ends.Closed why)) = refl
none_left (Some ends.EndOfInput) = refl
none_left (Some ends.ReadFault) = refl
none_left (Some ends.Unanswered) = refl
none_left (Some ends.LinkUnanswered) = refl
none_left (Some ends.WriteFault) = tt
none_left (Some (ends.Malformed fault)) = refl
none_left (Some ends.Memory) = tt
none_left (Some ends.Stopping) = tt

any_left : (end : WorkerEnd) (left : List Fragment) → IsOfFrames end → MayLeave (Some end) left
any_left ends.WriteFault left is = tt
any_left ends.Memory left is = tt
any_left ends.Stopping left is = tt
any_left (ends.Closed why) left is = absurd is
any_left ends.EndOfInput left is = absurd is
any_left ends.ReadFault left is = absurd is
any_left ends.Unanswered left is = absurd is
any_left ends.LinkUnanswered left is = absurd is
any_left (ends.Malformed fault) left is = absurd is

said_so : (all other heard these : List Fragment) (result : Option WorkerEnd) → all ≡ other → heard ≡ these
    → IsSaid all heard result → IsSaid other these result
said_so all other heard these result is same said = record {
  left = said.left;
  same = sym is ∙ (said.same ∙ ap (λ (l : List Fragment). l ++ said.left) same);
  may = said.may;
}

said_all : (all : List Fragment) (result : Option WorkerEnd) → IsSaid all all result
said_all all result = record { left = []; same = sym (append-nil all); may = none_left result }

said_none : (all : List Fragment) (end : WorkerEnd) → IsOfFrames end → IsSaid all [] (Some end)
said_none all end is = record { left = all; same = refl; may = any_left end all is }

said_then : (a b first more : List Fragment) (result : Option WorkerEnd) → IsSaid a first None → IsSaid b more result
    → IsSaid (a ++ b) (first ++ more) result
said_then a b first more result x y = record {
  left = y.left;
  same =
      ap (λ (l : List Fragment). l ++ b) (x.same ∙ (ap (λ (l : List Fragment). first ++ l) x.may ∙ append-nil first))
      ∙ (ap (λ (l : List Fragment). first ++ l) y.same ∙ sym (append_assoc first more y.left));
  may = y.may;
}

-- more was said behind it, which is left
said_more : (a b heard : List Fragment) (end : WorkerEnd) → IsOfFrames end → IsSaid a heard (Some end)
    → IsSaid (a ++ b) heard (Some end)
said_more a b heard end is said = record {
  left = said.left ++ b;
  same = ap (λ (l : List Fragment). l ++ b) said.same ∙ append_assoc heard said.left b;
  may = any_left end (said.left ++ b) is;
}

if_none : (P : Type 0) (result : Option WorkerEnd) → P → IfNone result P
if_none P None p = p
if_none P (Some end) p = tt

-- ---- one response

one_said : (f : Fragment) (moment : ℕ) (reply : Result Reply StepFault) (result : Option WorkerEnd)
    → (reply ≡ Err Spent → result ≡ Some ends.Stopping)
    → IsSaid (f ∷ []) (response_in (steps.Fragment f moment) reply) result
one_said f moment (Ok reply) result stops = said_all (f ∷ []) result
one_said f moment (Err NoOutstation) result stops = said_all (f ∷ []) result
one_said f moment (Err NoClient) result stops = said_all (f ∷ []) result
one_said f moment (Err NotUp) result stops = said_all (f ∷ []) result
one_said f moment (Err AlreadyUp) result stops = said_all (f ∷ []) result
one_said f moment (Err Memory) result stops = said_all (f ∷ []) result
one_said f moment (Err Spent) result stops =
    subst (IsSaid (f ∷ []) []) (sym (stops refl)) (said_none (f ∷ []) ends.Stopping tt)

-- the step of a response was asked for
pub heard_step : (setup : Setup) (mine after : Pass) (f : Fragment) (moment number : ℕ) (reply : Result Reply StepFault)
    (result : Option WorkerEnd) → Answers setup mine after (steps.Fragment f moment) (number, reply)
    → (reply ≡ Err Spent → result ≡ Some ends.Stopping) → HearsOf setup mine after (f ∷ []) result
heard_step setup mine after f moment number reply result answers stops = record {
  calls = record { step = steps.Fragment f moment; number = number; reply = reply } ∷ [];
  made = (after, (answers, refl));
  said =
      said_so (f ∷ []) (f ∷ []) (response_in (steps.Fragment f moment) reply)
      (response_in (steps.Fragment f moment) reply ++ []) result refl
      (sym (append-nil (response_in (steps.Fragment f moment) reply))) (one_said f moment reply result stops);
}

-- nothing was said
pub heard_nothing : (setup : Setup) (mine : Pass) (all : List Fragment) (result : Option WorkerEnd) → all ≡ []
    → HearsOf setup mine mine all result
heard_nothing setup mine all result none = record {
  calls = [];
  made = refl;
  said = said_so [] all [] [] result (sym none) refl (said_all [] result);
}

pub is_response : (outstation : ℕ) (octets : List ℕ) (f : Fragment) → response_of outstation octets ≡ Ok f
    → option_to_list (response_at outstation octets) ≡ f ∷ []
unfolding response_at
is_response outstation octets f is = ap (λ (r : Result Fragment AppFault). option_to_list (result_ok r)) is

-- octets that are refused for another fault than memory are no response
pub is_refused : (outstation : ℕ) (octets : List ℕ) (fault : AppFault)
    → UnlessMemory (is_memory fault) (response_of outstation octets ≡ Err fault) → (fault ≡ faults.Memory → ⊥)
    → option_to_list (response_at outstation octets) ≡ []
unfolding response_at
is_refused outstation octets faults.Short is other =
    ap (λ (r : Result Fragment AppFault). option_to_list (result_ok r)) is
is_refused outstation octets faults.NotResponse is other =
    ap (λ (r : Result Fragment AppFault). option_to_list (result_ok r)) is
is_refused outstation octets (faults.Object e) is other =
    ap (λ (r : Result Fragment AppFault). option_to_list (result_ok r)) is
is_refused outstation octets faults.Memory is other = absurd (other refl)

-- ---- the responses of frames

first_then : {X : Type 0} (o : Option X) (a b : List X) → cons_option o (a ++ b) ≡ cons_option o a ++ b
first_then None a b = refl
first_then (Some x) a b = refl

first_alone : {X : Type 0} (o : Option X) → cons_option o [] ≡ option_to_list o
first_alone None = refl
first_alone (Some x) = refl

completed_then : (own peer : ℕ) (before a b : List FrameContent)
    → fragments_completed own peer before (a ++ b)
    ≡ fragments_completed own peer before a ++ fragments_completed own peer (before ++ a) b
completed_then own peer before [] b =
    ap (λ (l : List FrameContent). fragments_completed own peer l b) (sym (append-nil before))
completed_then own peer before (c ∷ a) b =
    let one = fragment_completed own peer before c in
    let others = fragments_completed own peer (before ++ c ∷ []) a in
    ap (cons_option one) (completed_then own peer (before ++ c ∷ []) a b)
    ∙ (first_then one others (fragments_completed own peer ((before ++ c ∷ []) ++ a) b)
    ∙ ap (λ (l : List FrameContent). cons_option one others ++ fragments_completed own peer l b)
    (append_assoc before (c ∷ []) a))

responses_then : (outstation own peer : ℕ) (before a b : List FrameContent)
    → responses_completed outstation own peer before (a ++ b)
    ≡ responses_completed outstation own peer before a ++ responses_completed outstation own peer (before ++ a) b
responses_then outstation own peer before a b =
    ap (filter_map (response_at outstation)) (completed_then own peer before a b)
    ∙ filter_map-append (response_at outstation) (fragments_completed own peer before a)
    (fragments_completed own peer (before ++ a) b)

-- the response that a fragment is, if there is one
abbrev pub responses_at : ℕ → Option (List ℕ) → List Fragment
responses_at outstation None = []
responses_at outstation (Some octets) = option_to_list (response_at outstation octets)

responses_of_one : (outstation own peer : ℕ) (before : List FrameContent) (c : FrameContent) (given : Option (List ℕ))
    → given ≡ fragment_completed own peer before c
    → responses_at outstation given ≡ responses_completed outstation own peer before (c ∷ [])
responses_of_one outstation own peer before c None is =
    ap (λ (o : Option (List ℕ)). filter_map (response_at outstation) (cons_option o [])) is
responses_of_one outstation own peer before c (Some octets) is =
    sym (first_alone (response_at outstation octets))
    ∙ ap (λ (o : Option (List ℕ)). filter_map (response_at outstation) (cons_option o [])) is

-- ---- frames, one after another

module _ (setup : Setup) (outstation : ℕ) where
  -- none was heard, and the reader ends
  pub frames_none : (mine : Pass) (x y : Reception) (frames : List FrameContent) (end : WorkerEnd) → IsOfFrames end
      → HearsFrames setup outstation mine mine x y frames (Some end)
  frames_none mine x y frames end is = record {
    calls = [];
    made = refl;
    said = λ own peer before has. said_none (responses_completed outstation own peer before frames) end is;
    taken = λ own peer before has. tt;
  }

  no_frames : (mine : Pass) (x : Reception) (result : Option WorkerEnd)
      → HearsFrames setup outstation mine mine x x [] result
  no_frames mine x result = record {
    calls = [];
    made = refl;
    said = λ own peer before has. said_all [] result;
    taken = λ own peer before has.
        if_none (HasTaken own peer (before ++ []) x) result
        (subst (λ (l : List FrameContent). HasTaken own peer l x) (sym (append-nil before)) has);
  }

  pub frames_then : (mine mid after : Pass) (x y z : Reception) (a b : List FrameContent) (result : Option WorkerEnd)
      → HearsFrames setup outstation mine mid x y a None → HearsFrames setup outstation mid after y z b result
      → HearsFrames setup outstation mine after x z (a ++ b) result
  frames_then mine mid after x y z a b result first more = record {
    calls = first.calls ++ more.calls;
    made = calls_then setup mine mid after first.calls more.calls first.made more.made;
    said = λ own peer before has.
        let p = responses_completed outstation own peer before a in
        let q = responses_completed outstation own peer (before ++ a) b in
        let u = given_by response_in first.calls in
        let v = given_by response_in more.calls in
        said_so (p ++ q) (responses_completed outstation own peer before (a ++ b)) (u ++ v)
        (given_by response_in (first.calls ++ more.calls)) result
        (sym (responses_then outstation own peer before a b))
        (sym (given_then response_in first.calls more.calls))
        (said_then p q u v result (first.said own peer before has)
        (more.said own peer (before ++ a) (first.taken own peer before has)));
    taken = λ own peer before has.
        subst (λ (l : List FrameContent). IfNone result (HasTaken own peer l z)) (append_assoc before a b)
        (more.taken own peer (before ++ a) (first.taken own peer before has));
  }

  -- the reader ended before these
  frames_more : (mine after : Pass) (x y : Reception) (a b : List FrameContent) (end : WorkerEnd) → IsOfFrames end
      → HearsFrames setup outstation mine after x y a (Some end)
      → HearsFrames setup outstation mine after x y (a ++ b) (Some end)
  frames_more mine after x y a b end is first = record {
    calls = first.calls;
    made = first.made;
    said = λ own peer before has.
        let p = responses_completed outstation own peer before a in
        let q = responses_completed outstation own peer (before ++ a) b in
        let u = given_by response_in first.calls in
        said_so (p ++ q) (responses_completed outstation own peer before (a ++ b)) u u (Some end)
        (sym (responses_then outstation own peer before a b)) refl
        (said_more p q u end is (first.said own peer before has));
    taken = λ own peer before has. tt;
  }

  -- a frame that was taken, of which the fragment was heard that it completes, if it does
  pub frame_heard : (mine after : Pass) (x y : Reception) (c : FrameContent) (given : Option (List ℕ))
      (result : Option WorkerEnd)
      → ((own peer : ℕ) (before : List FrameContent) → HasTaken own peer before x
      → HasTaken own peer (before ++ c ∷ []) y)
      → ((own peer : ℕ) (before : List FrameContent) → HasTaken own peer before x
      → given ≡ fragment_completed own peer before c)
      → HearsOf setup mine after (responses_at outstation given) result
      → HearsFrames setup outstation mine after x y (c ∷ []) result
  frame_heard mine after x y c given result taken completes heard = record {
    calls = heard.calls;
    made = heard.made;
    said = λ own peer before has.
        let u = given_by response_in heard.calls in
        said_so (responses_at outstation given) (responses_completed outstation own peer before (c ∷ [])) u u result
        (responses_of_one outstation own peer before c given (completes own peer before has)) refl heard.said;
    taken = λ own peer before has.
        if_none (HasTaken own peer (before ++ c ∷ []) y) result (taken own peer before has);
  }

-- ---- events of a feed, one after another

-- frames of what a feed was given were taken, and the feed says the others
pub record Halfway (setup : Setup) (outstation : ℕ) (mine after : Pass) (old new : Reception) (fed held : List ℕ)
    : Type 0 where
  pub frames : List FrameContent
  pub heard : HearsFrames setup outstation mine after old new frames None
  pub events : frames_of (reading fed).events ≡ frames ++ frames_of (reading held).events
  pub rest : (reading fed).rest ≡ (reading held).rest

one_more : (fed held next : List ℕ) (a : List FrameContent) (c : FrameContent)
    → frames_of (reading fed).events ≡ a ++ frames_of (reading held).events
    → reading held ≡ reading_with_first (Framed c) (reading next)
    → frames_of (reading fed).events ≡ (a ++ c ∷ []) ++ frames_of (reading next).events
one_more fed held next a c events shows =
    events
    ∙ (ap (λ (r : Reading). a ++ frames_of r.events) shows
    ∙ sym (append_assoc a (c ∷ []) (frames_of (reading next).events)))

module _ (setup : Setup) (outstation : ℕ) where
  pub halfway_none : (mine : Pass) (x : Reception) (fed held : List ℕ) → held ≡ fed
      → Halfway setup outstation mine mine x x fed held
  halfway_none mine x fed held same = record {
    frames = [];
    heard = no_frames setup outstation mine x None;
    events = ap (λ (l : List ℕ). frames_of (reading l).events) (sym same);
    rest = ap (λ (l : List ℕ). (reading l).rest) (sym same);
  }

  pub halfway_frame : (mine mid after : Pass) (x y z : Reception) (fed held next : List ℕ) (c : FrameContent)
      → reading held ≡ reading_with_first (Framed c) (reading next)
      → Halfway setup outstation mine mid x y fed held → HearsFrames setup outstation mid after y z (c ∷ []) None
      → Halfway setup outstation mine after x z fed next
  halfway_frame mine mid after x y z fed held next c shows first one = record {
    frames = first.frames ++ c ∷ [];
    heard = frames_then setup outstation mine mid after x y z first.frames (c ∷ []) None first.heard one;
    events = one_more fed held next first.frames c first.events shows;
    rest = first.rest ∙ ap (λ (r : Reading). r.rest) shows;
  }

  -- the reader ended by a frame, and leaves those behind it
  pub piece_ended : (mine mid after : Pass) (x y z : Reception) (fed held next : List ℕ) (c : FrameContent)
      (end : WorkerEnd) → IsOfFrames end → reading held ≡ reading_with_first (Framed c) (reading next)
      → Halfway setup outstation mine mid x y fed held
      → HearsFrames setup outstation mid after y z (c ∷ []) (Some end)
      → HearsPiece setup outstation mine after x z fed next (Some end)
  piece_ended mine mid after x y z fed held next c end is shows first one = record {
    heard =
        subst (λ (l : List FrameContent). HearsFrames setup outstation mine after x z l (Some end))
        (sym (one_more fed held next first.frames c first.events shows))
        (frames_more setup outstation mine after x z (first.frames ++ c ∷ []) (frames_of (reading next).events) end is
        (frames_then setup outstation mine mid after x y z first.frames (c ∷ []) (Some end) first.heard one));
    rest = tt;
  }

  -- nothing of a piece was heard, and the reader ends
  pub piece_none : (mine : Pass) (x y : Reception) (fed next : List ℕ) (end : WorkerEnd) → IsOfFrames end
      → HearsPiece setup outstation mine mine x y fed next (Some end)
  piece_none mine x y fed next end is = record {
    heard = frames_none setup outstation mine x y (frames_of (reading fed).events) end is;
    rest = tt;
  }

-- ---- pieces, one after another

pub nothing_held : IsDrained []
unfolding reading
nothing_held = refl

-- what is held back behind a stream shows nothing
rest_drained : (fed : List ℕ) → IsDrained (reading fed).rest
rest_drained fed =
    let r = reading fed in
    let again : r ≡ joined_readings r (reading r.rest) =
    ap reading (sym (append-nil fed))
    ∙ (reading-append fed [] ∙ ap (λ (l : List ℕ). joined_readings r (reading l)) (append-nil r.rest)) in
    let none : (reading r.rest).events ≡ [] =
    append_cancel_left r.events (reading r.rest).events []
    (sym (ap (λ (s : Reading). s.events) again) ∙ sym (append-nil r.events)) in
    ap (λ (l : List Event). record { events = l; rest = (reading r.rest).rest }) none
    ∙ ap (λ (l : List ℕ). record { events = []; rest = l }) (sym (ap (λ (s : Reading). s.rest) again))

-- octets that come behind others say what these say with them
cut_there : (held a b next : List ℕ) → next ≡ (reading (held ++ a)).rest
    → reading (held ++ (a ++ b)) ≡ joined_readings (reading (held ++ a)) (reading (next ++ b))
cut_there held a b next rest =
    ap reading (sym (append_assoc held a b))
    ∙ (reading-append (held ++ a) b
    ∙ ap (λ (l : List ℕ). joined_readings (reading (held ++ a)) (reading (l ++ b))) (sym rest))

-- no octets came
pub came_none : (arrival : Arrival) (x y : Option (List ℕ)) (buffer : List ℕ)
    → (arrival ≡ arrivals.Later) ⊎ ((arrival ≡ arrivals.End) ⊎ (arrival ≡ arrivals.Fault)) → Gives arrival x y buffer
    → y ≡ x
came_none arrival x y buffer is given = elim is as (λ _. y ≡ x) [
  | inl later ↦ subst came later given
  | inr stops ↦ elim stops as (λ _. y ≡ x) [ inl ended ↦ subst came ended given | inr failed ↦ subst came failed given ]
]
  where
    came : Arrival → Type 0
    came a = Gives a x y buffer

module _ (setup : Setup) (outstation : ℕ) where
  -- none came
  pub octets_none : (mine : Pass) (x : Reception) (held : List ℕ) (a b : Option (List ℕ)) (result : Option WorkerEnd)
      → IsDrained held → b ≡ a → HearsOctets setup outstation mine mine x x held held a b result
  octets_none mine x held a b result drained same =
      let waits : reading (held ++ []) ≡ record { events = []; rest = held } = ap reading (append-nil held) ∙ drained in
      record {
        octets = [];
        took = nothing a b same;
        piece = record {
          heard =
              subst (λ (l : List FrameContent). HearsFrames setup outstation mine mine x x l result)
              (sym (ap (λ (r : Reading). frames_of r.events) waits)) (no_frames setup outstation mine x result);
          rest = if_none (held ≡ (reading (held ++ [])).rest) result (sym (ap (λ (r : Reading). r.rest) waits));
        };
      }

  pub octets_then : (mine mid after : Pass) (x y z : Reception) (p q r : List ℕ) (a b c : Option (List ℕ))
      (result : Option WorkerEnd) → HearsOctets setup outstation mine mid x y p q a b None
      → HearsOctets setup outstation mid after y z q r b c result
      → HearsOctets setup outstation mine after x z p r a c result
  octets_then mine mid after x y z p q r a b c result first more =
      let one = reading (p ++ first.octets) in
      let other = reading (q ++ more.octets) in
      let cut = cut_there p first.octets more.octets q first.piece.rest in
      record {
        octets = first.octets ++ more.octets;
        took = appends-more a b c first.octets more.octets first.took more.took;
        piece = record {
          heard =
              subst (λ (l : List FrameContent). HearsFrames setup outstation mine after x z l result)
              (sym (ap (λ (s : Reading). frames_of s.events) cut ∙ filter_map-append frame_in one.events other.events))
              (frames_then setup outstation mine mid after x y z (frames_of one.events) (frames_of other.events) result
              first.piece.heard more.piece.heard);
          rest = subst (λ (l : List ℕ). IfNone result (r ≡ l)) (sym (ap (λ (s : Reading). s.rest) cut)) more.piece.rest;
        };
      }

  pub octets_drained : (mine after : Pass) (x y : Reception) (held next : List ℕ) (a b : Option (List ℕ))
      → HearsOctets setup outstation mine after x y held next a b None → IsDrained next
  octets_drained mine after x y held next a b heard =
      subst IsDrained (sym heard.piece.rest) (rest_drained (held ++ heard.octets))

-- ---- from the first octet to the end

-- behind which the outstation is lost
pub hears : (setup : Setup) (outstation : ℕ) (mine mid after : Pass) (x y : Reception) (held next : List ℕ)
    (a b : Option (List ℕ)) (end : WorkerEnd) → held ≡ []
    → HearsOctets setup outstation mine mid x y held next a b (Some end)
    → TellsOutstationLoss setup outstation mid after → Hears setup outstation x mine after a b end
hears setup outstation mine mid after x y held next a b end new heard loss =
    let down : Call =
    record { step = steps.OutstationDown outstation loss.0; number = loss.1.0; reply = loss.1.1.0 } in
    let calls = heard.piece.heard.calls in
    let frames = frames_of (reading (held ++ heard.octets)).events in
    record {
      calls = calls ++ down ∷ [];
      made = calls_then setup mine mid after calls (down ∷ []) heard.piece.heard.made (after, (loss.1.1.1, refl));
      octets = heard.octets;
      took = heard.took;
      said = λ own peer has.
          said_so (responses_completed outstation own peer [] frames)
          (stream_responses outstation own peer heard.octets) (given_by response_in calls)
          (given_by response_in (calls ++ down ∷ [])) (Some end)
          (ap (filter_map (response_at outstation)) (fragments_completed_in_turn own peer frames)
          ∙ ap (λ (l : List ℕ). stream_responses outstation own peer (l ++ heard.octets)) new)
          (sym (given_then response_in calls (down ∷ []) ∙ append-nil (given_by response_in calls)))
          (heard.piece.heard.said own peer [] has);
    }
