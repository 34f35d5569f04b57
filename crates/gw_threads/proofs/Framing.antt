-- What the octets of a client say, piece after piece.
use Rattle.std.proofs.Common.{◌≡◌, ◌⊎◌, inl, inr, ℕ, ◌<◌, false, List, [], ◌∷◌, ◌++◌, Option}
use Rattle.std.proofs.Common.{Some, None, Result, Ok, Err, refl, sym, ap, subst, ◌∙◌, append_assoc}
use Rattle.std.specs.Prelude.{OnOk, is_err}
use Rattle.std.specs.Io.KnownBytes.{Appends}
use Rattle.std.proofs.lemmas.List.{append-nil}
use Rattle.iec_apci.specs.declared.apdu.Apdu.{Apdu}
use Rattle.iec_apci.specs.declared.fault.ApciFault.{ApciFault}
use Rattle.iec_apci.specs.Apdu.{ApduContent}
use Rattle.iec_apci.specs.ApduContent.{content, content_if_ok}
use Rattle.iec_apci.specs.Calls.{answer, ending_after_answer, ending_after_piece, ending_behind, reading_of_ending}
use Rattle.iec_apci.specs.Laws.{fault_of, joined_readings, reading_with_all_first}
use Rattle.iec_apci.specs.Stream.{Ending, Faulty, Open, Reading}
use Rattle.iec_apci.proofs.Drained.{done_fault, done_none, goes_on}
use Rattle.iec_apci.proofs.Streams.{reading-append, size_held}
use Rattle.gw_map.specs.Settings.{Setup}
use Rattle.gw_steps.specs.declared.step.Step.TheVariants as steps
use Rattle.gw_steps.specs.declared.step.Reply.{Reply}
use Rattle.gw_steps.specs.declared.step.Reply.TheVariants as replies
use Rattle.gw_steps.specs.declared.step.StepFault.{StepFault}
use Rattle.gw_steps.specs.declared.step.StepFault.TheVariants as faults
use Rattle.run_shared.specs.Turn.{Pass}
use Rattle.run_ends.specs.Ends.{Gives, reading_end}
use Rattle.run_ends.specs.declared.ends.Arrival.{Arrival}
use Rattle.run_ends.specs.declared.ends.Arrival.TheVariants as arrivals
use Rattle.run_ends.specs.declared.worker_end.WorkerEnd.{WorkerEnd}
use Rattle.run_ends.specs.declared.worker_end.WorkerEnd.TheVariants as ends
use Rattle.run_ends.proofs.Runs.{appends-more}
use Rattle.gw_threads.specs.Calls.{Call, given_by}
use Rattle.gw_threads.specs.Written.{TellsLoss}
use Rattle.gw_threads.proofs.Calling.{calls_own, calls_then, given_then, all-append}
use Rattle.gw_threads.specs.Frames.{Asks, Frames, IsOf, Loses, MayLeave, Reads, Stepped, Takes, TakesAnswer, apdu_in, end_by}

-- ---- octets in pieces

-- what is said by what a feed holds back, once it was given more
fed : (held : Ending) (piece : List ℕ) → reading_of_ending (ending_after_piece held piece)
    ≡ joined_readings (reading_of_ending held) (reading_of_ending (ending_after_piece (reading_of_ending held).ending piece))
fed (Open octets) piece = reading-append octets piece
fed (Faulty f) piece = refl

first_of_joined : (cs : List ApduContent) (a b : Reading)
    → joined_readings (reading_with_all_first cs a) b ≡ reading_with_all_first cs (joined_readings a b)
first_of_joined cs a b =
    ap (λ (l : List ApduContent). record { apdus = l; ending = b.ending }) (append_assoc cs a.apdus b.apdus)

-- what was said first is said first still
said_before : (held next : Ending) (cs : List ApduContent) (piece : List ℕ)
    → reading_of_ending held ≡ reading_with_all_first cs (reading_of_ending next)
    → reading_of_ending (ending_after_piece held piece)
    ≡ reading_with_all_first cs (reading_of_ending (ending_after_piece next piece))
said_before held next cs piece says =
    fed held piece
    ∙ (ap (λ (r : Reading). joined_readings r (reading_of_ending (ending_after_piece r.ending piece))) says
    ∙ (first_of_joined cs (reading_of_ending next)
    (reading_of_ending (ending_after_piece (reading_of_ending next).ending piece))
    ∙ ap (reading_with_all_first cs) (sym (fed next piece))))

piece_then : (held : Ending) (a b : List ℕ)
    → ending_after_piece (ending_after_piece held a) b ≡ ending_after_piece held (a ++ b)
piece_then (Open octets) a b = ap (λ (l : List ℕ). Open l) (append_assoc octets a b)
piece_then (Faulty f) a b = refl

no_piece : (held : Ending) → held ≡ ending_after_piece held []
no_piece (Open octets) = ap (λ (l : List ℕ). Open l) (sym (append-nil octets))
no_piece (Faulty f) = refl

-- ---- steps, one after another

pub stepped_none : (setup : Setup) (client : ℕ) (mine : Pass) (held next : Ending) → held ≡ next
    → Stepped setup client mine mine held next
stepped_none setup client mine held next same =
    record { calls = []; made = refl; own = tt; says = ap reading_of_ending same }

pub stepped_then : (setup : Setup) (client : ℕ) (mine mid after : Pass) (x y z : Ending)
    → Stepped setup client mine mid x y → Stepped setup client mid after y z → Stepped setup client mine after x z
stepped_then setup client mine mid after x y z first more =
    let a = given_by apdu_in first.calls in
    let b = given_by apdu_in more.calls in
    let rest = reading_of_ending z in
    record {
      calls = first.calls ++ more.calls;
      made = calls_then setup mine mid after first.calls more.calls first.made more.made;
      own = all-append (λ (c : Call). IsOf client c.step) first.calls more.calls first.own more.own;
      says =
          first.says
          ∙ (ap (reading_with_all_first a) more.says
          ∙ ap (λ (l : List ApduContent). record { apdus = l; ending = rest.ending })
          (sym (append_assoc a b rest.apdus)
          ∙ ap (λ (l : List ApduContent). l ++ rest.apdus) (sym (given_then apdu_in first.calls more.calls))));
    }

-- with octets behind
stepped_fed : (setup : Setup) (client : ℕ) (mine after : Pass) (held next : Ending) (piece : List ℕ)
    → Stepped setup client mine after held next
    → Stepped setup client mine after (ending_after_piece held piece) (ending_after_piece next piece)
stepped_fed setup client mine after held next piece first = record {
  calls = first.calls;
  made = first.made;
  own = first.own;
  says = said_before held next (given_by apdu_in first.calls) piece first.says;
}

pub takes_then : (setup : Setup) (client : ℕ) (mine mid after : Pass) (x y z : Ending) (result : Option WorkerEnd)
    → Stepped setup client mine mid x y → Takes setup client mid after y z result → Takes setup client mine after x z result
takes_then setup client mine mid after x y z None first more = stepped_then setup client mine mid after x y z first more
takes_then setup client mine mid after x y z (Some end) first more =
    (more.0, (stepped_then setup client mine mid after x y more.0 first more.1.0, more.1.1))

-- ---- an answer of the feed

-- a call that counts
stepped_one : (setup : Setup) (client : ℕ) (mine after : Pass) (held next : Ending) (apdu : Apdu)
    (reply : Result Reply StepFault) (asks : Asks setup client mine after apdu reply)
    → apdu_in (steps.Frame client apdu asks.0) reply ≡ content apdu ∷ []
    → reading_of_ending held ≡ reading_with_all_first (content apdu ∷ []) (reading_of_ending next)
    → Stepped setup client mine after held next
stepped_one setup client mine after held next apdu reply asks counts says = record {
  calls = record { step = steps.Frame client apdu asks.0; number = asks.1.0; reply = reply } ∷ [];
  made = (after, (asks.1.1, refl));
  own = (refl, tt);
  says = says ∙ ap (λ (l : List ApduContent). reading_with_all_first (l ++ []) (reading_of_ending next)) (sym counts);
}

-- one that couldn't be counted
not_stepped : (setup : Setup) (client : ℕ) (mine after : Pass) (held : Ending) (apdu : Apdu)
    → Asks setup client mine after apdu (Err faults.Spent) → Stepped setup client mine after held held
not_stepped setup client mine after held apdu asks = record {
  calls = record { step = steps.Frame client apdu asks.0; number = asks.1.0; reply = Err faults.Spent } ∷ [];
  made = (after, (asks.1.1, refl));
  own = (refl, tt);
  says = refl;
}

-- an APDU that a feed gives is the first that it said, and it holds back less
gave : (held next : Ending) (apdu : Apdu) → Some (Ok (content apdu)) ≡ answer held → next ≡ ending_after_answer held
    → (reading_of_ending held ≡ reading_with_all_first (content apdu ∷ []) (reading_of_ending next))
    × (size_held next < size_held held)
gave held next apdu given after =
    let goes = goes_on [] (apdu ∷ []) (Ok apdu) apdu held next _ _ refl given after refl refl refl in (
      sym (ap (λ (l : List ApduContent). record { apdus = l; ending = (reading_of_ending next).ending }) goes.apdus
          ∙ ap (λ (e : Ending). record { apdus = (reading_of_ending held).apdus; ending = e }) goes.rest),
      goes.fewer,
    )

faulty_by : (held : Ending) (fault : ApciFault) → Some fault ≡ fault_of held → held ≡ Faulty fault
faulty_by (Open octets) fault is = absurd (cc is)
faulty_by (Faulty f) fault is = cc is

-- a fault is all that it said
left_fault : (held : Ending) (fault : ApciFault) → Some (Err fault) ≡ answer held
    → MayLeave (ends.Malformed fault) (reading_of_ending held)
left_fault held fault given =
    let done = done_fault [] (reading_of_ending held).apdus (Err fault) fault held (ending_after_answer held)
    (reading_of_ending held).ending refl given refl refl refl in
    (sym done.apdus, faulty_by (reading_of_ending held).ending fault done.fault)

-- where the reader goes on, an APDU was stepped, and less is held back; otherwise it ends so
pub took_answer : (setup : Setup) (client : ℕ) (mine after : Pass) (held next : Ending) (given : Result Apdu ApciFault)
    → Some (content_if_ok given) ≡ answer held → next ≡ ending_after_answer held
    → TakesAnswer setup client mine after given None
    → Stepped setup client mine after held next × (size_held next < size_held held)
took_answer setup client mine after held next (Ok apdu) is moved takes =
    let g = gave held next apdu is moved in
    (stepped_one setup client mine after held next apdu takes.0 takes.1.0 (counts takes.0 takes.1.1) g.0, g.1)
  where
    counts : (reply : Result Reply StepFault) → None ≡ end_by reply
        → apdu_in (steps.Frame client apdu takes.1.0.0) reply ≡ content apdu ∷ []
    counts (Ok r) on = refl
    counts (Err faults.Memory) on = absurd (cc on)
    counts (Err faults.Spent) on = absurd (cc on)
    counts (Err faults.NoOutstation) on = absurd (cc on)
    counts (Err faults.NoClient) on = absurd (cc on)
    counts (Err faults.NotUp) on = absurd (cc on)
    counts (Err faults.AlreadyUp) on = absurd (cc on)
took_answer setup client mine after held next (Err fault) is moved takes = absurd (cc takes.1)

ended_so : (end other : WorkerEnd) → Some end ≡ Some other → end ≡ other
ended_so end other is = cc is

pub ended_by : (setup : Setup) (client : ℕ) (mine after : Pass) (held next : Ending) (given : Result Apdu ApciFault)
    (end : WorkerEnd) → Some (content_if_ok given) ≡ answer held → next ≡ ending_after_answer held
    → TakesAnswer setup client mine after given (Some end) → Takes setup client mine after held next (Some end)
ended_by setup client mine after held next (Ok apdu) end is moved takes = by takes.0 takes.1.0 takes.1.1
  where
    Ends : WorkerEnd → Type 0
    Ends e = Takes setup client mine after held next (Some e)

    stepped : (reply : Result Reply StepFault) (asks : Asks setup client mine after apdu reply)
        → apdu_in (steps.Frame client apdu asks.0) reply ≡ content apdu ∷ [] → Stepped setup client mine after held next
    stepped reply asks counts =
        stepped_one setup client mine after held next apdu reply asks counts (gave held next apdu is moved).0

    so : (e : WorkerEnd) → Some end ≡ Some e → Ends e → Ends end
    so e ends_so there = subst Ends (sym (ended_so end e ends_so)) there

    by : (reply : Result Reply StepFault) → Asks setup client mine after apdu reply → Some end ≡ end_by reply → Ends end
    by (Ok (replies.Closed why)) asks e = so (ends.Closed why) e (next, (stepped (Ok (replies.Closed why)) asks refl, tt))
    by (Ok replies.Done) asks e = absurd (cc e)
    by (Ok (replies.Verdict v)) asks e = absurd (cc e)
    by (Ok (replies.Request r)) asks e = absurd (cc e)
    by (Ok (replies.Apdu a)) asks e = absurd (cc e)
    by (Ok replies.Taken) asks e = absurd (cc e)
    by (Ok replies.Nothing) asks e = absurd (cc e)
    by (Ok (replies.Ticked closed)) asks e = absurd (cc e)
    by (Err faults.Memory) asks e = so ends.Memory e (next, (stepped (Err faults.Memory) asks refl, tt))
    by (Err faults.Spent) asks e = so ends.Stopping e (held, (not_stepped setup client mine after held apdu asks, tt))
    by (Err faults.NoOutstation) asks e = so ends.Stopping e (next, (stepped (Err faults.NoOutstation) asks refl, tt))
    by (Err faults.NoClient) asks e = so ends.Stopping e (next, (stepped (Err faults.NoClient) asks refl, tt))
    by (Err faults.NotUp) asks e = so ends.Stopping e (next, (stepped (Err faults.NotUp) asks refl, tt))
    by (Err faults.AlreadyUp) asks e = so ends.Stopping e (next, (stepped (Err faults.AlreadyUp) asks refl, tt))
ended_by setup client mine after held next (Err fault) end is moved takes = (
  held,
  (
    subst (λ (p : Pass). Stepped setup client mine p held held) (sym takes.0) (stepped_none setup client mine held held refl),
    subst (λ (e : WorkerEnd). MayLeave e (reading_of_ending held))
        (sym (ended_so end (ends.Malformed fault) takes.1)) (left_fault held fault is),
  ),
)

-- where it gives nothing, it holds back what it did
pub held_still : (held next : Ending) → None ≡ answer held → next ≡ ending_after_answer held → held ≡ next
held_still held next given after = sym (after ∙ same held given)
  where
    same : (e : Ending) → None ≡ answer e → ending_after_answer e ≡ e
    same (Open octets) is = ap (ending_behind octets) (sym is)
    same (Faulty f) is = absurd (cc is)

-- and nothing more is said
pub drained : (held next : Ending) → None ≡ answer held → next ≡ ending_after_answer held → (reading_of_ending next).apdus ≡ []
drained held next given after =
    let done = done_none [] (reading_of_ending held).apdus held next (reading_of_ending held).ending given after refl refl in
    subst (λ (e : Ending). (reading_of_ending e).apdus ≡ []) (held_still held next given after) (sym done.apdus)

-- what holds where a call succeeds holds where it didn't fail
pub fed_whole : {A E : Type 0} (r : Result A E) (holds : Type 0) → OnOk r holds → is_err r ≡ false → holds
fed_whole (Ok done) holds on ok = on
fed_whole (Err fault) holds on ok = absurd (cc ok)

-- ---- pieces, one after another

pub reads_some : (setup : Setup) (client : ℕ) (mine after : Pass) (x y : Option (List ℕ)) (held next : Ending)
    (octets : List ℕ) (result : Option WorkerEnd) → Appends x y octets
    → Takes setup client mine after (ending_after_piece held octets) next result
    → Reads setup client mine after x y held next result
reads_some setup client mine after x y held next octets result took takes =
    record { octets = octets; took = took; takes = takes }

pub nothing : (x y : Option (List ℕ)) → y ≡ x → Appends x y []
nothing None y same = tt
nothing (Some xs) None same = absurd (cc same)
nothing (Some xs) (Some ys) same = ap (λ o. last_of o) same ∙ sym (append-nil xs)
  where
    last_of : Option (List ℕ) → List ℕ
    last_of None = xs
    last_of (Some zs) = zs

-- nothing came
pub reads_nothing : (setup : Setup) (client : ℕ) (mine : Pass) (x y : Option (List ℕ)) (held : Ending) → y ≡ x
    → Reads setup client mine mine x y held held None
reads_nothing setup client mine x y held same = record {
  octets = [];
  took = nothing x y same;
  takes = stepped_none setup client mine (ending_after_piece held []) held (sym (no_piece held));
}

-- and the reader ends
pub reads_end : (setup : Setup) (client : ℕ) (mine : Pass) (x y : Option (List ℕ)) (held : Ending) (end : WorkerEnd) → y ≡ x
    → MayLeave end (reading_of_ending held) → Reads setup client mine mine x y held held (Some end)
reads_end setup client mine x y held end same left = record {
  octets = [];
  took = nothing x y same;
  takes = (held, (stepped_none setup client mine (ending_after_piece held []) held (sym (no_piece held)), left));
}

-- nor will anything more come
pub reads_stop : (setup : Setup) (client : ℕ) (mine : Pass) (x y : Option (List ℕ)) (held : Ending) (buffer : List ℕ)
    (arrival : Arrival) (result : Option WorkerEnd) → (arrival ≡ arrivals.End) ⊎ (arrival ≡ arrivals.Fault)
    → result ≡ reading_end arrival → Gives arrival x y buffer → (reading_of_ending held).apdus ≡ []
    → Reads setup client mine mine x y held held result
reads_stop setup client mine x y held buffer arrival result is end given drained = elim is as (λ _. Wanted result) [
  | inl ended ↦ by arrivals.End ends.EndOfInput ended refl (subst came ended given) drained
  | inr failed ↦ by arrivals.Fault ends.ReadFault failed refl (subst came failed given) drained
]
  where
    came : Arrival → Type 0
    came a = Gives a x y buffer

    Wanted : Option WorkerEnd → Type 0
    Wanted r = Reads setup client mine mine x y held held r

    by : (a : Arrival) (e : WorkerEnd) → arrival ≡ a → reading_end a ≡ Some e → y ≡ x → MayLeave e (reading_of_ending held)
        → Wanted result
    by a e is_a ends_so same left =
        subst Wanted (sym (end ∙ (ap reading_end is_a ∙ ends_so))) (reads_end setup client mine x y held e same left)

pub reads_then : (setup : Setup) (client : ℕ) (mine mid after : Pass) (x y z : Option (List ℕ)) (e f g : Ending)
    (result : Option WorkerEnd) → Reads setup client mine mid x y e f None → Reads setup client mid after y z f g result
    → Reads setup client mine after x z e g result
reads_then setup client mine mid after x y z e f g result first more = record {
  octets = first.octets ++ more.octets;
  took = appends-more x y z first.octets more.octets first.took more.took;
  takes =
      subst (λ (held : Ending). Takes setup client mine after held g result) (piece_then e first.octets more.octets)
      (takes_then setup client mine mid after (ending_after_piece (ending_after_piece e first.octets) more.octets)
      (ending_after_piece f more.octets) g result
      (stepped_fed setup client mine mid (ending_after_piece e first.octets) f more.octets first.takes) more.takes);
}

-- ---- from the first octet to the end

pub framed : (setup : Setup) (client : ℕ) (mine after : Pass) (x y : Option (List ℕ)) (held next : Ending) (end : WorkerEnd)
    → held ≡ Open [] → Reads setup client mine after x y held next (Some end) → Frames setup client mine after x y end
framed setup client mine after x y held next end new reads =
    let left = reads.takes.0 in
    let stepped =
    subst (λ (e : Ending). Stepped setup client mine after (ending_after_piece e reads.octets) left) new reads.takes.1.0 in
    record {
      calls = stepped.calls;
      made = stepped.made;
      own = stepped.own;
      octets = reads.octets;
      took = reads.took;
      rest = reading_of_ending left;
      says = stepped.says;
      left = reads.takes.1.1;
    }

-- and then the client is lost
framed_loss : (setup : Setup) (client : ℕ) (mine mid after : Pass) (x y : Option (List ℕ)) (end : WorkerEnd)
    → Frames setup client mine mid x y end → TellsLoss setup client mid after → Frames setup client mine after x y end
framed_loss setup client mine mid after x y end first loss =
    let down : Call =
    record { step = steps.ClientDown client loss.0; number = loss.1.0; reply = loss.1.1.0 } in
    record {
      calls = first.calls ++ down ∷ [];
      made = calls_then setup mine mid after first.calls (down ∷ []) first.made (after, (loss.1.1.1, refl));
      own = all-append (λ (c : Call). IsOf client c.step) first.calls (down ∷ []) first.own (refl, tt);
      octets = first.octets;
      took = first.took;
      rest = first.rest;
      says =
          first.says
          ∙ ap (λ (l : List ApduContent). reading_with_all_first l first.rest)
          (sym (given_then apdu_in first.calls (down ∷ []) ∙ append-nil (given_by apdu_in first.calls)));
      left = first.left;
    }

pub framed_lost : (setup : Setup) (client : ℕ) (mine mid after : Pass) (x y : Option (List ℕ)) (end : WorkerEnd)
    → Frames setup client mine mid x y end → Loses setup client mid after end → Frames setup client mine after x y end
framed_lost setup client mine mid after x y (ends.Closed why) first same =
    subst (λ (p : Pass). Frames setup client mine p x y (ends.Closed why)) (sym same) first
framed_lost setup client mine mid after x y ends.EndOfInput first loss =
    framed_loss setup client mine mid after x y ends.EndOfInput first loss
framed_lost setup client mine mid after x y ends.ReadFault first loss =
    framed_loss setup client mine mid after x y ends.ReadFault first loss
framed_lost setup client mine mid after x y ends.WriteFault first loss =
    framed_loss setup client mine mid after x y ends.WriteFault first loss
framed_lost setup client mine mid after x y ends.Unanswered first loss =
    framed_loss setup client mine mid after x y ends.Unanswered first loss
framed_lost setup client mine mid after x y ends.LinkUnanswered first loss =
    framed_loss setup client mine mid after x y ends.LinkUnanswered first loss
framed_lost setup client mine mid after x y (ends.Malformed fault) first loss =
    framed_loss setup client mine mid after x y (ends.Malformed fault) first loss
framed_lost setup client mine mid after x y ends.Memory first loss =
    framed_loss setup client mine mid after x y ends.Memory first loss
framed_lost setup client mine mid after x y ends.Stopping first loss =
    framed_loss setup client mine mid after x y ends.Stopping first loss

pub framed_own : (setup : Setup) (client : ℕ) (mine after : Pass) (x y : Option (List ℕ)) (end : WorkerEnd)
    → Frames setup client mine after x y end → after.actor ≡ mine.actor
framed_own setup client mine after x y end framed = calls_own setup mine after framed.calls framed.made
