-- Calls of a kind that is left to one actor are all of that actor.
use Rattle.std.proofs.Common.{◌≡◌, ℕ, Bool, true, false, cond, ◌==◌, inl, inr, List, [], ◌∷◌, ◌++◌}
use Rattle.std.proofs.Common.{Option, Some, None, Result, Err, refl, sym, ap, subst, ◌∙◌, append_assoc}
use Rattle.std.specs.List.{AllByRecursion, cons_option}
use Rattle.std.proofs.lemmas.Bool.{true≢false, eq-eqb, eqb-true}
use Rattle.std.proofs.lemmas.List.{append-nil}
use Rattle.iec_apci.specs.declared.buffer.ApduBuf.{ApduBuf}
use Rattle.gw_map.specs.Settings.{Setup}
use Rattle.gw_steps.specs.declared.step.Step.{Step}
use Rattle.gw_steps.specs.declared.step.Step.TheVariants as steps
use Rattle.gw_steps.specs.declared.step.Reply.{Reply}
use Rattle.gw_steps.specs.declared.step.StepFault.{StepFault}
use Rattle.gw_steps.specs.declared.step.StepFault.TheVariants.{Spent}
use Rattle.gw_steps.specs.Runs.{Entry}
use Rattle.run_log.specs.Follows.{of_lane}
use Rattle.run_shared.specs.Reached.{Deed, entries_of, entry}
use Rattle.run_shared.specs.Roles.{IsOne, KeepsRoles, MayMake, Roles}
use Rattle.run_shared.specs.Turn.{Pass}
use Rattle.gw_threads.specs.Calls.{AreCalls, Call, all_given, given_by}
use Rattle.gw_threads.specs.Sends.{IsTowards, SendsAll, SendsAllGiven, is_poll, request_given}
use Rattle.gw_threads.specs.Standing.{Stand}
use Rattle.gw_threads.specs.Written.{AreAll, Asked, IsFor, Writes, Wrote, apdu_given, is_pump}
use Rattle.gw_threads.proofs.Standing.{calls_stand}
use Rattle.run_ends.specs.declared.worker_end.WorkerEnd.{WorkerEnd}
use Rattle.run_ends.specs.declared.worker_end.WorkerEnd.TheVariants as ends
use Rattle.run_log.specs.Follows.{Known}
use Rattle.run_ends.specs.declared.sent.Sending.{Sending}

-- what makes calls of a kind, which give something, all of an actor: whoever makes one is that actor, and of calls that
-- can't be counted none gives anything
record IsLeft {X : Type 0} (roles : Roles) (actor : ℕ) (is_kind : Step → Bool) (gives : Step → Result Reply StepFault → List X)
    : Type 0 where
  one : (other : ℕ) (step : Step) → MayMake roles other step → is_kind step ≡ true → other ≡ actor
  none : (step : Step) → gives step (Err Spent) ≡ []

-- what a call gives, where it is of the kind
abbrev gives_if : {X : Type 0} → (Step → Bool) → (Step → Result Reply StepFault → List X) → Step → Result Reply StepFault → List X
gives_if is_kind gives step reply = cond (is_kind step) (gives step reply) []

-- in a history they all stand in its lane
lane_alone : {X : Type 0} (roles : Roles) (actor : ℕ) (is_kind : Step → Bool) (gives : Step → Result Reply StepFault → List X)
    → IsLeft roles actor is_kind gives → (past : List Deed) → KeepsRoles roles past
    → all_given is_kind gives (entries_of past) ≡ all_given is_kind gives (of_lane actor past)
lane_alone {X} roles actor is_kind gives left [] kept = refl
lane_alone {X} roles actor is_kind gives left (deed ∷ past) kept =
    by (lane_alone roles actor is_kind gives left past kept.1) (actor == deed.0) refl
  where
    other : (actor == deed.0) ≡ false → (c : Bool) → is_kind deed.1.step ≡ c → cond c (gives deed.1.step deed.1.reply) [] ≡ []
    other apart true is =
        absurd (true≢false (sym (eq-eqb actor deed.0 (sym (left.one deed.0 deed.1.step kept.0 is))) ∙ apart))
    other apart false is = refl

    by : all_given is_kind gives (entries_of past) ≡ all_given is_kind gives (of_lane actor past)
        → (b : Bool) → (actor == deed.0) ≡ b
        → all_given is_kind gives (entries_of past) ++ gives_if is_kind gives deed.1.step deed.1.reply
        ≡ all_given is_kind gives (cons_option (cond b (Some deed.1) None) (of_lane actor past))
    by rest true is = ap (λ (l : List X). l ++ gives_if is_kind gives deed.1.step deed.1.reply) rest
    by rest false is =
        ap (λ (l : List X). all_given is_kind gives (entries_of past) ++ l) (other is (is_kind deed.1.step) refl)
        ∙ (append-nil (all_given is_kind gives (entries_of past)) ∙ rest)

-- calls of an actor, none of which gives anything but by being of the kind, stand there
stand_given : {X : Type 0} (roles : Roles) (actor : ℕ) (is_kind : Step → Bool) (gives : Step → Result Reply StepFault → List X)
    → IsLeft roles actor is_kind gives → (calls : List Call) (entries rest : List Entry) → Stand calls entries
    → AllByRecursion (λ (c : Call). gives_if is_kind gives c.step c.reply ≡ gives c.step c.reply) calls
    → all_given is_kind gives (entries ++ rest) ≡ all_given is_kind gives rest ++ given_by gives calls
stand_given {X} roles actor is_kind gives left [] entries rest stand own =
    ap (λ (l : List Entry). all_given is_kind gives (l ++ rest)) stand ∙ sym (append-nil (all_given is_kind gives rest))
stand_given {X} roles actor is_kind gives left (c ∷ calls) entries rest stand own =
    elim stand.1.1 as (λ _. Wanted) [
      | inl made ↦
          ap (λ (l : List Entry). all_given is_kind gives (l ++ rest)) made
          ∙ (ap (all_given is_kind gives) (append_assoc later (e ∷ []) rest)
          ∙ (stand_given roles actor is_kind gives left calls later (e ∷ rest) stand.1.0 own.1
          ∙ (append_assoc before (gives_if is_kind gives c.step c.reply) more
          ∙ ap (λ (l : List X). before ++ (l ++ more)) own.0)))
      | inr refused ↦
          ap (λ (l : List Entry). all_given is_kind gives (l ++ rest)) refused.1
          ∙ (stand_given roles actor is_kind gives left calls later rest stand.1.0 own.1
          ∙ ap (λ (l : List X). before ++ (l ++ more))
          (sym (ap (gives c.step) refused.0 ∙ left.none c.step)))
    ]
  where
    later : List Entry
    later = stand.0

    e : Entry
    e = entry c.step c.reply

    before : List X
    before = all_given is_kind gives rest

    more : List X
    more = given_by gives calls

    Wanted : Type 0
    Wanted = all_given is_kind gives (entries ++ rest) ≡ before ++ (gives c.step c.reply ++ more)

-- what an actor's calls give is all that the history gives in that time
all_given_alone : {X : Type 0} (setup : Setup) (roles : Roles) (mine after : Pass) (is_kind : Step → Bool)
    (gives : Step → Result Reply StepFault → List X)
    → IsLeft roles mine.actor is_kind gives → KeepsRoles roles mine.seen → KeepsRoles roles after.seen → (calls : List Call)
    → AreCalls setup mine calls after
    → AllByRecursion (λ (c : Call). gives_if is_kind gives c.step c.reply ≡ gives c.step c.reply) calls
    → all_given is_kind gives (entries_of after.seen) ≡ all_given is_kind gives (entries_of mine.seen) ++ given_by gives calls
all_given_alone {X} setup roles mine after is_kind gives left before behind calls made own =
    let alone = calls_stand setup mine after calls made in
    lane_alone roles mine.actor is_kind gives left after.seen behind
    ∙ (ap (all_given is_kind gives) alone.all
    ∙ (stand_given roles mine.actor is_kind gives left calls alone.entries (of_lane mine.actor mine.seen) alone.stand own
    ∙ ap (λ (l : List X). l ++ given_by gives calls)
    (sym (lane_alone roles mine.actor is_kind gives left mine.seen before))))

-- ---- the pumps for a client

pumps_left : (roles : Roles) (actor client : ℕ) → roles.pumper client ≡ Some actor
    → IsLeft roles actor (is_pump client) apdu_given
pumps_left roles actor client left = record { one = one; none = none }
  where
    one : (other : ℕ) (step : Step) → MayMake roles other step → is_pump client step ≡ true → other ≡ actor
    one other (steps.Pump c m) may is =
        sym (subst (λ (o : Option ℕ). IsOne o other)
        (ap roles.pumper (sym (eqb-true client c is)) ∙ left) may)
    one other (steps.OutstationUp o m) may is = absurd (cc is)
    one other (steps.OutstationDown o m) may is = absurd (cc is)
    one other (steps.Fragment f m) may is = absurd (cc is)
    one other (steps.Poll o m w) may is = absurd (cc is)
    one other (steps.ClientUp c m) may is = absurd (cc is)
    one other (steps.ClientDown c m) may is = absurd (cc is)
    one other (steps.Frame c a m) may is = absurd (cc is)
    one other (steps.Tick m) may is = absurd (cc is)

    none : (step : Step) → apdu_given step (Err Spent) ≡ []
    none (steps.Pump c m) = refl
    none (steps.OutstationUp o m) = refl
    none (steps.OutstationDown o m) = refl
    none (steps.Fragment f m) = refl
    none (steps.Poll o m w) = refl
    none (steps.ClientUp c m) = refl
    none (steps.ClientDown c m) = refl
    none (steps.Frame c a m) = refl
    none (steps.Tick m) = refl

pumps_own : (client : ℕ) (calls : List Call) → AllByRecursion (λ (c : Call). IsFor client c.step) calls
    → AllByRecursion (λ (c : Call). gives_if (is_pump client) apdu_given c.step c.reply ≡ apdu_given c.step c.reply) calls
pumps_own client [] own = tt
pumps_own client (c ∷ calls) own = (one c.step c.reply own.0, pumps_own client calls own.1)
  where
    one : (step : Step) (reply : Result Reply StepFault) → IsFor client step
        → gives_if (is_pump client) apdu_given step reply ≡ apdu_given step reply
    one (steps.Pump c m) reply is =
        ap (λ (b : Bool). cond b (apdu_given (steps.Pump c m) reply) []) (eq-eqb client c (sym is))
    one (steps.ClientDown c m) reply is = refl
    one (steps.OutstationUp o m) reply is = absurd is
    one (steps.OutstationDown o m) reply is = absurd is
    one (steps.Fragment f m) reply is = absurd is
    one (steps.Poll o m w) reply is = absurd is
    one (steps.ClientUp c m) reply is = absurd is
    one (steps.Frame c a m) reply is = absurd is
    one (steps.Tick m) reply is = absurd is

asked_all : (setup : Setup) (roles : Roles) (client : ℕ) (mine after : Pass) (apdus : List ApduBuf)
    → roles.pumper client ≡ Some mine.actor → KeepsRoles roles mine.seen → KeepsRoles roles after.seen
    → Asked setup client mine after apdus → AreAll client mine after apdus
asked_all setup roles client mine after apdus left before behind asked =
    all_given_alone setup roles mine after (is_pump client) apdu_given (pumps_left roles mine.actor client left) before
    behind asked.calls asked.made (pumps_own client asked.calls asked.own)
    ∙ ap (λ (l : List ApduBuf). all_given (is_pump client) apdu_given (entries_of mine.seen) ++ l) asked.given

-- what was written is so for APDUs of a wider kind
wider : (are also : List ApduBuf → Type 0) (x y : Option (List ℕ)) → ((apdus : List ApduBuf) → are apdus → also apdus)
    → Wrote are x y → Wrote also x y
wider are also x y is w = record { apdus = w.apdus; asked = is w.apdus w.asked; taken = w.taken }

wider_end : (are also : List ApduBuf → Type 0) (x y : Option (List ℕ)) (end : WorkerEnd)
    → ((apdus : List ApduBuf) → are apdus → also apdus) → Writes are x y end → Writes also x y end
wider_end are also x y (ends.Closed why) is w = wider are also x y is w
wider_end are also x y ends.EndOfInput is w = wider are also x y is w
wider_end are also x y ends.ReadFault is w = wider are also x y is w
wider_end are also x y ends.Unanswered is w = wider are also x y is w
wider_end are also x y ends.LinkUnanswered is w = wider are also x y is w
wider_end are also x y ends.WriteFault is w =
    record { apdus = w.apdus; asked = is w.apdus w.asked; count = w.count; taken = w.taken }
wider_end are also x y (ends.Malformed fault) is w = wider are also x y is w
wider_end are also x y ends.Memory is w = wider are also x y is w
wider_end are also x y ends.Stopping is w = wider are also x y is w

pub writes_all : (setup : Setup) (roles : Roles) (client : ℕ) (mine after : Pass) (x y : Option (List ℕ)) (end : WorkerEnd)
    → KeepsRoles roles mine.seen → KeepsRoles roles after.seen → Writes (Asked setup client mine after) x y end
    → roles.pumper client ≡ Some mine.actor → Writes (AreAll client mine after) x y end
writes_all setup roles client mine after x y end before behind writes left =
    wider_end (Asked setup client mine after) (AreAll client mine after) x y end
    (λ (apdus : List ApduBuf). asked_all setup roles client mine after apdus left before behind) writes

-- ---- the polls of an outstation

polls_left : (roles : Roles) (actor outstation : ℕ) → roles.poller outstation ≡ Some actor
    → IsLeft roles actor (is_poll outstation) request_given
polls_left roles actor outstation left = record { one = one; none = none }
  where
    one : (other : ℕ) (step : Step) → MayMake roles other step → is_poll outstation step ≡ true → other ≡ actor
    one other (steps.Poll o m w) may is =
        sym (subst (λ (one : Option ℕ). IsOne one other)
        (ap roles.poller (sym (eqb-true outstation o is)) ∙ left) may)
    one other (steps.OutstationUp o m) may is = absurd (cc is)
    one other (steps.OutstationDown o m) may is = absurd (cc is)
    one other (steps.Fragment f m) may is = absurd (cc is)
    one other (steps.Pump c m) may is = absurd (cc is)
    one other (steps.ClientUp c m) may is = absurd (cc is)
    one other (steps.ClientDown c m) may is = absurd (cc is)
    one other (steps.Frame c a m) may is = absurd (cc is)
    one other (steps.Tick m) may is = absurd (cc is)

    none : (step : Step) → request_given step (Err Spent) ≡ []
    none (steps.Poll o m w) = refl
    none (steps.OutstationUp o m) = refl
    none (steps.OutstationDown o m) = refl
    none (steps.Fragment f m) = refl
    none (steps.Pump c m) = refl
    none (steps.ClientUp c m) = refl
    none (steps.ClientDown c m) = refl
    none (steps.Frame c a m) = refl
    none (steps.Tick m) = refl

polls_own : (outstation : ℕ) (calls : List Call) → AllByRecursion (λ (c : Call). IsTowards outstation c.step) calls
    → AllByRecursion (λ (c : Call). gives_if (is_poll outstation) request_given c.step c.reply ≡ request_given c.step c.reply) calls
polls_own outstation [] own = tt
polls_own outstation (c ∷ calls) own = (one c.step c.reply own.0, polls_own outstation calls own.1)
  where
    one : (step : Step) (reply : Result Reply StepFault) → IsTowards outstation step
        → gives_if (is_poll outstation) request_given step reply ≡ request_given step reply
    one (steps.Poll o m w) reply is =
        ap (λ (b : Bool). cond b (request_given (steps.Poll o m w) reply) []) (eq-eqb outstation o (sym is))
    one (steps.OutstationDown o m) reply is = refl
    one (steps.OutstationUp o m) reply is = absurd is
    one (steps.Fragment f m) reply is = absurd is
    one (steps.Pump c m) reply is = absurd is
    one (steps.ClientUp c m) reply is = absurd is
    one (steps.ClientDown c m) reply is = absurd is
    one (steps.Frame c a m) reply is = absurd is
    one (steps.Tick m) reply is = absurd is

pub sends_all : (setup : Setup) (roles : Roles) (outstation : ℕ) (mine after : Pass) (front : Known Sending) (cut : Bool)
    → KeepsRoles roles mine.seen → KeepsRoles roles after.seen → SendsAll setup outstation mine after front cut
    → roles.poller outstation ≡ Some mine.actor → SendsAllGiven outstation mine after front
sends_all setup roles outstation mine after front cut before behind sends left =
    let all = sends.1.1 in
    record {
      joined = sends.0;
      is_new = sends.1.0;
      sends = all.sends;
      sent = all.sent;
      requests = given_by request_given all.calls;
      same = all.same;
      all =
          all_given_alone setup roles mine after (is_poll outstation) request_given
          (polls_left roles mine.actor outstation left) before behind all.calls all.made
          (polls_own outstation all.calls all.own);
    }
