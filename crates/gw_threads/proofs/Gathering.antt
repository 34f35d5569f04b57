-- What a client's writer is given of the shared core.
use Rattle.std.proofs.Common.{◌≡◌, inl, inr, false, true, ℕ, ◌+◌, List, [], ◌∷◌, ◌++◌, length}
use Rattle.std.proofs.Common.{take, Option, Some, None, Result, Ok, Err, refl, sym, ap, subst, ◌∙◌}
use Rattle.std.specs.Io.KnownBytes.{Appends}
use Rattle.iec_apci.specs.declared.buffer.ApduBuf.{ApduBuf}
use Rattle.gw_map.specs.Settings.{Setup}
use Rattle.gw_steps.specs.declared.step.Step.TheVariants as steps
use Rattle.gw_steps.specs.declared.step.Reply.{Reply}
use Rattle.gw_steps.specs.declared.step.Reply.TheVariants.{Apdu, Closed, Done, Nothing, Request, Taken, Ticked, Verdict}
use Rattle.gw_steps.specs.declared.step.StepFault.{StepFault}
use Rattle.run_ends.specs.Ends.{is_write_fault}
use Rattle.run_ends.specs.PutOut.{Gave, Given, GivesAll, IsGathered, IsPut, MayHaveEnded, is_apdu, joined, writing_end}
use Rattle.run_shared.specs.Turn.{Pass}
use Rattle.run_shared.specs.Pumping.{ArePumped, IsGivenTo, IsPumpedRun, PumpsAll, PumpsOnce}
use Rattle.run_shared.specs.declared.pumped.Pumped.{Pumped}
use Rattle.run_shared.specs.declared.pumped.Pumped.TheVariants as pumps
use Rattle.run_shared.proofs.Pumping.{given_pumped}
use Rattle.iec_apci.proofs.Joined.{joined-append}
use Rattle.run_ends.specs.declared.putting.Gathered.{Gathered}
use Rattle.std.proofs.Math.Seq.{take-append-add}
use Rattle.std.proofs.lemmas.List.{append-nil}
use Rattle.gw_threads.specs.Calls.{Call, given_by}
use Rattle.gw_threads.specs.Written.{Asked, Asking, GivesTo, IsFor, IsPutOut, Settles, TellsLoss, Writes}
use Rattle.gw_threads.specs.Written.{WritesIfEnded, WritesPut, Wrote, WroteFront, apdu_given, gathered_by}
use Rattle.run_ends.specs.declared.worker_end.WorkerEnd.{WorkerEnd}
use Rattle.run_ends.specs.declared.worker_end.WorkerEnd.TheVariants as ends
use Rattle.gw_threads.proofs.Calling.{calls_own, calls_then, given_then, all-append}
use Rattle.gw_threads.proofs.Carried.{pumped_carries}
use Rattle.run_ends.proofs.Runs.{appends-more}
use Rattle.run_ends.specs.declared.putting.Put.{Put}
use Rattle.run_ends.specs.declared.putting.Put.TheVariants.{Ended, Unwritten, More}

pub asked_then : (setup : Setup) (client : ℕ) (mine mid after : Pass) (a b : List ApduBuf)
    → Asked setup client mine mid a → Asked setup client mid after b → Asked setup client mine after (a ++ b)
asked_then setup client mine mid after a b first more = record {
  calls = first.calls ++ more.calls;
  made = calls_then setup mine mid after first.calls more.calls first.made more.made;
  own = all-append (λ (c : Call). IsFor client c.step) first.calls more.calls first.own more.own;
  given =
      given_then apdu_given first.calls more.calls
      ∙ (ap (λ (l : List ApduBuf). l ++ given_by apdu_given more.calls) first.given
      ∙ ap (λ (l : List ApduBuf). a ++ l) more.given);
  each = all-append (IsPutOut client) a b first.each more.each;
}

asked_none : (setup : Setup) (client : ℕ) (mine after : Pass) → mine ≡ after → Asked setup client mine after []
asked_none setup client mine after same =
    record { calls = []; made = same; own = tt; given = refl; each = tt }

-- an APDU is the answer to a pump
is_put_out : (client : ℕ) (apdu : ApduBuf) → IsGivenTo client (Ok (Apdu apdu)) → IsPutOut client apdu
is_put_out client apdu given = elim given as (λ _. IsPutOut client apdu) [
  | inl pumped ↦ record { pumped = pumped; fit = pumped_carries client apdu pumped }
  | inr spent ↦ absurd cc
]

asked_apdu : (setup : Setup) (client : ℕ) (mine after : Pass) (apdu : ApduBuf)
    → PumpsOnce setup client mine after (Ok (Apdu apdu)) → Asked setup client mine after (apdu ∷ [])
asked_apdu setup client mine after apdu pumped = record {
  calls = record { step = steps.Pump client pumped.0; number = pumped.1.0; reply = Ok (Apdu apdu) } ∷ [];
  made = (after, (pumped.1.1, refl));
  own = (refl, tt);
  given = refl;
  each = (is_put_out client apdu (given_pumped setup mine after client (Ok (Apdu apdu)) pumped), tt);
}

no_apdu : (client moment : ℕ) (reply : Result Reply StepFault) → is_apdu (Some reply) ≡ false
    → apdu_given (steps.Pump client moment) reply ≡ []
no_apdu client moment (Ok (Apdu apdu)) none = absurd (cc none)
no_apdu client moment (Ok Done) none = refl
no_apdu client moment (Ok (Verdict verdict)) none = refl
no_apdu client moment (Ok (Request request)) none = refl
no_apdu client moment (Ok Taken) none = refl
no_apdu client moment (Ok (Closed why)) none = refl
no_apdu client moment (Ok Nothing) none = refl
no_apdu client moment (Ok (Ticked closed)) none = refl
no_apdu client moment (Err fault) none = refl

asked_other : (setup : Setup) (client : ℕ) (mine after : Pass) (reply : Result Reply StepFault)
    → PumpsOnce setup client mine after reply → is_apdu (Some reply) ≡ false → Asked setup client mine after []
asked_other setup client mine after reply pumped none = record {
  calls = record { step = steps.Pump client pumped.0; number = pumped.1.0; reply = reply } ∷ [];
  made = (after, (pumped.1.1, refl));
  own = (refl, tt);
  given = ap (λ (l : List ApduBuf). l ++ []) (no_apdu client pumped.0 reply none);
  each = tt;
}

-- ---- what a source gives

-- what ends a run, which is no APDU
asked_last : (setup : Setup) (old new : Asking) (last : Given) → GivesTo setup old last new → is_apdu last ≡ false
    → (new.client ≡ old.client) × Asked setup old.client old.pass new.pass []
asked_last setup old new None given none =
    (ap (λ (a : Asking). a.client) given, asked_none setup old.client old.pass new.pass (ap (λ (a : Asking). a.pass) (sym given)))
asked_last setup old new (Some reply) given none =
    (given.0, asked_other setup old.client old.pass new.pass reply given.1 none)

-- a worker is given APDUs for its client, which stays the same
pub asked_all : (setup : Setup) (old new : Asking) (apdus : List ApduBuf) → GivesAll (GivesTo setup) old apdus new
    → (new.client ≡ old.client) × Asked setup old.client old.pass new.pass apdus
asked_all setup old new [] given =
    (ap (λ (a : Asking). a.client) (sym given), asked_none setup old.client old.pass new.pass (ap (λ (a : Asking). a.pass) given))
asked_all setup old new (a ∷ apdus) given =
    let mid = given.0 in
    let here = given.1.0 in
    let rest = asked_all setup mid new apdus given.1.1 in (
      rest.0 ∙ here.0,
      asked_then setup old.client old.pass mid.pass new.pass (a ∷ []) apdus
          (asked_apdu setup old.client old.pass mid.pass a here.1)
          (subst (λ (k : ℕ). Asked setup k mid.pass new.pass apdus) here.0 rest.1),
    )

-- some, and then what ended the run
asked_on : (setup : Setup) (old mid new : Asking) (apdus : List ApduBuf) (last : Given)
    → GivesAll (GivesTo setup) old apdus mid → GivesTo setup mid last new → is_apdu last ≡ false
    → (new.client ≡ old.client) × Asked setup old.client old.pass new.pass apdus
asked_on setup old mid new apdus last given then none =
    let first = asked_all setup old mid apdus given in
    let more = asked_last setup mid new last then none in (
      more.0 ∙ first.0,
      subst (Asked setup old.client old.pass new.pass) (append-nil apdus)
          (asked_then setup old.client old.pass mid.pass new.pass apdus [] first.1
          (subst (λ (k : ℕ). Asked setup k mid.pass new.pass []) first.0 more.1)),
    )

asked_if_ended : (setup : Setup) (old mid new : Asking) (apdus : List ApduBuf) → GivesAll (GivesTo setup) old apdus mid
    → MayHaveEnded (GivesTo setup) mid new → (new.client ≡ old.client) × Asked setup old.client old.pass new.pass apdus
asked_if_ended setup old mid new apdus given ended =
    elim ended as (λ _. (new.client ≡ old.client) × Asked setup old.client old.pass new.pass apdus) [
      | inl same ↦ asked_all setup old new apdus (subst (GivesAll (GivesTo setup) old apdus) same given)
      | inr last ↦ asked_on setup old mid new apdus last.0 given last.1.0 last.1.1
    ]

-- one run
pub client_put : (setup : Setup) (old new : Asking) (x y : Option (List ℕ)) (put : Put)
    → IsPut (GivesTo setup) old new x y put → new.client ≡ old.client
client_put setup old new x y (Ended last) put =
    (asked_on setup old put.0 new put.1.0.apdus last put.1.0.given put.1.1 put.1.2).0
client_put setup old new x y Unwritten put = (asked_if_ended setup old put.mid new put.apdus put.given put.ended).0
client_put setup old new x y More put = (asked_all setup old new put.apdus put.given).0

pub wrote-put : (setup : Setup) (old new : Asking) (x y : Option (List ℕ)) (put : Put)
    → IsPut (GivesTo setup) old new x y put → WritesPut (Asked setup old.client old.pass new.pass) x y put
wrote-put setup old new x y (Ended last) put = record {
  apdus = put.1.0.apdus;
  asked = (asked_on setup old put.0 new put.1.0.apdus last put.1.0.given put.1.1 put.1.2).1;
  taken = put.1.0.taken;
}
wrote-put setup old new x y Unwritten put = record {
  apdus = put.apdus;
  asked = (asked_if_ended setup old put.mid new put.apdus put.given put.ended).1;
  count = put.count;
  taken = put.taken;
}
wrote-put setup old new x y More put =
    record { apdus = put.apdus; asked = (asked_all setup old new put.apdus put.given).1; taken = put.taken }

-- ---- what was handed over, one run after the other

pub wrote-then : (setup : Setup) (client : ℕ) (mine mid after : Pass) (x y z : Option (List ℕ))
    → Wrote (Asked setup client mine mid) x y → Wrote (Asked setup client mid after) y z → Wrote (Asked setup client mine after) x z
wrote-then setup client mine mid after x y z first more = record {
  apdus = first.apdus ++ more.apdus;
  asked = asked_then setup client mine mid after first.apdus more.apdus first.asked more.asked;
  taken =
      subst (Appends x z) (sym (joined-append first.apdus more.apdus))
      (appends-more x y z (joined first.apdus) (joined more.apdus) first.taken more.taken);
}

front-then : (setup : Setup) (client : ℕ) (mine mid after : Pass) (x y z : Option (List ℕ))
    → Wrote (Asked setup client mine mid) x y → WroteFront (Asked setup client mid after) y z
    → WroteFront (Asked setup client mine after) x z
front-then setup client mine mid after x y z first more = record {
  apdus = first.apdus ++ more.apdus;
  asked = asked_then setup client mine mid after first.apdus more.apdus first.asked more.asked;
  count = length (joined first.apdus) + more.count;
  taken =
      subst (Appends x z)
      (sym (ap (take (length (joined first.apdus) + more.count)) (joined-append first.apdus more.apdus)
      ∙ take-append-add (joined first.apdus) (joined more.apdus) more.count))
      (appends-more x y z (joined first.apdus) (take more.count (joined more.apdus)) first.taken more.taken);
}

-- and how it ended
pub writes-then : (setup : Setup) (client : ℕ) (mine mid after : Pass) (x y z : Option (List ℕ)) (end : WorkerEnd)
    → Wrote (Asked setup client mine mid) x y → Writes (Asked setup client mid after) y z end → Writes (Asked setup client mine after) x z end
writes-then setup client mine mid after x y z (ends.Closed why) first more =
    wrote-then setup client mine mid after x y z first more
writes-then setup client mine mid after x y z ends.EndOfInput first more =
    wrote-then setup client mine mid after x y z first more
writes-then setup client mine mid after x y z ends.ReadFault first more =
    wrote-then setup client mine mid after x y z first more
writes-then setup client mine mid after x y z ends.Unanswered first more =
    wrote-then setup client mine mid after x y z first more
writes-then setup client mine mid after x y z ends.LinkUnanswered first more =
    wrote-then setup client mine mid after x y z first more
writes-then setup client mine mid after x y z ends.WriteFault first more =
    front-then setup client mine mid after x y z first more
writes-then setup client mine mid after x y z (ends.Malformed fault) first more =
    wrote-then setup client mine mid after x y z first more
writes-then setup client mine mid after x y z ends.Memory first more =
    wrote-then setup client mine mid after x y z first more
writes-then setup client mine mid after x y z ends.Stopping first more =
    wrote-then setup client mine mid after x y z first more

-- nothing yet
pub wrote_none : (setup : Setup) (client : ℕ) (mine : Pass) (x : Option (List ℕ)) → Wrote (Asked setup client mine mine) x x
wrote_none setup client mine x =
    record { apdus = []; asked = asked_none setup client mine mine refl; taken = nothing x }
  where
    nothing : (x : Option (List ℕ)) → Appends x x []
    nothing None = tt
    nothing (Some xs) = sym (append-nil xs)

-- ---- behind a run

asked_loss : (setup : Setup) (client : ℕ) (mine mid after : Pass) (apdus : List ApduBuf)
    → Asked setup client mine mid apdus → TellsLoss setup client mid after → Asked setup client mine after apdus
asked_loss setup client mine mid after apdus first loss =
    subst (Asked setup client mine after) (append-nil apdus)
    (asked_then setup client mine mid after apdus [] first (record {
      calls = record { step = steps.ClientDown client loss.0; number = loss.1.0; reply = loss.1.1.0 } ∷ [];
      made = (after, (loss.1.1.1, refl));
      own = (refl, tt);
      given = refl;
      each = tt;
    }))

wrote_loss : (setup : Setup) (client : ℕ) (mine mid after : Pass) (x y : Option (List ℕ))
    → Wrote (Asked setup client mine mid) x y → TellsLoss setup client mid after → Wrote (Asked setup client mine after) x y
wrote_loss setup client mine mid after x y wrote loss = record {
  apdus = wrote.apdus;
  asked = asked_loss setup client mine mid after wrote.apdus wrote.asked loss;
  taken = wrote.taken;
}

wrote_same : (setup : Setup) (client : ℕ) (mine mid after : Pass) (x y : Option (List ℕ))
    → Wrote (Asked setup client mine mid) x y → after ≡ mid → Wrote (Asked setup client mine after) x y
wrote_same setup client mine mid after x y wrote same =
    subst (λ (p : Pass). Wrote (Asked setup client mine p) x y) (sym same) wrote

pub settled : (setup : Setup) (client : ℕ) (mine mid after : Pass) (x y : Option (List ℕ)) (put : Put)
    → WritesPut (Asked setup client mine mid) x y put → Settles setup client mid after put
    → WritesIfEnded (Asked setup client mine after) x y (writing_end put)
settled setup client mine mid after x y (Ended None) wrote settles =
    wrote_same setup client mine mid after x y wrote settles
settled setup client mine mid after x y (Ended (Some (Ok reply))) wrote settles =
    wrote_same setup client mine mid after x y wrote settles
settled setup client mine mid after x y (Ended (Some (Err fault))) wrote settles =
    wrote_loss setup client mine mid after x y wrote settles
settled setup client mine mid after x y Unwritten wrote settles = record {
  apdus = wrote.apdus;
  asked = asked_loss setup client mine mid after wrote.apdus wrote.asked settles;
  count = wrote.count;
  taken = wrote.taken;
}
settled setup client mine mid after x y More wrote settles =
    wrote_same setup client mine mid after x y wrote settles

-- a run that wasn't taken is settled by telling the loss
pub unwritten_lost : (setup : Setup) (client : ℕ) (mid after : Pass) (put : Put) → Settles setup client mid after put
    → is_write_fault (writing_end put) ≡ true → TellsLoss setup client mid after
unwritten_lost setup client mid after (Ended None) settles fault = absurd (cc fault)
unwritten_lost setup client mid after (Ended (Some (Ok reply))) settles fault = absurd (cc fault)
unwritten_lost setup client mid after (Ended (Some (Err why))) settles fault = absurd (cc fault)
unwritten_lost setup client mid after Unwritten settles fault = settles
unwritten_lost setup client mid after More settles fault = absurd (cc fault)

-- the actor that the worker is
pub writes_own : (setup : Setup) (client : ℕ) (mine after : Pass) (x y : Option (List ℕ)) (end : WorkerEnd)
    → Writes (Asked setup client mine after) x y end → after.actor ≡ mine.actor
writes_own setup client mine after x y (ends.Closed why) w = calls_own setup mine after w.asked.calls w.asked.made
writes_own setup client mine after x y ends.EndOfInput w = calls_own setup mine after w.asked.calls w.asked.made
writes_own setup client mine after x y ends.ReadFault w = calls_own setup mine after w.asked.calls w.asked.made
writes_own setup client mine after x y ends.Unanswered w = calls_own setup mine after w.asked.calls w.asked.made
writes_own setup client mine after x y ends.LinkUnanswered w = calls_own setup mine after w.asked.calls w.asked.made
writes_own setup client mine after x y ends.WriteFault w = calls_own setup mine after w.asked.calls w.asked.made
writes_own setup client mine after x y (ends.Malformed fault) w = calls_own setup mine after w.asked.calls w.asked.made
writes_own setup client mine after x y ends.Memory w = calls_own setup mine after w.asked.calls w.asked.made
writes_own setup client mine after x y ends.Stopping w = calls_own setup mine after w.asked.calls w.asked.made

-- ---- what was pumped under one hold of the lock

abbrev pub asking : ℕ → Pass → Asking
asking client pass = record { client = client; pass = pass }

given-all : (setup : Setup) (client : ℕ) (mine after : Pass) (apdus : List ApduBuf)
    → PumpsAll setup client mine apdus after
    → GivesAll (GivesTo setup) (asking client mine) apdus (asking client after)
given-all setup client mine after [] pumped = ap (asking client) pumped
given-all setup client mine after (x ∷ apdus) pumped = (
  asking client pumped.0,
  ((refl, pumped.1.0), given-all setup client pumped.0 after apdus pumped.1.1),
)

gave-pumped : (setup : Setup) (client : ℕ) (mine after : Pass) (before octets : List ℕ)
    → ArePumped setup client mine after before octets
    → Gave (GivesTo setup) (asking client mine) (asking client after) before octets
gave-pumped setup client mine after before octets are = record {
  apdus = are.apdus;
  given = given-all setup client mine after are.apdus are.pumped;
  octets = are.octets_are;
}

gathered-run : (setup : Setup) (client : ℕ) (mine after : Pass) (before octets : List ℕ) (pumped : Pumped)
    → IsPumpedRun setup client mine after before octets pumped
    → IsGathered (GivesTo setup) (asking client mine) (asking client after) before octets (gathered_by pumped)
gathered-run setup client mine after before octets (pumps.Ended reply) run = (
  asking client run.0,
  (gave-pumped setup client mine run.0 before octets run.1.0, (refl, run.1.1.0), run.1.1.1),
)
gathered-run setup client mine after before octets pumps.More run =
    gave-pumped setup client mine after before octets run

pub gathered-by : (setup : Setup) (client : ℕ) (mine after : Pass) (before octets : List ℕ) (pumped : Pumped)
    (how : Gathered) → how ≡ gathered_by pumped → IsPumpedRun setup client mine after before octets pumped
    → IsGathered (GivesTo setup) (asking client mine) (asking client after) before octets how
gathered-by setup client mine after before octets pumped how is run =
    subst (IsGathered (GivesTo setup) (asking client mine) (asking client after) before octets) (sym is)
    (gathered-run setup client mine after before octets pumped run)
