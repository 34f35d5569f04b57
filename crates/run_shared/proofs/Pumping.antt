-- Runs of pumps, one after the other.
use Rattle.std.proofs.Common.{◌≡◌, ◌+◌, ◌≤◌, inl, inr, ℕ, List, [], ◌∷◌, ◌++◌}
use Rattle.std.proofs.Common.{Result, Ok, refl, sym, ap, subst, ◌∙◌, append_assoc, arith}
use Rattle.std.proofs.lemmas.List.{append-nil}
use Rattle.iec_apci.specs.declared.buffer.ApduBuf.{ApduBuf}
use Rattle.gw_map.specs.Settings.{Setup}
use Rattle.gw_steps.specs.declared.step.Step.{Step}
use Rattle.gw_steps.specs.declared.step.Step.TheVariants.{Pump}
use Rattle.gw_steps.specs.Runs.{state_after}
use Rattle.gw_steps.specs.Sound.{LeavesSound}
use Rattle.gw_steps.proofs.Running.{last_place}
use Rattle.run_shared.specs.Reached.{entries_of, entry}
use Rattle.gw_steps.specs.declared.step.Reply.{Reply}
use Rattle.gw_steps.specs.declared.step.Reply.TheVariants.{Apdu}
use Rattle.gw_steps.specs.declared.step.StepFault.{StepFault}
use Rattle.run_shared.specs.Turn.{Answers, Pass}
use Rattle.run_shared.specs.Pumping.{ArePumped, IsGivenTo, IsPumpedRun, MayGoOn, PumpsAll, PumpsOnce}
use Rattle.iec_apci.specs.Joined.{joined, octets_in}
use Rattle.iec_apci.proofs.Joined.{joined-append}
use Rattle.run_shared.specs.declared.pumped.Pumped.{Pumped}
use Rattle.run_shared.specs.declared.pumped.Pumped.TheVariants.{Ended, More}

-- what a call that pumps is answered with
pub given_pumped : (setup : Setup) (mine after : Pass) (client : ℕ) (reply : Result Reply StepFault)
    → PumpsOnce setup client mine after reply → IsGivenTo client reply
given_pumped setup mine after client reply pumps = elim pumps.1.1 as (λ _. IsGivenTo client reply) [
  | inl told ↦ inl (record {
    setup = setup;
    state = state_after setup (entries_of told.before);
    sound = last_place (LeavesSound setup) (entries_of told.before) told.course.run.sound.1;
    moment = pumps.0;
    next = state_after setup (entry (Pump client pumps.0) reply ∷ entries_of told.before);
    allowed = told.course.run.run.0;
  })
  | inr refused ↦ inr refused.refused
]

-- whoever makes a call stays the actor that it is
pub same_actor : (setup : Setup) (mine after : Pass) (step : Step) (answer : ℕ × Result Reply StepFault)
    → Answers setup mine after step answer → after.actor ≡ mine.actor
same_actor setup mine after step answer answers = elim answers as (λ _. after.actor ≡ mine.actor) [
  | inl told ↦ ap (λ (p : Pass). p.actor) told.pass
  | inr refused ↦ ap (λ (p : Pass). p.actor) refused.pass
]

-- a call that is answered with an APDU is counted on the pass
pub counted_apdu : (setup : Setup) (mine after : Pass) (step : Step) (number : ℕ) (apdu : ApduBuf)
    → Answers setup mine after step (number, Ok (Apdu apdu)) → after.made ≡ mine.made + 1
counted_apdu setup mine after step number apdu answers = elim answers as (λ _. after.made ≡ mine.made + 1) [
  | inl told ↦ ap (λ (p : Pass). p.made) told.pass
  | inr refused ↦ absurd (cc refused.refused)
]

-- what is known of a call that pumps
pub ruleset pump_laws = (same_actor, counted_apdu)

-- a call for a step
pub once : (setup : Setup) (mine after : Pass) (client moment number : ℕ) (reply : Result Reply StepFault)
    → Answers setup mine after (Pump client moment) (number, reply) → PumpsOnce setup client mine after reply
once setup mine after client moment number reply answers = (moment, (number, answers))

all_then : (setup : Setup) (client : ℕ) (mine mid after : Pass) (a b : List ApduBuf) → PumpsAll setup client mine a mid
    → PumpsAll setup client mid b after → PumpsAll setup client mine (a ++ b) after
all_then setup client mine mid after [] b first more =
    subst (λ (p : Pass). PumpsAll setup client p b after) (sym first) more
all_then setup client mine mid after (x ∷ a) b first more =
    (first.0, (first.1.0, all_then setup client first.0 mid after a b first.1.1 more))

-- none
pub pumped_none : (setup : Setup) (client : ℕ) (mine : Pass) (octets : List ℕ)
    → ArePumped setup client mine mine octets octets
pumped_none setup client mine octets = record { apdus = []; pumped = refl; octets_are = sym (append-nil octets) }

-- some, and then more
pub pumped_then : (setup : Setup) (client : ℕ) (mine mid after : Pass) (x y z : List ℕ)
    → ArePumped setup client mine mid x y → ArePumped setup client mid after y z
    → ArePumped setup client mine after x z
pumped_then setup client mine mid after x y z first more = record {
  apdus = first.apdus ++ more.apdus;
  pumped = all_then setup client mine mid after first.apdus more.apdus first.pumped more.pumped;
  octets_are =
      more.octets_are ∙ (ap (λ (front : List ℕ). front ++ joined more.apdus) first.octets_are
      ∙ (append_assoc x (joined first.apdus) (joined more.apdus)
      ∙ ap (λ (back : List ℕ). x ++ back) (sym (joined-append first.apdus more.apdus))));
}

-- one more
pub pumped_one : (setup : Setup) (client : ℕ) (mine mid after : Pass) (x y z : List ℕ) (apdu : ApduBuf)
    → ArePumped setup client mine mid x y → PumpsOnce setup client mid after (Ok (Apdu apdu))
    → z ≡ y ++ octets_in apdu → ArePumped setup client mine after x z
pumped_one setup client mine mid after x y z apdu first pumped octets =
    pumped_then setup client mine mid after x y z first (record {
      apdus = apdu ∷ [];
      pumped = (after, (pumped, refl));
      octets_are = octets ∙ ap (λ (back : List ℕ). y ++ back) (sym (append-nil (octets_in apdu)));
    })

-- some, and then how the run ended
pub run_then : (setup : Setup) (client : ℕ) (mine mid after : Pass) (x y z : List ℕ) (pumped : Pumped)
    → ArePumped setup client mine mid x y → IsPumpedRun setup client mid after y z pumped
    → IsPumpedRun setup client mine after x z pumped
run_then setup client mine mid after x y z (Ended last) first more =
    (more.0, (pumped_then setup client mine mid more.0 x y z first more.1.0, more.1.1))
run_then setup client mine mid after x y z More first more =
    pumped_then setup client mine mid after x y z first more

-- what may go on after some calls may go on after more of them
pub may_go_on : (first mine after : Pass) (octets : List ℕ) (pumped : Pumped) → first.made ≤ mine.made
    → MayGoOn mine after octets pumped → MayGoOn first after octets pumped
may_go_on first mine after octets (Ended last) before may = may
may_go_on first mine after octets More before may = elim may as (λ _. MayGoOn first after octets More) [
  | inl full ↦ inl full
  | inr made ↦ inr (omega (arith, before, made))
]
