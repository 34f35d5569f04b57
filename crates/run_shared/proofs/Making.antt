-- Calls made one after another, some and then more.
use Rattle.std.proofs.Common.{◌≡◌, ℕ, false, List, [], ◌∷◌, ◌++◌, Result, Ok}
use Rattle.std.proofs.Common.{Err, refl, sym, ap, subst, ◌∙◌, append_assoc}
use Rattle.std.proofs.lemmas.List.{append-nil}
use Rattle.gw_steps.specs.declared.step.Step.{Step}
use Rattle.gw_steps.specs.declared.step.Reply.{Reply}
use Rattle.gw_steps.specs.declared.step.Reply.TheVariants.{Apdu, Closed, Done, Nothing, Request, Taken, Ticked, Verdict}
use Rattle.gw_steps.specs.declared.step.StepFault.{StepFault}
use Rattle.gw_steps.specs.Answers.{is_apdu}
use Rattle.gw_map.specs.Settings.{Setup}
use Rattle.run_shared.specs.Turn.{Core, Pass, Steps}
use Rattle.run_shared.specs.Made.{Answer, AreMade, IsMadeInto, octets_given, octets_of}

made-append : (setup : Setup) (step : Step) (old mid new : Core) (mine between after : Pass) (a b : List Answer)
    → AreMade setup step old mid mine between a → AreMade setup step mid new between after b
    → AreMade setup step old new mine after (a ++ b)
made-append setup step old mid new mine between after [] b first more =
    subst (λ (c : Core). AreMade setup step c new mine after b) first.0
    (subst (λ (p : Pass). AreMade setup step mid new p after b) first.1 more)
made-append setup step old mid new mine between after (x ∷ a) b first more = (
  first.0,
  (
    first.1.0,
    (
      first.1.1.0,
      made-append setup step first.0 mid new first.1.0 between after a b first.1.1.1 more,
    ),
  ),
)

octets-append : (a b : List Answer) → octets_of (a ++ b) ≡ octets_of a ++ octets_of b
octets-append [] b = refl
octets-append (x ∷ a) b =
    ap (λ (rest : List ℕ). octets_given x ++ rest) (octets-append a b)
    ∙ sym (append_assoc (octets_given x) (octets_of a) (octets_of b))

none_given : (number : ℕ) (reply : Result Reply StepFault) → is_apdu reply ≡ false → octets_given (number, reply) ≡ []
none_given number (Ok (Apdu apdu)) none = absurd (cc none)
none_given number (Ok Done) none = refl
none_given number (Ok (Verdict verdict)) none = refl
none_given number (Ok (Request request)) none = refl
none_given number (Ok Taken) none = refl
none_given number (Ok (Closed why)) none = refl
none_given number (Ok Nothing) none = refl
none_given number (Ok (Ticked closed)) none = refl
none_given number (Err fault) none = refl

-- an answer that is no APDU leaves octets as they are
pub nothing_given : (octets : List ℕ) (answer : Answer) → is_apdu answer.1 ≡ false
    → octets ≡ octets ++ octets_given answer
nothing_given octets answer none =
    sym (append-nil octets)
    ∙ ap (λ (back : List ℕ). octets ++ back) (sym (none_given answer.0 answer.1 none))

-- none was made
pub made_none : (setup : Setup) (step : Step) (core : Core) (mine : Pass) (octets : List ℕ)
    → IsMadeInto setup step core core mine mine octets octets
made_none setup step core mine octets = record { answers = []; made = (refl, refl); into = sym (append-nil octets) }

-- one was
pub made_one : (setup : Setup) (step : Step) (old new : Core) (mine after : Pass) (before octets : List ℕ) (answer : Answer)
    → Steps setup old new mine after step answer → octets ≡ before ++ octets_given answer
    → IsMadeInto setup step old new mine after before octets
made_one setup step old new mine after before octets answer steps into = record {
  answers = answer ∷ [];
  made = (new, (after, (steps, (refl, refl))));
  into = into ∙ ap (λ (rest : List ℕ). before ++ rest) (sym (append-nil (octets_given answer)));
}

-- some were, and then more
pub made_then : (setup : Setup) (step : Step) (old mid new : Core) (mine between after : Pass) (x y z : List ℕ)
    → IsMadeInto setup step old mid mine between x y → IsMadeInto setup step mid new between after y z
    → IsMadeInto setup step old new mine after x z
made_then setup step old mid new mine between after x y z first more = record {
  answers = first.answers ++ more.answers;
  made = made-append setup step old mid new mine between after first.answers more.answers first.made more.made;
  into =
      more.into ∙ (ap (λ (front : List ℕ). front ++ octets_of more.answers) first.into
      ∙ (append_assoc x (octets_of first.answers) (octets_of more.answers)
      ∙ ap (λ (back : List ℕ). x ++ back) (sym (octets-append first.answers more.answers))));
}
