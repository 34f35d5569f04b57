-- What changes of a client that is told what became of its orders: its answers, and the places that orders hold.
use Rattle.std.proofs.Common.{◌≡◌, ◌-◌, ◌*◌, Bool, true, false, cond, List, [], ◌∷◌, ◌++◌, map}
use Rattle.std.proofs.Common.{length, Option, Some, None, refl, sym, subst, ap, ◌∙◌, append_assoc, arith}
use Rattle.std.specs.Prelude.{◌&&◌, not, IfSome}
use Rattle.std.specs.List.{AllByRecursion}
use Rattle.std.proofs.lemmas.List.{append-nil}
use Rattle.iec_command.specs.declared.command.Action.{Action}
use Rattle.iec_command.specs.declared.command.Action.TheVariants as actions
use Rattle.iec_command.specs.declared.command.Command.{Command}
use Rattle.gw_control.specs.declared.answer.Outcome.{Outcome}
use Rattle.gw_control.specs.Moves.{is_operating}
use Rattle.gw_judge.specs.declared.judging.Judged.{Judged}
use Rattle.gw_judge.specs.declared.judging.Judged.TheVariants as judgements
use Rattle.gw_answers.specs.declared.outgoing.AsduAnswer.{AsduAnswer}
use Rattle.gw_answers.specs.declared.outgoing.AsduAnswer.TheVariants.{Made}
use Rattle.gw_answers.specs.declared.outgoing.OwnAsdu.{OwnAsdu}
use Rattle.gw_answers.specs.Answers.{command_by, control_command}
use Rattle.gw_answers.specs.Outgoing.{command_with, confirmed}
use Rattle.gw_station.specs.declared.event.Said.{Said}
use Rattle.gw_station.specs.declared.event.Said.TheVariants as saids
use Rattle.gw_station.specs.declared.sending.Sending.TheVariants as sendings
use Rattle.gw_station.specs.Answers.{held_with, told}
use Rattle.gw_station.specs.Client.{Client}
use Rattle.gw_steps.specs.Controls.{client_told_all, client_told_of, said_of_outcome}
use Rattle.law_history.proofs.Lives.{IsOperating}
use Rattle.law_clients.specs.Interrogations.{is_interrogation}
use Rattle.law_clients.specs.Line.{told_of, told_outcome, told_outcomes}
use Rattle.law_clients.specs.Mirror.{waiting_in}
use Rattle.law_clients.proofs.Parts.{IsApart}

-- ---- what stays

pub record IsSameBeside (k new : Client) : Type 0 where
  pub stage : new.stage ≡ k.stage
  pub window : new.window ≡ k.window
  pub limit : new.limit ≡ k.limit
  pub queue : new.queue ≡ k.queue
  pub dropped : new.dropped ≡ k.dropped
  pub older : new.older ≡ k.older
  pub rest : new.rest ≡ k.rest

pub same_beside : (xs : List Outcome) (k : Client) → IsSameBeside k (client_told_all xs k)
same_beside [] k = record {
  stage = refl;
  window = refl;
  limit = refl;
  queue = refl;
  dropped = refl;
  older = refl;
  rest = refl;
}
same_beside (x ∷ xs) k =
    let more = same_beside xs (client_told_of x k) in
    record {
      stage = more.stage;
      window = more.window;
      limit = more.limit;
      queue = more.queue;
      dropped = more.dropped;
      older = more.older;
      rest = more.rest;
    }

-- ---- what changes

-- what the station says of an outcome is what has to be told of it
told_is : (x : Outcome) → told x.command (said_of_outcome x) ≡ told_outcome x
told_is x = by x.done
  where
    by : (done : Bool) → told x.command (cond done saids.Done saids.Failed) ≡ cond done
        (confirmed false x.command ∷ command_with 10 false x.command ∷ []) (confirmed true x.command ∷ [])
    by true = refl
    by false = refl

pub answers_told : (xs : List Outcome) (k : Client) → (client_told_all xs k).answers ≡ k.answers ++ told_outcomes xs
answers_told [] k = sym (append-nil k.answers)
answers_told (x ∷ xs) k =
    answers_told xs (client_told_of x k)
    ∙ (append_assoc k.answers (map Made (told x.command (said_of_outcome x))) (told_outcomes xs)
    ∙ ap (λ (said : List OwnAsdu). k.answers ++ (map Made said ++ told_outcomes xs)) (told_is x))

-- each outcome frees two places
pub held_told : (xs : List Outcome) (k : Client) → (client_told_all xs k).held ≡ k.held - 2 * length xs
held_told [] k = omega arith
held_told (x ∷ xs) k = omega (arith, held_told xs (client_told_of x k), one x.done)
  where
    one : (done : Bool) → held_with (cond done saids.Done saids.Failed) k.held ≡ k.held - 2
    one true = refl
    one false = refl

-- ---- what is told

operating_is : (action : Action) → is_operating action ≡ true → is_interrogation action ≡ false
operating_is (actions.Single x) e = refl
operating_is (actions.Double x) e = refl
operating_is (actions.Setpoint x) e = refl
operating_is (actions.Interrogation qualifier) e = absurd cc
operating_is (actions.CounterInterrogation qualifier) e = absurd cc
operating_is actions.Read e = absurd cc

pub all_joined : (xs ys : List AsduAnswer) → AllByRecursion IsApart xs → AllByRecursion IsApart ys
    → AllByRecursion IsApart (xs ++ ys)
all_joined [] ys ax ay = ay
all_joined (x ∷ xs) ys ax ay = (ax.0, all_joined xs ys ax.1 ay)

-- nothing of it is taken for a part of the answer to an interrogation
told_apart : (command : Command) (said : Said) → is_operating command.action ≡ true
    → AllByRecursion IsApart (map Made (told command said))
told_apart command said operating = by said
  where
    apart : (negative : Bool) → is_interrogation command.action && not negative ≡ false
    apart negative = ap (λ (b : Bool). b && not negative) (operating_is command.action operating)

    by : (said : Said) → AllByRecursion IsApart (map Made (told command said))
    by saids.Confirm = (apart false, tt)
    by saids.Negative = (apart true, tt)
    by saids.Ordered = tt
    by saids.Done = (apart false, (apart false, tt))
    by saids.Failed = (apart true, tt)

pub outcomes_apart : (xs : List Outcome) → AllByRecursion IsOperating xs → AllByRecursion IsApart (told_outcomes xs)
outcomes_apart [] all = tt
outcomes_apart (x ∷ xs) all =
    all_joined (map Made (told_outcome x)) (told_outcomes xs)
    (subst (λ (said : List OwnAsdu). AllByRecursion IsApart (map Made said)) (told_is x)
    (told_apart x.command (said_of_outcome x) all.0))
    (outcomes_apart xs all.1)

-- a command for a control has a type that operates controls
control_operates : (c : Command) (action : Action) → c.action ≡ action
    → IfSome (control_command c action) (λ x. is_operating x.action ≡ true)
control_operates c (actions.Single x) e = ap is_operating e
control_operates c (actions.Double x) e = ap is_operating e
control_operates c (actions.Setpoint x) e = ap is_operating e
control_operates c (actions.Interrogation qualifier) e = tt
control_operates c (actions.CounterInterrogation qualifier) e = tt
control_operates c actions.Read e = tt

command_operates : (j : Judged) → IfSome (command_by j) (λ x. is_operating x.action ≡ true)
command_operates judgements.Malformed = tt
command_operates (judgements.Refuse cause execute) = tt
command_operates (judgements.Accepted c) = control_operates c c.action refl

pub command_apart : (said : Command → Said) (j : Judged) → AllByRecursion IsApart (told_of said (command_by j))
command_apart said j = by (command_by j) (command_operates j)
  where
    by : (command : Option Command) → IfSome command (λ x. is_operating x.action ≡ true)
        → AllByRecursion IsApart (told_of said command)
    by None operates = tt
    by (Some command) operates = told_apart command (said command) operates

-- ---- no observation is told

told_none : (command : Command) (said : Said) → waiting_in (map sendings.Answer (map Made (told command said))) ≡ []
told_none command saids.Confirm = refl
told_none command saids.Negative = refl
told_none command saids.Ordered = refl
told_none command saids.Done = refl
told_none command saids.Failed = refl

pub command_none : (said : Command → Said) (command : Option Command)
    → waiting_in (map sendings.Answer (told_of said command)) ≡ []
command_none said None = refl
command_none said (Some command) = told_none command (said command)

pub outcomes_none : (xs : List Outcome) → waiting_in (map sendings.Answer (told_outcomes xs)) ≡ []
outcomes_none [] = refl
outcomes_none (x ∷ xs) = by x.done (outcomes_none xs)
  where
    by : (done : Bool) → waiting_in (map sendings.Answer (told_outcomes xs)) ≡ []
        → waiting_in (map sendings.Answer (map Made (cond done (confirmed false x.command
        ∷ command_with 10 false x.command ∷ []) (confirmed true x.command ∷ [])) ++ told_outcomes xs)) ≡ []
    by true others = others
    by false others = others
