-- Every run binds its requests to accepted executes.
use Rattle.std.proofs.Common.{◌≡◌, ℕ, zero, suc, ◌+◌, ◌≤◌, Bool, true, false, List, []}
use Rattle.std.proofs.Common.{◌∷◌, ◌++◌, length, replicate, Option, Some, None, Result}
use Rattle.std.proofs.Common.{Ok, Err, option_map, refl, sym, ap, subst, ◌∙◌, arith}
use Rattle.std.specs.Prelude.{slice_get}
use Rattle.std.specs.List.{AllByRecursion}
use Rattle.std.specs.Option.{option_to_list}
use Rattle.gw_entries.specs.declared.control.Control.{Control}
use Rattle.gw_entries.specs.Setup.{OutstationSetup}
use Rattle.gw_map.specs.Settings.{Setup, control_at_from}
use Rattle.gw_picture.proofs.Lists.{map-get}
use Rattle.dnp_app.specs.declared.operation.Operation.{Operation}
use Rattle.dnp_app.specs.declared.operation.Operation.TheVariants.{Select, Operate, DirectOperate}
use Rattle.dnp_app.specs.declared.request.Request.{Request}
use Rattle.dnp_app.specs.Requests.{octets_of}
use Rattle.dnp_master.specs.Master.{master_down}
use Rattle.iec_command.specs.declared.command.Command.{Command}
use Rattle.gw_control.specs.Controls.{is_sbo}
use Rattle.gw_control.specs.Intents.{control_for, if_of_type}
use Rattle.gw_control.specs.Orders.{nothing_outgoing}
use Rattle.gw_steps.specs.declared.step.Step.{Step}
use Rattle.gw_steps.specs.declared.step.Step.TheVariants as steps
use Rattle.gw_steps.specs.declared.step.StepFault.{StepFault}
use Rattle.gw_steps.specs.declared.step.Reply.{Reply}
use Rattle.gw_steps.specs.Controls.{answer_to}
use Rattle.gw_steps.specs.State.{State, at_first}
use Rattle.gw_steps.specs.Steps.{Allowed, command_of, latest}
use Rattle.gw_steps.specs.Runs.{AtEach, Entry, IsRun, state_after}
use Rattle.gw_steps.specs.Sound.{LeavesSound}
use Rattle.gw_steps.proofs.Running.{entry, last_place, at_each}
use Rattle.law_orders.specs.Executes.{Execute, execute_answered, execute_by, execute_in, execute_of, executes, numbered}
use Rattle.law_orders.specs.Marks.{Mark, Asked, Answered, given_in, marks}
use Rattle.law_orders.specs.ToldOnce.{TellsOnce, told}
use Rattle.law_orders.specs.Bonds.{Bonds, HasShortIndex, IsBonded, IsBound, IsBoundTo, IsControlRun}
use Rattle.law_orders.specs.Bonds.{LastIsBound, MayAsk, NoOperation, OperatesNothing, OperatesOnce}
use Rattle.law_orders.specs.Bonds.{operated, operates, operation_in, is_control_request}
use Rattle.law_orders.proofs.Held.{held}
use Rattle.law_orders.proofs.Story.{Holds, OfOrder, Story, Tied, story}
use Rattle.law_orders.proofs.BondsTold.{ToldTied}
use Rattle.law_orders.proofs.BondSteps.{StepTied, step_tied}

-- ---- at first

holds_first : (t : Story) (o n p : ℕ) (x : Option OutstationSetup)
    → Holds t o (option_map (λ (outstation : OutstationSetup). master_down outstation.poll) x)
    (slice_get (replicate n nothing_outgoing) p)
holds_first t o zero p None = record { waiting = tt; going = refl; small = omega arith; down = λ e. refl }
holds_first t o zero p (Some x) = record { waiting = tt; going = refl; small = omega arith; down = λ e. refl }
holds_first t o (suc n) zero None = record { waiting = tt; going = refl; small = omega arith; down = λ e. refl }
holds_first t o (suc n) zero (Some x) = record { waiting = tt; going = refl; small = omega arith; down = λ e. refl }
holds_first t o (suc n) (suc p) x = holds_first t o n p x

first_tied : (setup : Setup) → Tied (story setup []) (at_first setup).outstations (at_first setup).controls
first_tied setup = record {
  count = refl;
  places = λ o. rw (map-get (λ (outstation : OutstationSetup). master_down outstation.poll) setup.outstations o)
      (holds_first (story setup []) o (length setup.outstations) o (slice_get setup.outstations o));
  bonded = λ n. refl;
}

none_held : (n count : ℕ) → held n (replicate count nothing_outgoing) ≡ 0
none_held n zero = refl
none_held n (suc count) = omega (arith, none_held n count)

first_told : (setup : Setup) → ToldTied (story setup []) (at_first setup).controls.outgoing []
first_told setup = record {
  numbers = [];
  tell = tt;
  once = λ n. omega (arith, none_held n (length setup.outstations));
}

-- ---- each place

pub record Place (setup : Setup) (past : List Entry) : Type 0 where
  pub tied : Tied (story setup past) (state_after setup past).outstations (state_after setup past).controls
  pub bound : LastIsBound setup past
  pub told : ToldTied (story setup past) (state_after setup past).controls.outgoing (told setup past)

earlier : (setup : Setup) (e : Entry) (past : List Entry) → IsControlRun setup (e ∷ past) → IsControlRun setup past
earlier setup e past given = record { run = given.run.1; sound = given.sound.1; indices = given.indices }

one_more : (setup : Setup) (past : List Entry) (step : Step) (reply : Result Reply StepFault)
    → AllByRecursion HasShortIndex setup.controls → LeavesSound setup past
    → Allowed setup (state_after setup past) step reply (state_after setup (entry step reply ∷ past))
    → Place setup past → Place setup (entry step reply ∷ past)
one_more setup past step (Ok r) short sound allowed before =
    let k : StepTied setup past step r _ _ = step_tied setup past step r short sound.controls allowed.0 before.tied in
    record { tied = k.tied; bound = k.bound; told = k.told (told setup past) before.told }
one_more setup past step (Err f) short sound allowed before =
    record { tied = before.tied; bound = tt; told = before.told }

pub places : (setup : Setup) (past : List Entry) → IsControlRun setup past → AtEach (Place setup) past
places setup [] given = record { tied = first_tied setup; bound = tt; told = first_told setup }
places setup (e ∷ past) given =
    let so_far = places setup past (earlier setup e past given) in (
      one_more setup past e.step e.reply given.indices (last_place (LeavesSound setup) past given.sound.1) given.run.0
          (last_place (Place setup) past so_far),
      so_far,
    )

-- ---- requests are bound

bonds_of : (setup : Setup) (past : List Entry) → Place setup past → Bonds setup past
bonds_of setup past k = record {
  last = k.bound;
  bonded = λ n x e. subst (λ (y : Option Execute). OfOrder y (marks n past)) e (k.tied.bonded n);
  no_other = λ n e. subst (λ (y : Option Execute). OfOrder y (marks n past)) e (k.tied.bonded n);
}

pub bound : (setup : Setup) (past : List Entry) → IsControlRun setup past → AtEach (Bonds setup) past
bound setup past given = at_each (Place setup) (Bonds setup) (bonds_of setup) past (places setup past given)

-- ---- one operation at most

none_before : (x : ℕ) (ms : List Mark) → x ≤ 1 → ms ≡ [] → x + operated ms ≤ 1
none_before x ms le none = let nothing : operated ms ≡ 0 = ap operated none in omega (arith, le, nothing)

asked_once : (sbo : Bool) (operation : Option Operation) (o : ℕ) (r : Request) (before : List Mark)
    → MayAsk sbo operation o r before → operates operation + operated before ≤ 1
asked_once false (Some DirectOperate) o r before may = none_before 1 before (omega arith) may
asked_once true (Some Select) o r before may = none_before 0 before (omega arith) may
asked_once true (Some Operate) o r before may =
    let one : operates (operation_in may.selecting) ≡ 0 = ap operates may.select in
    let nothing : operated before ≡ 0 + (operates (operation_in may.selecting) + 0) = ap operated may.marks in
    omega (arith, one, nothing)
asked_once false (Some Select) o r before may = absurd may
asked_once false (Some Operate) o r before may = absurd may
asked_once false None o r before may = absurd may
asked_once true (Some DirectOperate) o r before may = absurd may
asked_once true None o r before may = absurd may

once : (sbo : Bool) (ms : List Mark) → IsBonded sbo ms → operated ms ≤ 1
once sbo [] k = omega arith
once sbo (Asked o r ∷ before) k = asked_once sbo (operation_in r) o r before k.0
once sbo (Answered done ∷ before) k = omega (arith, once sbo before k.1)

of_order_once : (x : Option Execute) (ms : List Mark) → OfOrder x ms → operated ms ≤ 1
of_order_once None ms none = let nothing : operated ms ≡ 0 = ap operated none in omega (arith, nothing)
of_order_once (Some x) ms k = once (is_sbo x.control.mode) ms k

pub operated_once : (setup : Setup) (past : List Entry) → IsControlRun setup past → AtEach OperatesOnce past
operated_once setup past given =
    at_each (Place setup) OperatesOnce
    (λ before k n. of_order_once (numbered n (executes setup before)) (marks n before) (k.tied.bonded n)) past
    (places setup past given)

-- ---- outcomes

tells_of : (setup : Setup) (past : List Entry) → Place setup past → TellsOnce setup past
tells_of setup past k = record {
  numbers = k.told.numbers;
  tell = k.told.tell;
  once = λ n. omega (arith, k.told.once n);
}

pub told_once : (setup : Setup) (past : List Entry) → IsControlRun setup past → AtEach (TellsOnce setup) past
told_once setup past given =
    at_each (Place setup) (TellsOnce setup) (tells_of setup) past (places setup past given)

-- ---- without controls

no_control : (setup : Setup) (c : Command) → setup.controls ≡ [] → control_for setup c ≡ None
no_control setup c none =
    ap (λ (controls : List Control). if_of_type c.action (control_at_from 0 c.common_address c.address controls)) none

nobody_executes : (setup : Setup) (s : State) (moment c : ℕ) (command : Option Command) → setup.controls ≡ []
    → execute_by setup s moment c command ≡ None
nobody_executes setup s moment c None none = refl
nobody_executes setup s moment c (Some command) none =
    ap (λ (found : Option (ℕ × Control)). execute_answered c command found (answer_to setup s moment c command))
    (no_control setup command none)

no_execute_of : (setup : Setup) (s : State) (step : Step) → setup.controls ≡ [] → execute_of setup s step ≡ None
no_execute_of setup s (steps.Frame c apdu m) none =
    nobody_executes setup s (latest s m) c (command_of setup apdu (slice_get s.clients c)) none
no_execute_of setup s (steps.OutstationUp o m) none = refl
no_execute_of setup s (steps.OutstationDown o m) none = refl
no_execute_of setup s (steps.Fragment f m) none = refl
no_execute_of setup s (steps.Poll o m wall) none = refl
no_execute_of setup s (steps.ClientUp c m) none = refl
no_execute_of setup s (steps.ClientDown c m) none = refl
no_execute_of setup s (steps.Pump c m) none = refl
no_execute_of setup s (steps.Tick m) none = refl

no_execute_in : (setup : Setup) (past : List Entry) (step : Step) (reply : Result Reply StepFault)
    → setup.controls ≡ [] → execute_in setup past (entry step reply) ≡ None
no_execute_in setup past step (Ok r) none = no_execute_of setup (state_after setup past) step none
no_execute_in setup past step (Err f) none = refl

no_executes : (setup : Setup) (past : List Entry) → setup.controls ≡ [] → executes setup past ≡ []
no_executes setup [] none = refl
no_executes setup (e ∷ past) none =
    ap (λ (x : Option Execute). option_to_list x ++ executes setup past)
    (no_execute_in setup past e.step e.reply none)
    ∙ no_executes setup past none

not_bound : (o : ℕ) (r : Request) (bond : Option ℕ) → IsBoundTo [] o r bond
    → is_control_request (octets_of r) ≡ false
not_bound o r None k = k
not_bound o r (Some n) k = absurd (let none : None ≡ Some k.execute = k.at in let no : ⊥ = cc in no)

no_operation : (given : Option (ℕ × Request)) → IsBound [] given → NoOperation given
no_operation None k = tt
no_operation (Some given) k = not_bound given.0 given.1 given.1.bond k

operates_nothing : (setup : Setup) → setup.controls ≡ [] → (past : List Entry) → Place setup past
    → OperatesNothing past
operates_nothing setup none [] k = tt
operates_nothing setup none (e ∷ past) k =
    no_operation (given_in e)
    (subst (λ (xs : List Execute). IsBound xs (given_in e)) (no_executes setup past none) k.bound)

pub without_controls : (setup : Setup) (past : List Entry) → setup.controls ≡ [] → IsRun setup past
    → AtEach (LeavesSound setup) past → AtEach OperatesNothing past
without_controls setup past none run sound =
    at_each (Place setup) OperatesNothing (operates_nothing setup none) past
    (places setup past (record {
      run = run;
      sound = sound;
      indices = subst (λ (cs : List Control). AllByRecursion HasShortIndex cs) (sym none) tt;
    }))
