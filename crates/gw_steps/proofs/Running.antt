-- Runs, one step after the other.
use Rattle.std.proofs.Common.{◌≡◌, ℕ, zero, suc, ◌+◌, ◌<◌, ◌≤◌, List, [], ◌∷◌, ◌++◌, length, take}
use Rattle.std.proofs.Common.{get_or, Option, Some, None, Result, Ok, Err, refl, sym, ap, subst, ◌∙◌, arith}
use Rattle.std.specs.Prelude.{replicate, slice_get, IfSome, ◌*◌}
use Rattle.std.specs.List.{AllByRecursion}
use Rattle.std.proofs.lemmas.List.{length-map, length-take, take_more, take_all}
use Rattle.gw_entries.specs.Setup.{StationSetup}
use Rattle.gw_map.specs.Settings.{Setup}
use Rattle.gw_control.specs.Controls.{Controls, no_controls_after}
use Rattle.gw_control.specs.Held.{orders_of}
use Rattle.gw_control.proofs.Held.{none_held}
use Rattle.gw_control.proofs.Sounds.{none_sound}
use Rattle.gw_control.proofs.Whole.{none_whole}
use Rattle.gw_picture.proofs.ByType.{opening_rows}
use Rattle.gw_picture.proofs.Shows.{opening_shown}
use Rattle.gw_station.specs.Client.{Client, client_down, limits_of}
use Rattle.gw_station.specs.Sound.{IsSoundClient}
use Rattle.gw_steps.specs.declared.step.Step.{Step}
use Rattle.gw_steps.specs.declared.step.Reply.{Reply}
use Rattle.gw_steps.specs.declared.step.StepFault.{StepFault}
use Rattle.gw_steps.specs.State.{Counts, State, at_first, client_limit, first_after}
use Rattle.gw_steps.specs.Steps.{Allowed}
use Rattle.gw_steps.specs.Runs.{Entry, history, state_after, IsRun, AtEach}
use Rattle.gw_steps.specs.Sound.{IsSoundState, LeavesSound}

abbrev pub entry : Step → Result Reply StepFault → Entry
entry step reply = record { step = step; reply = reply }

-- what holds at each place holds at the last one
pub last_place : (P : List Entry → Type 0) (past : List Entry) → AtEach P past → P past
last_place P [] at = at
last_place P (e ∷ past) at = at.0

pub at_each : (P Q : List Entry → Type 0) → ((past : List Entry) → P past → Q past) → (past : List Entry)
    → AtEach P past → AtEach Q past
at_each P Q law [] at = law [] at
at_each P Q law (e ∷ past) at = (law (e ∷ past) at.0, at_each P Q law past at.1)

-- a run that led to a state, with sound states all the way
pub record Ran (setup : Setup) (past : List Entry) (s : State) : Type 0 where
  pub run : IsRun setup past
  pub state : s ≡ state_after setup past
  pub sound : AtEach (LeavesSound setup) past

-- ---- at first

all_down : (station : StationSetup) (steps news n : ℕ)
    → AllByRecursion (IsSoundClient station steps news) (replicate n (client_down (limits_of station) station.queue))
all_down station steps news zero = tt
all_down station steps news (suc n) = (
  record {
    window = record { limits = refl; waiting = omega arith; received = omega arith; sent = omega arith };
    confirmations = omega arith;
    places = omega arith;
    stopped = λ none. refl;
    answers = tt;
    limit = refl;
    few = omega arith;
    sendable = tt;
    dropped = omega arith;
    rest = tt;
  },
  all_down station steps news n,
)

-- no order holds a place
none_held_by : (setup : Setup) (c : ℕ) (v : Controls) (held : ℕ) → orders_of c v ≡ 0 → held ≡ 0
    → held ≡ 2 * orders_of c v
none_held_by setup c v held none nothing = omega (arith, none, nothing)

down_held : (one : Client) (n c : ℕ) → one.held ≡ 0
    → IfSome (slice_get (replicate n one) c) (λ (k : Client). k.held ≡ 0)
down_held one zero c none = tt
down_held one (suc n) zero none = none
down_held one (suc n) (suc c) none = down_held one n c none

-- what follows, if there is one
pub if_some : {A : Type 0} (P Q : A → Type 0) (x : Option A) → ((y : A) → P y → Q y) → IfSome x P → IfSome x Q
if_some P Q None step all = tt
if_some P Q (Some y) step all = step y all

pub sound_after : (setup : Setup) (counts : Counts) (orders : ℕ) → IsSoundState setup (first_after setup counts orders)
sound_after setup counts orders = record {
  picture = opening_shown setup.rows _ refl;
  rows = opening_rows setup.rows;
  masters = length-map setup.outstations _;
  clients = all_down setup.station counts.steps counts.news client_limit;
  controls = none_sound setup orders;
  commands = none_whole setup orders;
  held = λ c. if_some (λ (k : Client). k.held ≡ 0) (λ (k : Client). k.held ≡ 2 * orders_of c (no_controls_after orders setup))
      (slice_get (at_first setup).clients c)
      (λ k none. none_held_by setup c (no_controls_after orders setup) k.held (none_held setup orders c) none)
      (down_held (client_down (limits_of setup.station) setup.station.queue) client_limit c refl);
}

pub ran_first : (setup : Setup) → Ran setup [] (at_first setup)
ran_first setup = record { run = tt; state = refl; sound = sound_after setup (at_first setup).counts 0 }

-- ---- one step more

pub ran_step : (setup : Setup) (past : List Entry) (s new : State) (step : Step) (reply : Result Reply StepFault)
    → Allowed setup s step reply new → IsSoundState setup new → Ran setup past s
    → Ran setup (entry step reply ∷ past) new
ran_step setup past s new step (Ok r) allowed sound so_far =
    let here : Allowed setup (state_after setup past) step (Ok r) new =
    subst (λ (x : State). Allowed setup x step (Ok r) new) so_far.state allowed in
    record {
      run = ((here.0, refl), so_far.run);
      state = here.1;
      sound = (subst (IsSoundState setup) here.1 sound, so_far.sound);
    }
ran_step setup past s new step (Err f) allowed sound so_far =
    let here : Allowed setup (state_after setup past) step (Err f) new =
    subst (λ (x : State). Allowed setup x step (Err f) new) so_far.state allowed in
    record {
      run = ((here.0, refl), so_far.run);
      state = here.1;
      sound = (subst (IsSoundState setup) here.1 sound, so_far.sound);
    }

history-push : (past : List Entry) (ss : List Step) (rs : List (Result Reply StepFault)) (s : Step)
    (r : Result Reply StepFault) → length ss ≡ length rs
    → history past (ss ++ s ∷ []) (rs ++ r ∷ []) ≡ entry s r ∷ history past ss rs
history-push past [] [] s r e = refl
history-push past [] (x ∷ rs) s r e = absurd (omega arith)
history-push past (x ∷ ss) [] s r e = absurd (omega arith)
history-push past (x ∷ ss) (y ∷ rs) s r e = history-push (entry x y ∷ past) ss rs s r (omega arith)

-- one more step of a list of steps
pub run_on : (setup : Setup) (ss : List Step) (rs more : List (Result Reply StepFault)) (i : ℕ) (step : Step)
    (reply : Result Reply StepFault) (s new : State)
    → Allowed setup s step reply new → IsSoundState setup new → i < length ss → step ≡ get_or ss i step → length rs ≡ i
    → more ≡ rs ++ reply ∷ []
    → Ran setup (history [] (take i ss) rs) s → Ran setup (history [] (take (i + 1) ss) more) new
run_on setup ss rs more i step reply s new allowed sound within is len push so_far =
    let front : List Step = take i ss in
    let longer : take (i + 1) ss ≡ front ++ step ∷ [] =
    take_more ss i step within ∙ ap (λ (x : Step). front ++ x ∷ []) (sym is) in
    let same : length front ≡ length rs = omega (arith, length-take {A = Step} i ss, len, within) in
    let grown : history [] (take (i + 1) ss) more ≡ entry step reply ∷ history [] front rs =
    ap (λ (xs : List Step). history [] xs more) longer
    ∙ (ap (λ (ys : List (Result Reply StepFault)). history [] (front ++ step ∷ []) ys) push
    ∙ history-push [] front rs step reply same) in
    subst (λ (past : List Entry). Ran setup past new) (sym grown)
    (ran_step setup (history [] front rs) s new step reply allowed sound so_far)

-- all steps were made
pub run_all : (setup : Setup) (ss : List Step) (rs : List (Result Reply StepFault)) (i : ℕ) (s : State) → length ss ≤ i
    → Ran setup (history [] (take i ss) rs) s → Ran setup (history [] ss rs) s
run_all setup ss rs i s all so_far =
    subst (λ (xs : List Step). Ran setup (history [] xs rs) s) (take_all i ss all) so_far
