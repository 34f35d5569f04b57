-- What an APDU of a client makes of the selections whose sessions stand.
use Rattle.std.proofs.Common.{◌≡◌, ℕ, zero, suc, ◌+◌, ◌<◌, ◌≤◌, Bool, true, false, cond, not, List, []}
use Rattle.std.proofs.Common.{◌∷◌, length, Option, Some, None, option_map, refl, sym, ap, subst, ◌∙◌, arith}
use Rattle.std.specs.Prelude.{◌==◌, ◌&&◌, slice_get, slice_index}
use Rattle.std.proofs.lemmas.Option.{slice_get_within}
use Rattle.gw_model.specs.Places.{change}
use Rattle.gw_entries.specs.declared.control.Control.{Control}
use Rattle.gw_map.specs.Settings.{Setup, control_at_from}
use Rattle.gw_picture.proofs.Lists.{change-length}
use Rattle.iec_apci.specs.declared.apdu.Asdu.{Asdu}
use Rattle.iec_apci.specs.declared.apdu.Apdu.{Apdu}
use Rattle.iec_apci.specs.declared.apdu.Apdu.TheVariants.{I, S, U}
use Rattle.iec_apci.specs.declared.apdu.Signal.TheVariants.{StartAct, StartCon, StopAct, StopCon, TestAct, TestCon}
use Rattle.iec_command.specs.declared.command.Action.{Action}
use Rattle.iec_command.specs.declared.command.Command.{Command}
use Rattle.gw_control.specs.declared.asked.AskedCommand.{AskedCommand}
use Rattle.gw_control.specs.Controls.{Controls, controls_after_at, controls_after_end}
use Rattle.gw_control.specs.Intents.{control_for, if_of_type, is_of_type}
use Rattle.gw_control.specs.Moves.{IsSoundControls}
use Rattle.iec_apci.specs.declared.why.Why.{Why}
use Rattle.gw_station.specs.Client.{Client, is_started}
use Rattle.gw_station.specs.Frames.{begins, client_taking, close_of, command_in, event_by, event_taking}
use Rattle.gw_steps.specs.declared.step.Step.TheVariants as steps
use Rattle.gw_steps.specs.declared.step.Reply.{Reply}
use Rattle.gw_steps.specs.declared.step.Reply.TheVariants as replies
use Rattle.gw_steps.specs.Controls.{asked_by, controls_after_event}
use Rattle.gw_steps.specs.State.{State, client_limit}
use Rattle.gw_steps.specs.Steps.{client_after_frame, latest, one_if, reply_of_event, said_to, sessions_with}
use Rattle.gw_steps.specs.Runs.{Entry}
use Rattle.law_orders.specs.Sessions.{ends_session}
use Rattle.law_orders.specs.Selections.{Selected, moment_at, selected_by, selected_if, selected_with, unless_by}
use Rattle.law_orders.proofs.Opened.{Fresh, Leaves, end_leaves, fresh_begun, fresh_left}
use Rattle.law_orders.proofs.Opened.{open_at, open_left, still_leaves, unless_none, unless_same}
use Rattle.law_orders.proofs.Commanded.{commanded}
use Rattle.gw_steps.specs.Queries.{started_at}
use Rattle.law_orders.proofs.Stages.{begun_stage, closed_begins, closed_stage, information_started, stage_changed}
use Rattle.law_orders.proofs.Stages.{stage_stays, stage_there, stopped_stage, taken_begins, taken_stage}

-- ---- the sessions of all clients

-- there is a place for each client, and their sessions are apart
pub record IsFresh (clients : List Client) (numbers : List ℕ) (count : ℕ) (v : Controls) : Type 0 where
  pub few : length clients ≡ client_limit
  pub each : length numbers ≡ client_limit
  pub fresh : Fresh (λ c. started_at (slice_get clients c)) (λ c. slice_index numbers c) count v

-- some sessions end, and none begins
pub leaving : (ends : ℕ → Bool) (ks js : List Client) (numbers : List ℕ) (count more : ℕ) (v w : Controls)
    → length js ≡ length ks
    → ((c : ℕ) → started_at (slice_get js c) ≡ cond (ends c) false (started_at (slice_get ks c))) → count ≤ more
    → Leaves ends v w → IsFresh ks numbers count v → IsFresh js numbers more w
leaving ends ks js numbers count more v w same stages le k fresh = record {
  few = same ∙ fresh.few;
  each = fresh.each;
  fresh = fresh_left ends (λ c. started_at (slice_get ks c)) (λ c. started_at (slice_get js c))
      (λ c. slice_index numbers c) count more v w stages le k fresh.fresh;
}

index_there : (n d y : ℕ) (xs : List ℕ) → (n ≡ d → ⊥) → slice_index (change n (λ _. y) xs) d ≡ slice_index xs d
index_there n d y [] ne = refl
index_there zero zero y (x ∷ xs) ne = absurd (ne refl)
index_there zero (suc d) y (x ∷ xs) ne = refl
index_there (suc n) zero y (x ∷ xs) ne = refl
index_there (suc n) (suc d) y (x ∷ xs) ne = index_there n d y xs (λ e. ne (ap suc e))

index_here : (n y : ℕ) (xs : List ℕ) → n < length xs → slice_index (change n (λ _. y) xs) n ≡ y
index_here n y [] lt = absurd (omega arith)
index_here zero y (x ∷ xs) lt = refl
index_here (suc n) y (x ∷ xs) lt = index_here n y xs (omega arith)

-- client c wasn't started, and its session begins
beginning : (c : ℕ) (f : Client → Client) (ks : List Client) (numbers : List ℕ) (count : ℕ) (v : Controls) (k : Client)
    → slice_get ks c ≡ Some k → is_started k.stage ≡ false → IsFresh ks numbers count v
    → IsFresh (change c f ks) (change c (λ _. count + 1) numbers) (count + 1) v
beginning c f ks numbers count v k at stopped fresh = record {
  few = change-length c f ks ∙ fresh.few;
  each = change-length c (λ _. count + 1) numbers ∙ fresh.each;
  fresh = fresh_begun c (λ d. started_at (slice_get ks d)) (λ d. started_at (slice_get (change c f ks) d))
      (λ d. slice_index numbers d) (λ d. slice_index (change c (λ _. count + 1) numbers) d) count v
      (λ d ne. stage_there c f ks d ne) (λ d ne. index_there c d (count + 1) numbers ne)
      (index_here c (count + 1) numbers (omega (arith, slice_get_within ks c k at, fresh.few, fresh.each)))
      (ap started_at at ∙ stopped) fresh.fresh;
}

-- ---- the position of a control

abbrev Within : ℕ → Option (ℕ × Control) → Type 0
Within n None = Unit {0}
Within n (Some found) = found.0 < n

first_within : (common address n m : ℕ) (controls : List Control) → m ≡ n + length controls
    → Within m (control_at_from n common address controls)
first_within common address n m [] is = tt
first_within common address n m (control ∷ more) is =
    by (first_within common address (n + 1) m more (omega (arith, is)))
    ((common == control.common_address) && (address == control.address))
  where
    by : Within m (control_at_from (n + 1) common address more) → (b : Bool)
        → Within m (cond b (Some (n, control)) (control_at_from (n + 1) common address more))
    by rest true = omega (arith, is)
    by rest false = rest

typed_within : (n : ℕ) (action : Action) (found : Option (ℕ × Control)) → Within n found
    → Within n (if_of_type action found)
typed_within n action None within = tt
typed_within n action (Some found) within = by (is_of_type action found.1.operates)
  where
    by : (b : Bool) → Within n (cond b (Some found) None)
    by true = within
    by false = tt

pub found_within : (setup : Setup) (c : Command) (found : ℕ × Control) → control_for setup c ≡ Some found
    → found.0 < length setup.controls
found_within setup c found is =
    subst (Within (length setup.controls)) is
    (typed_within (length setup.controls) c.action (control_at_from 0 c.common_address c.address setup.controls)
    (first_within c.common_address c.address 0 (length setup.controls) setup.controls (omega arith)))

-- ---- an APDU

-- what it makes of the clients, by whether a session begins, and of the controls
pub record Framed (setup : Setup) (past : List Entry) (c m : ℕ) (apdu : Apdu) (s : State) (f : Client → Client)
    (begun : Bool) (w : Controls) (r : Reply) : Type 0 where
  pub fresh : IsFresh (change c f s.clients) (sessions_with begun c s.counts s.sessions)
      (s.counts.sessions + one_if begun) w
  pub opened : (p : ℕ) → open_at p w ≡ selected_with setup p past (steps.Frame c apdu m) (open_at p s.controls) r

abbrev pub FreshState : State → Type 0
FreshState s = IsFresh s.clients s.sessions s.counts.sessions s.controls

-- the session of its client ends
pub ending : (c : ℕ) (s : State) (f : Client → Client) (k : Client) → slice_get s.clients c ≡ Some k
    → is_started (f k).stage ≡ false → FreshState s
    → IsFresh (change c f s.clients) s.sessions (s.counts.sessions + 0) (controls_after_end c s.controls)
ending c s f k at stopped fresh =
    leaving (λ d. d == c) s.clients (change c f s.clients) s.sessions s.counts.sessions (s.counts.sessions + 0)
    s.controls (controls_after_end c s.controls) (change-length c f s.clients)
    (λ d. stage_changed c f s.clients d k false at stopped) (omega arith) (end_leaves c s.controls) fresh

-- no session begins or ends
pub staying : (c : ℕ) (s : State) (f : Client → Client) (k : Client) (w : Controls) → slice_get s.clients c ≡ Some k
    → is_started (f k).stage ≡ is_started k.stage → IsFresh s.clients s.sessions s.counts.sessions w
    → IsFresh (change c f s.clients) s.sessions (s.counts.sessions + 0) w
staying c s f k w at same fresh =
    leaving (λ d. false) s.clients (change c f s.clients) s.sessions s.counts.sessions (s.counts.sessions + 0) w w
    (change-length c f s.clients) (λ d. stage_stays c f s.clients d k at same) (omega arith)
    (still_leaves w w refl refl) fresh

-- ---- an APDU that closes

closes_framed : (setup : Setup) (past : List Entry) (c m : ℕ) (apdu : Apdu) (s : State) (f : Client → Client)
    (k : Client) (why : Why) → slice_get s.clients c ≡ Some k → is_started (f k).stage ≡ false → FreshState s
    → Framed setup past c m apdu s f false (controls_after_end c s.controls) (replies.Closed why)
closes_framed setup past c m apdu s f k why at stopped fresh = record {
  fresh = ending c s f k at stopped fresh;
  opened = λ p. open_left (λ d. d == c) s.controls (controls_after_end c s.controls) p (end_leaves c s.controls);
}

-- ---- an I format that is taken

pub taken_reply : (command : Option Command) → reply_of_event (event_taking command) ≡ replies.Taken
taken_reply None = refl
taken_reply (Some command) = refl

module _ (setup : Setup) (past : List Entry) (c m ns nr : ℕ) (asdu : Asdu) (s : State) (k : Client) where
  abbrev apdu : Apdu
  apdu = I ns nr asdu

  abbrev moment : ℕ
  moment = latest s m

  -- the control that the command is for
  for_found : (command : Command) (found : Option (ℕ × Control)) → control_for setup command ≡ found
      → slice_get s.clients c ≡ Some k → is_started k.stage ≡ true → IsSoundControls setup s.controls → FreshState s
      → let w : Controls = controls_after_at setup (asked_by setup s moment c command) found s.controls in
      IsFresh s.clients s.sessions s.counts.sessions w
      × ((p : ℕ) → open_at p w ≡ selected_if setup p c moment command found (open_at p s.controls))
  for_found command None is at up sound fresh = (fresh, λ p. refl)
  for_found command (Some found) is at up sound fresh =
      let a : AskedCommand = asked_by setup s moment c command in
      let here : c < length s.controls.sessions =
      omega (arith, slice_get_within s.clients c k at, fresh.few, sound.sessions) in
      let there : found.0 < length s.controls.selections =
      omega (arith, found_within setup command found is, sound.selections) in
      let all = commanded setup (λ d. started_at (slice_get s.clients d)) (λ d. slice_index s.sessions d)
      s.counts.sessions a found.0 found.1 s.controls fresh.fresh (ap started_at at ∙ up) refl here there in
      (record { few = fresh.few; each = fresh.each; fresh = all.fresh }, all.opened)

  -- its command, if it carries one
  for_command : (command : Option Command) → latest s m ≡ moment_at past (steps.Frame c apdu m)
      → slice_get s.clients c ≡ Some k → is_started k.stage ≡ true → IsSoundControls setup s.controls → FreshState s
      → let w : Controls = controls_after_event setup s moment c apdu (event_taking command) in
      IsFresh s.clients s.sessions s.counts.sessions w
      × ((p : ℕ) → open_at p w ≡ selected_by setup p (moment_at past (steps.Frame c apdu m))
      (option_map {U = ℕ × Command} (λ (x : Command). (c, x)) command)
      (unless_by (λ d. false) (open_at p s.controls)))
  for_command None told at up sound fresh = (fresh, λ p. sym (unless_none (open_at p s.controls)))
  for_command (Some command) told at up sound fresh =
      let all = for_found command (control_for setup command) refl at up sound fresh in (
        all.0,
        λ p. all.1 p
            ∙ (ap (λ (n : ℕ). selected_if setup p c n command (control_for setup command) (open_at p s.controls)) told
            ∙ ap (λ (x : Option Selected). selected_if setup p c (moment_at past (steps.Frame c apdu m)) command
            (control_for setup command) x) (sym (unless_none (open_at p s.controls)))),
      )

-- ---- an APDU that is taken

-- one that changes no session, and carries no command
quiet : (setup : Setup) (past : List Entry) (c m : ℕ) (s : State) (f : Client → Client) (k : Client) (apdu : Apdu)
    → command_in setup apdu ≡ None → ((d : ℕ) → ends_session (steps.Frame c apdu m) replies.Taken d ≡ false)
    → slice_get s.clients c ≡ Some k → is_started (f k).stage ≡ is_started k.stage → FreshState s
    → Framed setup past c m apdu s f false s.controls replies.Taken
quiet setup past c m s f k apdu none ends at same fresh = record {
  fresh = staying c s f k s.controls at same fresh;
  opened = λ p. sym (ap (λ (command : Option Command). selected_by setup p (moment_at past (steps.Frame c apdu m))
      (option_map {U = ℕ × Command} (λ (x : Command). (c, x)) command)
      (unless_by (ends_session (steps.Frame c apdu m) replies.Taken) (open_at p s.controls))) none
      ∙ (unless_same (ends_session (steps.Frame c apdu m) replies.Taken) (λ d. false) (open_at p s.controls) ends
      ∙ unless_none (open_at p s.controls)));
}

-- what it makes of its client
abbrev pub framing : Setup → ℕ → ℕ → State → Apdu → Client → Client
framing setup c m s apdu = client_after_frame setup s.picture (said_to setup s (latest s m) c) (latest s m) apdu

module _ (setup : Setup) (past : List Entry) (c m : ℕ) (s : State) (k : Client) where
  abbrev TakenSo : Apdu → Type 0
  TakenSo apdu = Framed setup past c m apdu s (framing setup c m s apdu) (begins apdu k)
      (controls_after_event setup s (latest s m) c apdu (event_taking (command_in setup apdu)))
      (reply_of_event (event_taking (command_in setup apdu)))

  -- its stage stays as it is
  quietly : (apdu : Apdu) → command_in setup apdu ≡ None
      → ((d : ℕ) → ends_session (steps.Frame c apdu m) replies.Taken d ≡ false)
      → close_of setup apdu k ≡ None → slice_get s.clients c ≡ Some k
      → is_started (client_taking setup s.picture (latest s m) apdu k).stage ≡ is_started k.stage → FreshState s
      → Framed setup past c m apdu s (framing setup c m s apdu) false s.controls replies.Taken
  quietly apdu none ends taken at same fresh =
      quiet setup past c m s (framing setup c m s apdu) k apdu none ends at
      (taken_stage setup s.picture (said_to setup s (latest s m) c) (latest s m) apdu k taken ∙ same) fresh

  information : (ns nr : ℕ) (asdu : Asdu) → latest s m ≡ moment_at past (steps.Frame c (I ns nr asdu) m)
      → close_of setup (I ns nr asdu) k ≡ None → slice_get s.clients c ≡ Some k → IsSoundControls setup s.controls
      → FreshState s → TakenSo (I ns nr asdu)
  information ns nr asdu told taken at sound fresh =
      let command : Option Command = command_in setup (I ns nr asdu) in
      let w : Controls = controls_after_event setup s (latest s m) c (I ns nr asdu) (event_taking command) in
      let up : is_started k.stage ≡ true = information_started setup ns nr asdu k taken in
      let all = for_command setup past c m ns nr asdu s k command told at up sound fresh in
      subst (λ (r : Reply). Framed setup past c m (I ns nr asdu) s (framing setup c m s (I ns nr asdu)) false w r)
      (sym (taken_reply command)) (record {
        fresh = staying c s (framing setup c m s (I ns nr asdu)) k w at
            (taken_stage setup s.picture (said_to setup s (latest s m) c) (latest s m) (I ns nr asdu) k taken) all.0;
        opened = all.1;
      })

  -- STARTDT act begins a session where none stands
  starting : (b : Bool) → is_started k.stage ≡ b → close_of setup (U StartAct) k ≡ None
      → slice_get s.clients c ≡ Some k → FreshState s → TakenSo (U StartAct)
  starting true is taken at fresh =
      subst (λ (b : Bool). Framed setup past c m (U StartAct) s (framing setup c m s (U StartAct)) b s.controls
      replies.Taken)
      (sym (taken_begins setup k taken ∙ ap not is))
      (quietly (U StartAct) refl (λ d. refl) taken at (begun_stage setup s.picture (latest s m) k ∙ sym is) fresh)
  starting false is taken at fresh =
      subst (λ (b : Bool). Framed setup past c m (U StartAct) s (framing setup c m s (U StartAct)) b s.controls
      replies.Taken)
      (sym (taken_begins setup k taken ∙ ap not is))
      (record {
        fresh = beginning c (framing setup c m s (U StartAct)) s.clients s.sessions s.counts.sessions s.controls k at is
            fresh;
        opened = λ p. sym (unless_none (open_at p s.controls));
      })

  -- STOPDT act ends it
  stopping : close_of setup (U StopAct) k ≡ None → slice_get s.clients c ≡ Some k → FreshState s
      → TakenSo (U StopAct)
  stopping taken at fresh = record {
    fresh = ending c s (framing setup c m s (U StopAct)) k at
        (taken_stage setup s.picture (said_to setup s (latest s m) c) (latest s m) (U StopAct) k taken
        ∙ stopped_stage setup s.picture (latest s m) k) fresh;
    opened = λ p. open_left (λ d. d == c) s.controls (controls_after_end c s.controls) p (end_leaves c s.controls);
  }

  takes_framed : (apdu : Apdu) → latest s m ≡ moment_at past (steps.Frame c apdu m) → close_of setup apdu k ≡ None
      → slice_get s.clients c ≡ Some k → IsSoundControls setup s.controls → FreshState s → TakenSo apdu
  takes_framed (I ns nr asdu) told taken at sound fresh = information ns nr asdu told taken at sound fresh
  takes_framed (S nr) told taken at sound fresh = quietly (S nr) refl (λ d. refl) taken at refl fresh
  takes_framed (U StartAct) told taken at sound fresh = starting (is_started k.stage) refl taken at fresh
  takes_framed (U StartCon) told taken at sound fresh = quietly (U StartCon) refl (λ d. refl) taken at refl fresh
  takes_framed (U StopAct) told taken at sound fresh = stopping taken at fresh
  takes_framed (U StopCon) told taken at sound fresh = quietly (U StopCon) refl (λ d. refl) taken at refl fresh
  takes_framed (U TestAct) told taken at sound fresh = quietly (U TestAct) refl (λ d. refl) taken at refl fresh
  takes_framed (U TestCon) told taken at sound fresh = quietly (U TestCon) refl (λ d. refl) taken at refl fresh

  -- by why it closes
  pub framed : (apdu : Apdu) (why : Option Why) → close_of setup apdu k ≡ why
      → latest s m ≡ moment_at past (steps.Frame c apdu m) → slice_get s.clients c ≡ Some k
      → IsSoundControls setup s.controls → FreshState s
      → Framed setup past c m apdu s (framing setup c m s apdu) (begins apdu k)
      (controls_after_event setup s (latest s m) c apdu (event_by why (command_in setup apdu)))
      (reply_of_event (event_by why (command_in setup apdu)))
  framed apdu None taken told at sound fresh = takes_framed apdu told taken at sound fresh
  framed apdu (Some why) closes told at sound fresh =
      subst (λ (b : Bool). Framed setup past c m apdu s (framing setup c m s apdu) b (controls_after_end c s.controls)
      (replies.Closed why)) (sym (closed_begins setup apdu k why closes))
      (closes_framed setup past c m apdu s (framing setup c m s apdu) k why at
      (closed_stage setup s.picture (said_to setup s (latest s m) c) (latest s m) apdu k why closes) fresh)
