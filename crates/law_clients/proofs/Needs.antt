-- What a step needs is what the history tells that it adds.
use Rattle.std.proofs.Common.{◌≡◌, ℕ, ◌<◌, Bool, true, false, cond, List, [], ◌∷◌}
use Rattle.std.proofs.Common.{length, Option, Some, None, refl, sym, ap, subst, ◌∙◌}
use Rattle.std.specs.Prelude.{◌&&◌, not, is_none, slice_get, IfSome}
use Rattle.std.proofs.lemmas.Bool.{true≢false}
use Rattle.gw_model.specs.First.{when, first_of}
use Rattle.gw_model.specs.declared.observation.Observation.{Observation}
use Rattle.gw_map.specs.Settings.{Setup, station_clocks}
use Rattle.gw_picture.specs.Loss.{losses_of}
use Rattle.gw_picture.specs.Picture.{news_of}
use Rattle.iec_apci.specs.declared.apdu.Apdu.{Apdu}
use Rattle.iec_apci.specs.declared.apdu.Apdu.TheVariants.{I, S, U}
use Rattle.iec_apci.specs.declared.apdu.Signal.TheVariants.{StartAct, StartCon, StopAct, StopCon, TestAct, TestCon}
use Rattle.iec_command.specs.declared.command.Command.{Command}
use Rattle.gw_control.specs.declared.answer.Answer.{Answer}
use Rattle.gw_control.specs.declared.answer.Answer.TheVariants as answers
use Rattle.gw_control.specs.Controls.{is_order}
use Rattle.gw_judge.specs.declared.judging.Judged.{Judged}
use Rattle.gw_judge.specs.declared.judging.Judged.TheVariants as judgements
use Rattle.gw_answers.specs.Interrogations.{is_accepted_act}
use Rattle.iec_apci.specs.declared.why.Why.{Why}
use Rattle.iec_apci.specs.declared.why.Why.TheVariants.{Flooded}
use Rattle.gw_station.specs.Answers.{is_asking, is_pending as is_asked}
use Rattle.gw_station.specs.Client.{Client, is_started, is_up}
use Rattle.gw_station.specs.Frames.{asks, begins as begins_session, close_of, command_given, command_in, floods, judged_asdu}
use Rattle.gw_steps.specs.declared.step.Step.{Step}
use Rattle.gw_steps.specs.declared.step.Step.TheVariants as steps
use Rattle.gw_steps.specs.declared.step.StepFault.TheVariants.{NoClient, NoOutstation}
use Rattle.gw_steps.specs.Controls.{answer_to, said_by}
use Rattle.gw_steps.specs.State.{State}
use Rattle.gw_steps.specs.Steps.{begun_by, command_of, fault_of, is_accepting, is_ordering}
use Rattle.gw_steps.specs.Steps.{latest, needs, news_of_fragment, one_if, said_to, wanted_by}
use Rattle.gw_steps.specs.Runs.{Entry, state_after}
use Rattle.gw_steps.proofs.Inversion.{who_is_up}
use Rattle.law_history.specs.Accepted.{is_accepted}
use Rattle.law_history.specs.Life.{Turn, life, session, turns_in}
use Rattle.law_history.specs.Log.{log_of, news_of_step}
use Rattle.gw_steps.specs.Premises.{IsSoundSetup}
use Rattle.law_history.proofs.Lives.{Lives}
use Rattle.law_history.proofs.Masters.{MasterTied, same_accepted}
use Rattle.law_history.proofs.Pictures.{news_same}
use Rattle.law_history.proofs.Places.{Known, SlotLives}
use Rattle.law_clients.specs.Connection.{Connection, connection, is_so, turns}
use Rattle.law_clients.specs.Faults.{begins, interrogates, is_act, is_ordered, is_taken, news_added}
use Rattle.law_clients.specs.Faults.{orders, orders_added, sessions_added, wants_memory}
use Rattle.law_clients.specs.Interrogations.{interrogation, is_pending}
use Rattle.law_clients.proofs.Closes.{Ties, not_standing, same_close, ties}
use Rattle.law_clients.proofs.Line.{LineTied, pending_told}
use Rattle.law_clients.proofs.Links.{AllLinked, ClientLinked, SlotLinked}
use Rattle.law_clients.proofs.News.{NewsTied, stands}
use Rattle.law_clients.proofs.Steps.{same_turns}

-- a step needs what the history tells
pub record NeedsTold (setup : Setup) (past : List Entry) (s : State) (step : Step) : Type 0 where
  pub steps : (needs setup s step).counts.steps ≡ 1
  pub news : (needs setup s step).counts.news ≡ news_added setup past step
  pub sessions : (needs setup s step).counts.sessions ≡ sessions_added setup past step
  pub orders : one_if (needs setup s step).order ≡ orders_added setup past step
  pub memory : (needs setup s step).memory ≡ wants_memory setup past step

-- ---- what an APDU is

not_closed : (b : Bool) → not b ≡ is_none (first_of (when b Flooded ∷ []))
not_closed true = refl
not_closed false = refl

begins_told : (setup : Setup) (a : Apdu) (x : Connection) (k : Client) → setup.station.k < 32768
    → Ties setup (turns x) k → begins_session a k ≡ begins setup a x
begins_told setup (I ns nr asdu) x k small tied = refl
begins_told setup (S nr) x k small tied = refl
begins_told setup (U StartAct) x k small tied =
    let stopped : not (is_started k.stage) ≡ is_none (session (turns x)) =
    ap not (stands setup (session (turns x)) k tied.news) ∙ not_standing (session (turns x)) in
    let opens : not (floods StartAct k) ≡ is_taken setup (U StartAct) x =
    not_closed (floods StartAct k) ∙ ap is_none (same_close setup (turns x) (U StartAct) k small tied) in
    ap (λ (b : Bool). b && not (floods StartAct k)) stopped
    ∙ ap (λ (b : Bool). is_none (session (turns x)) && b) opens
begins_told setup (U StartCon) x k small tied = refl
begins_told setup (U StopAct) x k small tied = refl
begins_told setup (U StopCon) x k small tied = refl
begins_told setup (U TestAct) x k small tied = refl
begins_told setup (U TestCon) x k small tied = refl

asked : (setup : Setup) (s : Option (List Turn)) (k : Client) → NewsTied setup s k → LineTied setup s k
    → is_asked k.rest ≡ is_pending (interrogation setup (turns_in s))
asked setup None k news tied = ap is_asked news.rest
asked setup (Some hs) k news tied = sym (pending_told _ (interrogation setup hs) _ k tied)

act_told : (j : Judged) (k : Client) (pending : Bool) → is_asked k.rest ≡ pending → is_asking j k ≡ is_act pending j
act_told (judgements.Accepted command) k pending is = ap (λ (b : Bool). is_accepted_act b command) is
act_told (judgements.Refuse cause execute) k pending is = refl
act_told judgements.Malformed k pending is = refl

asks_told : (setup : Setup) (a : Apdu) (x : Connection) (k : Client) → setup.station.k < 32768
    → Ties setup (turns x) k → asks setup a k ≡ interrogates setup a x
asks_told setup (I ns nr asdu) x k small tied =
    let j : Judged = judged_asdu setup asdu in
    ap (λ (why : Option Why). is_none why && is_asking j k) (same_close setup (turns x) (I ns nr asdu) k small tied)
    ∙ ap (λ (b : Bool). is_taken setup (I ns nr asdu) x && b)
    (act_told j k (is_pending (interrogation setup (turns_in (session (turns x)))))
    (asked setup (session (turns x)) k tied.news tied.line))
asks_told setup (S nr) x k small tied = refl
asks_told setup (U signal) x k small tied = refl

ordered_said : (a : Answer) → is_order a ≡ is_ordered (said_by a)
ordered_said answers.Confirm = refl
ordered_said answers.Negative = refl
ordered_said answers.Unknown = refl
ordered_said (answers.Ordered number) = refl

orders_told : (setup : Setup) (s : State) (moment c : ℕ) (a : Apdu) (x : Connection) (k : Client)
    → setup.station.k < 32768 → Ties setup (turns x) k
    → is_ordering setup s moment c (command_of setup a (Some k)) ≡ orders setup (said_to setup s moment c) a x
orders_told setup s moment c a x k small tied =
    by (close_of setup a k) (command_in setup a)
    ∙ ap (λ (why : Option Why). is_none why
    && is_so (λ (y : Command). is_ordered (said_to setup s moment c y)) (command_in setup a))
    (same_close setup (turns x) a k small tied)
  where
    by : (why : Option Why) (command : Option Command)
        → is_ordering setup s moment c (command_given why command)
        ≡ is_none why && is_so (λ (y : Command). is_ordered (said_to setup s moment c y)) command
    by (Some why) command = refl
    by None None = refl
    by None (Some command) = ordered_said (answer_to setup s moment c command)

-- ---- a frame

record FrameTold (setup : Setup) (s : State) (moment c : ℕ) (a : Apdu) (x : Option Connection) (k : Client)
    : Type 0 where
  begun : begins_session a k ≡ is_so (begins setup a) x
  ordered : is_ordering setup s moment c (command_of setup a (Some k))
      ≡ is_so (orders setup (said_to setup s moment c) a) x
  wanted : asks setup a k ≡ is_so (interrogates setup a) x

frame_told : (setup : Setup) (s : State) (moment c : ℕ) (a : Apdu) (ts : List Turn) (x : Option Connection)
    (k : Client) → IsSoundSetup setup → IfSome x (λ y. turns y ≡ ts) → Lives setup ts k → is_up k.stage ≡ true
    → ClientLinked setup x k → FrameTold setup s moment c a x k
frame_told setup s moment c a ts None k fit same lives up linked = absurd (true≢false (sym up ∙ linked))
frame_told setup s moment c a ts (Some x) k fit same lives up linked =
    let tied : Ties setup (turns x) k = ties setup ts x k fit same lives linked in
    record {
      begun = begins_told setup a x k fit.window tied;
      ordered = orders_told setup s moment c a x k fit.window tied;
      wanted = asks_told setup a x k fit.window tied;
    }

framed : (setup : Setup) (past : List Entry) (c m : ℕ) (a : Apdu) → IsSoundSetup setup → Known setup past
    → AllLinked setup past → fault_of (state_after setup past) (steps.Frame c a m) ≡ None
    → NeedsTold setup past (state_after setup past) (steps.Frame c a m)
framed setup past c m a fit known linked fine =
    let s : State = state_after setup past in
    let up = who_is_up (λ (k : Client). is_up k.stage) NoClient (slice_get s.clients c) fine in
    let told = frame_told setup s (latest s m) c a (life setup c past) (connection setup c past) up.0 fit
    (same_turns setup c past) (subst (SlotLives setup c (life setup c past)) up.1 (known.lives c)) up.2
    (subst (SlotLinked setup (connection setup c past)) up.1 (linked c)) in
    record {
      steps = refl;
      news = refl;
      sessions = ap (λ (x : Option Client). one_if (begun_by a x)) up.1 ∙ ap one_if told.begun;
      orders = ap (λ (x : Option Client). one_if (is_ordering setup s (latest s m) c (command_of setup a x))) up.1
          ∙ ap one_if told.ordered;
      memory = ap (wanted_by setup a) up.1 ∙ told.wanted;
    }

-- ---- each step

pub needs_told : (setup : Setup) (past : List Entry) (step : Step) → IsSoundSetup setup → Known setup past
    → AllLinked setup past → fault_of (state_after setup past) step ≡ None
    → NeedsTold setup past (state_after setup past) step
needs_told setup past (steps.Fragment f m) fit known linked fine = record {
  steps = refl;
  news = ap length news;
  sessions = refl;
  orders = refl;
  memory = refl;
}
  where
    s : State
    s = state_after setup past

    log : List Observation
    log = log_of setup past

    accepting : is_accepting s f ≡ is_accepted setup past f
    accepting =
        let up = who_is_up (λ x. x.up) NoOutstation (slice_get s.outstations f.outstation) fine in
        rw up.1 (same_accepted setup past f up.0
        (subst (MasterTied setup f.outstation past) up.1 (known.tied.outstations f.outstation)))

    news : news_of_fragment setup s f ≡ news_of_step setup log past (steps.Fragment f m)
    news =
        ap (λ (b : Bool). cond b (news_of (station_clocks setup.station) setup.rows s.picture f.reports) []) accepting
        ∙ ap (λ (xs : List Observation). cond (is_accepted setup past f) xs [])
        (ap (λ (p : List Observation). news_of (station_clocks setup.station) setup.rows p f.reports) known.tied.picture
        ∙ (news_same setup log f.reports fit.addresses).0)
needs_told setup past (steps.OutstationDown o m) fit known linked fine = record {
  steps = refl;
  news = ap (λ (p : List Observation). length (losses_of o setup.rows p)) known.tied.picture;
  sessions = refl;
  orders = refl;
  memory = refl;
}
needs_told setup past (steps.Frame c a m) fit known linked fine = framed setup past c m a fit known linked fine
needs_told setup past (steps.OutstationUp o m) fit known linked fine =
    record { steps = refl; news = refl; sessions = refl; orders = refl; memory = refl }
needs_told setup past (steps.Poll o m wall) fit known linked fine =
    record { steps = refl; news = refl; sessions = refl; orders = refl; memory = refl }
needs_told setup past (steps.ClientUp c m) fit known linked fine =
    record { steps = refl; news = refl; sessions = refl; orders = refl; memory = refl }
needs_told setup past (steps.ClientDown c m) fit known linked fine =
    record { steps = refl; news = refl; sessions = refl; orders = refl; memory = refl }
needs_told setup past (steps.Pump c m) fit known linked fine =
    record { steps = refl; news = refl; sessions = refl; orders = refl; memory = refl }
needs_told setup past (steps.Tick m) fit known linked fine =
    record { steps = refl; news = refl; sessions = refl; orders = refl; memory = refl }
