-- What is known of the picture by what was put out and what waits: how each turn keeps it.
use Rattle.std.proofs.Common.{◌≡◌, ℕ, ◌≤◌, Bool, true, false, eqb, List, [], ◌∷◌, ◌++◌, map, length}
use Rattle.std.proofs.Common.{drop, Option, Some, None, refl, sym, ap, subst, ◌∙◌, arith, inl, inr}
use Rattle.std.specs.Prelude.{◌&&◌, ◌==◌, nat_lt, not, slice_get, option_map, IfSome}
use Rattle.std.specs.List.{AllByRecursion}
use Rattle.std.specs.Option.{option_to_list}
use Rattle.std.proofs.lemmas.Bool.{cases_Bool, true≢false, and_parts, lt-ltb}
use Rattle.std.proofs.lemmas.List.{map-append}
use Rattle.std.proofs.lemmas.Option.{none-some, same_Some}
use Rattle.gw_model.specs.First.{when}
use Rattle.gw_model.specs.declared.observation.Observation.{Observation}
use Rattle.gw_model.specs.Clocks.{Clocks}
use Rattle.gw_entries.specs.declared.row.Row.{Row as AnyRow}
use Rattle.gw_map.specs.Settings.{Setup, known_addresses, row_at_from, station_clocks}
use Rattle.gw_picture.specs.Log.{picture_of}
use Rattle.gw_picture.proofs.Addresses.{is_single, is_single-true}
use Rattle.iec_apci.specs.declared.apdu.Asdu.{Asdu}
use Rattle.iec_apci.specs.declared.apdu.Apdu.{Apdu}
use Rattle.iec_apci.specs.declared.apdu.Apdu.TheVariants.{I, S, U}
use Rattle.iec_apci.specs.declared.apdu.Signal.{Signal}
use Rattle.iec_apci.specs.declared.apdu.Signal.TheVariants as signals
use Rattle.iec_command.specs.declared.command.Command.{Command}
use Rattle.iec_command.specs.declared.command.Action.{Action}
use Rattle.iec_command.specs.declared.command.Action.TheVariants as actions
use Rattle.gw_judge.specs.declared.judging.Judged.{Judged}
use Rattle.gw_judge.specs.declared.judging.Judged.TheVariants.{Malformed, Refuse, Accepted}
use Rattle.gw_answers.specs.declared.outgoing.AsduAnswer.{AsduAnswer}
use Rattle.gw_answers.specs.declared.outgoing.AsduAnswer.TheVariants.{Made}
use Rattle.gw_answers.specs.declared.outgoing.OwnAsdu.TheVariants as outgoing
use Rattle.gw_answers.specs.declared.outgoing.OwnAsdu.{OwnAsdu}
use Rattle.gw_answers.specs.Interrogations.{asked_addresses, is_general, is_accepted_act}
use Rattle.gw_answers.specs.Answers.{shown_by, refused_act, answered_action, answered, command_by}
use Rattle.gw_answers.specs.Meaning.{Meant}
use Rattle.gw_map.proofs.Known.{some_known}
use Rattle.gw_station.specs.declared.event.Said.{Said}
use Rattle.gw_station.specs.declared.sending.Sending.{Sending}
use Rattle.gw_station.specs.declared.sending.Sending.TheVariants as sendings
use Rattle.gw_station.specs.Client.{Client}
use Rattle.gw_station.specs.Frames.{judged_asdu}
use Rattle.gw_station.specs.Pump.{line as line_of, together, client_with_sent}
use Rattle.gw_station.specs.Sound.{CanSend}
use Rattle.gw_station.proofs.All.{all-append, all-given}
use Rattle.gw_station.proofs.Line.{line_so}
use Rattle.gw_station.proofs.Moves.{moves}
use Rattle.gw_steps.specs.Runs.{Entry}
use Rattle.gw_steps.specs.Said.{ApduMeaning, IFormat}
use Rattle.law_history.specs.Log.{log_of}
use Rattle.gw_steps.specs.Premises.{client_at, IsSoundSetup}
use Rattle.law_history.specs.Life.{Brought, Taking, Turn, Idle, Takes, PutsOut, Ends, session_with, session, life}
use Rattle.law_history.proofs.Lives.{Lives}
use Rattle.law_history.proofs.Logged.{IsLogged, logged}
use Rattle.law_history.proofs.Places.{SlotLives, Place}
use Rattle.law_clients.specs.Fates.{spontaneous_of, fates}
use Rattle.law_clients.specs.Interrogations.{Interrogation, is_pending, interrogation_of, begun, interrogation}
use Rattle.law_clients.specs.Line.{answers_to, told_of, told_outcomes, since_of, left_of, MeansFront, owed, line}
use Rattle.law_clients.specs.Mirror.{observations_of, waiting_in, is_station_interrogation}
use Rattle.law_clients.specs.Mirror.{told, asked_by, asked_in, MirrorsPicture, Mirrors, Mirror}
use Rattle.law_clients.proofs.Offered.{IsOffered, offered_is}
use Rattle.law_clients.proofs.Fronts.{says_front}
use Rattle.law_clients.proofs.Known.{IsShown, shown_is, knows_picture}
use Rattle.law_clients.proofs.Waits.{IsPlain, waiting_in-append}
use Rattle.law_clients.proofs.Watches.{View, line_in, IsKept, came as news_came, kept_came, put_out, PutsFirst}
use Rattle.law_clients.proofs.Watches.{kept_put_out, taken, begun as watched, kept_taken, IsNew, unheard_begun, heard_begun}
use Rattle.law_clients.proofs.Parts.{nothing_asked, terminations}
use Rattle.law_clients.proofs.Told.{command_none, outcomes_none}
use Rattle.law_clients.proofs.Numbers.{says}
use Rattle.law_clients.proofs.News.{InSession, NewsTied, news_tied}
use Rattle.law_clients.proofs.Line.{LineTied, pending_told, line_is, line_tied}

-- what a session tells of a client
abbrev view : Setup → List Observation → List Turn → View
view setup log hs = record {
  log = log;
  elements = fates setup.station hs;
  asked = interrogation setup hs;
  owed = owed setup hs;
}

-- ---- the answers to an ASDU

-- what an answer shows, the picture shows
abbrev IsOfPicture : List AnyRow → List Observation → AsduAnswer → Type 0
IsOfPicture rows log answer = AllByRecursion (IsShown rows log) (observations_of (sendings.Answer answer))

answers_shown : (rows : List AnyRow) (log : List Observation) (answers : List AsduAnswer)
    → AllByRecursion (IsOfPicture rows log) answers
    → AllByRecursion (IsShown rows log) (waiting_in (map sendings.Answer answers))
answers_shown rows log [] all = tt
answers_shown rows log (answer ∷ answers) all =
    all-append (IsShown rows log) (observations_of (sendings.Answer answer))
    (waiting_in (map sendings.Answer answers)) all.0
    (answers_shown rows log answers all.1)

one_shown : (rows : List AnyRow) (log : List Observation) (answer : Option AsduAnswer)
    → IfSome answer (IsOfPicture rows log)
    → AllByRecursion (IsOfPicture rows log) (option_to_list answer)
one_shown rows log None is = tt
one_shown rows log (Some answer) is = (is, tt)

-- answers that show nothing
none_shown : (rows : List AnyRow) (log : List Observation) (answers : List AsduAnswer)
    → waiting_in (map sendings.Answer answers) ≡ []
    → AllByRecursion (IsShown rows log) (waiting_in (map sendings.Answer answers))
none_shown rows log answers none = subst (AllByRecursion (IsShown rows log)) (sym none) tt

refused_shown : (setup : Setup) (log : List Observation) (pending : Bool) (c : Command)
    → IfSome (refused_act setup pending c) (IsOfPicture setup.rows log)
refused_shown setup log pending c = elim (cases_Bool (is_accepted_act pending c)) [
  | inl accepted ↦ rw accepted tt
  | inr refused ↦ rw refused tt
]

read_shown : (rows : List AnyRow) (log : List Observation) (originator : ℕ) (found : Option (ℕ × AnyRow))
    → is_single rows ≡ true
    → IfSome (option_map (λ x. Made (outgoing.Observation 5 originator x)) (shown_by (picture_of rows log) found))
    (IsOfPicture rows log)
read_shown rows log originator None single = tt
read_shown rows log originator (Some found) single = go (slice_get (picture_of rows log) found.0) refl
  where
    go : (x : Option Observation) → slice_get (picture_of rows log) found.0 ≡ x
        → IfSome (option_map (λ x. Made (outgoing.Observation 5 originator x)) x) (IsOfPicture rows log)
    go None get = tt
    go (Some x) get = (shown_is rows log found.0 x single get, tt)

action_shown : (setup : Setup) (log : List Observation) (pending : Bool) (c : Command) (action : Action)
    → is_single setup.rows ≡ true
    → IfSome (answered_action setup (picture_of setup.rows log) pending c action) (IsOfPicture setup.rows log)
action_shown setup log pending c (actions.Interrogation qualifier) single = refused_shown setup log pending c
action_shown setup log pending c (actions.CounterInterrogation qualifier) single =
    refused_shown setup log pending c
action_shown setup log pending c actions.Read single =
    read_shown setup.rows log c.originator (row_at_from 0 c.common_address c.address setup.rows) single
action_shown setup log pending c (actions.Single x) single = tt
action_shown setup log pending c (actions.Double x) single = tt
action_shown setup log pending c (actions.Setpoint x) single = tt

at_once_shown : (setup : Setup) (log : List Observation) (pending : Bool) (asdu : Asdu) (j : Judged)
    → is_single setup.rows ≡ true
    → IfSome (answered setup (picture_of setup.rows log) pending asdu j) (IsOfPicture setup.rows log)
at_once_shown setup log pending asdu Malformed single = tt
at_once_shown setup log pending asdu (Refuse cause execute) single = tt
at_once_shown setup log pending asdu (Accepted c) single = action_shown setup log pending c c.action single

-- how an ASDU is taken while the picture is that of a log
abbrev taking_at : Setup → List Observation → (Command → Said) → Taking
taking_at setup log said = record { picture = picture_of setup.rows log; said = said }

all_shown : (setup : Setup) (log : List Observation) (said : Command → Said) (pending : Bool) (asdu : Asdu) (j : Judged)
    → is_single setup.rows ≡ true
    → AllByRecursion (IsShown setup.rows log)
    (waiting_in (map sendings.Answer (answers_to setup (taking_at setup log said) pending asdu j)))
all_shown setup log said pending asdu j single =
    let at_once : List AsduAnswer = option_to_list (answered setup (picture_of setup.rows log) pending asdu j) in
    let told : List AsduAnswer = told_of said (command_by j) in
    let joined : waiting_in (map sendings.Answer (at_once ++ told))
    ≡ waiting_in (map sendings.Answer at_once) ++ waiting_in (map sendings.Answer told) =
    ap waiting_in (map-append sendings.Answer at_once told)
    ∙ waiting_in-append (map sendings.Answer at_once) (map sendings.Answer told) in
    subst (AllByRecursion (IsShown setup.rows log)) (sym joined)
    (all-append (IsShown setup.rows log) (waiting_in (map sendings.Answer at_once))
    (waiting_in (map sendings.Answer told))
    (answers_shown setup.rows log at_once (one_shown setup.rows log
    (answered setup (picture_of setup.rows log) pending asdu j) (at_once_shown setup log pending asdu j single)))
    (none_shown setup.rows log told (command_none said (command_by j))))

-- none begins while one is pending
not_pending : (pending : Bool) (command : Command) → is_accepted_act pending command ≡ true → pending ≡ false
not_pending false command act = refl
not_pending true command act = absurd (never (eqb command.cause 6) (is_general command.action) act)
  where
    never : (a b : Bool) → (a && b && not true) ≡ true → ⊥
    never true true e = absurd cc
    never true false e = absurd cc
    never false b e = absurd cc

-- an act asks some address
asks_some : (setup : Setup) (common : ℕ)
    → (first : ℕ) × (more : List ℕ) × (asked_addresses setup common ≡ first ∷ more)
asks_some setup common = elim (cases_Bool (common == 65535)) [
  | inl all ↦ rw all (some_of (known_addresses setup) (some_known setup))
  | inr one ↦ rw one (common, [], refl)
]
  where
    some_of : (asked : List ℕ) → (asked ≡ [] → ⊥) → (first : ℕ) × (more : List ℕ) × (asked ≡ first ∷ more)
    some_of [] some = absurd (some refl)
    some_of (first ∷ more) some = (first, more, refl)

-- one that is watched was confirmed before another begins
kept_begun : (rows : List AnyRow) (addresses : List ℕ) (since : ℕ) (heard : Option (List Observation)) (v : View)
    (q : Interrogation) → is_single rows ≡ true
    → since_of v.asked ≤ length v.elements → is_pending v.asked ≡ false → left_of v.asked ≡ [] → IsNew rows v q
    → IsKept rows addresses v since heard → IsKept rows addresses (watched q v) since heard
kept_begun rows addresses since (Some heard) v q single within quiet left is kept =
    heard_begun rows addresses since heard v q single within left is kept
kept_begun rows addresses since None v q single within quiet left is kept =
    let before : Interrogation = kept.watched.q in
    let pending : is_pending v.asked ≡ true =
    ap is_pending kept.watched.is
    ∙ (ap (λ (said : List OwnAsdu). nat_lt (terminations said) (length before.asked)) kept.watched.said
    ∙ (ap (λ (asked : List ℕ). nat_lt 0 (length asked)) kept.watched.some
    ∙ lt-ltb 0 (length (kept.watched.first ∷ kept.watched.more)) (omega arith))) in
    absurd (true≢false (sym pending ∙ quiet))

-- ---- what the ties tell

-- nothing is left of an answer where no interrogation is pending
none_left : (setup : Setup) (hs : List Turn) (k : Client) → LineTied setup (Some hs) k
    → is_pending (interrogation setup hs) ≡ false → left_of (interrogation setup hs) ≡ []
none_left setup hs k lined quiet =
    sym lined.rest ∙ nothing_asked k.rest (sym (pending_told (owed setup hs)
    (interrogation setup hs) (length (fates setup.station hs)) k lined) ∙ quiet)

line_plain : (setup : Setup) (hs : List Turn) (k : Client) → InSession setup hs k → LineTied setup (Some hs) k
    → AllByRecursion IsPlain (line_of k)
line_plain setup hs k news lined =
    let each_news = all-given (λ (x : Observation). IsPlain (sendings.News x)) (λ x. tt) k.queue in
    line_so IsPlain k lined.apart each_news news.parts

puts_first : (setup : Setup) (log : List Observation) (moment : ℕ) (x : Sending) (hs : List Turn) (meant : Meant)
    (k : Client) → slice_get (line_of k) 0 ≡ Some x → AllByRecursion (CanSend (station_clocks setup.station)) (line_of k)
    → MeansFront (station_clocks setup.station) (line_of k) meant → InSession setup hs k
    → LineTied setup (Some hs) k
    → line_of (client_with_sent (station_clocks setup.station) moment x k) ≡ line_in
    (put_out meant (spontaneous_of meant) (view setup log hs))
    → PutsFirst (station_clocks setup.station) (view setup log hs)
    (put_out meant (spontaneous_of meant) (view setup log hs)) meant
puts_first setup log moment x hs meant k first can means news lined now =
    let clocks : Clocks = (station_clocks setup.station) in
    let same : line_of k ≡ line setup hs = line_is setup hs k news lined in
    record {
      means = subst (λ (l : List Sending). MeansFront clocks l meant) same means;
      plain = subst (AllByRecursion IsPlain) same (line_plain setup hs k news lined);
      can = subst (AllByRecursion (CanSend clocks)) same can;
      line = sym now ∙ (moves clocks moment k x first ∙ ap (λ (l : List Sending). drop (together clocks l) l) same);
    }

-- ---- each session

-- after each act that is in it
abbrev MirrorTied : Setup → List Observation → List Turn → Type 0
MirrorTied setup log hs = (newer older : List Turn) (act : Turn) (asked : List ℕ) → hs ≡ newer ++ act ∷ older
    → asked_in setup act older ≡ Some asked
    → IsKept setup.rows asked (view setup log hs) (length (fates setup.station older)) (told newer)

abbrev SessionMirrored : Setup → List Observation → Option (List Turn) → Type 0
SessionMirrored setup log None = Unit {0}
SessionMirrored setup log (Some hs) = MirrorTied setup log hs

-- what an act begins is kept, and what is kept goes on being so
record Keeps (setup : Setup) (log new : List Observation) (t : Turn) (hs : List Turn) : Type 0 where
  begins : (asked : List ℕ) → asked_in setup t hs ≡ Some asked
      → IsKept setup.rows asked (view setup new (t ∷ hs)) (length (fates setup.station hs)) None
  goes : (asked : List ℕ) (since : ℕ) (newer : List Turn)
      → IsKept setup.rows asked (view setup log hs) since (told newer)
      → IsKept setup.rows asked (view setup new (t ∷ hs)) since (told (t ∷ newer))

tail_is : (x y : Turn) (xs ys : List Turn) → x ∷ xs ≡ y ∷ ys → (x ≡ y) × (xs ≡ ys)
tail_is x y xs ys e = (ap (λ (l : List Turn). first l) e, ap (drop 1) e)
  where
    first : List Turn → Turn
    first [] = x
    first (z ∷ zs) = z

mirrored : (setup : Setup) (log new : List Observation) (t : Turn) (hs : List Turn) → Keeps setup log new t hs
    → MirrorTied setup log hs → MirrorTied setup new (t ∷ hs)
mirrored setup log new t hs keeps tied [] older act asked same is =
    let parts = tail_is t act hs older same in
    subst (λ (l : List Turn). IsKept setup.rows asked (view setup new (t ∷ hs)) (length (fates setup.station l)) None)
    parts.1
    (keeps.begins asked (subst (λ (l : List Turn). asked_in setup t l ≡ Some asked) (sym parts.1)
    (subst (λ (x : Turn). asked_in setup x older ≡ Some asked) (sym parts.0) is)))
mirrored setup log new t hs keeps tied (n ∷ newer) older act asked same is =
    let parts = tail_is t n hs (newer ++ act ∷ older) same in
    subst (λ (x : Turn). IsKept setup.rows asked (view setup new (t ∷ hs)) (length (fates setup.station older))
    (told (x ∷ newer))) parts.0
    (keeps.goes asked (length (fates setup.station older)) newer (tied newer older act asked parts.1 is))

-- ---- turns

-- the addresses of an act
act_asks : (acts : Bool) (addresses asked : List ℕ) → when acts addresses ≡ Some asked
    → (acts ≡ true) × (addresses ≡ asked)
act_asks true addresses asked e = (refl, same_Some addresses asked e)
act_asks false addresses asked e = absurd cc

-- an ASDU is taken
asdu_keeps : (setup : Setup) (log : List Observation) (said : Command → Said) (ns nr : ℕ) (asdu : Asdu)
    (hs : List Turn) (k : Client) → is_single setup.rows ≡ true → LineTied setup (Some hs) k
    → Keeps setup log log (Takes (I ns nr asdu) (taking_at setup log said)) hs
asdu_keeps setup log said ns nr asdu hs k single lined =
    record {
      begins = λ asked act. begins (judged_asdu setup asdu) asked act;
      goes = λ asked since newer kept. goes asked since (told newer) (judged_asdu setup asdu) kept;
    }
  where
    v : View
    v = view setup log hs

    more : Judged → List AsduAnswer
    more j = answers_to setup (taking_at setup log said) (is_pending v.asked) asdu j

    next : Judged → View
    next j = record (taken (more j) v) { asked = begun setup (length v.elements) (picture_of setup.rows log) j v.asked }

    new_one : Command → Interrogation
    new_one command = interrogation_of setup (length v.elements) (picture_of setup.rows log) command

    is_new : (j : Judged) (command : Command) → IsNew setup.rows (taken (more j) v) (new_one command)
    is_new j command =
        let some = asks_some setup command.common_address in
        record { first = some.0; more = some.1; some = some.2; since = refl; rows_are = refl; said = refl }

    begins : (j : Judged) (asked : List ℕ) → asked_by setup (is_pending v.asked) j ≡ Some asked
        → IsKept setup.rows asked (next j) (length v.elements) None
    begins Malformed asked act = absurd (none-some asked act)
    begins (Refuse cause execute) asked act = absurd (none-some asked act)
    begins (Accepted command) asked act =
        let are = act_asks (is_accepted_act (is_pending v.asked) command && is_station_interrogation command.action)
        (asked_addresses setup command.common_address) asked act in
        let parts = and_parts (is_accepted_act (is_pending v.asked) command)
        (is_station_interrogation command.action) are.0 in
        subst (λ (addresses : List ℕ). IsKept setup.rows addresses (next (Accepted command)) (length v.elements) None)
        are.1
        (rw parts.0 (unheard_begun setup.rows (taken (more (Accepted command)) v) (new_one command) single
        (is_new (Accepted command) command) parts.1))

    goes : (asked : List ℕ) (since : ℕ) (before : Option (List Observation)) (j : Judged)
        → IsKept setup.rows asked v since before → IsKept setup.rows asked (next j) since before
    goes asked since before j kept = by j
      where
        joined : (j : Judged) → IsKept setup.rows asked (taken (more j) v) since before
        joined j = kept_taken setup.rows asked since before (more j) v
            (all_shown setup log said (is_pending v.asked) asdu j single) kept

        by : (j : Judged) → IsKept setup.rows asked (next j) since before
        by Malformed = joined Malformed
        by (Refuse cause execute) = joined (Refuse cause execute)
        by (Accepted command) = elim (cases_Bool (is_accepted_act (is_pending v.asked) command)) [
          | inl accepted ↦
              (let quiet = not_pending (is_pending v.asked) command accepted in
              rw accepted (kept_begun setup.rows asked since before (taken (more (Accepted command)) v)
              (new_one command) single lined.since quiet (none_left setup hs k lined quiet)
              (is_new (Accepted command) command) (joined (Accepted command))))
          | inr other ↦ rw other (joined (Accepted command))
        ]

-- nothing changes that is seen
same_view : (setup : Setup) (log : List Observation) (taking : Taking) (signal : Signal) (hs : List Turn)
    → Keeps setup log log (Takes (U signal) taking) hs
same_view setup log taking signal hs = record {
  begins = λ asked act. absurd (none-some asked act);
  goes = λ asked since newer kept. kept;
}

takes : (setup : Setup) (log : List Observation) (taking : Taking) (a : Apdu) (s : Option (List Turn)) (k : Client)
    → is_single setup.rows ≡ true → taking.picture ≡ picture_of setup.rows log → LineTied setup s k
    → SessionMirrored setup log s → SessionMirrored setup log (session_with (Takes a taking) s)
takes setup log taking (I ns nr asdu) None k single shown lined tied = tt
takes setup log taking (I ns nr asdu) (Some hs) k single shown lined tied =
    subst (λ (p : List Observation). MirrorTied setup log (Takes (I ns nr asdu) (record taking { picture = p }) ∷ hs))
    (sym shown)
    (mirrored setup log log (Takes (I ns nr asdu) (taking_at setup log taking.said)) hs
    (asdu_keeps setup log taking.said ns nr asdu hs k single lined) tied)
takes setup log taking (S nr) None k single shown lined tied = tt
takes setup log taking (S nr) (Some hs) k single shown lined tied =
    mirrored setup log log (Takes (S nr) taking) hs (record
    { begins = λ asked act. absurd (none-some asked act); goes = λ asked since newer kept. kept }) tied
takes setup log taking (U signals.StartAct) None k single shown lined tied =
    λ newer older act asked same is. absurd (never newer act older same)
  where
    never : (newer : List Turn) (act : Turn) (older : List Turn) → [] ≡ newer ++ act ∷ older → ⊥
    never [] act older e = absurd cc
    never (n ∷ newer) act older e = absurd cc
takes setup log taking (U signals.StartAct) (Some hs) k single shown lined tied =
    mirrored setup log log (Takes (U signals.StartAct) taking) hs (same_view setup log taking signals.StartAct hs) tied
takes setup log taking (U signals.StopAct) s k single shown lined tied = tt
takes setup log taking (U signals.StartCon) None k single shown lined tied = tt
takes setup log taking (U signals.StopCon) None k single shown lined tied = tt
takes setup log taking (U signals.TestAct) None k single shown lined tied = tt
takes setup log taking (U signals.TestCon) None k single shown lined tied = tt
takes setup log taking (U signals.StartCon) (Some hs) k single shown lined tied =
    mirrored setup log log (Takes (U signals.StartCon) taking) hs (same_view setup log taking signals.StartCon hs) tied
takes setup log taking (U signals.StopCon) (Some hs) k single shown lined tied =
    mirrored setup log log (Takes (U signals.StopCon) taking) hs (same_view setup log taking signals.StopCon hs) tied
takes setup log taking (U signals.TestAct) (Some hs) k single shown lined tied =
    mirrored setup log log (Takes (U signals.TestAct) taking) hs (same_view setup log taking signals.TestAct hs) tied
takes setup log taking (U signals.TestCon) (Some hs) k single shown lined tied =
    mirrored setup log log (Takes (U signals.TestCon) taking) hs (same_view setup log taking signals.TestCon hs) tied

-- something is put out
numbered : (setup : Setup) (log : List Observation) (ns nr : ℕ) (meant : Meant) (hs : List Turn)
    → PutsFirst (station_clocks setup.station) (view setup log hs)
    (put_out meant (spontaneous_of meant) (view setup log hs)) meant
    → Keeps setup log log (PutsOut (IFormat ns nr meant)) hs
numbered setup log ns nr meant hs puts = record {
  begins = λ asked act. absurd (none-some asked act);
  goes = λ asked since newer kept.
      kept_put_out setup.rows asked (station_clocks setup.station) since (told newer) meant
      (spontaneous_of meant) (view setup log hs) puts kept;
}

puts : (setup : Setup) (log : List Observation) (moment : ℕ) (x : Sending) (s : Option (List Turn)) (k : Client)
    → IsOffered k x → CanSend (station_clocks setup.station) x
    → AllByRecursion (CanSend (station_clocks setup.station)) (line_of k)
    → NewsTied setup s k → LineTied setup s k → NewsTied setup (session_with (PutsOut (says setup k x)) s)
    (client_with_sent (station_clocks setup.station) moment x k)
    → LineTied setup (session_with (PutsOut (says setup k x)) s)
    (client_with_sent (station_clocks setup.station) moment x k)
    → SessionMirrored setup log s → SessionMirrored setup log (session_with (PutsOut (says setup k x)) s)
puts setup log moment x None k is can all news lined news_then then tied = tt
puts setup log moment (sendings.Confirm signal) (Some hs) k is can all news lined news_then then tied =
    mirrored setup log log (PutsOut (says setup k (sendings.Confirm signal))) hs
    (record { begins = λ asked act. absurd (none-some asked act); goes = λ asked since newer kept. kept }) tied
puts setup log moment sendings.Test (Some hs) k is can all news lined news_then then tied =
    mirrored setup log log (PutsOut (says setup k sendings.Test)) hs
    (record { begins = λ asked act. absurd (none-some asked act); goes = λ asked since newer kept. kept }) tied
puts setup log moment sendings.SFormat (Some hs) k is can all news lined news_then then tied =
    mirrored setup log log (PutsOut (says setup k sendings.SFormat)) hs
    (record { begins = λ asked act. absurd (none-some asked act); goes = λ asked since newer kept. kept }) tied
puts setup log moment (sendings.Answer answer) (Some hs) k is can all news lined news_then then tied =
    let x : Sending = sendings.Answer answer in
    let t : Turn = PutsOut (says setup k x) in
    let now = line_is setup (t ∷ hs) (client_with_sent (station_clocks setup.station) moment x k) news_then then in
    mirrored setup log log t hs (numbered setup log _ _ _ hs
    (puts_first setup log moment x hs _ k is.first all (says_front setup x k is can all) news lined now)) tied
puts setup log moment (sendings.News y) (Some hs) k is can all news lined news_then then tied =
    let x : Sending = sendings.News y in
    let t : Turn = PutsOut (says setup k x) in
    let now = line_is setup (t ∷ hs) (client_with_sent (station_clocks setup.station) moment x k) news_then then in
    mirrored setup log log t hs (numbered setup log _ _ _ hs
    (puts_first setup log moment x hs _ k is.first all (says_front setup x k is can all) news lined now)) tied
puts setup log moment (sendings.Part part) (Some hs) k is can all news lined news_then then tied =
    let x : Sending = sendings.Part part in
    let t : Turn = PutsOut (says setup k x) in
    let now = line_is setup (t ∷ hs) (client_with_sent (station_clocks setup.station) moment x k) news_then then in
    mirrored setup log log t hs (numbered setup log _ _ _ hs
    (puts_first setup log moment x hs _ k is.first all (says_front setup x k is can all) news lined now)) tied

-- news and outcomes come
comes : (setup : Setup) (before : List Observation) (brought : Brought) (s : Option (List Turn)) (k : Client)
    → LineTied setup s k → SessionMirrored setup before s
    → SessionMirrored setup (before ++ brought.news) (session_with (Idle brought) s)
comes setup before brought None k lined tied = tt
comes setup before brought (Some hs) k lined tied =
    mirrored setup before (before ++ brought.news) (Idle brought) hs (record {
      begins = λ asked act. absurd (none-some asked act);
      goes = λ asked since newer kept.
          kept_taken setup.rows asked since (told newer) (told_outcomes brought.outcomes)
          (news_came setup.station.queue brought.news (view setup before hs))
          (none_shown setup.rows (before ++ brought.news) (told_outcomes brought.outcomes)
          (outcomes_none brought.outcomes))
          (kept_came setup.rows asked setup.station.queue since (told newer) brought.news
          (view setup before hs) lined.since kept);
    }) tied

-- ---- lives

session_mirrored : (setup : Setup) → IsSoundSetup setup → (log : List Observation) (ts : List Turn) (k : Client)
    → Lives setup ts k → IsLogged setup log ts → SessionMirrored setup log (session ts)
session_mirrored setup fit log [] k lives logged = tt
session_mirrored setup fit log (Ends ∷ ts) k lives logged = tt
session_mirrored setup fit log (Idle brought ∷ ts) k lives logged =
    subst (λ (l : List Observation). SessionMirrored setup l (session (Idle brought ∷ ts))) (sym logged.1)
    (comes setup logged.0 brought (session ts) lives.0 (line_tied setup fit.queue ts lives.0 lives.1)
    (session_mirrored setup fit logged.0 ts lives.0 lives.1 logged.2))
session_mirrored setup fit log (Takes a taking ∷ ts) k lives logged =
    takes setup log taking a (session ts) lives.0 (is_single-true setup.rows setup.controls fit.addresses) logged.0.same
    (line_tied setup fit.queue ts lives.0 lives.1)
    (session_mirrored setup fit log ts lives.0 lives.1 logged.1)
session_mirrored setup fit log (PutsOut said ∷ ts) k lives logged =
    let gave = lives.2 in
    let old : Client = lives.0 in
    let t : ApduMeaning → Turn = λ x. PutsOut x in
    let new : Client = client_with_sent (station_clocks setup.station) gave.moment gave.sending old in
    subst (λ (x : ApduMeaning). SessionMirrored setup log (session (PutsOut x ∷ ts))) (sym gave.says)
    (puts setup log gave.moment gave.sending (session ts) old
    (offered_is gave.moment old gave.sending gave.first) gave.can gave.all
    (news_tied setup fit.queue ts old lives.1) (line_tied setup fit.queue ts old lives.1)
    (subst (λ (x : ApduMeaning). NewsTied setup (session (PutsOut x ∷ ts)) new) gave.says
    (subst (NewsTied setup (session (PutsOut said ∷ ts))) gave.becomes
    (news_tied setup fit.queue (PutsOut said ∷ ts) k lives)))
    (subst (λ (x : ApduMeaning). LineTied setup (session (PutsOut x ∷ ts)) new) gave.says
    (subst (LineTied setup (session (PutsOut said ∷ ts))) gave.becomes
    (line_tied setup fit.queue (PutsOut said ∷ ts) k lives)))
    (session_mirrored setup fit log ts old lives.1 logged))

-- ---- the law

tells_mirror : (setup : Setup) (log : List Observation) (s : Option (List Turn)) → SessionMirrored setup log s
    → IfSome s (Mirrors setup log)
tells_mirror setup log None tied = tt
tells_mirror setup log (Some hs) tied = λ newer older act asked same is. by asked
    (length (fates setup.station older)) (told newer) (tied newer older act asked same is)
  where
    by : (asked : List ℕ) (since : ℕ) (heard : Option (List Observation))
        → IsKept setup.rows asked (view setup log hs) since heard
        → IfSome heard (MirrorsPicture setup asked log hs since)
    by asked since None kept = tt
    by asked since (Some xs) kept = record {
      knows = λ none. knows_picture setup asked log (xs ++ waiting_in (line setup hs))
          (kept.knows none);
    }

-- in each client's session
pub mirrors : (setup : Setup) (past : List Entry) → Place setup past → Mirror setup past
mirrors setup past place c within = by (client_at setup c past) (place.known.lives c)
  where
    by : (x : Option Client) → SlotLives setup c (life setup c past) x
        → IfSome (session (life setup c past)) (Mirrors setup (log_of setup past))
    by None lives = absurd (omega (arith, lives, within))
    by (Some k) lives =
        tells_mirror setup (log_of setup past) (session (life setup c past))
        (session_mirrored setup place.given.settings (log_of setup past) (life setup c past) k lives
        (logged setup c past place.given))
