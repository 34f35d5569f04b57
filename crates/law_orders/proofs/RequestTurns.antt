-- What ties an outstation's part of the state to the talk with it, and how each turn keeps it.
use Rattle.std.proofs.Common.{◌≡◌, ℕ, ◌+◌, ◌/◌, ◌%◌, Bool, true, false, cond, not, ◌&&◌}
use Rattle.std.proofs.Common.{◌||◌, List, [], ◌∷◌, Option, Some, None, refl, sym, ap, ◌∙◌, arith}
use Rattle.std.proofs.Math.Bool.{or-false}
use Rattle.std.specs.Prelude.{◌==◌, option_and_then, option_map, slice_index}
use Rattle.std.proofs.lemmas.Bool.{eq-eqb, eqb-true, ne_eqb}
use Rattle.gw_model.specs.declared.poll.Poll.{Poll}
use Rattle.dnp_app.specs.declared.operation.Operation.TheVariants.{Select, Operate, DirectOperate}
use Rattle.dnp_app.specs.declared.request.Request.{Request}
use Rattle.dnp_app.specs.Asking.{Asks, RecordTime as Recording}
use Rattle.dnp_app.specs.Response.{Fragment, is_unsolicited}
use Rattle.dnp_master.specs.declared.due.DueTasks.{DueTasks}
use Rattle.dnp_master.specs.declared.exchange.Awaited.{Awaited}
use Rattle.dnp_master.specs.declared.exchange.Exchange.{Exchange}
use Rattle.dnp_master.specs.declared.exchange.Exchange.TheVariants.{Idle, Waiting, Selected}
use Rattle.dnp_master.specs.declared.indications.Indications.{Indications}
use Rattle.dnp_master.specs.declared.task.Task.{Task}
use Rattle.dnp_master.specs.declared.task.Task.TheVariants.{ClearRestart, WriteTime, RecordTime, Disable}
use Rattle.dnp_master.specs.declared.task.Task.TheVariants.{Integrity, Enable, EventPoll, Command}
use Rattle.dnp_master.specs.Master.{Master, due_unanswered, due_without, following, master_after_up}
use Rattle.dnp_master.specs.Master.{master_asking, master_down, nothing_due, task_request}
use Rattle.dnp_master.specs.Fragments.{clears_restart, control_in, due_once_answered, due_with}
use Rattle.dnp_master.specs.Fragments.{exchange_once_answered, indications_in, is_done}
use Rattle.dnp_master.specs.Fragments.{master_after_answer, master_after_unsolicited, records_time}
use Rattle.law_orders.specs.Talk.{Turn, Up, Sends, Accepts, GivesUp, asked_by, last_asked, last_sent, next_number, number_behind}
use Rattle.law_orders.specs.Due.{clear_restart, disabling_due, enabling_due, event_poll}
use Rattle.law_orders.specs.Due.{events_wanted, had, iin, integrity_poll, integrity_wanted, is_for}
use Rattle.law_orders.specs.Due.{recording_due, restart_due, since, tells_of_events, time_due}
use Rattle.law_history.proofs.Masters.{first_octet}

-- ---- the tie

-- what is due, as the talk tells
abbrev pub due_told : Poll → List Turn → DueTasks
due_told poll ts = record {
  clear_restart = restart_due ts;
  write_time = time_due ts;
  record_time = recording_due poll ts;
  disable = disabling_due poll ts;
  integrity = integrity_wanted ts;
  integrity_since = since integrity_poll ts;
  enable = enabling_due poll ts;
  events = events_wanted ts;
  events_since = since event_poll ts;
}

-- a recording was asked for at this wall time
abbrev pub IsRecordedAt : ℕ → Task → Type 0
IsRecordedAt wall (RecordTime time) = time ≡ wall
IsRecordedAt wall _ = Unit {0}

-- the last request is that of a task
pub record SentFor (task : Task) (ts : List Turn) : Type 0 where
  pub number : ℕ
  pub wall : ℕ
  pub last : last_sent ts ≡ Some (task_request task number, wall)
  pub recorded : IsRecordedAt wall task

abbrev pub SentAs : Exchange → List Turn → Type 0
SentAs Idle ts = Unit {0}
SentAs (Waiting w) ts = SentFor w.task ts
SentAs (Selected order) ts = Unit {0}

pub record IsTold (m : Master) (ts : List Turn) : Type 0 where
  pub due : m.due ≡ due_told m.poll ts
  pub restart : m.before.restart ≡ had (iin 1 7) ts
  pub overflow : m.before.overflow ≡ had (iin 2 3) ts
  pub number : m.sequence ≡ next_number ts
  pub sent : SentAs m.exchange ts

-- ---- it comes up, or is down

abbrev due_up : ℕ → Bool → DueTasks
due_up moment unsolicited = record nothing_due {
  disable = unsolicited;
  integrity = true;
  integrity_since = moment;
  enable = unsolicited;
  events_since = moment;
}

pub told_up : (moment : ℕ) (m : Master) → IsTold (master_after_up moment m) (Up moment ∷ [])
told_up moment m = record {
  due = sym (ap (due_up moment) (or-false m.poll.unsolicited));
  restart = refl;
  overflow = refl;
  number = refl;
  sent = tt;
}

pub told_down : (poll : Poll) → IsTold (master_down poll) []
told_down poll = record { due = refl; restart = refl; overflow = refl; number = refl; sent = tt }

-- ---- a request is given

without : (moment wall n : ℕ) (poll : Poll) (ts : List Turn) (task : Task)
    → due_without moment task (due_told poll ts) ≡ due_told poll (Sends (task_request task n) moment wall ∷ ts)
without moment wall n poll ts ClearRestart = refl
without moment wall n poll ts (WriteTime time) = refl
without moment wall n poll ts (RecordTime time) = refl
without moment wall n poll ts Disable = refl
without moment wall n poll ts Integrity = refl
without moment wall n poll ts Enable = refl
without moment wall n poll ts EventPoll = refl
without moment wall n poll ts (Command Select order) = refl
without moment wall n poll ts (Command Operate order) = refl
without moment wall n poll ts (Command DirectOperate order) = refl

behind : (n octet : ℕ) → octet ≡ 192 + n → following n ≡ number_behind octet
behind n octet e = omega (arith, e)

pub told_asking : (moment wall : ℕ) (task : Task) (m : Master) (ts : List Turn) → IsRecordedAt wall task → IsTold m ts
    → IsTold (master_asking moment task m) (Sends (task_request task m.sequence) moment wall ∷ ts)
told_asking moment wall task m ts recorded k = record {
  due = ap (due_without moment task) k.due ∙ without moment wall m.sequence m.poll ts task;
  restart = k.restart;
  overflow = k.overflow;
  number = behind m.sequence (slice_index (task_request task m.sequence).octets 0) (first_octet task m.sequence);
  sent = record { number = m.sequence; wall = wall; last = refl; recorded = recorded };
}

-- ---- a request is given up

abbrev giving_up : Bool → Bool → DueTasks → DueTasks
giving_up recording integrity d = record d {
  write_time = cond recording None d.write_time;
  record_time = not recording && d.record_time;
  integrity = ((integrity || false) || false) || d.integrity;
}

unanswered : (n : ℕ) (task : Task) (d : DueTasks) → due_unanswered task d
    ≡ giving_up (is_for Recording (asked_by (task_request task n)))
    (is_for integrity_poll (asked_by (task_request task n))) d
unanswered n ClearRestart d = refl
unanswered n (WriteTime time) d = refl
unanswered n (RecordTime time) d = refl
unanswered n Disable d = refl
unanswered n Integrity d = refl
unanswered n Enable d = refl
unanswered n EventPoll d = refl
unanswered n (Command Select order) d = refl
unanswered n (Command Operate order) d = refl
unanswered n (Command DirectOperate order) d = refl

-- what the last request asked for
asked_last : (task : Task) (ts : List Turn) (k : SentFor task ts)
    → last_asked ts ≡ asked_by (task_request task k.number)
asked_last task ts k = ap (option_and_then (λ (sent : Request × ℕ). asked_by sent.0)) k.last

given_up_due : (poll : Poll) (ts : List Turn) (asked : Option Asks) → last_asked ts ≡ asked
    → due_told poll (GivesUp ∷ ts) ≡ giving_up (is_for Recording asked) (is_for integrity_poll asked) (due_told poll ts)
given_up_due poll ts asked e =
    ap (λ (x : Option Asks). giving_up (is_for Recording x) (is_for integrity_poll x) (due_told poll ts)) e

pub told_given_up : (m : Master) (task : Task) (ts : List Turn) → SentFor task ts → IsTold m ts
    → IsTold (record m { exchange = Idle; due = due_unanswered task m.due }) (GivesUp ∷ ts)
told_given_up m task ts sent k = record {
  due = unanswered sent.number task m.due
      ∙ (ap (giving_up (is_for Recording (asked_by (task_request task sent.number)))
      (is_for integrity_poll (asked_by (task_request task sent.number)))) k.due
      ∙ sym (given_up_due m.poll ts (asked_by (task_request task sent.number)) (asked_last task ts sent)));
  restart = k.restart;
  overflow = k.overflow;
  number = k.number;
  sent = tt;
}

-- ---- a fragment is accepted

-- what it makes due: it answers the clearing of the restart or the recording of the time, or doesn't, and the one
-- before had these two indications
abbrev accepting : Bool → Bool → Bool → Bool → Option ℕ → Poll → Fragment → DueTasks → DueTasks
accepting clears records restart overflow wall poll f d = record d {
  clear_restart = (iin 1 7 f && not clears) || d.clear_restart;
  write_time = cond (records && (control_in f).fin) wall d.write_time;
  record_time = ((iin 1 4 f && not records) && poll.lan_time) || d.record_time;
  integrity = ((iin 1 7 f && not restart) || (iin 2 3 f && not overflow)) || d.integrity;
  events = tells_of_events f || d.events;
}

or_swap : (a b : Bool) → a || b ≡ b || a
or_swap true true = refl
or_swap true false = refl
or_swap false true = refl
or_swap false false = refl

and_swap : (a b : Bool) → a && b ≡ b && a
and_swap true true = refl
and_swap true false = refl
and_swap false true = refl
and_swap false false = refl

-- three bits in a row, of which one is set
some_bit : (n : ℕ) → ((n % 2 == 1) || ((n / 2) % 2 == 1)) || ((n / 4) % 2 == 1) ≡ not (n % 8 == 0)
some_bit n = by (n % 2 == 1) ((n / 2) % 2 == 1) ((n / 4) % 2 == 1) refl refl refl
  where
    set : (n % 8 ≡ 0 → ⊥) → true ≡ not (n % 8 == 0)
    set ne = ap not (sym (ne_eqb (n % 8) 0 ne))

    unset : (x : ℕ) → (x == 1) ≡ false → x ≡ 1 → ⊥
    unset x other is = let no : true ≡ false = sym (eq-eqb x 1 is) ∙ other in let none : ⊥ = cc in none

    by : (a b c : Bool) → (n % 2 == 1) ≡ a → ((n / 2) % 2 == 1) ≡ b → ((n / 4) % 2 == 1) ≡ c
        → (a || b) || c ≡ not (n % 8 == 0)
    by true b c ea eb ec = set (λ e. omega (arith, e, eqb-true (n % 2) 1 ea))
    by false true c ea eb ec = set (λ e. omega (arith, e, eqb-true ((n / 2) % 2) 1 eb))
    by false false true ea eb ec = set (λ e. omega (arith, e, eqb-true ((n / 4) % 2) 1 ec))
    by false false false ea eb ec =
        let none : n % 8 ≡ 0 = omega (arith, unset (n % 2) ea, unset ((n / 2) % 2) eb, unset ((n / 4) % 2) ec) in
        ap not (sym (eq-eqb (n % 8) 0 none))

events_so : (f : Fragment) → tells_of_events f ≡ (indications_in f).events
events_so f =
    let n : ℕ = slice_index f.octets 2 in
    let second : (n / 4) % 2 ≡ (n / 2 / 2) % 2 = omega arith in
    let third : (n / 8) % 2 ≡ (n / 2 / 4) % 2 = omega arith in
    ap (λ (x : ℕ). (((n / 2) % 2 == 1) || (x == 1)) || ((n / 8) % 2 == 1)) second
    ∙ (ap (λ (x : ℕ). (((n / 2) % 2 == 1) || ((n / 2 / 2) % 2 == 1)) || (x == 1)) third ∙ some_bit (n / 2))

-- these flags may be told in other words
flags : (d : DueTasks) (c c' r r' i i' e e' : Bool) → c ≡ c' → r ≡ r' → i ≡ i' → e ≡ e'
    → record d { clear_restart = c; record_time = r; integrity = i; events = e }
    ≡ record d { clear_restart = c'; record_time = r'; integrity = i'; events = e' }
flags d c c' r r' i i' e e' ec er ei ee =
    ap (λ (x : Bool). record d { clear_restart = x; record_time = r; integrity = i; events = e }) ec
    ∙ (ap (λ (x : Bool). record d { clear_restart = c'; record_time = x; integrity = i; events = e }) er
    ∙ (ap (λ (x : Bool). record d { clear_restart = c'; record_time = r'; integrity = x; events = e }) ei
    ∙ ap (λ (x : Bool). record d { clear_restart = c'; record_time = r'; integrity = i'; events = x }) ee))

with_it : (poll : Poll) (f : Fragment) (answered : Option Task) (before : Indications) (d : DueTasks)
    → due_with poll answered before (indications_in f) d ≡ record d {
      clear_restart = (iin 1 7 f && not (clears_restart answered)) || d.clear_restart;
      record_time = ((iin 1 4 f && not (records_time answered)) && poll.lan_time) || d.record_time;
      integrity = ((iin 1 7 f && not before.restart) || (iin 2 3 f && not before.overflow)) || d.integrity;
      events = tells_of_events f || d.events;
    }
with_it poll f answered before d =
    let clears : Bool = iin 1 7 f && not (clears_restart answered) in
    let records : Bool = iin 1 4 f && not (records_time answered) in
    let rises : Bool = (iin 1 7 f && not before.restart) || (iin 2 3 f && not before.overflow) in
    flags d (d.clear_restart || clears) (clears || d.clear_restart)
    (d.record_time || (poll.lan_time && records)) ((records && poll.lan_time) || d.record_time)
    (d.integrity || rises) (rises || d.integrity)
    (d.events || (indications_in f).events) (tells_of_events f || d.events)
    (or_swap d.clear_restart clears)
    (or_swap d.record_time (poll.lan_time && records)
    ∙ ap (λ (b : Bool). b || d.record_time) (and_swap poll.lan_time records))
    (or_swap d.integrity rises)
    (or_swap d.events (indications_in f).events ∙ ap (λ (b : Bool). b || d.events) (sym (events_so f)))

-- ---- an unsolicited response

unsolicited_due : (poll : Poll) (f : Fragment) (ts : List Turn) (u : Bool) → is_unsolicited f ≡ u
    → due_told poll (Accepts f ∷ ts)
    ≡ accepting (not u && is_for clear_restart (last_asked ts)) (not u && is_for Recording (last_asked ts))
    (had (iin 1 7) ts) (had (iin 2 3) ts) (option_map (λ (sent : Request × ℕ). sent.1) (last_sent ts)) poll f
    (due_told poll ts)
unsolicited_due poll f ts u e =
    ap (λ (b : Bool). accepting (not b && is_for clear_restart (last_asked ts))
    (not b && is_for Recording (last_asked ts)) (had (iin 1 7) ts) (had (iin 2 3) ts)
    (option_map (λ (sent : Request × ℕ). sent.1) (last_sent ts)) poll f (due_told poll ts)) e

-- a fragment that answers this after that
abbrev taking : Poll → Fragment → Option Task → Bool → Bool → DueTasks → DueTasks
taking poll f answered restart overflow d = record d {
  clear_restart = (iin 1 7 f && not (clears_restart answered)) || d.clear_restart;
  record_time = ((iin 1 4 f && not (records_time answered)) && poll.lan_time) || d.record_time;
  integrity = ((iin 1 7 f && not restart) || (iin 2 3 f && not overflow)) || d.integrity;
  events = tells_of_events f || d.events;
}

taken : (f : Fragment) (answered : Option Task) (m : Master) (ts : List Turn) → IsTold m ts
    → due_with m.poll answered m.before (indications_in f) m.due
    ≡ taking m.poll f answered (had (iin 1 7) ts) (had (iin 2 3) ts) (due_told m.poll ts)
taken f answered m ts k =
    with_it m.poll f answered m.before m.due
    ∙ (ap (λ (b : Bool). taking m.poll f answered b m.before.overflow m.due) k.restart
    ∙ (ap (λ (b : Bool). taking m.poll f answered (had (iin 1 7) ts) b m.due) k.overflow
    ∙ ap (taking m.poll f answered (had (iin 1 7) ts) (had (iin 2 3) ts)) k.due))

pub told_unsolicited : (f : Fragment) (m : Master) (ts : List Turn) → is_unsolicited f ≡ true → IsTold m ts
    → IsTold (master_after_unsolicited f m) (Accepts f ∷ ts)
told_unsolicited f m ts e k = record {
  due = taken f None m ts k ∙ sym (unsolicited_due m.poll f ts true e);
  restart = refl;
  overflow = refl;
  number = k.number ∙ sym (ap (λ (b : Bool). cond b (next_number ts) (number_behind (slice_index f.octets 0))) e);
  sent = sent_still m.exchange k.sent;
}
  where
    sent_still : (ex : Exchange) → SentAs ex ts → SentAs ex (Accepts f ∷ ts)
    sent_still Idle sent = tt
    sent_still (Waiting w) sent =
        record { number = sent.number; wall = sent.wall; last = sent.last; recorded = sent.recorded }
    sent_still (Selected order) sent = tt

-- ---- a fragment of an answer

clears_so : (n : ℕ) (task : Task) → is_for clear_restart (asked_by (task_request task n)) ≡ clears_restart (Some task)
clears_so n ClearRestart = refl
clears_so n (WriteTime time) = refl
clears_so n (RecordTime time) = refl
clears_so n Disable = refl
clears_so n Integrity = refl
clears_so n Enable = refl
clears_so n EventPoll = refl
clears_so n (Command Select order) = refl
clears_so n (Command Operate order) = refl
clears_so n (Command DirectOperate order) = refl

records_so : (n : ℕ) (task : Task) → is_for Recording (asked_by (task_request task n)) ≡ records_time (Some task)
records_so n ClearRestart = refl
records_so n (WriteTime time) = refl
records_so n (RecordTime time) = refl
records_so n Disable = refl
records_so n Integrity = refl
records_so n Enable = refl
records_so n EventPoll = refl
records_so n (Command Select order) = refl
records_so n (Command Operate order) = refl
records_so n (Command DirectOperate order) = refl

-- the end of the answer to a recording
ended_so : (wall : ℕ) (fin : Bool) (task : Task) (d : DueTasks) → IsRecordedAt wall task
    → cond fin (due_once_answered task d) d
    ≡ record d { write_time = cond (records_time (Some task) && fin) (Some wall) d.write_time }
ended_so wall true ClearRestart d k = refl
ended_so wall true (WriteTime time) d k = refl
ended_so wall true (RecordTime time) d k = ap (λ (x : ℕ). record d { write_time = Some x }) k
ended_so wall true Disable d k = refl
ended_so wall true Integrity d k = refl
ended_so wall true Enable d k = refl
ended_so wall true EventPoll d k = refl
ended_so wall true (Command operation order) d k = refl
ended_so wall false ClearRestart d k = refl
ended_so wall false (WriteTime time) d k = refl
ended_so wall false (RecordTime time) d k = refl
ended_so wall false Disable d k = refl
ended_so wall false Integrity d k = refl
ended_so wall false Enable d k = refl
ended_so wall false EventPoll d k = refl
ended_so wall false (Command operation order) d k = refl

answered_due : (poll : Poll) (f : Fragment) (task : Task) (ts : List Turn) (k : SentFor task ts)
    → is_unsolicited f ≡ false → due_told poll (Accepts f ∷ ts)
    ≡ accepting (clears_restart (Some task)) (records_time (Some task)) (had (iin 1 7) ts) (had (iin 2 3) ts)
    (Some k.wall) poll f (due_told poll ts)
answered_due poll f task ts k e =
    let asked : last_asked ts ≡ asked_by (task_request task k.number) = asked_last task ts k in
    let clears : is_for clear_restart (last_asked ts) ≡ clears_restart (Some task) =
    ap (is_for clear_restart) asked ∙ clears_so k.number task in
    let records : is_for Recording (last_asked ts) ≡ records_time (Some task) =
    ap (is_for Recording) asked ∙ records_so k.number task in
    let wall : option_map (λ (sent : Request × ℕ). sent.1) (last_sent ts) ≡ Some k.wall =
    ap (option_map (λ (sent : Request × ℕ). sent.1)) k.last in
    unsolicited_due poll f ts false e
    ∙ (ap (λ (b : Bool). accepting b (is_for Recording (last_asked ts)) (had (iin 1 7) ts) (had (iin 2 3) ts)
    (option_map (λ (sent : Request × ℕ). sent.1) (last_sent ts)) poll f (due_told poll ts)) clears
    ∙ (ap (λ (b : Bool). accepting (clears_restart (Some task)) b (had (iin 1 7) ts) (had (iin 2 3) ts)
    (option_map (λ (sent : Request × ℕ). sent.1) (last_sent ts)) poll f (due_told poll ts)) records
    ∙ ap (λ (x : Option ℕ). accepting (clears_restart (Some task)) (records_time (Some task)) (had (iin 1 7) ts)
    (had (iin 2 3) ts) x poll f (due_told poll ts)) wall))

answer_behind : (f : Fragment) (n : ℕ) → (control_in f).sequence ≡ n
    → following n ≡ number_behind (slice_index f.octets 0)
answer_behind f n e = omega (arith, e)

-- nothing awaits once an answer ended
sent_once : (task : Task) (done : Bool) (ts : List Turn) → SentAs (exchange_once_answered task done) ts
sent_once ClearRestart done ts = tt
sent_once (WriteTime time) done ts = tt
sent_once (RecordTime time) done ts = tt
sent_once Disable done ts = tt
sent_once Integrity done ts = tt
sent_once Enable done ts = tt
sent_once EventPoll done ts = tt
sent_once (Command Select order) true ts = tt
sent_once (Command Select order) false ts = tt
sent_once (Command Operate order) done ts = tt
sent_once (Command DirectOperate order) done ts = tt

sent_on : (moment : ℕ) (f : Fragment) (w : Awaited) (ts : List Turn) (fin : Bool) → SentFor w.task ts
    → SentAs (cond fin (exchange_once_answered w.task (is_done w.task f))
    (Waiting (record w { expected = following w.expected; begun = true; since = moment }))) (Accepts f ∷ ts)
sent_on moment f w ts true sent = sent_once w.task (is_done w.task f) (Accepts f ∷ ts)
sent_on moment f w ts false sent =
    record { number = sent.number; wall = sent.wall; last = sent.last; recorded = sent.recorded }

pub told_answer : (moment : ℕ) (f : Fragment) (w : Awaited) (m : Master) (ts : List Turn) → is_unsolicited f ≡ false
    → (control_in f).sequence ≡ w.expected → SentFor w.task ts → IsTold m ts
    → IsTold (master_after_answer moment f (Waiting w) m) (Accepts f ∷ ts)
told_answer moment f w m ts e same sent k =
    let d : DueTasks = due_with m.poll (Some w.task) m.before (indications_in f) m.due in
    let fin : Bool = (control_in f).fin in
    record {
      due = ended_so sent.wall fin w.task d sent.recorded
          ∙ (ap (λ (x : DueTasks). record x
          { write_time = cond (records_time (Some w.task) && fin) (Some sent.wall) x.write_time })
          (taken f (Some w.task) m ts k)
          ∙ sym (answered_due m.poll f w.task ts sent e));
      restart = refl;
      overflow = refl;
      number = answer_behind f w.expected same
          ∙ sym (ap (λ (b : Bool). cond b (next_number ts) (number_behind (slice_index f.octets 0))) e);
      sent = sent_on moment f w ts fin sent;
    }
