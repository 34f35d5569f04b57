-- Requests that are handed over, by what became of orders.
use Rattle.std.proofs.Common.{◌≡◌, ℕ, Bool, true, false, cond, ◌==◌, List, [], ◌∷◌, ◌++◌}
use Rattle.std.proofs.Common.{Option, Some, None, Result, Ok, Err, refl, sym, ap, subst, ◌∙◌}
use Rattle.std.specs.Prelude.{filter}
use Rattle.std.specs.List.{AllByRecursion}
use Rattle.std.specs.Option.{option_to_list}
use Rattle.std.proofs.lemmas.List.{append-nil}
use Rattle.std.proofs.lemmas.List.Elements.{filter-append}
use Rattle.run_log.specs.Follows.{Known}
use Rattle.gw_model.specs.First.{when}
use Rattle.dnp_app.specs.declared.operation.Operation.{Operation}
use Rattle.dnp_app.specs.declared.operation.Operation.TheVariants.{Select, Operate, DirectOperate}
use Rattle.dnp_app.specs.declared.request.Request.{Request}
use Rattle.dnp_app.specs.Operating.{operating_of}
use Rattle.dnp_app.specs.Requests.{octets_of}
use Rattle.gw_map.specs.Settings.{Setup}
use Rattle.gw_control.specs.Controls.{is_sbo}
use Rattle.gw_steps.specs.declared.step.Step.{Step}
use Rattle.gw_steps.specs.declared.step.Step.TheVariants as steps
use Rattle.gw_steps.specs.declared.step.Reply.{Reply}
use Rattle.gw_steps.specs.declared.step.Reply.TheVariants as replies
use Rattle.gw_steps.specs.declared.step.StepFault.{StepFault}
use Rattle.gw_steps.specs.Runs.{AtEach, Entry}
use Rattle.law_orders.specs.Bonds.{Bonds, IsBonded, IsBound, IsBoundTo, MayAsk, is_control_request, operation_in}
use Rattle.law_orders.specs.Executes.{Execute, executes}
use Rattle.law_orders.specs.Marks.{Mark, Asked, Answered, answer_in, given_in, last_request}
use Rattle.law_orders.specs.Marks.{mark_answered, mark_answering, mark_asked, marks, names, took}
use Rattle.gw_steps.proofs.Running.{last_place}
use Rattle.run_shared.specs.Reached.{IsCourse, entries_of, entry}
use Rattle.run_shared.specs.Turn.{Pass}
use Rattle.run_ends.specs.declared.sent.Sending.{Sending}
use Rattle.gw_threads.specs.Sends.{SendsAllGiven, is_poll, request_given}
use Rattle.gw_station.proofs.All.{all-append}
use Rattle.law_running.specs.Handed.{AreOnce, AreOrdered, HandsOver, requests_for}
use Rattle.law_running.proofs.Keeping.{course_promised}

-- ---- what marks tell of requests

-- the requests among marks that went to an outstation; marks come newest first, these oldest first
abbrev asked_in : ℕ → List Mark → List Request
asked_in o [] = []
asked_in o (Asked p r ∷ before) = asked_in o before ++ cond (o == p) (r ∷ []) []
asked_in o (Answered done ∷ before) = asked_in o before

-- the request of an entry
abbrev given_for : ℕ → Entry → List Request
given_for o e = cond (is_poll o e.step) (request_given e.step e.reply) []

-- an answer is no request
answered_asks : (o n : ℕ) (past : List Entry) (answer : Option (ℕ × List ℕ)) (before : List Mark)
    → asked_in o (option_to_list (mark_answered n past answer) ++ before) ≡ asked_in o before
answered_asks o n past None before = refl
answered_asks o n past (Some answer) before = answering (last_request answer.0 past)
  where
    by : (is done : Bool) → asked_in o (option_to_list (when is (Answered done)) ++ before) ≡ asked_in o before
    by true done = refl
    by false done = refl

    answering : (r : Option Request)
        → asked_in o (option_to_list (mark_answering n answer.1 r) ++ before) ≡ asked_in o before
    answering None = refl
    answering (Some r) = by (names n r) (took (operating_of (octets_of r)) answer.1)

-- a request counts where it names the order, and went to the outstation
request_asks : (o n p : ℕ) (r : Request) (before : List Mark)
    → asked_in o (option_to_list (when (names n r) (Asked p r)) ++ before)
    ≡ asked_in o before ++ filter (names n) (cond (o == p) (r ∷ []) [])
request_asks o n p r before = by (names n r) refl
  where
    keeps : (b : Bool) → names n r ≡ true → cond b (r ∷ []) [] ≡ filter (names n) (cond b (r ∷ []) [])
    keeps true is = ap (λ (c : Bool). cond c (r ∷ []) []) (sym is)
    keeps false is = refl

    drops : (b : Bool) → names n r ≡ false → [] ≡ filter (names n) (cond b (r ∷ []) [])
    drops true is = ap (λ (c : Bool). cond c (r ∷ []) []) (sym is)
    drops false is = refl

    by : (c : Bool) → names n r ≡ c → asked_in o (option_to_list (when c (Asked p r)) ++ before)
        ≡ asked_in o before ++ filter (names n) (cond (o == p) (r ∷ []) [])
    by true is = ap (λ (l : List Request). asked_in o before ++ l) (keeps (o == p) is)
    by false is =
        sym (append-nil (asked_in o before)) ∙ ap (λ (l : List Request). asked_in o before ++ l) (drops (o == p) is)

-- and so with every step
asks : (o n : ℕ) (step : Step) (reply : Result Reply StepFault) (before : List Mark)
    → asked_in o (option_to_list (mark_asked n (given_in (entry step reply))) ++ before)
    ≡ asked_in o before ++ filter (names n) (given_for o (entry step reply))
asks o n step reply before = by step reply
  where
    quiet : asked_in o before ≡ asked_in o before ++ []
    quiet = sym (append-nil (asked_in o before))

    none : (b : Bool) → asked_in o before ≡ asked_in o before ++ filter (names n) (cond b [] [])
    none true = quiet
    none false = quiet

    by : (s : Step) (r : Result Reply StepFault)
        → asked_in o (option_to_list (mark_asked n (given_in (entry s r))) ++ before)
        ≡ asked_in o before ++ filter (names n) (given_for o (entry s r))
    by (steps.Poll p m w) (Ok (replies.Request r)) = request_asks o n p r before
    by (steps.Poll p m w) (Ok replies.Done) = none (o == p)
    by (steps.Poll p m w) (Ok (replies.Verdict v)) = none (o == p)
    by (steps.Poll p m w) (Ok (replies.Apdu a)) = none (o == p)
    by (steps.Poll p m w) (Ok replies.Taken) = none (o == p)
    by (steps.Poll p m w) (Ok (replies.Closed why)) = none (o == p)
    by (steps.Poll p m w) (Ok replies.Nothing) = none (o == p)
    by (steps.Poll p m w) (Ok (replies.Ticked closed)) = none (o == p)
    by (steps.Poll p m w) (Err fault) = none (o == p)
    by (steps.OutstationUp p m) (Ok r) = quiet
    by (steps.OutstationUp p m) (Err fault) = quiet
    by (steps.OutstationDown p m) (Ok r) = quiet
    by (steps.OutstationDown p m) (Err fault) = quiet
    by (steps.Fragment f m) (Ok r) = quiet
    by (steps.Fragment f m) (Err fault) = quiet
    by (steps.ClientUp c m) (Ok r) = quiet
    by (steps.ClientUp c m) (Err fault) = quiet
    by (steps.ClientDown c m) (Ok r) = quiet
    by (steps.ClientDown c m) (Err fault) = quiet
    by (steps.Frame c a m) (Ok r) = quiet
    by (steps.Frame c a m) (Err fault) = quiet
    by (steps.Pump c m) (Ok r) = quiet
    by (steps.Pump c m) (Err fault) = quiet
    by (steps.Tick m) (Ok r) = quiet
    by (steps.Tick m) (Err fault) = quiet

marks_ask : (o n : ℕ) (past : List Entry) → asked_in o (marks n past) ≡ filter (names n) (requests_for o past)
marks_ask o n [] = refl
marks_ask o n (e ∷ past) =
    asks o n e.step e.reply (option_to_list (mark_answered n past (answer_in e)) ++ marks n past)
    ∙ (ap (λ (l : List Request). l ++ filter (names n) (given_for o e))
    (answered_asks o n past (answer_in e) (marks n past) ∙ marks_ask o n past)
    ∙ sym (filter-append (names n) (requests_for o past) (given_for o e)))

-- ---- what is bonded is asked once

once_asked : (o : ℕ) (sbo : Bool) (ms : List Mark) → IsBonded sbo ms → AreOnce sbo (asked_in o ms)
once_asked o sbo [] bonded = tt
once_asked o sbo (Answered done ∷ before) bonded = once_asked o sbo before bonded.1
once_asked o sbo (Asked p r ∷ before) bonded = by sbo (operation_in r) refl bonded.0
  where
    Wanted : Bool → List Mark → Type 0
    Wanted s l = AreOnce s (asked_in o l ++ cond (o == p) (r ∷ []) [])

    first : (s b : Bool) → AreOnce s (r ∷ []) → AreOnce s (cond b (r ∷ []) [])
    first s true one = one
    first s false one = tt

    both : (selecting : Request) (b : Bool) → operation_in selecting ≡ Some Select → operation_in r ≡ Some Operate
        → AreOnce true (cond b (selecting ∷ []) [] ++ cond b (r ∷ []) [])
    both selecting true select operate = (select, operate)
    both selecting false select operate = tt

    by : (s : Bool) (op : Option Operation) → operation_in r ≡ op → MayAsk s op p r before → Wanted s before
    by false (Some DirectOperate) is none = subst (Wanted false) (sym none) (first false (o == p) is)
    by true (Some Select) is none = subst (Wanted true) (sym none) (first true (o == p) is)
    by true (Some Operate) is selected =
        subst (Wanted true) (sym selected.marks) (both selected.selecting (o == p) selected.select is)
    by false (Some Select) is none = absurd none
    by false (Some Operate) is none = absurd none
    by true (Some DirectOperate) is none = absurd none
    by false None is none = absurd none
    by true None is none = absurd none

-- ---- what names no order

abbrev IsNoOrder : Request → Type 0
IsNoOrder r = r.bond ≡ None → is_control_request (octets_of r) ≡ false

unnamed_given : (o : ℕ) (accepted : List Execute) (step : Step) (reply : Result Reply StepFault)
    → IsBound accepted (given_in (entry step reply)) → AllByRecursion IsNoOrder (given_for o (entry step reply))
unnamed_given o accepted step reply bound = by step reply bound
  where
    nothing : (b : Bool) → AllByRecursion IsNoOrder (cond b [] [])
    nothing true = tt
    nothing false = tt

    one : (p : ℕ) (r : Request) (b : Bool) → IsBoundTo accepted p r r.bond → AllByRecursion IsNoOrder (cond b (r ∷ []) [])
    one p r true bond = (λ none. subst (IsBoundTo accepted p r) none bond, tt)
    one p r false bond = tt

    by : (s : Step) (r : Result Reply StepFault) → IsBound accepted (given_in (entry s r))
        → AllByRecursion IsNoOrder (given_for o (entry s r))
    by (steps.Poll p m w) (Ok (replies.Request r)) b = one p r (o == p) b
    by (steps.Poll p m w) (Ok replies.Done) b = nothing (o == p)
    by (steps.Poll p m w) (Ok (replies.Verdict v)) b = nothing (o == p)
    by (steps.Poll p m w) (Ok (replies.Apdu a)) b = nothing (o == p)
    by (steps.Poll p m w) (Ok replies.Taken) b = nothing (o == p)
    by (steps.Poll p m w) (Ok (replies.Closed why)) b = nothing (o == p)
    by (steps.Poll p m w) (Ok replies.Nothing) b = nothing (o == p)
    by (steps.Poll p m w) (Ok (replies.Ticked closed)) b = nothing (o == p)
    by (steps.Poll p m w) (Err fault) b = nothing (o == p)
    by (steps.OutstationUp p m) r b = tt
    by (steps.OutstationDown p m) r b = tt
    by (steps.Fragment f m) r b = tt
    by (steps.ClientUp c m) r b = tt
    by (steps.ClientDown c m) r b = tt
    by (steps.Frame c a m) r b = tt
    by (steps.Pump c m) r b = tt
    by (steps.Tick m) r b = tt

unnamed_all : (setup : Setup) (o : ℕ) (past : List Entry) → AtEach (Bonds setup) past
    → AllByRecursion IsNoOrder (requests_for o past)
unnamed_all setup o [] each = tt
unnamed_all setup o (e ∷ past) each =
    all-append IsNoOrder (requests_for o past) (given_for o e) (unnamed_all setup o past each.1)
    (unnamed_given o (executes setup past) e.step e.reply each.0.last)

-- ---- the law

ordered : (setup : Setup) (o : ℕ) (past : List Entry) → IsCourse setup past → AreOrdered setup past (requests_for o past)
ordered setup o past course =
    let each = (course_promised setup past course).bonds in
    let bonds : Bonds setup past = last_place (Bonds setup) past each in
    record {
      once = λ n x is. subst (AreOnce (is_sbo x.control.mode)) (marks_ask o n past)
          (once_asked o (is_sbo x.control.mode) (marks n past) (bonds.bonded n x is));
      no_other = λ n is. sym (marks_ask o n past) ∙ ap (asked_in o) (bonds.no_other n is);
      unnamed = unnamed_all setup o past each;
    }

pub hands_over : (setup : Setup) (o : ℕ) (mine after : Pass) (front : Known Sending)
    → IsCourse setup (entries_of after.seen) → SendsAllGiven o mine after front → HandsOver setup o mine after front
hands_over setup o mine after front course sends = record {
  joined = sends.joined;
  is_new = sends.is_new;
  sends = sends.sends;
  sent = sends.sent;
  requests = sends.requests;
  same = sends.same;
  ordered =
      subst (AreOrdered setup (entries_of after.seen)) sends.all (ordered setup o (entries_of after.seen) course);
}
