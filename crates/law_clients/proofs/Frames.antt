-- An I or S format is taken where it is right, and closes else: it is right where no cause holds for which it closes.
use Rattle.std.proofs.Common.{◌≡◌, ◌↔◌, ℕ, ◌%◌, Bool, true, false, List, [], ◌∷◌}
use Rattle.std.proofs.Common.{Option, Some, None, Result, Ok, refl, sym, ap, subst, ◌∙◌, inl, inr}
use Rattle.std.specs.Prelude.{◌==◌, ◌&&◌, not, is_none, is_some, nat_lt, IfSome}
use Rattle.std.proofs.lemmas.Bool.{both_ways, cases_Bool, eq-eqb, eqb-true, le-ltb, ltb-false, not-false, true≢false}
use Rattle.gw_model.specs.First.{first_of}
use Rattle.gw_map.specs.Settings.{Setup}
use Rattle.iec_apci.specs.declared.apdu.Apdu.{Apdu}
use Rattle.iec_apci.specs.declared.apdu.Apdu.TheVariants.{I, S, U}
use Rattle.gw_judge.specs.declared.judging.Judged.{Judged}
use Rattle.gw_judge.specs.declared.judging.Judged.TheVariants as judgements
use Rattle.iec_apci.specs.declared.why.Why.{Why}
use Rattle.gw_station.specs.Client.{Client}
use Rattle.gw_station.specs.Frames.{judged_asdu}
use Rattle.gw_steps.specs.declared.step.Step.{Step}
use Rattle.gw_steps.specs.declared.step.Step.TheVariants as steps
use Rattle.gw_steps.specs.declared.step.Reply.{Reply}
use Rattle.gw_steps.specs.declared.step.StepFault.{StepFault}
use Rattle.gw_steps.specs.Runs.{Entry}
use Rattle.law_history.specs.Life.{Turn, life, session, turns_in}
use Rattle.gw_steps.specs.Premises.{IsSoundSetup, client_at}
use Rattle.law_history.proofs.Places.{Known, Place, SlotLives}
use Rattle.law_clients.specs.Closes.{Closes, ClosesBy, causes, close_due, is_malformed, is_right_receive, places_with, reply_for}
use Rattle.law_clients.specs.Connection.{Connection, OfStanding, connection, turns}
use Rattle.law_clients.specs.Frames.{Frames, IsRight, IsRightInformation, JudgesBy}
use Rattle.law_clients.specs.Numbers.{IsRightReceive, taken}
use Rattle.law_clients.proofs.Acknowledged.{same_right}
use Rattle.law_clients.proofs.Closes.{LinkedBefore, Ties, first_cause, not_standing, ties}
use Rattle.law_clients.proofs.Links.{AllLinked, SlotLinked}
use Rattle.law_clients.proofs.Numbers.{receive_is_right, right_receive_is}
use Rattle.law_clients.proofs.Steps.{same_turns}

-- ---- N(R)

-- N(R) is right in both laws, or in neither: it leaves no more beyond it than the last one where it names no fewer
abbrev OneReceive : List Turn → Type 0
OneReceive ts = (nr : ℕ) → (is_right_receive nr ts ≡ true) ↔ IsRightReceive ts nr

-- one N(R) is right in the laws, while a connection stands: the client's window tells of both
one_receive : (setup : Setup) (c : ℕ) (ts : List Turn) (x : Connection) (slot : Option Client) → IsSoundSetup setup
    → turns x ≡ ts → SlotLives setup c ts slot → SlotLinked setup (Some x) slot → OneReceive ts
one_receive setup c ts x None fit same lives linked = absurd cc
one_receive setup c ts x (Some k) fit same lives linked =
    let tied : Ties setup (turns x) k = ties setup ts x k fit same lives linked in
    subst OneReceive same (λ nr.
    let by_window = same_right setup nr (turns x) k.window fit.window tied.window tied.acknowledged in (
      λ right. receive_is_right setup (turns x) nr k.window fit.window tied.window (by_window ∙ right),
      λ right. sym by_window ∙ right_receive_is setup (turns x) nr k.window fit.window tied.window right,
    ))

-- ---- I formats

-- where no cause holds, all is right
none_holds : (stopped send receive malformed flooded : Bool)
    → first_cause stopped (not (send && receive)) malformed flooded ≡ None
    → (stopped ≡ false) × (send ≡ true) × (receive ≡ true) × (malformed ≡ false) × (flooded ≡ false)
none_holds false true true false false e = (refl, refl, refl, refl, refl)
none_holds stopped send receive malformed flooded e = absurd cc

whole_judged : (j : Judged) → (j ≡ judgements.Malformed → ⊥) → is_malformed j ≡ false
whole_judged judgements.Malformed whole = absurd (whole refl)
whole_judged j whole = refl

-- an I format is right where no cause holds
right_unless : (setup : Setup) (ts : List Turn) (ns nr : ℕ) (j : Judged) → OneReceive ts
    → (first_of (causes setup ts ns nr j) ≡ None) ↔ IsRightInformation setup ts ns nr j
right_unless setup ts ns nr j one =
    let wanted : ℕ = places_with setup (turns_in (session ts)) j in (
      λ opens.
          let none = none_holds (is_none (session ts)) (ns == taken ts % 32768) (is_right_receive nr ts) (is_malformed j)
          (nat_lt 32 wanted) opens in
          record {
            started = not-false (is_some (session ts)) (not_standing (session ts) ∙ none.0);
            send = eqb-true ns (taken ts % 32768) none.1;
            receive = (one nr).0 none.2;
            whole = λ is. true≢false (sym (ap is_malformed is) ∙ none.3);
            places = ltb-false 32 wanted none.4;
          },
      λ right. rw (
        sym (not_standing (session ts)) ∙ ap not right.started,
        eq-eqb ns (taken ts % 32768) right.send,
        (one nr).1 right.receive,
        whole_judged j right.whole,
        le-ltb 32 wanted right.places,
      ) refl,
    )

-- ---- each step

judges_apdu : (setup : Setup) (past : List Entry) (c m : ℕ) (a : Apdu) → OneReceive (life setup c past)
    → JudgesBy setup past (steps.Frame c a m) (Ok (reply_for (close_due setup (life setup c past) a)))
judges_apdu setup past c m (I ns nr asdu) one = by (close_due setup (life setup c past) (I ns nr asdu))
    (right_unless setup (life setup c past) ns nr (judged_asdu setup asdu) one)
  where
    by : (why : Option Why) → (why ≡ None) ↔ IsRight setup (life setup c past) (I ns nr asdu)
        → JudgesBy setup past (steps.Frame c (I ns nr asdu) m) (Ok (reply_for why))
    by None right = right.0 refl
    by (Some why) right = λ is. let none : Some why ≡ None = right.1 is in absurd cc
judges_apdu setup past c m (S nr) one = elim (cases_Bool (is_right_receive nr (life setup c past))) [
  | inl is ↦ rw is ((one nr).0 is)
  | inr isnt ↦ rw isnt (λ right. both_ways (is_right_receive nr (life setup c past)) isnt ((one nr).1 right))
]
judges_apdu setup past c m (U signal) one = by (close_due setup (life setup c past) (U signal))
  where
    by : (why : Option Why) → JudgesBy setup past (steps.Frame c (U signal) m) (Ok (reply_for why))
    by None = tt
    by (Some why) = tt

judges : (setup : Setup) (past : List Entry) (step : Step) (reply : Result Reply StepFault) → IsSoundSetup setup
    → Known setup past → AllLinked setup past → ClosesBy setup past step reply → JudgesBy setup past step reply
judges setup past (steps.Frame c a m) (Ok r) fit known linked closes =
    by (connection setup c past) (same_turns setup c past) (linked c) closes
  where
    by : (x : Option Connection) → IfSome x (λ y. turns y ≡ life setup c past) → SlotLinked setup x (client_at setup c past)
        → OfStanding (λ y. r ≡ reply_for (close_due setup (turns y) a)) x → JudgesBy setup past (steps.Frame c a m) (Ok r)
    by None same linked closes = absurd closes
    by (Some x) same linked closes =
        let due = closes ∙ ap (λ (ts : List Turn). reply_for (close_due setup ts a)) same in
        subst (λ (y : Reply). JudgesBy setup past (steps.Frame c a m) (Ok y)) (sym due) (judges_apdu setup past c m a
        (one_receive setup c (life setup c past) x (client_at setup c past) fit same (known.lives c) linked))
judges setup past step reply fit known linked closes = tt

pub judges_frames : (setup : Setup) (past : List Entry) → Place setup past → LinkedBefore setup past
    → Closes setup past → Frames setup past
judges_frames setup [] place linked closes = tt
judges_frames setup (e ∷ past) place linked closes =
    judges setup past e.step e.reply place.given.settings place.last.1 linked closes
