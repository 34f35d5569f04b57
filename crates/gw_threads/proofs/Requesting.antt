-- What the writer towards an outstation sends, call after call.
use Rattle.std.proofs.Common.{◌≡◌, ℕ, Bool, true, false, ◌||◌, not, List, [], ◌∷◌, ◌++◌}
use Rattle.std.proofs.Common.{map, Result, Ok, Err, refl, sym, ap, subst, ◌∙◌}
use Rattle.std.proofs.lemmas.List.{map-append}
use Rattle.dnp_app.specs.declared.request.Request.{Request}
use Rattle.gw_map.specs.Settings.{Setup}
use Rattle.gw_steps.specs.declared.step.Step.TheVariants as steps
use Rattle.gw_steps.specs.declared.step.Reply.{Reply}
use Rattle.gw_steps.specs.declared.step.Reply.TheVariants as replies
use Rattle.gw_steps.specs.declared.step.StepFault.{StepFault}
use Rattle.run_shared.specs.Turn.{Pass}
use Rattle.run_ends.specs.declared.sent.Sent.{Sent}
use Rattle.run_ends.specs.declared.sent.Sent.TheVariants as sents
use Rattle.run_ends.specs.declared.sent.Sending.{Sending}
use Rattle.run_ends.specs.Sent.{IsSent, is_cut_off}
use Rattle.run_log.specs.Follows.{Known}
use Rattle.gw_threads.specs.Calls.{Call, given_by}
use Rattle.gw_threads.specs.Sends.{AreSent, IsTowards, PollsOnce, SentAll, TellsOutstationLoss, is_request, request_given}
use Rattle.gw_threads.proofs.Calling.{calls_own, calls_then, given_then, all-append}

pub sends_then : (old mid new : Known Sending) (a b : List Sending) → AreSent old a mid → AreSent mid b new
    → AreSent old (a ++ b) new
sends_then old mid new [] b first more = subst (λ (l : Known Sending). AreSent l b new) (sym first) more
sends_then old mid new (s ∷ a) b first more = (first.0, (first.1.0, sends_then first.0 mid new a b first.1.1 more))

or_assoc : (a b c : Bool) → (a || (b || c)) ≡ ((a || b) || c)
or_assoc true b c = refl
or_assoc false b c = refl

pub or_false : (a : Bool) → (a || false) ≡ a
or_false true = refl
or_false false = refl

cut_then : (a b : List Sending) → is_cut_off (a ++ b) ≡ (is_cut_off a || is_cut_off b)
cut_then [] b = refl
cut_then (s ∷ a) b =
    ap (λ (rest : Bool). not s.whole || rest) (cut_then a b)
    ∙ or_assoc (not s.whole) (is_cut_off a) (is_cut_off b)

pub cuts_then : (a b : List Sending) (x y : Bool) → is_cut_off a ≡ x → is_cut_off b ≡ y
    → is_cut_off (a ++ b) ≡ (x || y)
cuts_then a b x y first more =
    cut_then a b ∙ (ap (λ (cut : Bool). cut || is_cut_off b) first ∙ ap (λ (cut : Bool). x || cut) more)

pub sent_then : (setup : Setup) (outstation : ℕ) (mine mid after : Pass) (x y z : Known Sending) (a b : Bool)
    → SentAll setup outstation mine mid x y a → SentAll setup outstation mid after y z b
    → SentAll setup outstation mine after x z (a || b)
sent_then setup outstation mine mid after x y z a b first more = record {
  calls = first.calls ++ more.calls;
  made = calls_then setup mine mid after first.calls more.calls first.made more.made;
  own = all-append (λ (c : Call). IsTowards outstation c.step) first.calls more.calls first.own more.own;
  sends = first.sends ++ more.sends;
  sent = sends_then x y z first.sends more.sends first.sent more.sent;
  same =
      map-append (λ (s : Sending). s.what) first.sends more.sends
      ∙ (ap (λ (l : List Sent). l ++ map (λ (s : Sending). s.what) more.sends) first.same
      ∙ (ap (λ (l : List Sent). map sents.Request (given_by request_given first.calls) ++ l) more.same
      ∙ (sym (map-append sents.Request (given_by request_given first.calls) (given_by request_given more.calls))
      ∙ ap (map sents.Request) (sym (given_then request_given first.calls more.calls)))));
  cut_is = cuts_then first.sends more.sends a b first.cut_is more.cut_is;
}

pub sent_none : (setup : Setup) (outstation : ℕ) (mine : Pass) (x : Known Sending)
    → SentAll setup outstation mine mine x x false
sent_none setup outstation mine x =
    record { calls = []; made = refl; own = tt; sends = []; sent = refl; same = refl; cut_is = refl }

-- a request was given, and sent
pub sent_request : (setup : Setup) (outstation : ℕ) (mine after : Pass) (x y : Known Sending)
    (reply : Result Reply StepFault) (request : Request) (whole cut : Bool)
    → PollsOnce setup outstation mine after reply → reply ≡ Ok (replies.Request request)
    → IsSent x y (sents.Request request) whole → not whole ≡ cut → SentAll setup outstation mine after x y cut
sent_request setup outstation mine after x y reply request whole cut polled is sent cut_is =
    let there : PollsOnce setup outstation mine after (Ok (replies.Request request)) =
    subst (PollsOnce setup outstation mine after) is polled in
    record {
      calls = record { step = steps.Poll outstation there.0 there.1.0; number = there.1.1.0; reply = Ok (replies.Request request) } ∷ [];
      made = (after, (there.1.1.1, refl));
      own = (refl, tt);
      sends = record { what = sents.Request request; whole = whole } ∷ [];
      sent = (y, (sent, refl));
      same = refl;
      cut_is = or_false (not whole) ∙ cut_is;
    }

no_request : (outstation moment wall : ℕ) (reply : Result Reply StepFault) → is_request reply ≡ false
    → request_given (steps.Poll outstation moment wall) reply ≡ []
no_request outstation moment wall (Ok (replies.Apdu apdu)) none = refl
no_request outstation moment wall (Ok replies.Done) none = refl
no_request outstation moment wall (Ok (replies.Verdict verdict)) none = refl
no_request outstation moment wall (Ok (replies.Request request)) none = absurd (cc none)
no_request outstation moment wall (Ok replies.Taken) none = refl
no_request outstation moment wall (Ok (replies.Closed why)) none = refl
no_request outstation moment wall (Ok replies.Nothing) none = refl
no_request outstation moment wall (Ok (replies.Ticked closed)) none = refl
no_request outstation moment wall (Err fault) none = refl

-- nothing was given
pub sent_nothing : (setup : Setup) (outstation : ℕ) (mine after : Pass) (x : Known Sending)
    (reply : Result Reply StepFault)
    → PollsOnce setup outstation mine after reply → is_request reply ≡ false
    → SentAll setup outstation mine after x x false
sent_nothing setup outstation mine after x reply polled none = record {
  calls = record { step = steps.Poll outstation polled.0 polled.1.0; number = polled.1.1.0; reply = reply } ∷ [];
  made = (after, (polled.1.1.1, refl));
  own = (refl, tt);
  sends = [];
  sent = refl;
  same =
      ap (λ (l : List Request). map sents.Request (l ++ [])) (sym (no_request outstation polled.0 polled.1.0 reply none));
  cut_is = refl;
}

-- and then the outstation was lost
pub sent_loss : (setup : Setup) (outstation : ℕ) (mine mid after : Pass) (x y : Known Sending) (cut : Bool)
    → SentAll setup outstation mine mid x y cut → TellsOutstationLoss setup outstation mid after
    → SentAll setup outstation mine after x y cut
sent_loss setup outstation mine mid after x y cut first loss =
    subst (SentAll setup outstation mine after x y) (or_false cut)
    (sent_then setup outstation mine mid after x y y cut false first (record {
      calls = record { step = steps.OutstationDown outstation loss.0; number = loss.1.0; reply = loss.1.1.0 } ∷ [];
      made = (after, (loss.1.1.1, refl));
      own = (refl, tt);
      sends = [];
      sent = refl;
      same = refl;
      cut_is = refl;
    }))

-- whoever sends stays the actor that it is
pub sent_own : (setup : Setup) (outstation : ℕ) (mine after : Pass) (x y : Known Sending) (cut : Bool)
    → SentAll setup outstation mine after x y cut → after.actor ≡ mine.actor
sent_own setup outstation mine after x y cut sent = calls_own setup mine after sent.calls sent.made
