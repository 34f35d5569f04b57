-- What the reader of an outstation steps and confirms, one after another.
use Rattle.std.proofs.Common.{◌≡◌, ℕ, Bool, false, not, ◌||◌, List, [], ◌∷◌, ◌++◌}
use Rattle.std.proofs.Common.{Result, refl, sym, ap, subst, ◌∙◌, append_assoc}
use Rattle.std.proofs.lemmas.List.{append-nil}
use Rattle.dnp_app.specs.Response.{Fragment}
use Rattle.gw_map.specs.Settings.{Setup}
use Rattle.gw_steps.specs.declared.step.Step.TheVariants as steps
use Rattle.gw_steps.specs.declared.step.Reply.{Reply}
use Rattle.gw_steps.specs.declared.step.StepFault.{StepFault}
use Rattle.run_shared.specs.Turn.{Answers, Pass}
use Rattle.run_ends.specs.declared.sent.Sent.{Sent}
use Rattle.run_ends.specs.declared.sent.Sent.TheVariants as sents
use Rattle.run_ends.specs.declared.sent.Sending.{Sending}
use Rattle.run_ends.specs.Sent.{IsSent}
use Rattle.run_log.specs.Follows.{Known}
use Rattle.gw_threads.specs.Calls.{Call, given_by}
use Rattle.gw_threads.specs.Sends.{TellsOutstationLoss}
use Rattle.gw_threads.proofs.Calling.{calls_own, calls_then, given_then, all-append}
use Rattle.gw_threads.proofs.Requesting.{cuts_then, or_false, sends_then}
use Rattle.gw_threads.specs.Confirms.{Confirms, IsRead, IsReaders, ReadsAll, confirmation_given}
use Rattle.gw_threads.specs.Confirms.{confirmation_in, confirmation_sent, confirmations_sent}

sent_then : (a b : List Sending) → confirmations_sent (a ++ b) ≡ confirmations_sent a ++ confirmations_sent b
sent_then [] b = refl
sent_then (s ∷ a) b =
    ap (λ (rest : List (List ℕ)). confirmation_sent s.what ++ rest) (sent_then a b)
    ∙ sym (append_assoc (confirmation_sent s.what) (confirmations_sent a) (confirmations_sent b))

pub reads_then : (setup : Setup) (outstation : ℕ) (mine mid after : Pass) (x y z : Known Sending) (a b : Bool)
    → ReadsAll setup outstation mine mid x y a → ReadsAll setup outstation mid after y z b
    → ReadsAll setup outstation mine after x z (a || b)
reads_then setup outstation mine mid after x y z a b first more = record {
  calls = first.calls ++ more.calls;
  made = calls_then setup mine mid after first.calls more.calls first.made more.made;
  own = all-append (λ (c : Call). IsRead outstation c.step) first.calls more.calls first.own more.own;
  sends = first.sends ++ more.sends;
  sent = sends_then x y z first.sends more.sends first.sent more.sent;
  only = all-append (λ (s : Sending). IsReaders s.what) first.sends more.sends first.only more.only;
  same =
      sent_then first.sends more.sends
      ∙ (ap (λ (l : List (List ℕ)). l ++ confirmations_sent more.sends) first.same
      ∙ (ap (λ (l : List (List ℕ)). given_by confirmation_given first.calls ++ l) more.same
      ∙ sym (given_then confirmation_given first.calls more.calls)));
  cut_is = cuts_then first.sends more.sends a b first.cut_is more.cut_is;
}

-- so also where it is said of another name of the outstation
pub reads_next : (setup : Setup) (outstation other : ℕ) (mine mid after : Pass) (x y z : Known Sending) (b : Bool)
    → other ≡ outstation → ReadsAll setup outstation mine mid x y false → ReadsAll setup other mid after y z b
    → ReadsAll setup outstation mine after x z b
reads_next setup outstation other mine mid after x y z b same first more =
    reads_then setup outstation mine mid after x y z false b first
    (subst (λ (o : ℕ). ReadsAll setup o mid after y z b) same more)

pub reads_none : (setup : Setup) (outstation : ℕ) (mine : Pass) (x : Known Sending)
    → ReadsAll setup outstation mine mine x x false
reads_none setup outstation mine x =
    record { calls = []; made = refl; own = tt; sends = []; sent = refl; only = tt; same = refl; cut_is = refl }

-- a frame of the link was sent
pub reads_sent : (setup : Setup) (outstation : ℕ) (mine : Pass) (x y : Known Sending) (what : Sent) (whole cut : Bool)
    → IsReaders what → confirmation_sent what ≡ [] → IsSent x y what whole → not whole ≡ cut
    → ReadsAll setup outstation mine mine x y cut
reads_sent setup outstation mine x y what whole cut only none sent cut_is = record {
  calls = [];
  made = refl;
  own = tt;
  sends = record { what = what; whole = whole } ∷ [];
  sent = (y, (sent, refl));
  only = (only, tt);
  same = ap (λ (l : List (List ℕ)). l ++ []) none;
  cut_is = or_false (not whole) ∙ cut_is;
}

-- a fragment of the outstation was stepped, and confirmed where that is owed
pub reads_step : (setup : Setup) (outstation : ℕ) (mine after : Pass) (x y : Known Sending) (f : Fragment)
    (moment number : ℕ) (reply : Result Reply StepFault) (cut : Bool) → f.outstation ≡ outstation
    → Answers setup mine after (steps.Fragment f moment) (number, reply) → Confirms reply x y cut
    → ReadsAll setup outstation mine after x y cut
reads_step setup outstation mine after x y f moment number reply cut own answers confirms = record {
  calls = record { step = steps.Fragment f moment; number = number; reply = reply } ∷ [];
  made = (after, (answers, refl));
  own = (own, tt);
  sends = confirms.sends;
  sent = confirms.sent;
  only = confirms.only;
  same = confirms.same ∙ sym (append-nil (confirmation_in reply));
  cut_is = confirms.cut_is;
}

-- the outstation was lost
pub reads_loss : (setup : Setup) (outstation : ℕ) (mine mid after : Pass) (x y : Known Sending) (cut : Bool)
    → ReadsAll setup outstation mine mid x y cut → TellsOutstationLoss setup outstation mid after
    → ReadsAll setup outstation mine after x y cut
reads_loss setup outstation mine mid after x y cut first loss =
    subst (ReadsAll setup outstation mine after x y) (or_false cut)
    (reads_then setup outstation mine mid after x y y cut false first (record {
      calls = record { step = steps.OutstationDown outstation loss.0; number = loss.1.0; reply = loss.1.1.0 } ∷ [];
      made = (after, (loss.1.1.1, refl));
      own = (refl, tt);
      sends = [];
      sent = refl;
      only = tt;
      same = refl;
      cut_is = refl;
    }))

pub reads_own : (setup : Setup) (outstation : ℕ) (mine after : Pass) (x y : Known Sending) (cut : Bool)
    → ReadsAll setup outstation mine after x y cut → after.actor ≡ mine.actor
reads_own setup outstation mine after x y cut reads = calls_own setup mine after reads.calls reads.made

-- nothing is owed
pub confirms_none : (reply : Result Reply StepFault) (x : Known Sending) → confirmation_in reply ≡ []
    → Confirms reply x x false
confirms_none reply x none = record { sends = []; sent = refl; only = tt; same = sym none; cut_is = refl }

-- what is owed was sent
pub confirms_one : (reply : Result Reply StepFault) (x y : Known Sending) (octets : List ℕ) (whole cut : Bool)
    → confirmation_in reply ≡ octets ∷ [] → IsSent x y (sents.Confirm octets) whole
    → not whole ≡ cut → Confirms reply x y cut
confirms_one reply x y octets whole cut owes sent cut_is = record {
  sends = record { what = sents.Confirm octets; whole = whole } ∷ [];
  sent = (y, (sent, refl));
  only = (tt, tt);
  same = sym owes;
  cut_is = or_false (not whole) ∙ cut_is;
}
