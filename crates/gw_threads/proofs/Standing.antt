-- What of a history is an actor's own.
use Rattle.std.proofs.Common.{◌≡◌, inl, inr, ℕ, Bool, List, [], ◌∷◌, ◌++◌}
use Rattle.std.proofs.Common.{map, refl, sym, ap, subst, ◌∙◌, append_assoc}
use Rattle.std.specs.Prelude.{reverse}
use Rattle.std.proofs.lemmas.List.{append-nil, reverse-append, reverse-reverse}
use Rattle.run_log.specs.Follows.{Known, of_lane}
use Rattle.run_log.proofs.Lanes.{of_lane_added, same_of_lane}
use Rattle.gw_map.specs.Settings.{Setup}
use Rattle.gw_steps.specs.Runs.{Entry}
use Rattle.run_shared.specs.Reached.{entry}
use Rattle.run_shared.specs.Turn.{Pass}
use Rattle.run_shared.proofs.Pumping.{same_actor}
use Rattle.run_ends.specs.declared.sent.Sending.{Sending}
use Rattle.run_ends.specs.Sent.{IsNew}
use Rattle.gw_threads.specs.Sends.{AreSent, SendsAll}
use Rattle.gw_threads.specs.Standing.{SentAlone, StandAlone, all_sent}
use Rattle.gw_threads.specs.Writers.{SentByPolls}
use Rattle.gw_threads.specs.Calls.{AreCalls, Call}

pub calls_stand : (setup : Setup) (mine after : Pass) (calls : List Call) → AreCalls setup mine calls after
    → StandAlone mine after calls
calls_stand setup mine after [] made =
    record { entries = []; stand = refl; all = ap (λ (p : Pass). of_lane mine.actor p.seen) (sym made) }
calls_stand setup mine after (c ∷ calls) made =
    let mid = made.0 in
    let own = same_actor setup mine mid c.step (c.number, c.reply) made.1.0 in
    let more = calls_stand setup mid after calls made.1.1 in
    let e : Entry = entry c.step c.reply in
    let rest : of_lane mine.actor after.seen ≡ more.entries ++ of_lane mine.actor mid.seen =
    subst (λ (k : ℕ). of_lane k after.seen ≡ more.entries ++ of_lane k mid.seen) own more.all in
    elim made.1.0 as (λ _. StandAlone mine after (c ∷ calls)) [
      | inl told ↦ record {
        entries = more.entries ++ e ∷ [];
        stand = (more.entries, (more.stand, inl refl));
        all =
            rest
            ∙ (ap (λ (p : Pass). more.entries ++ of_lane mine.actor p.seen) told.pass
            ∙ (ap (λ (l : List Entry). more.entries ++ l) (of_lane_added mine.actor e mine.seen told.before told.follows)
            ∙ sym (append_assoc more.entries (e ∷ []) (of_lane mine.actor mine.seen))));
      }
      | inr refused ↦ record {
        entries = more.entries;
        stand = (more.entries, (more.stand, inr (refused.refused, refl)));
        all =
            rest
            ∙ (ap (λ (p : Pass). more.entries ++ of_lane mine.actor p.seen) refused.pass
            ∙ ap (λ (l : List Entry). more.entries ++ l) (same_of_lane mine.actor mine.seen refused.whole refused.follows));
      }
    ]

reverse_then : {A : Type 0} (x : A) (xs back : List A) → (reverse xs ++ (x ∷ back)) ≡ (reverse (x ∷ xs) ++ back)
reverse_then {A} x xs back =
    sym (append_assoc (reverse xs) (x ∷ []) back)
    ∙ ap (λ (front : List A). front ++ back) (sym (reverse-append (x ∷ []) xs))

pub sends_stand : (old new : Known Sending) (sends : List Sending) → AreSent old sends new → SentAlone old new sends
sends_stand old new [] sent = record {
  lane = ap (λ (k : Known Sending). k.lane) (sym sent);
  all = ap (λ (k : Known Sending). of_lane old.lane k.log) (sym sent);
}
sends_stand old new (s ∷ sends) sent =
    let mid = sent.0 in
    let one = sent.1.0 in
    let more = sends_stand mid new sends sent.1.1 in
    let lane : mid.lane ≡ old.lane = ap (λ (k : Known Sending). k.lane) one.1.1 in
    let here : of_lane old.lane mid.log ≡ s ∷ of_lane old.lane old.log =
    ap (λ (k : Known Sending). of_lane old.lane k.log) one.1.1 ∙ of_lane_added old.lane s old.log one.0 one.1.0 in
    record {
      lane = more.lane ∙ lane;
      all =
          subst (λ (k : ℕ). of_lane k new.log ≡ reverse sends ++ of_lane k mid.log) lane more.all
          ∙ (ap (λ (l : List Sending). reverse sends ++ l) here ∙ reverse_then s sends (of_lane old.lane old.log));
    }

-- what a worker sent since it joined a line is all that the line's history has of it
pub sent_since : (joined front : Known Sending) (sends : List Sending) → IsNew joined → AreSent joined sends front
    → all_sent front ≡ sends
sent_since joined front sends new sent =
    let alone = sends_stand joined front sends sent in
    ap (λ (k : ℕ). reverse (of_lane k front.log)) alone.lane
    ∙ (ap (λ (l : List Sending). reverse l)
    (alone.all ∙ (ap (λ (l : List Sending). reverse sends ++ l) new ∙ append-nil (reverse sends)))
    ∙ reverse-reverse sends)

pub polls_sent : (setup : Setup) (outstation : ℕ) (mine after : Pass) (front : Known Sending) (cut : Bool)
    → SendsAll setup outstation mine after front cut → SentByPolls setup outstation mine after front
polls_sent setup outstation mine after front cut all =
    let run = all.1.1 in
    record {
      calls = run.calls;
      made = run.made;
      own = run.own;
      requests =
          ap (λ (l : List Sending). map (λ (s : Sending). s.what) l) (sent_since all.0 front run.sends all.1.0 run.sent)
          ∙ run.same;
    }
