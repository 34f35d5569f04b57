-- What the recorder keeps of the one history, behind one more call.
use Rattle.std.proofs.Common.{◌≡◌, ◌==◌, ℕ, ◌+◌, ◌<◌, ◌≤◌, Bool, true, false, cond}
use Rattle.std.proofs.Common.{List, [], ◌∷◌, ◌++◌, length, map, Option, Some, None}
use Rattle.std.proofs.Common.{Result, inl, inr, refl, sym, ap, subst, ◌∙◌, arith, eq-eqb}
use Rattle.std.specs.Prelude.{option_map, replicate, reverse, slice_index, slice_set}
use Rattle.std.specs.List.{cons_option}
use Rattle.std.proofs.lemmas.Bool.{cases_eq, cases_lt, ne_eqb}
use Rattle.std.proofs.lemmas.List.{get_or-replicate, get_or-set_other, get_or-set_same}
use Rattle.std.proofs.lemmas.List.{get_or_past, length-replicate, map-append, reverse-append}
use Rattle.gw_steps.specs.declared.step.Step.{Step}
use Rattle.gw_steps.specs.declared.step.Reply.{Reply}
use Rattle.gw_steps.specs.declared.step.StepFault.{StepFault}
use Rattle.gw_steps.specs.Runs.{Entry as Made}
use Rattle.gw_steps.specs.State.{Hub}
use Rattle.run_log.specs.Follows.{of_lane}
use Rattle.run_shared.specs.declared.entry.Entry.{Entry}
use Rattle.run_shared.specs.Recording.{Recording, Replays, Tape, call_of, noted, recording_off, rolled, tape_on, tape_with}
use Rattle.run_shared.specs.Reached.{Deed, entry}
use Rattle.run_shared.specs.Taped.{CountsEach, HasNewest, IsOfHistory, deed_of}

-- the calls of an actor, behind one more of this or another actor
pub length_then : (a actor : ℕ) (made : Made) (past : List Deed) (same : Bool) → (a == actor) ≡ same
    → length (of_lane a ((actor, made) ∷ past)) ≡ (cond same (length (of_lane a past) + 1) (length (of_lane a past)))
length_then a actor made past true is =
    ap (λ (same : Bool). length (cons_option (cond same (Some made) None) (of_lane a past))) is ∙ omega arith
length_then a actor made past false is =
    ap (λ (same : Bool). length (cons_option (cond same (Some made) None) (of_lane a past))) is

counts_then : (counts : List ℕ) (past : List Deed) (actor : ℕ) (made : Made) → CountsEach counts past
    → actor < length counts → CountsEach (slice_set counts actor (slice_index counts actor + 1)) ((actor, made) ∷ past)
counts_then counts past actor made counted within a = elim (cases_eq a actor) as
    (λ _. slice_index (slice_set counts actor (slice_index counts actor + 1)) a ≡ length (of_lane a ((actor, made) ∷ past))) [
      | inl same ↦
          subst (λ (b : ℕ). slice_index (slice_set counts actor (slice_index counts actor + 1)) b
          ≡ length (of_lane b ((actor, made) ∷ past))) (sym same)
          (get_or-set_same counts actor (slice_index counts actor + 1) 0 within
          ∙ (ap (λ (n : ℕ). n + 1) (counted actor)
          ∙ sym (length_then actor actor made past true (eq-eqb actor actor refl))))
      | inr other ↦
          get_or-set_other counts actor a (slice_index counts actor + 1) 0 other
          ∙ (counted a ∙ sym (length_then a actor made past false (ne_eqb a actor other)))
    ]

newest_then : (tape : Option Tape) (past : List Deed) (counts : List ℕ) (actor : ℕ) (step : Step)
    (reply : Result Reply StepFault)
    → HasNewest tape past
    → HasNewest (option_map (tape_with (call_of counts actor step reply)) tape) ((actor, entry step reply) ∷ past)
newest_then None past counts actor step reply newest = tt
newest_then (Some tape) past counts actor step reply newest =
    let e : Entry = call_of counts actor step reply in (
      newest.0,
      ap (λ (l : List Deed). deed_of e ∷ l) newest.1
          ∙ ap (λ (l : List Deed). l ++ newest.0)
          (sym (ap (λ (l : List Deed). reverse l) (map-append deed_of tape.entries (e ∷ []))
          ∙ reverse-append (map deed_of tape.entries) (deed_of e ∷ []))),
    )

-- a call was noted
pub noted_of : (recording : Recording) (past : List Deed) (actor : ℕ) (step : Step) (reply : Result Reply StepFault)
    → IsOfHistory recording past → actor < length recording.counts
    → IsOfHistory (noted recording actor step reply) ((actor, entry step reply) ∷ past)
noted_of recording past actor step reply is within = record {
  newest = newest_then recording.tape past recording.counts actor step reply is.newest;
  counted = counts_then recording.counts past actor (entry step reply) is.counted within;
}

-- the tape began anew
pub rolled_of : (recording : Recording) (past : List Deed) (hub : Hub) → IsOfHistory recording past
    → IsOfHistory (rolled recording hub) past
rolled_of recording past hub is = record { newest = go recording.tape; counted = is.counted }
  where
    go : (tape : Option Tape) → HasNewest (option_map (λ (t : Tape). tape_on hub recording.counts t.capacity) tape) past
    go None = tt
    go (Some tape) = (past, refl)

-- and the hub is what it replays to
pub replays_rolled : (recording : Recording) (hub : Hub) → Replays (rolled recording hub).tape hub
replays_rolled recording hub = go recording.tape
  where
    go : (tape : Option Tape) → Replays (option_map (λ (t : Tape). tape_on hub recording.counts t.capacity) tape) hub
    go None = tt
    go (Some tape) = (refl, tt, refl)

-- or there is none any more
pub off_of : (recording : Recording) (past : List Deed) → IsOfHistory recording past
    → IsOfHistory (recording_off recording) past
off_of recording past is = record { newest = tt; counted = is.counted }

-- nothing was recorded yet
pub first_of : (hub : Hub) (actors capacity : ℕ)
    → IsOfHistory (record { counts = replicate actors 0; tape = Some (tape_on hub (replicate actors 0) capacity) }) []
first_of hub actors capacity = record { newest = ([], refl); counted = zero_at actors }
  where
    zero_at : (n actor : ℕ) → slice_index (replicate n 0) actor ≡ 0
    zero_at n actor = elim (cases_lt actor n) [
      | inl within ↦ get_or-replicate n actor 0 0 within
      | inr past ↦ get_or_past (replicate n 0) actor 0 (omega (arith, length-replicate {A = ℕ} n 0))
    ]

-- the newest call on the tape is the newest of the history
pub newest_is : (recording : Recording) (tape : Tape) (entries : List Entry) (e : Entry) (actor : ℕ) (step : Step)
    (reply : Result Reply StepFault) (past : List Deed)
    → IsOfHistory recording ((actor, entry step reply) ∷ past) → recording.tape ≡ Some tape → tape.entries ≡ entries ++ e ∷ []
    → (e.actor ≡ actor) × (e.step ≡ step) × (e.reply ≡ reply)
newest_is recording tape entries e actor step reply past is on calls =
    let newest = subst (λ (t : Option Tape). HasNewest t ((actor, entry step reply) ∷ past)) on is.newest in
    let same : (actor, entry step reply) ∷ past ≡ deed_of e ∷ (reverse (map deed_of entries) ++ newest.0) =
    newest.1
    ∙ ap (λ (l : List Deed). l ++ newest.0)
    (ap (λ (es : List Entry). reverse (map deed_of es)) calls
    ∙ (ap (λ (l : List Deed). reverse l) (map-append deed_of entries (e ∷ []))
    ∙ reverse-append (map deed_of entries) (deed_of e ∷ [])))
    in
    let deed : deed_of e ≡ (actor, entry step reply) = sym (front_is _ _ _ _ same) in (
      ap (λ (d : Deed). d.0) deed,
      ap (λ (d : Deed). d.1.step) deed,
      ap (λ (d : Deed). d.1.reply) deed,
    )
  where
    front_is : (a b : Deed) (x y : List Deed) → a ∷ x ≡ b ∷ y → a ≡ b
    front_is a b x y is = cc is

pub one_more : (recording : Recording) (actor : ℕ) (step : Step) (reply : Result Reply StepFault) (past : List Deed)
    → IsOfHistory recording ((actor, entry step reply) ∷ past)
    → slice_index recording.counts actor ≡ length (of_lane actor past) + 1
one_more recording actor step reply past is =
    is.counted actor ∙ length_then actor actor (entry step reply) past true (eq-eqb actor actor refl)
