-- One more call on a tape.
use Rattle.std.proofs.Common.{◌≡◌, ◌==◌, false, ℕ, ◌+◌, ◌<◌, ◌≤◌, List, [], ◌∷◌, ◌++◌}
use Rattle.std.proofs.Common.{length, Option, Some, None, Result, refl, sym, ap, subst, ◌∙◌, arith}
use Rattle.std.specs.Prelude.{option_map, slice_index, slice_set}
use Rattle.std.proofs.lemmas.Bool.Decides.{nat_tests}
use Rattle.std.proofs.lemmas.List.{length-append}
use Rattle.gw_steps.specs.declared.step.Step.{Step}
use Rattle.gw_steps.specs.declared.step.Reply.{Reply}
use Rattle.gw_steps.specs.declared.step.StepFault.{StepFault}
use Rattle.gw_steps.specs.Carried.{IsMeant}
use Rattle.run_shared.specs.declared.entry.Entry.{Entry}
use Rattle.run_shared.specs.Recorded.{counts_after, AreMeant, IsNumbered}
use Rattle.run_shared.specs.Recording.{Tape, HasRoom, IsTaped, IsTapedIfOn, call_of, is_tape_full, tape_with}

counts-push : (counts : List ℕ) (es : List Entry) (e : Entry)
    → counts_after counts (es ++ e ∷ []) ≡ slice_set (counts_after counts es) e.actor e.ordinal
counts-push counts [] e = refl
counts-push counts (x ∷ es) e = counts-push (slice_set counts x.actor x.ordinal) es e

numbered-push : (counts : List ℕ) (es : List Entry) (e : Entry) → IsNumbered counts es
    → e.actor < length (counts_after counts es) → e.ordinal ≡ slice_index (counts_after counts es) e.actor + 1
    → IsNumbered counts (es ++ e ∷ [])
numbered-push counts [] e before within next = (within, next, tt)
numbered-push counts (x ∷ es) e before within next =
    (before.0, before.1, numbered-push (slice_set counts x.actor x.ordinal) es e before.2 within next)

meant-push : (es : List Entry) (e : Entry) → AreMeant es → IsMeant e.step → AreMeant (es ++ e ∷ [])
meant-push [] e all here = (here, tt)
meant-push (x ∷ es) e all here = (all.0, meant-push es e all.1 here)

pub taped-push : (counts : List ℕ) (tape : Tape) (actor : ℕ) (step : Step) (reply : Result Reply StepFault)
    → IsTaped counts tape → actor < length counts → length tape.entries < tape.capacity → IsMeant step
    → IsTaped (slice_set counts actor (slice_index counts actor + 1)) (tape_with (call_of counts actor step reply) tape)
taped-push counts tape actor step reply taped within room meant =
    let e : Entry = call_of counts actor step reply in
    record {
      numbered =
          numbered-push tape.before tape.entries e taped.numbered
          (subst (λ (cs : List ℕ). actor < length cs) taped.counted within)
          (ap (λ (cs : List ℕ). slice_index cs actor + 1) taped.counted);
      counted =
          ap (λ (cs : List ℕ). slice_set cs actor (slice_index counts actor + 1)) taped.counted
          ∙ sym (counts-push tape.before tape.entries e);
      some_room = taped.some_room;
      room = omega (arith, length-append tape.entries (e ∷ []));
      meant = meant-push tape.entries e taped.meant meant;
    }

-- a tape that isn't full has room
pub has_room : (counts : List ℕ) (tape : Option Tape) → IsTapedIfOn counts tape
    → is_tape_full tape ≡ false → HasRoom tape
has_room counts None taped full = tt
has_room counts (Some tape) taped full = below (length tape.entries) tape.capacity taped.room full
  where
    below : (n m : ℕ) → n ≤ m → (n == m) ≡ false → n < m
    below n m le apart = grind (arith, nat_tests)

-- a call was kept where the recorder is on
pub taped-noted : (counts after : List ℕ) (tape new : Option Tape) (actor ordinal : ℕ) (step : Step)
    (reply : Result Reply StepFault)
    → IsTapedIfOn counts tape → HasRoom tape → actor < length counts → IsMeant step
    → ordinal ≡ slice_index counts actor + 1 → after ≡ slice_set counts actor ordinal
    → new ≡ option_map (tape_with (record { actor = actor; ordinal = ordinal; step = step; reply = reply })) tape
    → IsTapedIfOn after new
taped-noted counts after tape new actor ordinal step reply taped room within meant next counted kept =
    subst (λ (t : Option Tape). IsTapedIfOn after t)
    (sym (kept ∙ ap
    (λ (n : ℕ). option_map (tape_with (record { actor = actor; ordinal = n; step = step; reply = reply })) tape) next))
    (subst (λ (cs : List ℕ). IsTapedIfOn cs (option_map (tape_with (call_of counts actor step reply)) tape))
    (sym (counted ∙ ap (λ (n : ℕ). slice_set counts actor n) next)) (go tape taped room))
  where
    go : (t : Option Tape) → IsTapedIfOn counts t → HasRoom t
        → IsTapedIfOn (slice_set counts actor (slice_index counts actor + 1))
        (option_map (tape_with (call_of counts actor step reply)) t)
    go None taped room = tt
    go (Some t) taped room = taped-push counts t actor step reply taped within room meant
