-- What is sent back.
use Rattle.std.proofs.Common.{◌≡◌, ℕ, ◌≤◌, Bool, true, false, List, ◌∷◌, length, Option}
use Rattle.std.proofs.Common.{Some, None, Result, Ok, Err, refl, ap, inl, inr, arith}
use Rattle.std.specs.Prelude.{nat_lt}
use Rattle.std.proofs.lemmas.Bool.{cases_Bool, ltb-false}
use Rattle.gw_model.specs.First.{when, first_of}
use Rattle.gw_map.specs.Settings.{Setup}
use Rattle.iec_command.specs.declared.command.Command.{Command}
use Rattle.iec_command.specs.declared.fault.CommandFault.{CommandFault}
use Rattle.iec_command.specs.declared.fault.CommandFault.TheVariants.{Short, UnknownType}
use Rattle.iec_command.specs.Commands.{unless, command_in, command_of}
use Rattle.gw_judge.specs.declared.judging.Judged.TheVariants.{Refuse}
use Rattle.gw_judge.specs.Judging.{has_known_cause, is_addressed, has_object, refusal_of, judged_by, judged_reading, judged}
use Rattle.gw_judge.proofs.Accepted.{first_refusal}

-- ---- the header

first_true : (b : Bool) (others : List (Option CommandFault)) → b ≡ true → first_of (when b Short ∷ others) ≡ Some Short
first_true true others e = refl
first_true false others e = absurd cc

pub cut_short : (octets : List ℕ) → nat_lt (length octets) 6 ≡ true → command_of octets ≡ Err Short
unfolding command_of
cut_short octets cut =
    ap (λ (fault : Option CommandFault). unless fault (command_in octets)) (first_true (nat_lt (length octets) 6) _ cut)

-- what is cut isn't sent back
short_kept : (setup : Setup) (r : Result Command CommandFault) (cause : ℕ) (execute : Bool) → r ≡ Err Short
    → judged_reading setup r ≡ Refuse cause execute → ⊥
short_kept setup (Err Short) cause execute _ e = cc
short_kept setup _ cause execute short e = cc

pub header_whole : (setup : Setup) (octets : List ℕ) (cause : ℕ) (execute : Bool)
    → judged setup octets ≡ Refuse cause execute → 6 ≤ length octets
header_whole setup octets cause execute e = elim (cases_Bool (nat_lt (length octets) 6)) [
  | inl cut ↦ absurd (short_kept setup (command_of octets) cause execute (cut_short octets cut) e)
  | inr whole ↦ ltb-false (length octets) 6 whole
]

-- ---- the cause

first_within : (a b c : Bool) (cause : ℕ) → first_refusal a b c ≡ Some cause → (44 ≤ cause) × (cause ≤ 47)
first_within false b c cause e = let is : 45 ≡ cause = cc in (omega arith, omega arith)
first_within true false c cause e = let is : 46 ≡ cause = cc in (omega arith, omega arith)
first_within true true false cause e = let is : 47 ≡ cause = cc in (omega arith, omega arith)
first_within true true true cause e = absurd cc

refused_by : (o : Option ℕ) (c : Command) (cause : ℕ) (execute : Bool) → judged_by o c ≡ Refuse cause execute
    → o ≡ Some cause
refused_by None c cause execute e = absurd cc
refused_by (Some n) c cause execute e = cc

reading_within : (setup : Setup) (r : Result Command CommandFault) (cause : ℕ) (execute : Bool)
    → judged_reading setup r ≡ Refuse cause execute → (44 ≤ cause) × (cause ≤ 47)
reading_within setup (Ok c) cause execute e =
    first_within (has_known_cause c) (is_addressed setup c) (has_object setup c) cause
    (refused_by (refusal_of setup c) c cause execute e)
reading_within setup (Err UnknownType) cause execute e = let is : 44 ≡ cause = cc in (omega arith, omega arith)
reading_within setup (Err _) cause execute e = absurd cc

pub cause_within : (setup : Setup) (octets : List ℕ) (cause : ℕ) (execute : Bool)
    → judged setup octets ≡ Refuse cause execute → (44 ≤ cause) × (cause ≤ 47)
cause_within setup octets cause execute e = reading_within setup (command_of octets) cause execute e
