-- Who makes which calls, and a tape.
use Rattle.std.specs.Prelude.{ℕ, ◌==◌, [], ◌∷◌, Ok, Some, None, if◌then◌else◌}
use Rattle.gw_steps.specs.declared.step.Step.TheVariants as steps
use Rattle.gw_steps.specs.declared.step.Reply.TheVariants as replies
use Rattle.gw_steps.specs.State.{Hub}
use Rattle.run_shared.specs.Recording.{Tape}
use Rattle.run_shared.specs.Roles.{Roles}

-- the pumps for client 3 are left to actor 7, and the polls of outstation 2 to actor 5
abbrev pub left : Roles
left = record {
  pumper = λ (client : ℕ). if client == 3 then Some 7 else None;
  poller = λ (outstation : ℕ). if outstation == 2 then Some 5 else None;
}

-- of two actors; the call on it is the first of this one, a tick at 5 ms
abbrev pub on_tape : Hub → ℕ → Tape
on_tape hub actor = record {
  capacity = 4;
  base = hub;
  before = 0 ∷ 1 ∷ [];
  entries = record { actor = actor; ordinal = 1; step = steps.Tick 5; reply = Ok (replies.Ticked 0) } ∷ [];
}
