-- What the last step of a worked run brought, told and replied: of one outstation and one client, as in the fates of orders.
use Rattle.std.specs.Prelude.{ℕ, Bool, false, List, [], ◌∷◌, slice_get, Option, None}
use Rattle.gw_model.specs.declared.control.Ended.{Ended}
use Rattle.gw_control.specs.Example.{setup}
use Rattle.gw_steps.specs.declared.step.Step.{Step}
use Rattle.gw_steps.specs.declared.step.Step.TheVariants as steps
use Rattle.gw_steps.specs.Effects.{Effects, is_so, no_effects}
use Rattle.gw_steps.specs.Example.{fragment_of, response}
use Rattle.gw_steps.specs.Runs.{Entry, state_after, unless_fault}
use Rattle.law_fates.specs.Example.{made}
use Rattle.law_fates.specs.Fates.{effects_by}
use Rattle.law_orders.specs.Sessions.{ends_session}
use Rattle.law_effects.specs.Rousing.{becomes_due, becomes_offered}
use Rattle.law_effects.specs.Lateness.{is_late_by}
use Rattle.law_effects.specs.Replies.{ended_by_reply}

-- ---- the last step

-- what it told
abbrev pub effects_in : List Entry → Effects
effects_in [] = no_effects
effects_in (e ∷ past) = effects_by setup past e

abbrev pub told : List Step → Effects
told ss = effects_in (made ss)

-- whether a request came to be due by it, and something to be put out
abbrev pub is_due_in : List Entry → Bool
is_due_in [] = false
is_due_in (e ∷ past) = becomes_due (state_after setup past) e.step (state_after setup (e ∷ past)) 0

abbrev pub is_offered_in : List Entry → Bool
is_offered_in [] = false
is_offered_in (e ∷ past) = becomes_offered (state_after setup past) e.step (state_after setup (e ∷ past)) 0

abbrev pub is_newly_due : List Step → Bool
is_newly_due ss = is_due_in (made ss)

abbrev pub is_newly_offered : List Step → Bool
is_newly_offered ss = is_offered_in (made ss)

-- whether it told of the client
abbrev pub is_client_told : List Step → Bool
is_client_told ss = is_so (slice_get (told ss).due_clients 0)

-- whether it found a request late, by the history
abbrev pub is_late_in_history : List Entry → Bool
is_late_in_history [] = false
is_late_in_history (e ∷ past) = is_late_by setup 0 past e

abbrev pub is_late : List Step → Bool
is_late ss = is_late_in_history (made ss)

-- the order that ended, as it replied
abbrev pub replied_in : List Entry → Option Ended
replied_in [] = None
replied_in (e ∷ past) = unless_fault None ended_by_reply e.reply

abbrev pub replied : List Step → Option Ended
replied ss = replied_in (made ss)

-- it replied that it ends the session of the client
abbrev pub ends_in : List Entry → Bool
ends_in [] = false
ends_in (e ∷ past) = unless_fault false (λ reply. ends_session e.step reply 0) e.reply

abbrev pub closed_by_tick : List Step → Bool
closed_by_tick ss = ends_in (made ss)

-- ---- steps

abbrev pub tick : ℕ → Step
tick moment = steps.Tick moment

-- the answer to its first poll, without objects
abbrev pub answer : Step
answer = fragment_of (response (0xC0 ∷ 0x81 ∷ 0 ∷ 0 ∷ []) [])
