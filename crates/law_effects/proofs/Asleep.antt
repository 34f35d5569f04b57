-- At each point of a run the last step told of all to whom it brought something.
use Rattle.std.proofs.Common.{List, [], ◌∷◌, Result, Ok, Err}
use Rattle.gw_map.specs.Settings.{Setup}
use Rattle.gw_steps.specs.declared.step.Step.{Step}
use Rattle.gw_steps.specs.declared.step.Reply.{Reply}
use Rattle.gw_steps.specs.declared.step.StepFault.{StepFault}
use Rattle.gw_steps.specs.Runs.{AtEach, Entry, state_after}
use Rattle.gw_steps.proofs.Running.{entry}
use Rattle.law_clients.proofs.Clients.{eight_clients}
use Rattle.law_fates.specs.Fates.{effects_by}
use Rattle.law_effects.specs.Rousing.{LeavesNobodyAsleep, RousesBy}
use Rattle.law_effects.proofs.Offers.{offers_told}
use Rattle.law_effects.proofs.Requests.{requests_told}

entry_rouses : (setup : Setup) (past : List Entry) (step : Step) (reply : Result Reply StepFault)
    → RousesBy (state_after setup past) step (effects_by setup past (entry step reply))
    (state_after setup (entry step reply ∷ past)) reply
entry_rouses setup past step (Ok r) = record {
  outstations = λ o comes. requests_told setup (state_after setup past) step o comes;
  clients = λ c comes. offers_told setup (state_after setup past) step c (eight_clients setup past)
      (eight_clients setup (entry step (Ok r) ∷ past)) comes;
}
entry_rouses setup past step (Err fault) = tt

pub nobody_asleep : (setup : Setup) (past : List Entry) → AtEach (LeavesNobodyAsleep setup) past
nobody_asleep setup [] = tt
nobody_asleep setup (e ∷ past) = (entry_rouses setup past e.step e.reply, nobody_asleep setup past)
