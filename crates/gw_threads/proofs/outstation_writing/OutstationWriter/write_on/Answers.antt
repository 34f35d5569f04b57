use Rattle.std.proofs.Common.{ℕ, false, Some, refl, sym, subst, ◌∙◌}
use Rattle.run_ends.specs.Ends.{is_write_fault}
use Rattle.run_shared.specs.Roles.{IsOne}
use Rattle.gw_threads.specs.Sends.{SentAll, TellsOutstationLoss}
use Rattle.gw_threads.proofs.Requesting.{sent_none, sent_own, sent_then}
use Rattle.gw_threads.proofs.outstation_writing.OutstationWriter.write_on.Goals as goal

pub requests-init : goal.requests-init
requests-init g c = record {
  outstation = refl;
  sent = sent_none g.L.Course.setup c.args.self.now.outstation c.args.self.now.worker.pass c.args.self.now.front;
}

pub turn-requires : goal.turn-requires
turn-requires g c =
    let poller = g.L.Course.roles.poller in
    let own = sent_own _ _ _ _ _ _ _ c.requests.invariant.sent in
    record {
      may =
          subst (λ (o : ℕ). IsOne (poller o) c.requests.self.worker.pass.actor) (sym c.requests.invariant.outstation)
          (subst (λ (a : ℕ). IsOne (poller c.args.self.now.outstation) a) (sym own) c.requires.may);
    }

pub returns-in-Some-turn-clause-sent : goal.returns-in-Some-turn-clause-sent
returns-in-Some-turn-clause-sent g c =
    sent_then _ _ _ c.requests.self.worker.pass _ _ c.requests.self.front _ _ _ c.requests.invariant.sent
    (subst
    (λ (o : ℕ). SentAll g.L.Course.setup o c.requests.self.worker.pass c.turn.new.self.worker.pass c.requests.self.front
    c.turn.new.self.front (is_write_fault (Some c.in-Some-turn.end)))
    c.requests.invariant.outstation c.in-Some-turn.ensures.sent)

pub returns-in-Some-turn-clause-lost : goal.returns-in-Some-turn-clause-lost
returns-in-Some-turn-clause-lost g c = λ fault.
    let told = c.in-Some-turn.ensures.lost fault in (
      told.0,
      subst (λ (o : ℕ). TellsOutstationLoss g.L.Course.setup o told.0 c.turn.new.self.worker.pass)
          c.requests.invariant.outstation told.1,
    )

pub requests-preserved : goal.requests-preserved
requests-preserved g c = record {
  outstation = c.turn.ensures.outstation ∙ c.requests.invariant.outstation;
  sent =
      sent_then _ _ _ c.requests.self.worker.pass _ _ c.requests.self.front _ _ _ c.requests.invariant.sent
      (subst
      (λ (o : ℕ). SentAll g.L.Course.setup o c.requests.self.worker.pass c.turn.new.self.worker.pass c.requests.self.front
      c.turn.new.self.front false)
      c.requests.invariant.outstation c.in_default.ensures.sent);
}
