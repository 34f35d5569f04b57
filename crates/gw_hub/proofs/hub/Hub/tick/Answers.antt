use Rattle.std.proofs.Common.{◌≡◌, ℕ, List, Ok, length, refl, sym, ap, ◌∙◌, map}
use Rattle.std.proofs.lemmas.List.{length-map}
use Rattle.gw_station.specs.Client.{Client, is_timed_out}
use Rattle.gw_steps.specs.declared.step.Reply.TheVariants.{Ticked}
use Rattle.gw_steps.specs.State.{Hub, State}
use Rattle.gw_steps.specs.Steps.{bits_of, latest}
use Rattle.gw_hub.specs.Hub.{KeepsToSession}
use Rattle.gw_hub.proofs.Each.{all_mapped}
use Rattle.dnp_master.specs.Master.{ended_by_tick}
use Rattle.gw_steps.specs.Controls.{outcomes_ended}
use Rattle.gw_hub.proofs.Holding.{closed_holds, left_by_tick, orderly, sound_of, tick_state}
use Rattle.gw_hub.proofs.Taking.{sound_ticked}
use Rattle.gw_hub.proofs.Sessions.{kept_after_tick, kept_outcomes}
use Rattle.gw_hub.proofs.hub.Hub.tick.Goals as goal

pub invariant_of-self : goal.invariant_of-self
invariant_of-self c =
    let before = c.self.invariant.sound in
    let moment = c.self.inside.moment in
    let ticked = sound_ticked _ _ _ moment _ before.clients in
    let orders = left_by_tick _ _ _ _ moment (map (ended_by_tick moment) c.self.inside.outstations) _ _ _ _ _ _
    c.tick-closed.ensures.clients c.tick-closed.ensures.controls
    c.pass_time.ensures.clients c.pass_time.ensures.controls ticked (orderly _ _ before) in
    record {
      sound = sound_of _ _ before.picture before.rows
          (ap length c.pass_time.ensures.outstations ∙ (length-map _ _ ∙ before.masters)) orders;
      sessions = kept_outcomes
          (outcomes_ended 0 (map (ended_by_tick moment) c.self.inside.outstations) c.tick-closed.new.controls) _ _
          c.pass_time.ensures.clients (all_mapped KeepsToSession KeepsToSession _ _ _ c.tick-closed.ensures.clients
          (kept_after_tick moment) c.self.invariant.sessions);
      news = c.pass_time.ensures.news ∙ (c.tick-closed.ensures.news ∙ c.self.invariant.news);
    }

same_bits : (m l : ℕ) (ks js : List Client) → m ≡ l → ks ≡ js
    → bits_of (map (is_timed_out m) ks) ≡ bits_of (map (is_timed_out l) js)
same_bits m l ks js em ek = rw (em, ek) refl

pub returns-clause-step : goal.returns-clause-step
returns-clause-step c =
    let old : Hub = c.args.self.now in
    let seen = ap (λ (h : Hub). h.state) c.self.view_is ∙ c.in_ok-count.ensures.ok.1 in
    let moment : c.self.inside.moment ≡ latest old.state c.args.moment = ap (λ (s : State). s.moment) seen in
    let clients : c.self.inside.clients.each ≡ old.state.clients = ap (λ (s : State). s.clients) seen in
    let closed : c.tick-closed.result
    ≡ bits_of (map (is_timed_out (latest old.state c.args.moment)) old.state.clients) =
    c.tick-closed.ensures.closed ∙ same_bits _ _ _ _ moment clients in (
      rw c.in_ok-count.ensures.ok.0 (ap (λ (bits : ℕ). Ok (Ticked bits)) (sym closed)),
      tick_state old.setup old.state _ c.args.moment _ _ _ _ _ seen c.tick-closed.ensures.clients
          c.tick-closed.ensures.controls c.pass_time.ensures.outstations c.pass_time.ensures.controls
          c.pass_time.ensures.clients,
    )

pub pass_time-requires : goal.pass_time-requires
pass_time-requires c =
    let before = c.self.invariant.sound in
    let moment = c.self.inside.moment in
    let ticked = sound_ticked _ _ _ moment _ before.clients in
    closed_holds _ _ _ _ moment _ _ _ _ c.tick-closed.ensures.clients c.tick-closed.ensures.controls ticked
    (orderly _ _ before)
