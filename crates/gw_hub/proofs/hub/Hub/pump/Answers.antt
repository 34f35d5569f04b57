use Rattle.std.proofs.Common.{◌≡◌, true, ℕ, List, None, Ok, refl, sym, ap, subst, ◌∙◌, arith, rules}
use Rattle.std.specs.Prelude.{slice_get}
use Rattle.gw_map.specs.Settings.{Setup}
use Rattle.gw_station.specs.Client.{Client}
use Rattle.gw_station.proofs.Sounds.{sound_after_pump}
use Rattle.gw_steps.specs.declared.step.Reply.{Reply}
use Rattle.gw_steps.specs.declared.step.Step.TheVariants as steps
use Rattle.gw_steps.specs.State.{Hub, State}
use Rattle.gw_steps.specs.Steps.{fault_of, can_rise, latest, outcome}
use Rattle.gw_parts.specs.Clients.{reply_to_pump}
use Rattle.gw_hub.specs.Hub.{IsCounted, KeepsToSession, step_with}
use Rattle.gw_hub.proofs.Each.{all_kept}
use Rattle.gw_hub.proofs.Holding.{held_kept, pumped_held}
use Rattle.gw_hub.proofs.Taking.{sound_change, pumps_can}
use Rattle.gw_hub.proofs.Sessions.{kept_after_pump}
use Rattle.gw_hub.proofs.hub.Hub.pump.Goals as goal

pub pump-requires : goal.pump-requires
pump-requires c =
    let counted = subst IsCounted (sym c.self.view_is) c.in_ok-count.ensures.counted in
    pumps_can _ counted.before _ _ counted.few counted.sound

pub invariant_of-self : goal.invariant_of-self
invariant_of-self c =
    let counted = subst IsCounted (sym c.self.view_is) c.in_ok-count.ensures.counted in
    let before = c.self.invariant.sound in
    record {
      sound = record {
        picture = before.picture;
        rows = before.rows;
        masters = before.masters;
        clients = sound_change _ counted.before _ _ _ c.args.client _ _ _ c.pump.ensures.clients counted.counted
            (omega arith) (sound_after_pump _ _ _ _ c.self.inside.moment) counted.sound;
        controls = before.controls;
        commands = before.commands;
        held = rw c.pump.ensures.clients
            (held_kept c.args.client _ _ c.self.inside.controls (pumped_held _ c.self.inside.moment) before.held);
      };
      sessions = all_kept KeepsToSession c.args.client _ _ _ c.pump.ensures.clients
          (kept_after_pump _ c.self.inside.moment) c.self.invariant.sessions;
      news = c.pump.ensures.news ∙ c.self.invariant.news;
    }

same_reply : (c : ℕ) (a b : Setup) (m l : ℕ) (ks js : List Client) → a ≡ b → m ≡ l → ks ≡ js
    → reply_to_pump a m (slice_get ks c) ≡ reply_to_pump b l (slice_get js c)
same_reply c a b m l ks js es em ek = rw (es, em, ek) refl

answered_so : (setup : Setup) (s : State) (c m : ℕ) (r : Reply) → fault_of s (steps.Pump c m) ≡ None
    → can_rise s.counts (step_with 0 0) ≡ true → r ≡ reply_to_pump setup (latest s m) (slice_get s.clients c)
    → outcome setup s (steps.Pump c m) ≡ Ok r
answered_so setup s c m r fault rises reply = rw (fault, rises) (ap (λ (x : Reply). Ok x) (sym reply))

pub returns-clause-step : goal.returns-clause-step
returns-clause-step c =
    let old : Hub = c.args.self.now in
    let setup : c.self.inside.settings ≡ old.setup =
    ap (λ (h : Hub). h.setup) c.self.view_is ∙ c.in_ok-count.ensures.setup in
    let state = c.in_ok-count.ensures.ok.1 in
    let seen = ap (λ (h : Hub). h.state) c.self.view_is ∙ state in
    let moment : c.self.inside.moment ≡ latest old.state c.args.moment = ap (λ (s : State). s.moment) seen in
    let clients : c.self.inside.clients.each ≡ old.state.clients = ap (λ (s : State). s.clients) seen in
    let reply : c.pump.result
    ≡ reply_to_pump old.setup (latest old.state c.args.moment) (slice_get old.state.clients c.args.client) =
    c.pump.ensures.reply ∙ same_reply c.args.client _ _ _ _ _ _ (c.get.ensures ∙ setup) moment clients in
    let fault : fault_of old.state (steps.Pump c.args.client c.args.moment) ≡ None =
    search (rules, c.in_ok-check_client.ensures) in (
      answered_so old.setup old.state c.args.client c.args.moment c.pump.result fault c.in_ok-count.ensures.ok.0 reply,
      search (rules, clients, moment, state),
    )
