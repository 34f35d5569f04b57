use Rattle.std.proofs.Common.{◌≡◌, ◌+◌, ◌≤◌, true, List, Ok, Some, sym, ap, subst, ◌∙◌, arith, rules}
use Rattle.std.specs.List.{AllByRecursion}
use Rattle.gw_answers.specs.Meaning.{IsSendable}
use Rattle.gw_steps.specs.State.{Counts, Hub, State}
use Rattle.gw_station.proofs.Sounds.{all_later}
use Rattle.std.specs.Prelude.{slice_get, slice_index, IsTrue, if◌then◌else◌}
use Rattle.gw_model.specs.Places.{change}
use Rattle.gw_model.specs.declared.observation.Observation.{Observation}
use Rattle.gw_station.specs.Frames.{client_after_apdu}
use Rattle.gw_steps.specs.declared.step.Step.TheVariants as steps
use Rattle.gw_map.specs.Settings.{Setup, station_clocks}
use Rattle.gw_steps.specs.Steps.{after, can_order, can_rise, client_answered, client_up, command_of}
use Rattle.gw_steps.specs.Steps.{is_beginning, is_ordering, latest, one_if, outcome, raised}
use Rattle.gw_parts.specs.Clients.{event_at}
use Rattle.gw_hub.specs.declared.orders.Sender.{Sender}
use Rattle.gw_hub.specs.Hub.{KeepsToSession, controls_settled, said_to_sender, step_with}
use Rattle.gw_hub.specs.View.{state_in}
use Rattle.gw_hub.proofs.Answered.{frame_answer, frame_state, given_acts, left_by_apdu, number_left}
use Rattle.gw_hub.proofs.Each.{all_kept}
use Rattle.gw_hub.proofs.Holding.{orderly, sound_of}
use Rattle.gw_hub.proofs.Taking.{can_rise_step, counts_can, sendable_shown}
use Rattle.gw_hub.proofs.Sessions.{kept_after_apdu, kept_answered}
use Rattle.gw_hub.proofs.hub.Hub.take_apdu.Goals as goal

pub frame-requires : goal.frame-requires
frame-requires c =
    let few = can_rise_step c.self.inside.counts 0 (one_if c.args.begins) (search (rules, c.requires.counts)) in
    counts_can _ _ _ _ few c.self.invariant.sound.clients

pub settle-requires-clause-acts : goal.settle-requires-clause-acts
settle-requires-clause-acts c =
    given_acts c.get-settings.result.now c.args.apdu.now (slice_get c.self.inside.clients.each c.args.client) c.in-Ok.event
    c.in-Ok.ensures.event

pub settle-requires-clause-number : goal.settle-requires-clause-number
settle-requires-clause-number c =
    let can = subst (λ (h : Hub). IsTrue (can_order (is_ordering h.setup h.state c.args.moment c.args.client
    (command_of h.setup c.args.apdu.now (slice_get h.state.clients c.args.client))) h.state.controls))
    (sym c.self.view_is) c.requires.order in
    let event = subst (λ (s : Setup). c.in-Ok.event
    ≡ event_at s c.args.apdu.now (slice_get c.self.inside.clients.each c.args.client)) c.get-settings.ensures
    c.in-Ok.ensures.event in
    rw c.get-settings.ensures (number_left c.self.inside.settings (state_in c.self.inside)
    (record { client = c.args.client; session = c.session.result; moment = c.args.moment })
    c.args.apdu.now (slice_get c.self.inside.clients.each c.args.client) c.in-Ok.event event
    (c.session.ensures ∙ ap (λ (h : Hub). slice_index h.state.sessions c.args.client) (sym c.self.view_is)) can)

pub invariant_of-self-2 : goal.invariant_of-self-2
invariant_of-self-2 c =
    let setup = c.get-settings.result.now in
    let clocks = (station_clocks setup.station) in
    let before = rw (← c.get-settings.ensures) at c.self.invariant.sound in
    let counts = c.self.inside.counts in
    let rows = c.rows-picture.ensures in
    let sends = subst (AllByRecursion (IsSendable clocks)) (sym rows.shown)
    (sendable_shown clocks c.self.inside.picture rows.sendable) in
    let sender : Sender = record { client = c.args.client; session = c.session.result; moment = c.args.moment } in
    let steps : counts.steps + 1 ≤ c.raise.new.self.steps =
    omega (arith, ap (λ (counts : Counts). counts.steps) c.raise.ensures) in
    let news : counts.news ≤ c.raise.new.self.news =
    omega (arith, ap (λ (counts : Counts). counts.news) c.raise.ensures) in
    let mid = all_later setup.station _ _ _ _ _ steps news
    (c.in-Ok.ensures.sound setup counts.steps counts.news sends before.clients) in
    let orders = left_by_apdu setup setup.station counts.steps c.raise.new.self.steps counts.news c.raise.new.self.news
    c.rows-picture.result.now c.self.inside.outstations sender c.args.apdu.now c.in-Ok.event c.self.inside.clients.each
    c.frame.new.self.each c.settle.new.clients.each c.self.inside.controls c.settle.new.controls c.in-Ok.ensures.event
    c.in-Ok.ensures.clients c.settle.ensures.clients c.settle.ensures.controls c.in-Ok.ensures.whole
    (given_acts setup c.args.apdu.now (slice_get c.self.inside.clients.each c.args.client) c.in-Ok.event
    c.in-Ok.ensures.event) c.in-Ok.ensures.place mid (orderly _ _ before) in
    rw (← c.get-settings.ensures)
    (record {
      sound = sound_of _ _ before.picture before.rows before.masters orders;
      sessions = all_kept KeepsToSession c.args.client _ _ _ c.settle.ensures.clients (kept_answered _ c.in-Ok.event)
          (all_kept KeepsToSession c.args.client _ _ _ c.in-Ok.ensures.clients
          (kept_after_apdu setup c.rows-picture.result.now c.args.moment c.args.apdu.now) c.self.invariant.sessions);
      news = omega (
        arith,
        c.settle.ensures.news,
        c.in-Ok.ensures.news,
        ap (λ (counts : Counts). counts.news) c.raise.ensures,
        c.self.invariant.news,
      );
    })

pub returns-clause-step : goal.returns-clause-step
returns-clause-step c =
    let client = c.args.client in
    let apdu = c.args.apdu.now in
    let moment = c.args.moment in
    let setup : Setup = c.self.inside.settings in
    let state : State = state_in c.self.inside in
    let sender : Sender = record { client = client; session = c.session.result; moment = moment } in
    let back = sym c.self.view_is in
    let at = subst (λ (h : Hub). moment ≡ latest h.state moment) back c.requires.moment in
    let up = subst (λ (h : Hub). client_up h.state client ≡ Some true) back c.requires.up in
    let begins = subst (λ (h : Hub). c.args.begins ≡ is_beginning h.state client apdu) back c.requires.begins in
    let rises = subst (λ (h : Hub). IsTrue (can_rise h.state.counts (step_with 0 (one_if c.args.begins)))) back
    c.requires.counts in
    let order = subst (λ (h : Hub). IsTrue (can_order (is_ordering h.setup h.state moment client
    (command_of h.setup apdu (slice_get h.state.clients client))) h.state.controls)) back c.requires.order in
    let session : c.session.result ≡ slice_index state.sessions client =
    c.session.ensures ∙ ap (λ (h : Hub). slice_index h.state.sessions client) back in
    let event = subst (λ (s : Setup). c.in-Ok.event ≡ event_at s apdu (slice_get state.clients client))
    c.get-settings.ensures c.in-Ok.ensures.event in
    let mid = subst (λ (s : Setup). c.frame.new.self.each
    ≡ change client (client_after_apdu s state.picture moment apdu) state.clients) c.get-settings.ensures
    (subst (λ (p : List Observation). c.frame.new.self.each
    ≡ change client (client_after_apdu c.get-settings.result.now p moment apdu) state.clients)
    c.rows-picture.ensures.shown c.in-Ok.ensures.clients) in
    let clients = subst (λ (s : Setup). c.settle.new.clients.each
    ≡ change client (client_answered (said_to_sender s state.outstations sender state.controls) c.in-Ok.event)
    c.frame.new.self.each) c.get-settings.ensures c.settle.ensures.clients in
    let controls = subst (λ (s : Setup). c.settle.new.controls
    ≡ controls_settled s state.outstations sender apdu c.in-Ok.event state.controls) c.get-settings.ensures
    c.settle.ensures.controls in
    let counts : c.raise.new.self ≡ raised state.counts (step_with 0 (one_if c.args.begins)) =
    search (rules, c.raise.ensures, c.from.ensures) in
    let sessions : c.set_session.new.sessions
    ≡ (if c.args.begins then change client (λ _. c.raise.new.self.sessions) state.sessions else state.sessions) =
    search (rules, c.set_session.ensures, c.sessions.ensures) in
    subst (λ (h : Hub). (outcome h.setup h.state (steps.Frame client apdu moment) ≡ Ok c.reply_of.result)
    × ((record state {
      clients = c.settle.new.clients.each;
      sessions = c.set_session.new.sessions;
      controls = c.settle.new.controls;
      counts = c.raise.new.self;
      moment = moment;
    }) ≡ after h.setup h.state (steps.Frame client apdu moment))) c.self.view_is (
      frame_answer setup state client moment apdu c.in-Ok.event c.reply_of.result c.args.begins at up begins rises order
          event c.reply_of.ensures,
      frame_state setup state sender apdu c.in-Ok.event c.frame.new.self.each c.settle.new.clients.each
          c.set_session.new.sessions c.settle.new.controls c.raise.new.self c.args.begins at session event up mid
          clients controls begins counts sessions,
    )
