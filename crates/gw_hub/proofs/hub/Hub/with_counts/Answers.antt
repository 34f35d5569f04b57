use Rattle.std.proofs.Common.{◌≡◌, rules}
use Rattle.gw_station.specs.Client.{limits_of}
use Rattle.gw_steps.specs.State.{State, client_limit, first_after}
use Rattle.gw_steps.proofs.Running.{sound_after}
use Rattle.gw_hub.specs.Hub.{tally_of}
use Rattle.gw_hub.proofs.Sessions.{kept_at_first}
use Rattle.gw_hub.proofs.hub.Hub.with_counts.Goals as goal

pub invariant_of-result : goal.invariant_of-result
invariant_of-result c =
    let settings = c.args.settings in
    let state : State = first_after settings (tally_of c.args.counts) c.args.counts.orders in
    let outstations : c.in_ok-parts.parts.outstations ≡ state.outstations = search rules in
    let picture : c.in_ok-parts.parts.picture ≡ state.picture = search rules in
    let clients : c.in_ok-parts.parts.clients.each ≡ state.clients = search rules in
    let news : c.in_ok-parts.parts.clients.news ≡ c.args.counts.news = search rules in
    let common : c.in_ok-common.common ≡ settings = search rules in
    let counts : c.new-counts.result ≡ state.counts = search rules in
    let controls : c.in_ok-parts.parts.controls ≡ state.controls = search rules in
    let first = sound_after settings (tally_of c.args.counts) c.args.counts.orders in
    rw (outstations, picture, clients, counts, common, controls)
    (record {
      sound = record {
        picture = first.picture;
        rows = first.rows;
        masters = first.masters;
        clients = first.clients;
        controls = first.controls;
        commands = first.commands;
        held = first.held;
      };
      sessions = kept_at_first (limits_of settings.station) settings.station.queue client_limit;
      news = news;
    })
