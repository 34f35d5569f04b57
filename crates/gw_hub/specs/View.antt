-- What a contract sees of a hub.
use Rattle.gw_steps.specs.State.{State}
use Rattle.gw_hub.specs.declared.hub.Hub.TheInside.{Inside}

abbrev pub state_in : Inside → State
state_in h = record {
  outstations = h.outstations;
  picture = h.picture;
  clients = h.clients.each;
  sessions = h.sessions;
  controls = h.controls;
  counts = h.counts;
  moment = h.moment;
}
