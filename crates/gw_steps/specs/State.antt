-- The state of the core, as its contracts see it: a value for each part.
use Rattle.std.specs.Prelude.{ℕ, List, map, nat_lt, replicate, if◌then◌else◌}
use Rattle.gw_model.specs.declared.observation.Observation.{Observation}
use Rattle.gw_map.specs.Settings.{Setup}
use Rattle.gw_picture.specs.Opening.{opening}
use Rattle.dnp_master.specs.Master.{Master, master_down}
use Rattle.gw_control.specs.Controls.{Controls, no_controls, no_controls_after}
use Rattle.gw_station.specs.Client.{Client, client_down, limits_of}

-- what is counted in 64 bits: the steps without a fault, the news, and the sessions of all clients
pub record Counts : Type 0 where
  pub steps : ℕ
  pub news : ℕ
  pub sessions : ℕ

pub record State : Type 0 where
  pub outstations : List Master
  -- for each row, its value and quality as last shown, Untimed
  pub picture : List Observation
  pub clients : List Client
  -- for each client the number of its last session: the sessions of all clients are numbered from 1
  pub sessions : List ℕ
  -- the clients' selections of controls, and their orders
  pub controls : Controls
  pub counts : Counts
  -- the largest moment that a step without a fault brought
  pub moment : ℕ

-- a hub: the settings that it runs with, and its state
pub record Hub : Type 0 where
  pub setup : Setup
  pub state : State

-- how many clients there can be
abbrev pub client_limit : ℕ
client_limit = 8

-- a smaller moment counts as the largest so far
abbrev pub later : ℕ → ℕ → ℕ
later so_far moment = if nat_lt so_far moment then moment else so_far

-- all outstations and clients are down
abbrev pub at_first : Setup → State
at_first setup = record {
  outstations = map (λ outstation. master_down outstation.poll) setup.outstations;
  picture = map opening setup.rows;
  clients = replicate client_limit (client_down (limits_of setup.station) setup.station.queue);
  sessions = replicate client_limit 0;
  controls = no_controls setup;
  counts = record { steps = 0; news = 0; sessions = 0 };
  moment = 0;
}

-- the same, where these counts stand already, and so many orders were accepted
abbrev pub first_after : Setup → Counts → ℕ → State
first_after setup counts orders =
    record (at_first setup) { controls = no_controls_after orders setup; counts = counts }
