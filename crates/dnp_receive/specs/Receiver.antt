-- What a receiver has taken.
use Rattle.std.specs.Prelude.{◌≡◌, ℕ, List, Option, None}
use Rattle.dnp_link.specs.Frame.{FrameContent}
use Rattle.dnp_link.specs.Station.{Station}
use Rattle.dnp_transport.specs.Series.{Series}
use Rattle.dnp_transport.specs.Runs.{series_after}
use Rattle.dnp_receive.specs.Delivery.{station_at, station_after_all, delivered_user_data}

-- a receiver as a client sees it: its station of the link, and the series of segments that has begun, if any
pub record Reception : Type 0 where
  pub station : Station
  pub series : Option Series

-- At `own`, for the primary station at `peer`, it has taken these frames: its station is the one after them,
-- and its series the one after what they delivered.
pub record HasTaken (own peer : ℕ) (frames : List FrameContent) (r : Reception) : Type 0 where
  pub station : r.station ≡ station_after_all (station_at own peer) frames
  pub series : r.series ≡ series_after None (delivered_user_data (station_at own peer) frames)
