-- What was gathered of the frames of a stream.
use Rattle.std.specs.Prelude.{◌≡◌, ℕ, List, map}
use Rattle.dnp_link.specs.Frame.{FrameContent}
use Rattle.dnp_transport.specs.Fragment.{fragments_of}
use Rattle.dnp_receive.specs.Delivery.{station_at, replies_by, delivered_user_data}
use Rattle.dnp_receive.specs.Receiver.{HasTaken}
use Rattle.dnp_receive.specs.declared.gathering.Gathering.{Gathering}

-- its receiver has taken these frames, and it keeps all that they brought
pub record HasGathered (own peer : ℕ) (frames : List FrameContent) (g : Gathering) : Type 0 where
  pub taken : HasTaken own peer frames g.receiver
  pub replies : g.replies.items ≡ replies_by (station_at own peer) frames
  pub fragments :
      map (λ f. f.items) g.fragments.items ≡ fragments_of (delivered_user_data (station_at own peer) frames)
