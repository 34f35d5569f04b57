-- Words of the laws.
use Rattle.std.specs.Prelude.{◌≡◌, ℕ, ◌≤◌, List, ◌++◌, length}
use Rattle.dnp_link.specs.Frame.{FrameContent, frame}

-- the octets begin with the frame that carries this
abbrev pub BeginsWith : List ℕ → FrameContent → Type 0
BeginsWith octets c = (length c.user ≤ 250) × ((behind : List ℕ) × (octets ≡ frame c ++ behind))
