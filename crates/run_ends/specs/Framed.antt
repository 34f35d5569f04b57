-- The frames that carry segments to an outstation (IEEE Std 1815-2012, clause 9).
use Rattle.std.specs.Prelude.{ℕ, List, [], ◌∷◌, ◌++◌}
use Rattle.dnp_link.specs.Frame.{frame, frame_content, header, octets_with_crc}

-- The octets of a frame for each segment, one after another: from the master's address to the outstation's, DIR and PRM
-- set, with the function UNCONFIRMED_USER_DATA.
abbrev pub framed : ℕ → ℕ → List (List ℕ) → List ℕ
framed own peer [] = []
framed own peer (segment ∷ more) = frame (frame_content 196 peer own segment) ++ framed own peer more

-- The frame that asks for the status of the link: DIR and PRM set, with the function REQUEST_LINK_STATUS, without user data.
abbrev pub status_request : ℕ → ℕ → List ℕ
status_request own peer = octets_with_crc (header (frame_content 201 peer own []))
