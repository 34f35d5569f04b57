-- The frames of the worked examples: 14 octets with one segment of two octets, or 10 octets.
use Rattle.std.specs.Prelude.{ℕ, List, [], ◌∷◌}
use Rattle.dnp_link.specs.Frame.{FrameContent, frame_content}

-- UNCONFIRMED_USER_DATA from station 1 to station 1024, with the first segment of a fragment (FIR, number 62)
abbrev pub first_frame : List ℕ
first_frame =
    0x05 ∷ 0x64 ∷ 0x07 ∷ 0x44 ∷ 0x00 ∷ 0x04 ∷ 0x01 ∷ 0x00 ∷ 0x0C ∷ 0x3C ∷ 0x7E ∷ 0xAA ∷ 0x48 ∷ 0x27 ∷ []

-- the same with the next segment (number 63)
abbrev pub second_frame : List ℕ
second_frame =
    0x05 ∷ 0x64 ∷ 0x07 ∷ 0x44 ∷ 0x00 ∷ 0x04 ∷ 0x01 ∷ 0x00 ∷ 0x0C ∷ 0x3C ∷ 0x3F ∷ 0xBB ∷ 0x18 ∷ 0xA3 ∷ []

-- the same with the last segment (FIN, number 0)
abbrev pub last_frame : List ℕ
last_frame =
    0x05 ∷ 0x64 ∷ 0x07 ∷ 0x44 ∷ 0x00 ∷ 0x04 ∷ 0x01 ∷ 0x00 ∷ 0x0C ∷ 0x3C ∷ 0x80 ∷ 0xCC ∷ 0xC3 ∷ 0x37 ∷ []

-- UNCONFIRMED_USER_DATA from station 2, with a segment of number 63
abbrev pub frame_of_station_2 : List ℕ
frame_of_station_2 =
    0x05 ∷ 0x64 ∷ 0x07 ∷ 0x44 ∷ 0x00 ∷ 0x04 ∷ 0x02 ∷ 0x00 ∷ 0xA7 ∷ 0x8C ∷ 0x3F ∷ 0xEE ∷ 0x0B ∷ 0xAD ∷ []

-- CONFIRMED_USER_DATA from station 1, with the segment of `second_frame`
abbrev pub confirmed_frame : List ℕ
confirmed_frame =
    0x05 ∷ 0x64 ∷ 0x07 ∷ 0x73 ∷ 0x00 ∷ 0x04 ∷ 0x01 ∷ 0x00 ∷ 0xD1 ∷ 0x67 ∷ 0x3F ∷ 0xBB ∷ 0x18 ∷ 0xA3 ∷ []

-- UNCONFIRMED_USER_DATA from station 1, with a fragment in one segment (FIR, FIN, number 0)
abbrev pub whole_frame : List ℕ
whole_frame =
    0x05 ∷ 0x64 ∷ 0x07 ∷ 0x44 ∷ 0x00 ∷ 0x04 ∷ 0x01 ∷ 0x00 ∷ 0x0C ∷ 0x3C ∷ 0xC0 ∷ 0xDD ∷ 0xDD ∷ 0x18 ∷ []

-- CONFIRMED_USER_DATA from station 1 with the frame count bit 1, with the fragment of `whole_frame`
abbrev pub confirmed_whole_frame : List ℕ
confirmed_whole_frame =
    0x05 ∷ 0x64 ∷ 0x07 ∷ 0x73 ∷ 0x00 ∷ 0x04 ∷ 0x01 ∷ 0x00 ∷ 0xD1 ∷ 0x67 ∷ 0xC0 ∷ 0xDD ∷ 0xDD ∷ 0x18 ∷ []

-- RESET_LINK_STATES from station 1 to station 1024, and REQUEST_LINK_STATUS
abbrev pub reset_frame : List ℕ
reset_frame = 0x05 ∷ 0x64 ∷ 0x05 ∷ 0x40 ∷ 0x00 ∷ 0x04 ∷ 0x01 ∷ 0x00 ∷ 0xA3 ∷ 0x96 ∷ []

abbrev pub status_request : List ℕ
status_request = 0x05 ∷ 0x64 ∷ 0x05 ∷ 0x49 ∷ 0x00 ∷ 0x04 ∷ 0x01 ∷ 0x00 ∷ 0xEC ∷ 0xE0 ∷ []

-- the replies of station 1024 to station 1: ACK, NACK and LINK_STATUS
abbrev pub acknowledgement : List ℕ
acknowledgement = 0x05 ∷ 0x64 ∷ 0x05 ∷ 0x80 ∷ 0x01 ∷ 0x00 ∷ 0x00 ∷ 0x04 ∷ 0x53 ∷ 0x11 ∷ []

abbrev pub refusal : List ℕ
refusal = 0x05 ∷ 0x64 ∷ 0x05 ∷ 0x81 ∷ 0x01 ∷ 0x00 ∷ 0x00 ∷ 0x04 ∷ 0x55 ∷ 0x32 ∷ []

abbrev pub link_status : List ℕ
link_status = 0x05 ∷ 0x64 ∷ 0x05 ∷ 0x8B ∷ 0x01 ∷ 0x00 ∷ 0x00 ∷ 0x04 ∷ 0x10 ∷ 0x21 ∷ []

-- what a frame from station 1 to station 1024 with this CONTROL octet and these user data carries
abbrev pub sent : ℕ → List ℕ → FrameContent
sent control user = frame_content control 1024 1 user

-- what `reset_frame`, `status_request`, `whole_frame` and `confirmed_whole_frame` carry
abbrev pub reset : FrameContent
reset = sent 0x40 []

abbrev pub asked_status : FrameContent
asked_status = sent 0x49 []

abbrev pub whole : FrameContent
whole = sent 0x44 (0xC0 ∷ 0xDD ∷ [])

abbrev pub confirmed_whole : FrameContent
confirmed_whole = sent 0x73 (0xC0 ∷ 0xDD ∷ [])
