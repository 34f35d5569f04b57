-- What a secondary station does with a frame (IEEE Std 1815-2012, clause 9).
use Rattle.std.specs.Prelude.{ℕ, ◌/◌, ◌%◌, Bool, true, false, not, ◌&&◌, ◌==◌}
use Rattle.std.specs.Prelude.{List, [], Option, Some, None, if◌then◌else◌}
use Rattle.dnp_link.specs.Frame.{FrameContent, frame, frame_content}
use Rattle.dnp_link.specs.Polynomial.{differs}
use Rattle.dnp_link.specs.Station.{Station}
use Rattle.dnp_link.specs.declared.secondary.Answer.{Answer}
use Rattle.dnp_link.specs.declared.secondary.Answer.TheVariants.{Deliver, Reply, Both, Ignore}

-- whether user data is delivered, the CONTROL octet of the reply, and the frame count bit expected next
pub record Decision : Type 0 where
  pub deliver : Bool
  pub reply : Option ℕ
  pub expected : Option Bool

-- TEST_LINK_STATES, and CONFIRMED_USER_DATA with data: before a reset NACK; with the expected bit ACK, and
-- what is asked is done; with the other bit ACK alone, since this frame was there before
abbrev pub decision_on_confirmed : Option Bool → Bool → Bool → Decision
decision_on_confirmed None deliver bit = record { deliver = false; reply = Some 0x81; expected = None }
decision_on_confirmed (Some next) deliver bit =
    if differs next bit then record { deliver = false; reply = Some 0x80; expected = Some next }
    else record { deliver = deliver; reply = Some 0x80; expected = Some (not next) }

-- by the function code: UNCONFIRMED_USER_DATA is delivered, REQUEST_LINK_STATUS gets LINK_STATUS,
-- RESET_LINK_STATES gets ACK, and any other function NOT_SUPPORTED
abbrev pub decision : Option Bool → ℕ → Bool → Decision
decision expected function bit =
    if function == 4 then record { deliver = true; reply = None; expected = expected }
    else if function == 9 then record { deliver = false; reply = Some 0x8B; expected = expected }
    else if function == 0 then record { deliver = false; reply = Some 0x80; expected = Some true }
    else if function == 2 then decision_on_confirmed expected false bit
    else if function == 3 then decision_on_confirmed expected true bit
    else record { deliver = false; reply = Some 0x8F; expected = expected }

-- the frame goes from the primary station (PRM 1, DIR 0) at the peer's address to this one
abbrev pub is_for : Station → FrameContent → Bool
is_for s c = c.destination == s.own && c.source == s.peer && c.control / 64 == 1

-- the frame tells the status of the link, which this end asked for: LINK_STATUS from the peer to this one, with DIR 0 and PRM 0
abbrev pub is_status : Station → FrameContent → Bool
is_status s c = c.destination == s.own && c.source == s.peer && c.control / 64 == 0 && c.control % 16 == 11

-- the decision on a frame, by its function code and its frame count bit; other frames are ignored
abbrev pub decision_on : Station → FrameContent → Decision
decision_on s c =
    if is_for s c then decision s.expected (c.control % 16) (c.control / 32 % 2 == 1)
    else record { deliver = false; reply = None; expected = s.expected }

-- a frame without user data, back to the peer
abbrev pub reply_frame : Station → ℕ → List ℕ
reply_frame s control = frame (frame_content control s.peer s.own [])

-- a decision as an answer
abbrev pub answer_by : Station → Bool → Option ℕ → Answer
answer_by s true None = Deliver
answer_by s false None = Ignore
answer_by s true (Some control) = Both (reply_frame s control)
answer_by s false (Some control) = Reply (reply_frame s control)

-- the answer to a frame
abbrev pub answer_of : Station → FrameContent → Answer
answer_of s c = answer_by s (decision_on s c).deliver (decision_on s c).reply

-- the station after a frame
abbrev pub station_after : Station → FrameContent → Station
station_after s c = record s { expected = (decision_on s c).expected }
