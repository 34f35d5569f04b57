-- The series of segments that an assembler keeps, and its answer to the next segment.
use Rattle.std.specs.Prelude.{ℕ, ◌+◌, ◌%◌, ◌==◌, ◌≤◌, not, nat_lt, List}
use Rattle.std.specs.Prelude.{◌++◌, length, Option, Some, None, if◌then◌else◌}
use Rattle.dnp_transport.specs.declared.answer.DropCause.{DropCause}
use Rattle.dnp_transport.specs.declared.answer.DropCause.TheVariants.{Lone, Gap, TooLong, Empty}
use Rattle.dnp_transport.specs.declared.answer.Taken.{Taken}
use Rattle.dnp_transport.specs.declared.answer.Taken.TheVariants as taken
use Rattle.dnp_transport.specs.Segment.{is_final, is_first, sequence, carried_octets, is_whole}

-- a fragment that has begun: the sequence number that goes on with it, and its octets so far
pub record Series : Type 0 where
  pub next : ℕ
  pub octets : List ℕ

-- an answer, with a fragment as its octets
pub data Answer : Type 0 where
  Fragment : List ℕ → Answer
  More : Answer
  Dropped : DropCause → Answer

-- the answer that was given
abbrev pub answer_of : Taken → Answer
answer_of (taken.Fragment octets) = Fragment octets.items
answer_of taken.More = More
answer_of (taken.Dropped cause) = Dropped cause

-- a fragment that is given has 1 to 2,048 octets
abbrev pub HasLength : Answer → Type 0
HasLength (Fragment octets) = (1 ≤ length octets) × (length octets ≤ 2048)
HasLength More = Unit {0}
HasLength (Dropped cause) = Unit {0}

-- the segment has joined a series, whose octets are now these
abbrev pub step_joining : List ℕ → List ℕ → Answer × Option Series
step_joining octets segment =
    if nat_lt 2048 (length octets) then (Dropped TooLong, None)
    else if is_final segment then (Fragment octets, None)
    else (More, Some (record { next = (sequence segment + 1) % 64; octets = octets }))

-- the answer to a segment without FIR, and the series that is left after it
abbrev pub step_without_first : Option Series → List ℕ → Answer × Option Series
step_without_first None segment = (Dropped Lone, None)
step_without_first (Some series) segment =
    if sequence segment == series.next then step_joining (series.octets ++ carried_octets segment) segment
    else (Dropped Gap, None)

-- the answer to a segment, and the series that is left after it
abbrev pub step : Option Series → List ℕ → Answer × Option Series
step series segment =
    if not (is_whole segment) then (Dropped Empty, series)
    else if is_first segment then step_joining (carried_octets segment) segment
    else step_without_first series segment
