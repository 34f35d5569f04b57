-- The fragments that a list of segments carries, by looking back from each segment with FIN
-- (IEEE Std 1815-2012, clause 8). A history has its newest segment first.
use Rattle.std.specs.Prelude.{ℕ, ◌+◌, ◌%◌, ◌==◌, Bool, true, false, not, ◌&&◌, nat_le, List}
use Rattle.std.specs.Prelude.{[], ◌∷◌, ◌++◌, length, reverse, filter, Option, Some, None}
use Rattle.std.specs.Prelude.{option_map, option_and_then, option_to_list, if◌then◌else◌}
use Rattle.std.specs.List.{list_any}
use Rattle.dnp_transport.specs.Segment.{is_final, is_first, sequence, carried_octets, is_whole}

-- the newest segments of a history, back to the last one with FIR; None where none has FIR
abbrev pub back_to_first : List (List ℕ) → Option (List (List ℕ))
back_to_first [] = None
back_to_first (newest ∷ older) =
    if is_first newest then Some (newest ∷ [])
    else option_map (λ run. newest ∷ run) (back_to_first older)

-- each sequence number is one more than that of the segment before, modulo 64
abbrev pub are_consecutive : List (List ℕ) → Bool
are_consecutive [] = true
are_consecutive (newest ∷ []) = true
are_consecutive (newest ∷ before ∷ run) =
    (sequence newest == (sequence before + 1) % 64) && are_consecutive (before ∷ run)

-- the octets that segments carry, those of the oldest first
abbrev pub octets_of : List (List ℕ) → List ℕ
octets_of [] = []
octets_of (newest ∷ older) = octets_of older ++ carried_octets newest

-- The newest of these segments has FIN and no other, the sequence numbers are consecutive, and
-- the segments carry at most 2,048 octets.
abbrev pub is_fragment : List (List ℕ) → Bool
is_fragment [] = false
is_fragment (newest ∷ older) =
    is_final newest && not (list_any is_final older) && are_consecutive (newest ∷ older)
    && nat_le (length (octets_of (newest ∷ older))) 2048

-- the fragment that ends with the newest segment of a history
abbrev pub fragment_ended_by_newest : List (List ℕ) → Option (List ℕ)
fragment_ended_by_newest history =
    option_and_then (λ run. if is_fragment run then Some (octets_of run) else None) (back_to_first history)

-- the fragments that end in a history, the oldest first
abbrev pub fragments_ended_in : List (List ℕ) → List (List ℕ)
fragments_ended_in [] = []
fragments_ended_in (newest ∷ older) =
    fragments_ended_in older ++ option_to_list (fragment_ended_by_newest (newest ∷ older))

-- the fragments of these segments, both in the order in which they came; a segment without a
-- header, or without an octet after it, is left out
abbrev pub fragments_of : List (List ℕ) → List (List ℕ)
fragments_of segments = fragments_ended_in (reverse (filter is_whole segments))
