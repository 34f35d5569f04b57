-- The segments that carry a fragment (IEEE Std 1815-2012, clause 8), each by its place among them.
use Rattle.std.specs.Prelude.{ℕ, ◌+◌, ◌*◌, ◌/◌, ◌%◌, ◌==◌, Bool, true, ◌&&◌}
use Rattle.std.specs.Prelude.{List, ◌∷◌, length, take, drop, map, if◌then◌else◌}
use Rattle.std.specs.List.{range_with_len}

-- how many segments carry this many octets, at most 249 each
abbrev pub segment_count : ℕ → ℕ
segment_count n = (n + 248) / 249

-- FIN, FIR and the sequence number in one octet
abbrev pub header_of : Bool → Bool → ℕ → ℕ
header_of is_final is_first number = (if is_final then 128 else 0) + (if is_first then 64 else 0) + number % 64

-- The segments of these octets: the sequence numbers count from first, FIN is on the last, and FIR
-- on the first where the octets begin a fragment.
unfoldable pub segments_from : Bool → ℕ → List ℕ → List (List ℕ)
segments_from begins first octets =
    let count = segment_count (length octets) in
    map (λ k. header_of (k + 1 == count) (begins && (k == 0)) (first + k) ∷ take 249 (drop (249 * k) octets))
    (range_with_len 0 count)

-- the segments of a fragment
abbrev pub segments_of : List ℕ → ℕ → List (List ℕ)
segments_of fragment first = segments_from true first fragment
