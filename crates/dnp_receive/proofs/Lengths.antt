-- The fragments of a stream are short enough to be read.
use Rattle.std.proofs.Common.{ℕ, ◌≤◌, cond, List, [], ◌∷◌, ◌++◌, length, Option, Some, None, inl, inr}
use Rattle.std.specs.Prelude.{option_and_then, option_to_list, reverse, filter, nat_le, ◌&&◌, not}
use Rattle.std.specs.List.{list_any}
use Rattle.std.proofs.lemmas.Bool.{and_parts, cases_Bool, leb-true}
use Rattle.dnp_link.specs.Stream.{reading}
use Rattle.dnp_transport.specs.Segment.{is_whole, is_final}
use Rattle.dnp_transport.specs.Fragment.{back_to_first, are_consecutive, octets_of, is_fragment}
use Rattle.dnp_transport.specs.Fragment.{fragment_ended_by_newest, fragments_ended_in, fragments_of}
use Rattle.dnp_receive.specs.Delivery.{frames_of, station_at, delivered_user_data, stream_fragments}

-- each has at most 2,048 octets
abbrev pub AreShort : List (List ℕ) → Type 0
AreShort [] = Unit {0}
AreShort (f ∷ fs) = (length f ≤ 2048) × AreShort fs

short-append : (a b : List (List ℕ)) → AreShort a → AreShort b → AreShort (a ++ b)
short-append [] b x y = y
short-append (f ∷ a) b x y = (x.0, short-append a b x.1 y)

run_short : (run : List (List ℕ)) → AreShort (option_to_list (cond (is_fragment run) (Some (octets_of run)) None))
run_short [] = tt
run_short (newest ∷ older) =
    let run = newest ∷ older in
    let in_order = is_final newest && not (list_any is_final older) && are_consecutive run in
    let size = length (octets_of run) in
    elim (cases_Bool (is_fragment run)) [
      | inl e ↦ rw e (leb-true size 2048 (and_parts in_order (nat_le size 2048) e).1, tt)
      | inr e ↦ rw e tt
    ]

newest_short : (found : Option (List (List ℕ)))
    → AreShort (option_to_list
    (option_and_then (λ (run : List (List ℕ)). cond (is_fragment run) (Some (octets_of run)) None) found))
newest_short None = tt
newest_short (Some run) = run_short run

ended_short : (history : List (List ℕ)) → AreShort (fragments_ended_in history)
ended_short [] = tt
ended_short (newest ∷ older) =
    short-append (fragments_ended_in older) (option_to_list (fragment_ended_by_newest (newest ∷ older)))
    (ended_short older) (newest_short (back_to_first (newest ∷ older)))

fragments_short : (segments : List (List ℕ)) → AreShort (fragments_of segments)
fragments_short segments = ended_short (reverse (filter is_whole segments))

pub stream_short : (own peer : ℕ) (octets : List ℕ) → AreShort (stream_fragments own peer octets)
stream_short own peer octets =
    fragments_short (delivered_user_data (station_at own peer) (frames_of (reading octets).events))
