-- What a tag means, written again.
use Rattle.std.proofs.Common.{◌≡◌, ◌∙◌, ap, sym, ℕ, List, Option, Some, None, Ok, IsSome, IfSome}
use Rattle.std.proofs.lemmas.Bool.{false≢true}
use Rattle.gw_model.specs.declared.point.Stamp.{Stamp}
use Rattle.gw_model.specs.Clocks.{Clocks}
use Rattle.gw_time.specs.Tag.{tag_meaning, plain}
use Rattle.gw_time.specs.Spelling.{tag_of}
use Rattle.gw_time.specs.Laws.{AreStationClocks, IsByTheClocks, AreSevenOctets}
use Rattle.gw_time.proofs.Round.{meaning_has_tag, one_tag_for, both_of_summer}
use Rattle.gw_time.proofs.Spelled.{IsTagOf, window_of_tag, tag_is}

is_written : (written : Option (List ℕ)) (clocks : Clocks) (octets : List ℕ) (stamp : Stamp) → AreStationClocks clocks
    → AreSevenOctets octets → tag_meaning clocks octets ≡ Ok stamp → IsByTheClocks clocks octets → IsSome written
    → IfSome written (IsTagOf clocks stamp) → written ≡ Some (plain clocks octets)
is_written None clocks octets stamp o seven e by some is = absurd (false≢true some)
is_written (Some tag) clocks octets stamp o seven e by some is =
    ap (λ (xs : List ℕ). Some xs) (sym is.plain ∙ one_tag_for clocks tag octets stamp o is.seven seven is.meant e
    (both_of_summer clocks tag octets stamp is.meant e is.by_the_clocks by))

-- the tag of what a tag by the clocks means
pub written_so : (clocks : Clocks) (octets : List ℕ) (stamp : Stamp) → AreStationClocks clocks → AreSevenOctets octets
    → tag_meaning clocks octets ≡ Ok stamp → IsByTheClocks clocks octets
    → tag_of clocks stamp ≡ Some (plain clocks octets)
written_so clocks octets stamp o seven e by =
    is_written (tag_of clocks stamp) clocks octets stamp o seven e by
    ((window_of_tag clocks stamp).1 (meaning_has_tag clocks octets stamp o by e)) (tag_is clocks stamp)
