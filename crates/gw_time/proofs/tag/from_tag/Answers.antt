use Rattle.std.proofs.Common.{◌≡◌, ◌∙◌, sym, ap, true, false, refl}
use Rattle.std.specs.Prelude.{unsigned_abs}
use Rattle.gw_time.specs.Rule.{clocks_of}
use Rattle.gw_time.specs.Tag.{instant_of}
use Rattle.gw_time.proofs.Spelled.{meaning_of_numbers}
use Rattle.gw_time.proofs.tag.from_tag.Goals as goal

pub returns-then-time : goal.returns-then-time
returns-then-time c =
    let clocks = clocks_of c.args.zone.now in
    let x = c.read-time.result in
    let instant : c.instant_of-instant.result ≡ instant_of clocks x =
    ap unsigned_abs (c.instant_of-instant.ensures _ c.in-Some.ensures.value) in
    meaning_of_numbers clocks c.args.tag.now x true c.instant_of-instant.result c.read-time.ensures
    (sym c.is_in_range.ensures ∙ c.if-not-is_in_range.false) (c.in-Some.ensures.found.0 refl) c.if-time.true instant

pub returns-else-time : goal.returns-else-time
returns-else-time c =
    let clocks = clocks_of c.args.zone.now in
    let x = c.read-time.result in
    let instant : c.instant_of-instant.result ≡ instant_of clocks x =
    ap unsigned_abs (c.instant_of-instant.ensures _ c.in-Some.ensures.value) in
    meaning_of_numbers clocks c.args.tag.now x false c.instant_of-instant.result c.read-time.ensures
    (sym c.is_in_range.ensures ∙ c.if-not-is_in_range.false) (c.in-Some.ensures.found.0 refl) c.if-time.false instant
