use Rattle.std.proofs.Common.{◌≡◌, ◌∙◌, refl, sym, ap, List, ℕ, ℤ, Bool, pos, Some, ◌*ℤ◌}
use Rattle.std.proofs.lemmas.Bool.{false≢true}
use Rattle.gw_model.specs.Clocks.{is_summer, shown_at}
use Rattle.gw_time.specs.Rule.{clocks_of}
use Rattle.gw_time.specs.Spelling.{numbers_at, octets_of}
use Rattle.gw_time.proofs.Century.{window_of_shown}
use Rattle.gw_time.proofs.Months.{outside}
use Rattle.gw_time.proofs.Spelled.{tag_of_numbers}
use Rattle.gw_time.proofs.tag.tag_at.Goals as goal

pub returns-in_err-civil : goal.returns-in_err-civil
returns-in_err-civil c =
    let clocks = clocks_of c.args.zone.now in
    c.from_residual.ensures ∙ sym (outside c.args.invalid (is_summer clocks c.args.instant)
    (shown_at clocks c.args.instant)
    (λ h. false≢true (c.in_err-civil.ensures.window.1 (window_of_shown clocks c.args.instant h))))

pub returns : goal.returns
returns c =
    let clocks = clocks_of c.args.zone.now in
    let x = c.numbers_showing.result in
    let shown = c.in_ok-civil.ensures in
    let octets : c.octets.result ≡ octets_of x = c.octets.ensures in
    ap (λ (o : List ℕ). Some o) octets
    ∙ tag_of_numbers clocks c.args.invalid c.args.instant x (shown.window.0 refl)
    (λ n e. c.numbers_showing.ensures.numbers n (shown.value ∙ ap (λ (z : ℤ). z *ℤ pos 1_000_000) (sym e))
    ∙ ap (λ (b : Bool). numbers_at c.args.invalid b n) shown.summer)
