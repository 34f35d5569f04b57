use Rattle.std.proofs.Common.{◌≡◌, ◌∙◌, ap, sym, arith, ℤ, pos, ◌*◌, ◌*ℤ◌, ◌+ℤ◌, Option, option_map}
use Rattle.std.proofs.lemmas.Int.{ints}
use Rattle.std.proofs.lemmas.Bool.Decides.{nat_tests}
use Rattle.std.proofs.Math.Dec.{eqb}
use mir.Val.{SFits, to_z, of_z}
use mir.Syntax.{w32}
use Rattle.jiff_core.proofs.SignedLemmas.{signed_casts}
use Rattle.jiff_tz.specs.PosixRule.{int_same}
use Rattle.gw_model.specs.declared.rule.ClockRule.{ClockRule}
use Rattle.gw_model.specs.Clocks.{is_summer_by}
use Rattle.gw_time.specs.Rule.{seconds_ahead, is_summer_by_rule, clocks_of}
use Rattle.gw_time.proofs.shown.is_summer.Goals as goal

-- two words are equal where their numbers are
same_words : (a b : ℤ) → SFits w32 a → SFits w32 b → eqb (of_z w32 a) (of_z w32 b) ≡ int_same a b
same_words a b fits fits_too = grind (arith, nat_tests, ints)

pub returns-in-Some : goal.returns-in-Some
unfolding clocks_of is_summer_by_rule
returns-in-Some c t e =
    let zone = c.args.zone.now in
    let rule = c.in-Some.rule in
    let seconds : c.seconds_ahead-seconds.result ≡ seconds_ahead rule (pos (t * 1_000_000)) =
    c.seconds_ahead-seconds.ensures ∙ ap (seconds_ahead rule) e in
    let offset : ℤ = pos 60 *ℤ to_z w32 (of_z w32 (to_z w32 (of_z w32 c.from.result) +ℤ pos 60)) in
    let ahead : offset ≡ pos 60 *ℤ (zone.offset_minutes +ℤ pos 60) = omega (arith, signed_casts, c.from.ensures) in
    let fits : SFits w32 c.seconds_ahead-seconds.result = record { sfits = c.seconds_ahead-seconds.type_inv } in
    same_words c.seconds_ahead-seconds.result offset fits (omega (arith, signed_casts))
    ∙ ap (λ (x : ℤ). int_same c.seconds_ahead-seconds.result x) ahead
    ∙ ap (λ (x : ℤ). int_same x (pos 60 *ℤ (zone.offset_minutes +ℤ pos 60))) seconds
    ∙ sym (ap (λ (r : Option ClockRule). is_summer_by (option_map (is_summer_by_rule zone.offset_minutes) r) t)
    c.in-Some.is)
