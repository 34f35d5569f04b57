use Rattle.std.proofs.Common.{◌≡◌, ℕ, ◌+◌, ◌^◌, List, [], ◌∷◌, drop, get_or, None, refl, sym, ap, ◌∙◌, arith}
use Rattle.std.proofs.lemmas.List.{drop_more, drop_all}
use Rattle.cmd_text.specs.Decimal.{if_below, decimal_after}
use Rattle.cmd_text.proofs.DecimalLaws.{digit_none, digit_some, below_small, number_is, end_is, not_empty}
use Rattle.cmd_text.proofs.decimal.number_64.Goals as goal

pub loop-character-init : goal.loop-character-init
loop-character-init c = (refl, omega arith)

pub returns-in_err-value : goal.returns-in_err-value
returns-in_err-value c =
    let text : List ℕ = c.args.text.now in
    let i : ℕ = c.loop-character.character-index in
    let v : ℕ = c.loop-character.value in
    let more : drop i text ≡ get_or text i 0 ∷ drop (i + 1) text = drop_more text i 0 c.loop-character-test.true in
    let none : if_below (2 ^ 64) (decimal_after v (drop i text)) ≡ None =
    ap (λ (ds : List ℕ). if_below (2 ^ 64) (decimal_after v ds)) more
    ∙ digit_none (2 ^ 64) v (get_or text i 0) (drop (i + 1) text) (sym c.in_err-value.ensures) in
    c.from_residual.ensures ∙ sym (number_is (2 ^ 64) text (omega (arith, c.loop-character-test.true))
    ∙ (sym c.loop-character.invariant.0 ∙ none))

pub loop-character-preserved : goal.loop-character-preserved
loop-character-preserved c =
    let text : List ℕ = c.args.text.now in
    let i : ℕ = c.loop-character.character-index in
    let v : ℕ = c.loop-character.value in
    let more : drop i text ≡ get_or text i 0 ∷ drop (i + 1) text = drop_more text i 0 c.loop-character-test.true in
    let on : decimal_after v (drop i text) ≡ decimal_after c.in_ok-value.value (drop (i + 1) text) =
    ap (decimal_after v) more
    ∙ digit_some (2 ^ 64) v (get_or text i 0) c.in_ok-value.value (drop (i + 1) text) (sym c.in_ok-value.ensures) in (
      sym (ap (if_below (2 ^ 64)) on) ∙ c.loop-character.invariant.0,
      below_small (2 ^ 64) c.in_ok-value.value (decimal_after v (get_or text i 0 ∷ [])) (sym c.in_ok-value.ensures),
    )

pub returns : goal.returns
returns c =
    let text : List ℕ = c.args.text.now in
    let v : ℕ = c.loop-character.value in
    let done : drop c.loop-character.character-index text ≡ [] =
    drop_all c.loop-character.character-index text c.loop-character-test.false in
    end_is (2 ^ 64) v c.loop-character.invariant.1
    ∙ (sym (ap (λ (ds : List ℕ). if_below (2 ^ 64) (decimal_after v ds)) done)
    ∙ (c.loop-character.invariant.0 ∙ sym (number_is (2 ^ 64) text (not_empty text (sym c.if-is_empty.ensures)))))
