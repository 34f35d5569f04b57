-- What one write after another leaves.
use Rattle.std.proofs.Common.{◌≡◌, ℕ, ◌+◌, List, [], ◌++◌, length, take, drop, sym, ◌∙◌, ap, arith, append_assoc}
use Rattle.std.proofs.lemmas.List.{take_at, drop_at, drop_all, take_all, append-nil, drop-drop, length-drop}
use Rattle.std.proofs.lemmas.Slice.{overwrites}

-- the lemmas on parts of a slice that was written in part
pub ruleset written = (overwrites)

-- ten octets were written to the front, and then a body behind them
pub front_then_body : (head body new out : List ℕ) (r : ℕ) → length head ≡ 10 → length out ≡ 292
    → new ≡ body ++ drop r (take 282 (drop 10 (head ++ drop 10 out)))
    → take 10 (head ++ drop 10 out) ++ (new ++ drop 282 (drop 10 (head ++ drop 10 out)))
    ≡ (head ++ body) ++ drop (10 + r) out
front_then_body head body new out r h l n =
    let ten : take 10 (head ++ drop 10 out) ≡ head = take_at head (drop 10 out) 10 h in
    let behind : drop 10 (head ++ drop 10 out) ≡ drop 10 out = drop_at head (drop 10 out) 10 h in
    let rest : drop 282 (drop 10 out) ≡ [] = drop_all 282 (drop 10 out) (omega (arith, length-drop 10 out)) in
    let mid : take 282 (drop 10 out) ≡ drop 10 out = take_all 282 (drop 10 out) (omega (arith, length-drop 10 out)) in
    let new_is : new ≡ body ++ drop (10 + r) out =
    n ∙ (ap (λ t. body ++ drop r (take 282 t)) behind
    ∙ (ap (λ t. body ++ drop r t) mid ∙ ap (λ t. body ++ t) (drop-drop r 10 out))) in
    rw (ten, behind, rest, append-nil new, new_is) (sym (append_assoc head body (drop (10 + r) out)))
