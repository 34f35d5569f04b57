-- The numbers of closed clients, one client after the other.
use Rattle.std.proofs.Common.{◌≡◌, ℕ, suc, ◌+◌, ◌-◌, ◌/◌, ◌%◌, ◌<◌, eqb}
use Rattle.std.proofs.Common.{List, ◌++◌, refl, sym, ap, ◌∙◌, append_assoc, arith}
use Rattle.cmd_replay.specs.Replies.{client_word, closed_words}

-- one client's word, and then the others'
closed_next : (client rest : ℕ) → client < 8
    → closed_words client (8 - client) rest
    ≡ client_word client (eqb (rest % 2) 1) ++ closed_words (client + 1) (8 - (client + 1)) (rest / 2)
closed_next client rest within = let e : 8 - client ≡ suc (8 - (client + 1)) = omega (arith, within) in rw e refl

pub closed_more : (text new all : List ℕ) (client rest : ℕ) → client < 8
    → new ≡ text ++ client_word client (eqb (rest % 2) 1)
    → text ++ closed_words client (8 - client) rest ≡ all
    → new ++ closed_words (client + 1) (8 - (client + 1)) (rest / 2) ≡ all
closed_more text new all client rest within en so_far =
    let others : List ℕ = closed_words (client + 1) (8 - (client + 1)) (rest / 2) in
    ap (λ (t : List ℕ). t ++ others) en
    ∙ (append_assoc text (client_word client (eqb (rest % 2) 1)) others
    ∙ (ap (λ (t : List ℕ). text ++ t) (sym (closed_next client rest within)) ∙ so_far))
