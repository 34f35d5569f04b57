use Rattle.std.proofs.Common.{◌≡◌, ℕ, List, ◌++◌, append_assoc}
use Rattle.cmd_replay.proofs.reply_text.push_confirmed.Goals as goal

three_more : (old one two all a b c : List ℕ) → one ≡ old ++ a → two ≡ one ++ b → all ≡ two ++ c
    → all ≡ old ++ (a ++ b ++ c)
three_more old one two all a b c e f g = rw (g, f, e) (simp append_assoc)

pub returns-in_ok-push_spaced : goal.returns-in_ok-push_spaced
returns-in_ok-push_spaced c =
    rw c.in-Some.is (three_more _ _ _ _ _ _ _ c.in_ok-extend_from_slice.ensures.items
    c.in_ok-extend_from_slice-2.ensures.items c.in_ok-push_spaced.ensures)
