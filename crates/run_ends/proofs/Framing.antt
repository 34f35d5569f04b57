-- Frames, one behind the others.
use Rattle.std.proofs.Common.{◌≡◌, ◌≤◌, ℕ, ◌+◌, List, [], ◌∷◌, ◌++◌, length, min}
use Rattle.std.proofs.Common.{take, drop, refl, sym, ap, subst, ◌∙◌, append_assoc, arith}
use Rattle.std.proofs.lemmas.List.{append-nil, length-append, length-drop, take-append-le, take_min}
use Rattle.std.proofs.Math.Seq.{take-append-add, take-append_seam}
use Rattle.dnp_link.specs.Frame.{frame, frame_content}
use Rattle.run_ends.specs.Framed.{framed}

framed-append : (own peer : ℕ) (a b : List (List ℕ)) → framed own peer (a ++ b) ≡ framed own peer a ++ framed own peer b
framed-append own peer [] b = refl
framed-append own peer (x ∷ a) b =
    ap (λ (rest : List ℕ). frame (frame_content 196 peer own x) ++ rest) (framed-append own peer a b)
    ∙ sym (append_assoc (frame (frame_content 196 peer own x)) (framed own peer a) (framed own peer b))

-- one more
pub framed-one : (own peer : ℕ) (a : List (List ℕ)) (x : List ℕ)
    → framed own peer (a ++ x ∷ []) ≡ framed own peer a ++ frame (frame_content 196 peer own x)
framed-one own peer a x =
    framed-append own peer a (x ∷ [])
    ∙ ap (λ (back : List ℕ). framed own peer a ++ back) (append-nil (frame (frame_content 196 peer own x)))

-- the front of what was written over, as far as it was
pub front-written : (xs out before : List ℕ) (n : ℕ) → out ≡ xs ++ drop n before → length out ≡ length before
    → n ≤ length before
    → take n out ≡ xs
front-written xs out before n written same within =
    let long : length xs ≡ n =
    omega (arith, ap length written ∙ length-append xs (drop n before), length-drop n before, same, within) in
    ap (take n) written
    ∙ subst (λ (m : ℕ). take m (xs ++ drop n before) ≡ xs) long (take-append_seam xs (drop n before))

-- the front of frames, where the last one was cut off
pub framed-front : (own peer : ℕ) (a : List (List ℕ)) (x : List ℕ) (b : List (List ℕ)) (n : ℕ)
    → take (length (framed own peer a) + min n (length (frame (frame_content 196 peer own x)))) (framed own peer (a ++ x ∷ b))
    ≡ framed own peer a ++ take n (frame (frame_content 196 peer own x))
framed-front own peer a x b n =
    let f : List ℕ = frame (frame_content 196 peer own x) in
    let k : ℕ = min n (length f) in
    ap (take (length (framed own peer a) + k)) (framed-append own peer a (x ∷ b))
    ∙ (take-append-add (framed own peer a) (f ++ framed own peer b) k
    ∙ ap (λ (back : List ℕ). framed own peer a ++ back)
    (take-append-le k f (framed own peer b) (omega arith) ∙ take_min n f))
