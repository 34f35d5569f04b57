-- The worked line.
use Rattle.std.proofs.Common.{◌≡◌, ℕ, true, false, List, [], ◌∷◌, ◌++◌, take, Some, refl}
use Rattle.run_ends.specs.declared.sent.Sent.TheVariants.{Confirm, Reply}
use Rattle.run_ends.specs.Sent.{sent_octets, Took, TookAll}

pub took_two : (own peer : ℕ) (a b : List ℕ) → TookAll own peer (Some []) (Some (a ++ take 2 b))
    ((0, record { what = Reply b; whole = false }) ∷ (1, record { what = Reply a; whole = true }) ∷ [])
took_two own peer a b = (Some a, ((Some [], (refl, (0, refl))), (2, refl)))

pub not_whole : (own peer segments : ℕ) → Took own peer segments (Some []) (Some (1 ∷ 2 ∷ []))
    (record { what = Reply (1 ∷ 2 ∷ 3 ∷ []); whole = true }) → ⊥
not_whole own peer segments took = shorter took.1
  where
    shorter : ◌≡◌ {A = List ℕ} (1 ∷ 2 ∷ []) (1 ∷ 2 ∷ 3 ∷ []) → ⊥
    shorter is = absurd (cc is)

pub a_front : (own peer segments : ℕ) → Took own peer segments (Some []) (Some (1 ∷ 2 ∷ []))
    (record { what = Reply (1 ∷ 2 ∷ 3 ∷ []); whole = false })
a_front own peer segments = (2, refl)

-- two confirmations: the second one has the number behind the first one's
pub took_in_turn : TookAll 1 10 (Some [])
    (Some (sent_octets 1 10 0 (Confirm (0xC3 ∷ 0x00 ∷ [])) ++ sent_octets 1 10 1 (Confirm (0xC4 ∷ 0x00 ∷ []))))
    ((0, record { what = Confirm (0xC4 ∷ 0x00 ∷ []); whole = true })
    ∷ (0, record { what = Confirm (0xC3 ∷ 0x00 ∷ []); whole = true }) ∷ [])
took_in_turn = (Some (sent_octets 1 10 0 (Confirm (0xC3 ∷ 0x00 ∷ []))), ((Some [], (refl, (0, refl))), (0, refl)))
