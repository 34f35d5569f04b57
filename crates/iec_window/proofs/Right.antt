-- What a right N(R) says, and what becomes of the I formats sent.
use Rattle.std.proofs.Common.{◌≡◌, ℕ, ◌+◌, ◌<◌, ◌≤◌, Bool, true, false, leb, ltb, [], ◌∷◌, length, refl, arith}
use Rattle.std.specs.Prelude.{◌&&◌}
use Rattle.std.proofs.lemmas.Bool.{leb-true, le-leb, ltb-true, lt-ltb}
use Rattle.std.proofs.lemmas.List.{length-append, length-drop}
use Rattle.iec_window.specs.Counts.{WindowCounts, sent_in_all}
use Rattle.iec_window.specs.Sequence.{Acknowledges, numbers, new_acknowledgements, is_right_receive}
use Rattle.iec_window.specs.Steps.{counts_after_right_s, counts_after_sending_i}
use Rattle.iec_window.proofs.Numbers.{Acknowledges-new_acknowledgements, new_acknowledgements-within}

-- ---- N(R)

pub both : (a b : Bool) → a && b ≡ true → (a ≡ true) × (b ≡ true)
both true b e = (refl, e)
both false b e = absurd cc

-- a right N(R) has 15 bits, and acknowledges no more than what waits
pub right_split : (nr : ℕ) (w : WindowCounts) → is_right_receive nr w ≡ true
    → (nr < 32768) × (new_acknowledgements nr w ≤ length w.waiting)
right_split nr w e =
    let parts = both (ltb nr numbers) (leb (new_acknowledgements nr w) (length w.waiting)) e in
    (ltb-true nr 32768 parts.0, leb-true (new_acknowledgements nr w) (length w.waiting) parts.1)

-- it names a count
pub right_names : (nr : ℕ) (w : WindowCounts) → is_right_receive nr w ≡ true
    → Acknowledges nr w (w.acknowledged + new_acknowledgements nr w)
right_names nr w e = let parts = right_split nr w e in Acknowledges-new_acknowledgements nr w parts.0 parts.1

-- and an N(R) that names a count is right
pub named_right : (nr : ℕ) (w : WindowCounts) (n : ℕ) → length w.waiting < 32768 → Acknowledges nr w n
    → is_right_receive nr w ≡ true
named_right nr w n few a =
    rw (
      lt-ltb nr 32768 (omega (arith, a.number)),
      le-leb (new_acknowledgements nr w) (length w.waiting) (new_acknowledgements-within nr w n few a),
    ) refl

-- ---- counts

-- of the I formats sent a right N(R) acknowledges some, and they stay as many
pub right_sent : (nr moment : ℕ) (w : WindowCounts) → is_right_receive nr w ≡ true
    → sent_in_all (counts_after_right_s nr moment w) ≡ sent_in_all w
right_sent nr moment w e =
    let parts = right_split nr w e in
    omega (arith, parts.1, length-drop (new_acknowledgements nr w) w.waiting)

pub sent_one_more : (moment : ℕ) (w : WindowCounts) → sent_in_all (counts_after_sending_i moment w) ≡ sent_in_all w + 1
sent_one_more moment w = omega (arith, length-append w.waiting (moment ∷ []))
