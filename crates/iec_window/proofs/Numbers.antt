-- A number modulo 32,768 names one count within a window that is smaller.
use Rattle.std.proofs.Common.{◌≡◌, ℕ, ◌+◌, ◌-◌, ◌%◌, ◌<◌, ◌≤◌}
use Rattle.std.proofs.Common.{◌↔◌, IsTrue, nat_le, length, arith, rules}
use Rattle.iec_window.specs.Counts.{WindowCounts}
use Rattle.iec_window.specs.Sequence.{Acknowledges, new_acknowledgements}

-- the count that is as far ahead of another as the number says has that number
pub number_of-ahead : (nr from : ℕ) → nr < 32768 → nr ≡ (from + (nr + 32768 - from % 32768) % 32768) % 32768
number_of-ahead nr from h = omega arith

-- how far a count within the window is ahead follows from its number
pub ahead_of-number : (nr from count width : ℕ) → width < 32768 → from ≤ count → count ≤ from + width
    → nr ≡ count % 32768 → (nr + 32768 - from % 32768) % 32768 ≡ count - from
ahead_of-number nr from count width h low high e = omega arith

-- N(R) that is no further ahead than what waits names a count
pub Acknowledges-new_acknowledgements : (nr : ℕ) (c : WindowCounts) → nr < 32768
    → new_acknowledgements nr c ≤ length c.waiting → Acknowledges nr c (c.acknowledged + new_acknowledgements nr c)
Acknowledges-new_acknowledgements nr c h le =
    record { not_fewer = omega arith; not_more = omega arith; number = number_of-ahead nr c.acknowledged h }

-- the count that N(R) names is no further ahead than what waits
pub new_acknowledgements-within : (nr : ℕ) (c : WindowCounts) (n : ℕ) → length c.waiting < 32768 → Acknowledges nr c n
    → new_acknowledgements nr c ≤ length c.waiting
new_acknowledgements-within nr c n h a =
    let e : new_acknowledgements nr c ≡ n - c.acknowledged =
    ahead_of-number nr c.acknowledged n (length c.waiting) h a.not_fewer a.not_more a.number in
    omega (arith, e, a.not_fewer, a.not_more)

-- N(R) is right where it names a count
pub new_acknowledgements-means : (nr : ℕ) (c : WindowCounts) (ahead width : ℕ) → nr < 32768 → length c.waiting < 32768
    → ahead ≡ new_acknowledgements nr c → width ≡ length c.waiting →
    IsTrue (nat_le ahead width) ↔ ((n : ℕ) × Acknowledges nr c n)
new_acknowledgements-means nr c ahead width h small e f = (
  λ t. let le : ahead ≤ width = search rules in
      (c.acknowledged + new_acknowledgements nr c, Acknowledges-new_acknowledgements nr c h (omega (arith, le))),
  λ a. let le : ahead ≤ width = omega (arith, new_acknowledgements-within nr c a.0 small a.1) in search rules,
)

-- of a count, and as many more: a number that is no further ahead leaves all but those beyond it
pub ahead_leaves : (nr from width : ℕ) → nr < 32768 → width < 32768 → (nr + 32768 - from % 32768) % 32768 ≤ width →
    from + (nr + 32768 - from % 32768) % 32768 ≡ from + width - (from + width + 32768 - nr) % 32768
ahead_leaves nr from width small few within = omega arith

pub ahead_within : (nr from width : ℕ) → nr < 32768 → width < 32768 → (nr + 32768 - from % 32768) % 32768 ≤ width
    → (from + width + 32768 - nr) % 32768 ≤ width
ahead_within nr from width small few within = omega arith

pub within_ahead : (nr from width : ℕ) → nr < 32768 → width < 32768 → (from + width + 32768 - nr) % 32768 ≤ width
    → (nr + 32768 - from % 32768) % 32768 ≤ width
within_ahead nr from width small few within = omega arith

-- all but those beyond the number of a count are that count
pub named_leaves : (nr all count width : ℕ) → width < 32768 → count ≤ all → all ≤ count + width → nr ≡ count % 32768
    → all - (all + 32768 - nr) % 32768 ≡ count
named_leaves nr all count width few low high e = omega arith
