-- Numbers of 16 bits.
use Rattle.std.proofs.Common.{◌≡◌, ℤ, pos, negsuc, ◌≤ℤ◌, ◌<ℤ◌, ◌⊎◌, true, false, inl, inr, arith}
use Rattle.std.proofs.lemmas.Int.{ints}
use Rattle.gw_control.specs.Intents.{has_16_bits}

pub fitting : (z : ℤ) → negsuc 32767 ≤ℤ z → z ≤ℤ pos 32767 → has_16_bits z ≡ true
fitting z low high = grind (arith, ints)

pub unfitting : (z : ℤ) → (z <ℤ negsuc 32767) ⊎ (pos 32767 <ℤ z) → has_16_bits z ≡ false
unfitting z (inl low) = grind (arith, ints)
unfitting z (inr high) = grind (arith, ints)
