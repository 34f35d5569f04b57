-- The sequence numbers N(S) and N(R) (IEC 60870-5-104, 5.1): counts modulo 32,768.
use Rattle.std.specs.Prelude.{◌≡◌, ℕ, ◌+◌, ◌-◌, ◌%◌, ◌≤◌, ◌==◌, ◌&&◌, Bool, nat_lt, nat_le, length}
use Rattle.iec_window.specs.Counts.{WindowCounts, sent_in_all}

-- how many numbers there are
abbrev pub numbers : ℕ
numbers = 32768

-- N(R) says that n of the I formats sent have been received: no fewer than it said before, no more than were sent
pub record Acknowledges (nr : ℕ) (c : WindowCounts) (n : ℕ) : Type 0 where
  pub not_fewer : c.acknowledged ≤ n
  pub not_more : n ≤ sent_in_all c
  pub number : nr ≡ n % numbers

-- the N(S) of the next I format to be sent
abbrev pub send_number : WindowCounts → ℕ
send_number c = sent_in_all c % numbers

-- the N(R) of the next frame to be sent
abbrev pub receive_number : WindowCounts → ℕ
receive_number c = c.received % numbers

-- the N(S) of an I format received is right
abbrev pub is_right_send : ℕ → WindowCounts → Bool
is_right_send ns c = ns == receive_number c

-- how many I formats N(R) acknowledges newly, if it is right
abbrev pub new_acknowledgements : ℕ → WindowCounts → ℕ
new_acknowledgements nr c = (nr + numbers - c.acknowledged % numbers) % numbers

-- the N(R) of a frame received is right
abbrev pub is_right_receive : ℕ → WindowCounts → Bool
is_right_receive nr c = nat_lt nr numbers && nat_le (new_acknowledgements nr c) (length c.waiting)
