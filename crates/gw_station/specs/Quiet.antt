-- A client to which nothing is put out.
use Rattle.std.specs.Prelude.{◌≡◌, ℕ, true, false, []}
use Rattle.iec_window.specs.Timers.{owes_ack, owes_test}
use Rattle.gw_station.specs.Client.{Client, is_started}
use Rattle.gw_station.specs.Pump.{has_room, line}

-- no confirmation waits, no test and no receipt is due, and nothing is in line that may be sent
pub record IsQuiet (moment : ℕ) (c : Client) : Type 0 where
  pub confirmations : c.confirmations ≡ []
  pub test : owes_test moment c.window ≡ false
  pub line : is_started c.stage ≡ true → has_room c.window ≡ true → line c ≡ []
  pub receipt : owes_ack moment c.window ≡ false
