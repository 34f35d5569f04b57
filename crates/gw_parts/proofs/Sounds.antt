-- What every client keeps over an APDU of one of them.
use Rattle.std.proofs.Common.{ℕ, zero, suc, ◌+◌, List, [], ◌∷◌, arith}
use Rattle.std.specs.List.{AllByRecursion}
use Rattle.std.proofs.Math.ListN.{set}
use Rattle.gw_map.specs.Settings.{Setup}
use Rattle.gw_station.specs.Client.{Client}
use Rattle.gw_station.specs.Sound.{IsSoundClient}
use Rattle.gw_station.proofs.Sounds.{all_later, sound_later}

-- one client is another, in a step
pub sound_set : (any : Setup) (n i p : ℕ) (cs : List Client) (c : Client) → IsSoundClient any.station (n + 1) i c
    → AllByRecursion (IsSoundClient any.station n i) cs
    → AllByRecursion (IsSoundClient any.station (n + 1) i) (set cs p c)
sound_set any n i p [] c sound all = tt
sound_set any n i zero (x ∷ cs) c sound all =
    (sound, all_later any.station n (n + 1) i i cs (omega arith) (omega arith) all.1)
sound_set any n i (suc p) (x ∷ cs) c sound all =
    (sound_later any.station n (n + 1) i i x (omega arith) (omega arith) all.0, sound_set any n i p cs c sound all.1)
