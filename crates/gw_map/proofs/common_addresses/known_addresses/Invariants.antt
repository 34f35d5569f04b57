-- The common addresses so far are known, each once.
use Rattle.std.proofs.Common.{◌≡◌, map, take}
use Rattle.std.specs.List.{AllByRecursion}
use Rattle.gw_entries.specs.Ranges.{IsWithin}
use Rattle.gw_map.specs.Settings.{distinct}
use Rattle.gw_map.proofs.common_addresses.known_addresses.Given as goal

abbrev pub invariant-loop-outstation : goal.invariant-loop-outstation
invariant-loop-outstation l = record {
  known : l.known.items
      ≡ distinct (map (λ outstation. outstation.common_address) (take l.outstation-index l.outstations));
  within : AllByRecursion (IsWithin 1 65534) l.known.items;
}
