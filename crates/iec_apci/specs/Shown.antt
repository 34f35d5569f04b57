-- What a contract sees of a feed, and what each feed keeps.
use Rattle.std.specs.Prelude.{◌≡◌}
use Rattle.std.specs.Option.{ForSome}
use Rattle.iec_apci.specs.declared.feed.ApduFeed.TheInside.{Inside}
use Rattle.iec_apci.specs.Stream.{Ending}
use Rattle.iec_apci.specs.Calls.{ending_of}

abbrev pub ending_shown : Inside → Ending
ending_shown f = ending_of f.fault f.octets.left

-- After a fault nothing is kept.
pub record IsSound (f : Inside) : Type 0 where
  pub ended : ForSome f.fault (λ _. f.octets.kept ≡ 0)
