-- The days since 1970 are not counted out: a stamp is in the window where it has a tag.
use Rattle.std.proofs.Common.{◌≡◌, ℕ, ◌+◌, ◌-◌, List, Some, None, refl}
use Rattle.gw_model.specs.declared.point.Stamp.{Stamp}
use Rattle.gw_model.specs.declared.point.Stamp.TheVariants.{At, Doubtful}
use Rattle.gw_model.specs.Clocks.{Clocks, utc}
use Rattle.gw_time.specs.Window.{HasTag}
use Rattle.gw_time.specs.Spelling.{tag_showing, date_after, tag_of}
use Rattle.gw_time.specs.Example.{IsFirst, IsLast}
use Rattle.gw_time.proofs.Spelled.{window_of_tag, tag_means}
use Rattle.gw_time.proofs.examples.window_examples.Goals as goal

tagged : (clocks : Clocks) (stamp : Stamp) (tag : List ℕ) → tag_of clocks stamp ≡ Some tag → HasTag clocks stamp
tagged clocks stamp tag e = (rw e at (window_of_tag clocks stamp)).0 refl

untagged : (clocks : Clocks) (stamp : Stamp) → tag_of clocks stamp ≡ None → ¬ HasTag clocks stamp
untagged clocks stamp none has =
    let some = (rw none at (window_of_tag clocks stamp)).1 has in
    absurd cc

first : (clocks : Clocks) (t : ℕ) (tag : List ℕ) → tag_of clocks (At t) ≡ Some tag → tag_of clocks (At (t - 1)) ≡ None
    → IsFirst clocks t tag
first clocks t tag shows before =
    (tagged clocks (At t) tag shows, untagged clocks (At (t - 1)) before, rw shows at (tag_means clocks (At t)))

last : (clocks : Clocks) (t : ℕ) (tag : List ℕ) → tag_of clocks (At t) ≡ Some tag → tag_of clocks (At (t + 1)) ≡ None
    → IsLast clocks t tag
last clocks t tag shows after =
    (tagged clocks (At t) tag shows, untagged clocks (At (t + 1)) after, rw shows at (tag_means clocks (At t)))

pub returns : goal.returns
unfolding tag_showing date_after
returns c = record {
  first_west = first _ _ _ refl refl;
  first_utc = first _ _ _ refl refl;
  first_60 = first _ _ _ refl refl;
  first_east = first _ _ _ refl refl;
  last_west = last _ _ _ refl refl;
  last_utc = last _ _ _ refl refl;
  last_60 = last _ _ _ refl refl;
  last_east = last _ _ _ refl refl;
  february_2100 = untagged utc (At 4107456000000) refl;
  doubtful_2100 = untagged utc (Doubtful 4107456000000) refl;
  epoch = untagged utc (At 0) refl;
  untimed = λ has. has;
}
