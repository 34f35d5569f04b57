use Rattle.iec_asdu.proofs.Carried.{taken_fits, taken_longest, taken_of_some, taken_of_within}
use Rattle.iec_asdu.proofs.Carried.{taken_of_one, packed_short, packed_spelling_first}
use Rattle.iec_asdu.proofs.laws.longest_prefixes_are_taken.Goals as goal

pub returns : goal.returns
returns c = record {
  fits = taken_fits;
  longest = taken_longest;
  some = taken_of_some;
  within = taken_of_within;
  room = packed_short;
  first = packed_spelling_first;
  one = taken_of_one;
}
