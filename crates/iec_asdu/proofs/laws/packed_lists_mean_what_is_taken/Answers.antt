use Rattle.iec_asdu.proofs.Carried.{packed_header, taken_of_few, taken_of_front, packed_spelling_front}
use Rattle.iec_asdu.proofs.Meant.{packed_is_meant}
use Rattle.iec_asdu.proofs.laws.packed_lists_mean_what_is_taken.Goals as goal

pub returns : goal.returns
returns c = record {
  header = packed_header;
  meant = packed_is_meant;
  few = taken_of_few;
  front = taken_of_front;
  front_spelled = packed_spelling_front;
}
