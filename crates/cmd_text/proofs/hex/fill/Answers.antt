use Rattle.std.proofs.Common.{rules, ◌≡◌, ◌<◌, length, get_or, Some, ap, arith}
use Rattle.cmd_text.specs.Hex.{octet, octets_of}
use Rattle.cmd_text.proofs.HexLaws.{with_none, goes_on}
use Rattle.cmd_text.proofs.hex.fill.Goals as goal

pub loop-rest-init : goal.loop-rest-init
loop-rest-init c = record {
  read = rw c.requires.empty (with_none (octets_of c.args.text.now));
  room = omega (arith, c.args.octets.now.ok.0, c.requires.room, ap length c.requires.empty);
}

pub loop-rest-preserved : goal.loop-rest-preserved
loop-rest-preserved c =
    let rest = c.loop-rest.rest.now in
    let long : 2 < length rest = omega arith in
    let space : get_or rest 2 0 ≡ 32 = search rules in
    let one : octet (get_or rest 0 0) (get_or rest 1 0) ≡ Some c.in-Some.octet = search rules in
    let next = goes_on c.loop-rest.octets.items rest c.in-Some.octet
    (octets_of c.args.text.now) long one space c.loop-rest.invariant.read in
    record {
      read = rw (c.push_reserved.ensures.items, c.split_at.ensures.back) next;
      room = omega (
        arith,
        c.push_reserved.ensures.len,
        c.push_reserved.ensures.capacity,
        c.split_at.ensures.back_len,
        c.loop-rest.invariant.room,
      );
    }
