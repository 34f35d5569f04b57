use Rattle.std.proofs.Common.{◌≡◌, ap, arith, length-append}
use Rattle.std.proofs.lemmas.List.{append-nil}
use Rattle.iec_asdu.specs.Spelling.{element_octets, tag_octets}
use Rattle.iec_asdu.proofs.Behind.{writes_part, writes_both}
use Rattle.iec_asdu.proofs.writing.write_object.Goals as goal

pub returns-in_default-clause-written : goal.returns-in_default-clause-written
returns-in_default-clause-written c =
    rw (c.in_default.is, append-nil (element_octets c.args.observation.now))
    (writes_both _ _ _ _ _ _ _ _ c.write_address-behind.ensures c.write_element-end.ensures.written)

pub returns-clause-written : goal.returns-clause-written
returns-clause-written c =
    let room = length-append (element_octets c.args.observation.now) (tag_octets c.args.tag) in
    let tag : tag_octets c.args.tag ≡ c.in-Some.tag = ap tag_octets c.in-Some.is in
    rw tag (writes_both _ _ _ _ _ _ _ _ c.write_address-behind.ensures
    (writes_both _ _ _ _ _ _ _ _ c.write_element-end.ensures.written
    (writes_part c.write_element-end.result 7 c.write_element-end.new.out c.in-Some.tag c.copy_from_slice.new.self
    (omega (arith, room, c.requires)) (omega arith) c.copy_from_slice.ensures.after)))
