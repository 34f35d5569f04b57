use Rattle.std.proofs.Common.{◌+◌, ◌≤◌, length, ap, rules, arith}
use Rattle.std.proofs.lemmas.List.{length-drop}
use Rattle.dnp_objects.proofs.HeaderStep.{all_from, header_read, header_short}
use Rattle.dnp_objects.proofs.header.header_at.Goals as goal

pub returns-clause-read : goal.returns-clause-read
returns-clause-read c =
    let long : 3 + c.in-Ok.ranged.octets + c.body_length-body.result ≤ length c.args.front.now =
    omega (arith, c.in-Ok.ensures.within, ap length (all_from 3 c.args.front.now), length-drop 3 c.args.front.now) in
    header_read c.args.place c.args.front.now c.in-Some.form c.in-Some-range_for.range c.in-Ok.ranged
    c.body_length-body.result
    (omega arith) (search rules) (search rules) (search rules) c.body_length-body.ensures long

pub returns-then-front-start-clause-read : goal.returns-then-front-start-clause-read
returns-then-front-start-clause-read c =
    rw c.at-then-front-start.ensures
    (header_short c.args.place c.args.front.now c.in-Some.form c.in-Some-range_for.range c.in-Ok.ranged
    c.body_length-body.result
    (omega arith) (search rules) (search rules) (search rules) c.body_length-body.ensures (omega arith))
