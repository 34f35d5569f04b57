use Rattle.std.proofs.Common.{◌≡◌, Some, sym, arith, rules}
use Rattle.cmd_text.specs.Hex.{octets_of}
use Rattle.cmd_text.proofs.HexLaws.{too_long, short_enough, few_octets}
use Rattle.cmd_text.proofs.hex.line_octets.Goals as goal

pub returns-then-line-gt-LONGEST_LINE-clause-octets : goal.returns-then-line-gt-LONGEST_LINE-clause-octets
returns-then-line-gt-LONGEST_LINE-clause-octets c = sym (too_long c.args.line.now (omega arith))

pub returns-then-fill-clause-octets : goal.returns-then-fill-clause-octets
returns-then-fill-clause-octets c =
    let read : octets_of c.args.line.now ≡ Some c.fill.new.octets.items = search rules in
    sym (short_enough c.args.line.now _ (omega arith) read)

pub returns-then-fill-clause-few : goal.returns-then-fill-clause-few
returns-then-fill-clause-few c =
    let read : octets_of c.args.line.now ≡ Some c.fill.new.octets.items = search rules in
    few_octets c.args.line.now _ (omega arith) read
