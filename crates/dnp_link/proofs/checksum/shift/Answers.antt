use Rattle.std.proofs.Common.{ap, ◌∙◌, ◌/◌, get_or}
use Rattle.std.specs.Prelude.{bit_and, bit_xor}
use Rattle.dnp_link.specs.declared.table.TheConstants.{TABLE}
use Rattle.dnp_link.proofs.Register.{register_step}
use Rattle.dnp_link.proofs.checksum.shift.Goals as goal

pub returns : goal.returns
returns c before e =
    ap (λ o. bit_xor (c.args.register / 256) (get_or TABLE (bit_and (bit_xor c.args.register o) 255) 0)) c.from.ensures
    ∙ register_step before c.args.register c.args.octet c.ranges.register.fits e
