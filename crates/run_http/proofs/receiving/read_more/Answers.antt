use Rattle.std.proofs.Common.{take}
use Rattle.run_http.proofs.ReadingLemmas.{front-replaced}
use Rattle.run_http.proofs.receiving.read_more.Goals as goal

pub returns-in-Ok-clause-more : goal.returns-in-Ok-clause-more
returns-in-Ok-clause-more g c = record {
  piece = take c.in-Ok.count c.read.new.buf;
  consumed = c.in-Ok.ensures.bytes.0;
  after_is =
      front-replaced c.args.filled c.in-Ok.count c.args.octets.now c.read.new.buf _ c.requires c.in-Ok.ensures.bound.0;
}
