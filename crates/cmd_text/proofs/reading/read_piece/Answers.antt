use Rattle.std.proofs.Common.{Bool, take, subst}
use Rattle.std.proofs.BufReadLemmas.{Consumes_shown}
use Rattle.std.specs.Io.BufRead.{FillKeeps}
use Rattle.cmd_text.specs.Reading.{IsPart}
use Rattle.cmd_text.proofs.reading.read_piece.Goals as goal

pub returns-then-has_ended : goal.returns-then-has_ended
returns-then-has_ended g c =
    let shown = c.in-Ok.buffer.now in
    let part = c.take_part-taken in
    let rested = c.fill_buf.follows.lender-at-none in
    let filled = subst (FillKeeps _ (g.R.Read.remaining rested) (g.R.BufRead.consumable_len rested)) c.in-Ok.is
    c.fill_buf.follows.holds-at-none in
    let moved = Consumes_shown _ _ _ _ shown part.result.0 part.ensures.within
    c.in-Ok.ensures.front c.in-Ok.ensures.end filled.0 filled.1 c.consume.ensures.bytes in
    let octets = take part.result.0 shown in
    let ends = c.if-has_ended.true in
    (octets, moved.0, subst (λ (b : Bool). IsPart b octets c.args.line.now part.new.line) ends part.ensures.part)

pub returns-else-has_ended : goal.returns-else-has_ended
returns-else-has_ended g c =
    let shown = c.in-Ok.buffer.now in
    let part = c.take_part-taken in
    let rested = c.fill_buf.follows.lender-at-none in
    let filled = subst (FillKeeps _ (g.R.Read.remaining rested) (g.R.BufRead.consumable_len rested)) c.in-Ok.is
    c.fill_buf.follows.holds-at-none in
    let moved = Consumes_shown _ _ _ _ shown part.result.0 part.ensures.within
    c.in-Ok.ensures.front c.in-Ok.ensures.end filled.0 filled.1 c.consume.ensures.bytes in
    let octets = take part.result.0 shown in
    let ends = c.if-has_ended.false in
    (octets, moved.0, subst (λ (b : Bool). IsPart b octets c.args.line.now part.new.line) ends part.ensures.part)
