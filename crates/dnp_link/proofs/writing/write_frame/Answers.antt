use Rattle.std.proofs.Common.{◌+◌, length, take, drop, ◌++◌, ◌∙◌, ap, arith}
use Rattle.dnp_link.specs.Frame.{FrameContent, frame, blocks, block_count}
use Rattle.dnp_link.specs.Stream.{reading}
use Rattle.std.proofs.lemmas.List.{take_at}
use Rattle.dnp_link.proofs.Round.{length-frame, reading-frame}
use Rattle.dnp_link.proofs.Blocks.{length-octets_with_crc}
use Rattle.dnp_link.proofs.Written.{front_then_body}
use Rattle.dnp_link.proofs.writing.write_frame.Goals as goal

pub returns-clause-written : goal.returns-clause-written
unfolding frame
returns-clause-written c =
    let head = c.copy_from_slice.ensures.after ∙ c.header_block-header.ensures in
    let body = blocks (block_count (length c.args.user.now)) c.args.user.now in
    front_then_body c.copy_from_slice.new.self body c.write_blocks.new.out c.args.out.now c.write_blocks.result
    (ap length head ∙ length-octets_with_crc _) (omega arith) c.write_blocks.ensures.written
    ∙ ap (λ t. (t ++ body) ++ drop (10 + c.write_blocks.result) c.args.out.now) head

pub returns-clause-read_back : goal.returns-clause-read_back
returns-clause-read_back c behind =
    let carried : FrameContent = record {
      control = c.args.control;
      destination = c.args.destination;
      source = c.args.source;
      user = c.args.user.now;
    } in
    let all = 10 + c.write_blocks.result in
    ap (λ t. reading (take all t ++ behind)) (returns-clause-written c)
    ∙ (ap (λ t. reading (t ++ behind)) (take_at (frame carried) (drop all c.args.out.now) all
    (omega (arith, length-frame carried, c.write_blocks.ensures.length)))
    ∙ reading-frame carried behind)
