-- What is sent is sent whole.
use Rattle.std.proofs.Common.{◌≡◌, ℕ, ◌%◌, true, List, ◌++◌, length, min, Some, ap, arith}
use Rattle.std.proofs.lemmas.List.{length-take, take_all}
use Rattle.dnp_app.specs.declared.request.Request.{Request}
use Rattle.dnp_app.specs.Requests.{octets_of}
use Rattle.dnp_transport.specs.Cut.{segments_of}
use Rattle.run_ends.specs.Framed.{framed}
use Rattle.run_ends.specs.Sent.{Took, one_segment, sent_octets}
use Rattle.run_ends.specs.declared.sent.Sent.{Sent}
use Rattle.run_ends.specs.declared.sent.Sent.TheVariants as sents

-- a request is shorter than a segment
one_carries : (r : Request) → length r.octets ≡ 32 → one_segment (octets_of r) ≡ octets_of r
one_carries r full =
    take_all (min (length (octets_of r)) 249) (octets_of r) (omega (arith, length-take r.len r.octets, full))

pub request_goes_whole : (own peer sequence : ℕ) (r : Request) → length r.octets ≡ 32
    → sent_octets own peer sequence (sents.Request r) ≡ framed own peer (segments_of (octets_of r) (sequence % 64))
request_goes_whole own peer sequence r full =
    ap (λ (octets : List ℕ). framed own peer (segments_of octets (sequence % 64))) (one_carries r full)

pub whole_is_all : (own peer segments : ℕ) (before after : List ℕ) (what : Sent)
    → Took own peer segments (Some before) (Some after) (record { what = what; whole = true })
    → after ≡ before ++ sent_octets own peer segments what
whole_is_all own peer segments before after what took = took.1
