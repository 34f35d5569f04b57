use Rattle.std.proofs.Common.{◌≡◌, ℕ, List, refl, ap, ◌∙◌}
use Rattle.iec_apci.specs.Apdu.{Information}
use Rattle.iec_apci.specs.Buffer.{buffer_of}
use Rattle.iec_window.specs.Counts.{WindowCounts}
use Rattle.iec_window.specs.Sequence.{receive_number, send_number}
use Rattle.iec_window.specs.Steps.{counts_after_sending_i}
use Rattle.gw_station.specs.Ring.{Seat}
use Rattle.gw_station.proofs.station.Station.send_asdu.Goals as goal

same_format : (ns nr : ℕ) (w v : WindowCounts) (octets : List ℕ) → ns ≡ send_number w → nr ≡ receive_number w → w ≡ v
    → buffer_of (Information ns nr octets) ≡ buffer_of (Information (send_number v) (receive_number v) octets)
same_format ns nr w v octets send receive same = rw (send, receive, same) refl

pub returns-clause-apdu : goal.returns-clause-apdu
returns-clause-apdu c =
    c.of.ensures.octets
    ∙ same_format _ _ _ _ _ c.sent-ns.ensures.send c.sent-ns.ensures.receive
    (ap (λ (k : Seat). k.window) c.self.view_is)

pub returns-clause-client : goal.returns-clause-client
returns-clause-client c =
    rw c.sent-ns.ensures.after
    (ap (λ (k : Seat). record k { window = counts_after_sending_i c.args.moment k.window }) c.self.view_is)
