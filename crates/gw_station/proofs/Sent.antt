-- What is put out, and what is left, where news or parts are first in line.
use Rattle.std.proofs.Common.{◌≡◌, ℕ, ◌<◌, List, length, Some, refl, sym, ap, subst, ◌∙◌}
use Rattle.std.specs.Prelude.{slice_get}
use Rattle.gw_model.specs.declared.observation.Observation.{Observation}
use Rattle.gw_model.specs.Clocks.{Clocks}
use Rattle.iec_apci.specs.Apdu.{Information}
use Rattle.iec_asdu.specs.Packing.{taken_of}
use Rattle.iec_window.specs.Sequence.{send_number, receive_number}
use Rattle.iec_window.specs.Steps.{counts_after_sending_i}
use Rattle.gw_answers.specs.declared.outgoing.OwnAsdu.{OwnAsdu}
use Rattle.gw_answers.specs.declared.outgoing.OwnAsdu.TheVariants as outgoing
use Rattle.gw_answers.specs.Octets.{packed_octets}
use Rattle.gw_station.specs.declared.sending.Sending.{Sending}
use Rattle.gw_station.specs.declared.sending.Sending.TheVariants as sendings
use Rattle.gw_station.specs.Client.{Client}
use Rattle.gw_station.specs.Kept.{news_next, parts_octets, parts_together}
use Rattle.gw_station.specs.Pump.{line, together, packed_information, part_octets, content_of}
use Rattle.gw_station.specs.Pump.{client_without_news, client_without_parts, client_with_sent, IsNext}
use Rattle.gw_station.proofs.Front.{news_first, news_together, part_first, parts_same, rows_same}

-- ---- news

pub news_some : (c : Client) (s : Sending) (x : Observation) → s ≡ sendings.News x → IsNext c s
    → 0 < length (news_next c)
news_some c s x is next = (news_first c x (subst (IsNext c) is next)).some

pub news_content : (clocks : Clocks) (c : Client) (s : Sending) (x : Observation) → s ≡ sendings.News x
    → IsNext c s
    → packed_information clocks c.window 3 0 (news_next c) ≡ content_of clocks c s
news_content clocks c s x is next =
    let first = news_first c x (subst (IsNext c) is next) in
    ap (λ (xs : List Observation). packed_information clocks c.window 3 0 xs) (sym first.front)
    ∙ ap (content_of clocks c) (sym is)

pub news_sent : (clocks : Clocks) (moment : ℕ) (c : Client) (s : Sending) (x : Observation) → s ≡ sendings.News x
    → IsNext c s
    → record (client_without_news (taken_of clocks (news_next c)) c) { window = counts_after_sending_i moment c.window }
    ≡ client_with_sent clocks moment s c
news_sent clocks moment c s x is next =
    let e = subst (IsNext c) is next in
    let first = news_first c x e in
    let same : taken_of clocks (news_next c) ≡ together clocks (line c) =
    ap (taken_of clocks) (sym first.front) ∙ sym (news_together clocks (line c) x e) in
    ap (λ (n : ℕ). record (client_without_news n c) { window = counts_after_sending_i moment c.window }) same
    ∙ ap (λ (y : Sending). client_with_sent clocks moment y c) (sym is)

-- ---- parts

pub part_is_first : (c : Client) (s : Sending) (part : OwnAsdu) → s ≡ sendings.Part part → IsNext c s
    → slice_get c.rest 0 ≡ Some part
part_is_first c s part is next = (part_first c part (subst (IsNext c) is next)).first

octets_are : (clocks : Clocks) (c : Client) (part : OwnAsdu)
    → slice_get (line c) 0 ≡ Some (sendings.Part part)
    → parts_octets clocks part c.rest ≡ part_octets clocks (line c) part
octets_are clocks c (outgoing.Command command) e = refl
octets_are clocks c (outgoing.Observation cause originator x) e =
    ap (λ (xs : List Observation). packed_octets clocks cause originator xs)
    (sym (rows_same c (outgoing.Observation cause originator x) cause originator
    (part_first c (outgoing.Observation cause originator x) e)))

pub part_content_is : (clocks : Clocks) (c : Client) (s : Sending) (part : OwnAsdu)
    → s ≡ sendings.Part part → IsNext c s
    → Information (send_number c.window) (receive_number c.window) (parts_octets clocks part c.rest)
    ≡ content_of clocks c s
part_content_is clocks c s part is next =
    ap (λ (octets : List ℕ). Information (send_number c.window) (receive_number c.window) octets)
    (octets_are clocks c part (subst (IsNext c) is next))
    ∙ ap (content_of clocks c) (sym is)

pub parts_sent : (clocks : Clocks) (moment : ℕ) (c : Client) (s : Sending) (part : OwnAsdu) → s ≡ sendings.Part part
    → IsNext c s
    → record (client_without_parts (parts_together clocks part c.rest) c) {
      window = counts_after_sending_i moment c.window;
    } ≡ client_with_sent clocks moment s c
parts_sent clocks moment c s part is next =
    let first = part_first c part (subst (IsNext c) is next) in
    ap (λ (n : ℕ). record (client_without_parts n c) { window = counts_after_sending_i moment c.window })
    (sym (parts_same clocks c part first))
    ∙ ap (λ (y : Sending). client_with_sent clocks moment y c) (sym is)
