use Rattle.std.proofs.Common.{◌≡◌, ◌≤◌, cond, codes, is_some, min, ap, sym, subst, lit≤, ◌∙◌}
use Rattle.std.proofs.lemmas.Result.{err_from_is_err_and}
use Rattle.toml.specs.Data.{get_member}
use Rattle.toml.specs.View.{table_view}
use Rattle.gw_entries.specs.Ranges.{IsWithin, IsOutstation}
use Rattle.gw_entries.specs.Seen.{outstation_seen}
use Rattle.gw_entries.specs.Tables.{outstation_keys}
use Rattle.gw_entries.specs.Values.{number_in, own_or, outstation_of}
use Rattle.gw_entries.proofs.Ranges.{outstation_within, own_fits, fits_min}
use Rattle.gw_entries.proofs.Unknown.{table_parts}
use Rattle.gw_entries.proofs.Told.{told_front}
use Rattle.gw_entries.proofs.outstation.read_outstation.Goals as goal

common : (c : goal.In_ok-from_str) → c.station.inside.common_address ≡ c.args.station.now.common_address
common c = ap (λ s. s.common_address) c.station.view_is

within : (c : goal.In_ok-from_str)
    → IsOutstation (outstation_of c.args.station.now.common_address (table_view c.args.table.now))
within c = outstation_within c.args.station.now.common_address c.args.position _ _
    (subst (IsWithin 1 65534) (common c) c.station.invariant.common_address) c.in_ok-check.ensures

addresses_within : (c : goal.In_ok-from_str)
    → own_or c.args.station.now.common_address (table_view c.args.table.now) ≤ 65534
unfolding outstation_of
addresses_within c = (within c).common_address.1

address : (c : goal.In_ok-from_str)
    → c.own_or.result ≡ own_or c.args.station.now.common_address (table_view c.args.table.now)
address c =
    let own = is_some (get_member (codes "common_address") (table_view c.args.table.now)) in
    let there = number_in outstation_keys "common_address" (table_view c.args.table.now) in
    own_fits own c.own_or.result there c.args.station.now.common_address
    (c.own_or.ensures ∙ ap (cond own (min there 65535)) (common c))
    (addresses_within c)

seen : (c : goal.In_ok-from_str) → outstation_seen record {
  address = c.number_u16.result;
  connect = c.in_ok-from_str.field-0;
  poll = record {
    poll_ms = c.number.result;
    integrity_ms = c.number-2.result;
    response_ms = c.number-3.result;
    unsolicited = c.flag.result;
    lan_time = c.flag-2.result;
  };
  common_address = c.own_or.result;
} ≡ outstation_of c.args.station.now.common_address (table_view c.args.table.now)
unfolding outstation_of
seen c = λ i. record {
  address = fits_min _ _ _ _ c.number_u16.ensures
      (within c).address (lit≤ tt) i;
  connect = (c.in_ok-from_str.ensures.ok ∙ c.text.ensures) i;
  poll = record {
    poll_ms = c.number.ensures i;
    integrity_ms = c.number-2.ensures i;
    response_ms = c.number-3.ensures i;
    unsolicited = c.flag.ensures i;
    lan_time = c.flag-2.ensures i;
  };
  common_address = address c i;
}

pub returns-in_err-check : goal.returns-in_err-check
returns-in_err-check c =
    let p = err_from_is_err_and c.from_residual.result c.from_residual.ensures.1 in
    rw (p.1, p.2, table_parts) (told_front _ _ _ c.in_err-check.ensures)

pub invariant_of-result : goal.invariant_of-result
invariant_of-result c = subst IsOutstation (sym (seen c)) (within c)

pub returns : goal.returns
returns c = (rw (table_parts, c.in_ok-check.ensures), seen c)
