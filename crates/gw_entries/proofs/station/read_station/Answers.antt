use Rattle.std.proofs.Common.{◌≡◌, sym, subst, lit≤, ◌∙◌}
use Rattle.std.proofs.lemmas.Result.{err_from_is_err_and}
use mir.Val.{to_z, of_z}
use mir.Syntax.{w16, w64}
use Rattle.toml.specs.View.{table_view}
use Rattle.gw_model.specs.Rule.{IsRuleOrNone}
use Rattle.gw_entries.specs.Ranges.{IsStation}
use Rattle.gw_entries.specs.Seen.{station_seen}
use Rattle.gw_entries.specs.Values.{station_of}
use Rattle.gw_entries.proofs.Ranges.{minutes_within, station_within, fits_min, up_to, below_to, minutes_cast, minutes_fit}
use Rattle.gw_entries.proofs.Unknown.{table_parts}
use Rattle.gw_entries.proofs.Told.{told_front}
use Rattle.gw_entries.proofs.station.read_station.Goals as goal

within : (c : goal.In_ok-from_str-2) → IsStation (station_of (table_view c.args.table.now))
unfolding IsRuleOrNone
within c = station_within 0 _ _ c.in_ok-check.ensures (rw (← c.rule.ensures.value) c.rule.ensures.within)

seen : (c : goal.In_ok-from_str-2) → station_seen record {
  common_address = c.number_u16.result;
  master_address = c.number_u16-2.result;
  offset_minutes = to_z w16 (of_z w16 (to_z w64 (of_z w64 c.integer.result)));
  rule = c.rule.result;
  k = c.number_u16-3.result;
  w = c.number_u16-4.result;
  t1_ms = c.number_u32.result;
  t2_ms = c.number_u32-2.result;
  t3_ms = c.number_u32-3.result;
  queue = c.number_u32-4.result;
  select_ms = c.number_u32-5.result;
  recorder = c.number_u32-6.result;
  listen = c.in_ok-from_str.field-0;
  rule_text = c.in_ok-from_str-2.field-0;
} ≡ station_of (table_view c.args.table.now)
unfolding station_of
seen c =
    let s = within c in
    λ i. record {
      common_address = fits_min _ _ _ _ c.number_u16.ensures s.common_address.1 (lit≤ tt) i;
      master_address = fits_min _ _ _ _ c.number_u16-2.ensures s.master_address (lit≤ tt) i;
      offset_minutes = minutes_fit _ _ c.integer.ensures (s.offset_from, s.offset_to) i;
      rule = c.rule.ensures.value i;
      k = fits_min _ _ _ _ c.number_u16-3.ensures s.k.1 (lit≤ tt) i;
      w = fits_min _ _ _ _ c.number_u16-4.ensures (up_to _ _ _ s.w.1 s.k.1) (lit≤ tt) i;
      t1_ms = fits_min _ _ _ _ c.number_u32.ensures s.t1_ms.1 (lit≤ tt) i;
      t2_ms = fits_min _ _ _ _ c.number_u32-2.ensures (below_to _ _ _ s.t2_ms.1 s.t1_ms.1) (lit≤ tt) i;
      t3_ms = fits_min _ _ _ _ c.number_u32-3.ensures s.t3_ms.1 (lit≤ tt) i;
      queue = fits_min _ _ _ _ c.number_u32-4.ensures s.queue.1 (lit≤ tt) i;
      select_ms = fits_min _ _ _ _ c.number_u32-5.ensures s.select_ms.1 (lit≤ tt) i;
      recorder = fits_min _ _ _ _ c.number_u32-6.ensures s.recorder.1 (lit≤ tt) i;
      listen = (c.in_ok-from_str.ensures.ok ∙ c.text.ensures) i;
      rule_text = (c.in_ok-from_str-2.ensures.ok ∙ c.text-2.ensures) i;
    }

pub returns-in_err-check : goal.returns-in_err-check
returns-in_err-check c =
    let p = err_from_is_err_and c.from_residual.result c.from_residual.ensures.1 in
    rw (p.1, p.2, table_parts) (told_front _ _ _ c.in_err-check.ensures)

pub overflow_cast-result : goal.overflow_cast-result
overflow_cast-result c = minutes_cast _ _ c.integer.ensures (minutes_within 0 _ _ c.in_ok-check.ensures)

pub invariant_of-result : goal.invariant_of-result
invariant_of-result c = subst IsStation (sym (seen c)) (within c)

pub returns : goal.returns
returns c = (rw (table_parts, c.in_ok-check.ensures), seen c)
