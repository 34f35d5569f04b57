-- Sessions that end, one or several in a tick.
use Rattle.std.proofs.Common.{◌≡◌, ℕ, suc, Bool, true, false, List, [], ◌∷◌, sym, ap, ◌∙◌}
use Rattle.std.specs.Prelude.{◌==◌, slice_get}
use Rattle.gw_map.specs.Settings.{Setup}
use Rattle.gw_picture.proofs.Lists.{map-get}
use Rattle.dnp_master.specs.Master.{Master}
use Rattle.gw_control.specs.Controls.{Controls, controls_after_end}
use Rattle.gw_control.specs.Orders.{outgoing_after_end}
use Rattle.gw_steps.specs.Controls.{controls_after_closes}
use Rattle.gw_steps.specs.Runs.{Entry}
use Rattle.gw_steps.specs.Steps.{bits_of}
use Rattle.law_history.specs.Life.{has_bit}
use Rattle.law_history.proofs.Bits.{closing, closing_bit}
use Rattle.law_orders.proofs.Ends.{tied_end}
use Rattle.law_orders.proofs.Story.{Tied, story}
use Rattle.law_orders.specs.Pending.{Pending, after_sessions}
use Rattle.law_orders.proofs.Rows.{leave_alike, leave_both, none_leaves, rows, rows_leave}
use Rattle.law_orders.proofs.Shapes.{marked_of}

-- ---- one session

pub rows_end : (setup : Setup) (past : List Entry) (masters : List Master) (v : Controls) (c o : ℕ)
    → Tied (story setup past) masters v
    → rows (slice_get (controls_after_end c v).outgoing o)
    ≡ after_sessions (λ d. d == c) past (rows (slice_get v.outgoing o))
rows_end setup past masters v c o tied =
    ap rows (map-get (outgoing_after_end c) v.outgoing o)
    ∙ rows_leave (λ d. d == c) past (slice_get v.outgoing o)
    (marked_of setup past o (slice_get masters o) (slice_get v.outgoing o) (tied.places o))

-- ---- several

pub rows_close : (setup : Setup) (past : List Entry) (masters : List Master) (i : ℕ) (bs : List Bool) (v : Controls)
    (o : ℕ) → Tied (story setup past) masters v
    → rows (slice_get (controls_after_closes i bs v).outgoing o)
    ≡ after_sessions (closing i bs) past (rows (slice_get v.outgoing o))
rows_close setup past masters i [] v o tied = sym (none_leaves past (rows (slice_get v.outgoing o)))
rows_close setup past masters i (true ∷ bs) v o tied =
    let ps : List Pending = rows (slice_get v.outgoing o) in
    rows_close setup past masters (suc i) bs (controls_after_end i v) o (tied_end (story setup past) masters v i tied)
    ∙ (ap (after_sessions (closing (suc i) bs) past) (rows_end setup past masters v i o tied)
    ∙ leave_both (λ d. d == i) (closing (suc i) bs) past ps)
rows_close setup past masters i (false ∷ bs) v o tied = rows_close setup past masters (suc i) bs v o tied

-- what goes with the sessions that a tick ends
pub rows_tick : (setup : Setup) (past : List Entry) (masters : List Master) (bs : List Bool) (v : Controls) (o : ℕ)
    → Tied (story setup past) masters v
    → rows (slice_get (controls_after_closes 0 bs v).outgoing o)
    ≡ after_sessions (λ c. has_bit c (bits_of bs)) past (rows (slice_get v.outgoing o))
rows_tick setup past masters bs v o tied =
    rows_close setup past masters 0 bs v o tied
    ∙ leave_alike (closing 0 bs) (λ c. has_bit c (bits_of bs)) past (rows (slice_get v.outgoing o)) (closing_bit bs)
