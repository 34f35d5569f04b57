use Rattle.std.proofs.Common.{Some, None, sym}
use Rattle.std.specs.Map.{values_of}
use Rattle.gw_model.specs.Keys.{same_key}
use Rattle.gw_map.proofs.Finding.{finds_none, finds_at, key_sym}
use Rattle.gw_map.proofs.Points.{place_of, row_there}
use Rattle.gw_map.proofs.settings.Settings.row_of.Goals as goal

pub returns-in_err-position : goal.returns-in_err-position
returns-in_err-position c =
    let key = c.args.key.now in
    let entries = c.self.inside.points.entries in
    rw (c.from_residual.ensures, ← c.self.view_is)
    (sym (finds_none (same_key key) (λ row. same_key row.key key) (λ row. row.key) (λ row. key_sym key row.key) 0 0
    (values_of entries) (place_of entries key None c.self.invariant.0.keyed c.in_err-position.ensures.index)))

pub returns : goal.returns
returns c =
    let key = c.args.key.now in
    let entries = c.self.inside.points.entries in
    let place = c.in_ok-position.position in
    rw (← c.self.view_is)
    (sym (finds_at (same_key key) (λ row. same_key row.key key) (λ row. row.key) (λ row. key_sym key row.key) place
    (values_of entries) c.in_ok-position.row.now
    (place_of entries key (Some place) c.self.invariant.0.keyed c.in_ok-position.ensures.index)
    (row_there entries place _ c.in_ok-position.ensures.entry)))
