-- The point map: rows by their points, in the order of the file.
use Rattle.std.proofs.Common.{◌≡◌, ℕ, List, map, position, option_map, slice_get}
use Rattle.std.proofs.Common.{Option, None, Some, is_some, false, refl, ap, sym, ◌∙◌}
use Rattle.std.specs.List.{list_any, position_from}
use Rattle.std.specs.Map.{lookup, keys_of, values_of}
use Rattle.std.proofs.lemmas.Iterator.Adapters.{position_from-zero}
use Rattle.std.proofs.lemmas.List.{map-id}
use Rattle.std.proofs.lemmas.Map.Made.{is_some-lookup}
use Rattle.std.proofs.lemmas.Option.{slice_get-map}
use Rattle.std.proofs.lemmas.Simd.{map-map}
use Rattle.gw_model.specs.declared.point.PointKey.{PointKey}
use Rattle.gw_model.specs.contracts.point.PointKeyPartialEq.TheImpl.{eq-value}
use Rattle.gw_model.specs.Keys.{same_key}
use Rattle.gw_entries.specs.declared.row.Row.{Row}
use Rattle.gw_map.specs.Settings.{by_point}
use Rattle.gw_map.proofs.Repeats.{key_eq}

-- the map compares points as the settings do
compares : eq-value.it ≡ same_key
compares = λ j a b. key_eq a b j

pub is_some-false : {A : Type 0} (o : Option A) → is_some o ≡ false → o ≡ None
is_some-false None e = refl
is_some-false (Some x) e = absurd cc

module _ (entries : List (PointKey × Row)) where
  keys_kept : (rows : List Row) → entries ≡ by_point rows → keys_of entries ≡ map (λ row. row.key) rows
  keys_kept rows keyed =
      ap (λ es. keys_of es) keyed ∙ map-map (λ (e : PointKey × Row). e.0) (λ (row : Row). (row.key, row)) rows

  pub rows_kept : (rows : List Row) → entries ≡ by_point rows → values_of entries ≡ rows
  rows_kept rows keyed =
      ap (λ es. values_of es) keyed ∙ map-map (λ (e : PointKey × Row). e.1) (λ (row : Row). (row.key, row)) rows
      ∙ map-id rows

  -- it has a point where one of its rows has it
  pub has_point : (key : PointKey) (rows : List Row) → entries ≡ by_point rows
      → is_some (lookup (eq-value.it key) entries) ≡ list_any (same_key key) (map (λ row. row.key) rows)
  has_point key rows keyed =
      is_some-lookup (eq-value.it key) entries
      ∙ ap (λ same. list_any (same key) (keys_of entries)) compares
      ∙ ap (list_any (same_key key)) (keys_kept rows keyed)

  -- the place of a point among the keys is that of its row
  pub place_of : (key : PointKey) (place : Option ℕ) → entries ≡ by_point (values_of entries)
      → place ≡ position (λ k. eq-value.it key k) (keys_of entries)
      → position_from (same_key key) 0 (map (λ row. row.key) (values_of entries)) ≡ place
  place_of key place keyed e =
      sym (e ∙ ap (λ same. position (same key) (keys_of entries)) compares
      ∙ position_from-zero (same_key key) (keys_of entries)
      ∙ ap (position_from (same_key key) 0) (keys_kept (values_of entries) keyed))

  -- the row at a place
  pub row_there : (place : ℕ) (entry : Option (PointKey × Row)) → slice_get entries place ≡ entry
      → slice_get (values_of entries) place ≡ option_map (λ e. e.1) entry
  row_there place entry e = slice_get-map (λ e. e.1) entries place ∙ ap (option_map (λ e. e.1)) e
