-- The settings, put together.
use Rattle.std.proofs.Common.{◌≡◌, ℕ, ◌≤◌, arith, codes, min, List, [], ◌∷◌}
use Rattle.std.proofs.Common.{length, map, Result, Ok, Err, refl, ap, sym, ◌∙◌}
use Rattle.std.specs.Result.{result_map_both}
use Rattle.std.proofs.lemmas.List.{length-map, map-id}
use Rattle.std.proofs.lemmas.Simd.{map-map}
use Rattle.std.proofs.lemmas.Option.{same_Some}
use Rattle.toml.specs.Data.{Members}
use Rattle.gw_model.specs.Outcome.{Gives}
use Rattle.gw_model.specs.declared.point.ObjectKey.{ObjectKey}
use Rattle.gw_entries.specs.declared.control.Control.{Control}
use Rattle.gw_entries.specs.declared.fault.SettingsFault.{SettingsFault}
use Rattle.gw_entries.specs.declared.fault.SettingsFault.TheVariants.{Toml, Refused, Memory}
use Rattle.gw_entries.specs.declared.row.Row.{Row}
use Rattle.gw_entries.specs.Answers.{first, Tells}
use Rattle.gw_entries.specs.Complaints.{Complaint}
use Rattle.gw_entries.specs.Faults.{refusal_of, is_no_memory}
use Rattle.gw_entries.specs.Fields.{row_fields, control_fields}
use Rattle.gw_entries.specs.Setup.{StationSetup, OutstationSetup, RowFields, ControlFields}
use Rattle.gw_entries.specs.Faults.{refused}
use Rattle.gw_map.specs.Meaning.{answer_to, setup_of}
use Rattle.gw_map.specs.Sections.{entries, station_in, outstations_in, object_in, repeat_complaints}
use Rattle.gw_map.specs.Settings.{Setup, SetupFields, setup_fields, repeats_in, row_object, control_object}
use Rattle.gw_entries.specs.Tables.{point_keys, control_keys}
use Rattle.gw_entries.specs.Values.{outstation_of, source_of, row_of, control_of}

pub same_length : {X Y Z : Type 0} (n : ℕ) (g : X → Z) (f : Y → Z) (items : List X) (ts : List Y) → n ≡ length items
    → map g items ≡ map f ts → n ≡ length ts
same_length n g f items ts e same = e ∙ sym (length-map items g) ∙ ap length same ∙ length-map ts f

abbrev pub object : ℕ → ℕ → ObjectKey
object common address = record { common_address = common; address = address }

part_of : {X Y Z W : Type 0} (h : Z → W) (g : X → Z) (f : Y → Z) (xs : List X) (ys : List Y) → map g xs ≡ map f ys
    → map (λ x. h (g x)) xs ≡ map (λ y. h (f y)) ys
part_of h g f xs ys e = sym (map-map h g xs) ∙ ap (map h) e ∙ map-map h f ys

module _ (outstations : List OutstationSetup) where
  pub same_keys : (rows rows' : List Row) (ts : List Members) → rows' ≡ rows
      → map row_fields rows ≡ map (row_of outstations) ts → map (λ row. row.key) rows' ≡ map source_of ts
  unfolding row_of
  same_keys rows rows' ts e same =
      ap (map (λ row. row.key)) e ∙ part_of (λ fields. fields.key) row_fields (row_of outstations) rows ts same

  pub same_objects : (rows rows' : List Row) (ts : List Members) → rows' ≡ rows
      → map row_fields rows ≡ map (row_of outstations) ts
      → map row_object rows' ≡ map (object_in point_keys outstations) ts
  unfolding row_of
  same_objects rows rows' ts e same =
      ap (map row_object) e
      ∙ part_of {Z = RowFields} (λ fields. object fields.common_address fields.address)
      row_fields (row_of outstations) rows ts same

  pub same_control_objects : (controls controls' : List Control) (ts : List Members) → controls' ≡ controls
      → map control_fields controls ≡ map (control_of outstations) ts
      → map control_object controls' ≡ map (object_in control_keys outstations) ts
  unfolding control_of
  same_control_objects controls controls' ts e same =
      ap (map control_object) e
      ∙ part_of {Z = ControlFields} (λ fields. object fields.common_address fields.address)
      control_fields (control_of outstations) controls ts same

-- the outstations that were read are those of the file, and a point or control may name each of them
pub record AreRead (top : Members) (items : List OutstationSetup) : Type 0 where
  pub meant : items ≡ outstations_in top
  pub counted : min (length items) 255 ≡ length (outstations_in top)

pub outstations_read : (top : Members) (station : StationSetup) (n : ℕ) (items : List OutstationSetup)
    → station ≡ station_in top → n ≤ 32 → n ≡ length items
    → map (λ outstation. outstation) items
    ≡ map (λ ms. outstation_of station.common_address ms) (entries (codes "outstation") top)
    → AreRead top items
outstations_read top station n items is few count e =
    let meant : items ≡ outstations_in top =
    sym (map-id items) ∙ e
    ∙ ap (λ (s : StationSetup). map (outstation_of s.common_address) (entries (codes "outstation") top)) is in
    record { meant = meant; counted = fewer ∙ ap length meant }
  where
    fewer : min (length items) 255 ≡ length items
    fewer = grind arith

-- an answer by complaints is the reading
pub gives : {X Y : Type 0} (view : X → Y) (r : Result X SettingsFault) (cs : List Complaint) (v : Y) → Tells view r cs v
    → Gives is_no_memory (λ y. y) (result_map_both view refusal_of r) (answer_to cs v)
unfolding first
gives view (Ok x) cs v t = rw t.0 (ap Ok (sym t.1))
gives view (Err (Toml e)) cs v t = absurd t
gives view (Err (Refused fault place)) [] v t = absurd cc
gives view (Err (Refused fault place)) (c ∷ cs) v t = ap (λ c. Err (refused c)) (same_Some _ _ t)
gives view (Err Memory) cs v t = tt

-- what stands twice among the sections that were read
pub repeats_read : (top : Members) (s : Setup) → setup_fields s ≡ setup_of top
    → repeats_in s
    ≡ repeat_complaints (map source_of (entries (codes "point") top))
    (map (object_in point_keys (outstations_in top)) (entries (codes "point") top))
    (map (object_in control_keys (outstations_in top)) (entries (codes "control") top))
repeats_read top s same =
    let outstations = outstations_in top in
    let rows : map row_fields s.rows ≡ map (row_of outstations) (entries (codes "point") top) =
    ap (λ (fields : SetupFields). fields.rows) same in
    let controls : map control_fields s.controls ≡ map (control_of outstations) (entries (codes "control") top) =
    ap (λ (fields : SetupFields). fields.controls) same in
    rw (
      same_keys outstations s.rows s.rows _ refl rows,
      same_objects outstations s.rows s.rows _ refl rows,
      same_control_objects outstations s.controls s.controls _ refl controls,
    )
