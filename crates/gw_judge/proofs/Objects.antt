-- A command's object is found where it is there.
use Rattle.std.proofs.Common.{◌≡◌, ℕ, ◌+◌, true, not, List, [], ◌++◌, length, map, Option, Some, None, refl, ap, ◌∙◌}
use Rattle.std.specs.Prelude.{◌≢◌, Any}
use Rattle.std.proofs.lemmas.Bool.{eqb-true, eq-eqb}
use Rattle.std.proofs.lemmas.List.{append-nil}
use Rattle.gw_entries.specs.declared.row.Row.{Row}
use Rattle.gw_entries.specs.declared.row.Scale.{Scale}
use Rattle.gw_entries.specs.declared.row.Show.{Show}
use Rattle.gw_entries.specs.declared.row.Show.TheVariants as shows
use Rattle.gw_entries.specs.declared.control.Control.{Control}
use Rattle.gw_entries.specs.declared.control.Pulses.{Pulses}
use Rattle.gw_entries.specs.declared.control.Operates.{Operates}
use Rattle.gw_entries.specs.declared.control.Operates.TheVariants as operated
use Rattle.gw_entries.specs.Shown.{is_total}
use Rattle.gw_model.specs.declared.point.ObjectKey.{ObjectKey}
use Rattle.gw_model.specs.Keys.{same_object}
use Rattle.gw_map.specs.Sections.{repeated}
use Rattle.gw_map.specs.Settings.{Setup, row_object, control_object, row_at_from, control_at_from, HasSingleAddresses}
use Rattle.gw_map.proofs.Repeats.{nil_parts, repeated-append}
use Rattle.iec_command.specs.declared.command.Action.{Action}
use Rattle.iec_command.specs.declared.command.Action.TheVariants.{Single, Double, Setpoint, Interrogation, CounterInterrogation, Read}
use Rattle.iec_command.specs.declared.command.SingleCommand.{SingleCommand}
use Rattle.iec_command.specs.declared.command.DoubleCommand.{DoubleCommand}
use Rattle.iec_command.specs.declared.command.SetpointCommand.{SetpointCommand}
use Rattle.gw_judge.specs.Judging.{is_readable, is_operated, is_operated_by, is_object_of}
use Rattle.gw_judge.specs.Acceptable.{HasObject}
use Rattle.gw_judge.proofs.Found.{any-first, first-any}

-- ---- a row

not_total : (show : Show) → not (is_total show) ≡ true → show ≡ shows.Total → ⊥
not_total shows.Total h e = absurd cc
not_total _ h e = cc

total_not : (show : Show) → show ≢ shows.Total → not (is_total show) ≡ true
total_not shows.Total other = absurd (other refl)
total_not _ other = refl

abbrev IsReadable : Row → Type 0
IsReadable row = row.show ≢ shows.Total

abbrev HasRow : List Row → ObjectKey → Type 0
HasRow rows object = Any (λ row. (row_object row ≡ object) × IsReadable row) rows

row_there : (rows : List Row) (object : ObjectKey) (found : Option (ℕ × Row)) → row_at_from 0 object.common_address object.address rows ≡ found
    → is_readable found ≡ true → HasRow rows object
row_there rows object None e h = absurd cc
row_there rows object (Some found) e h =
    any-first row_object IsReadable object 0 rows found e (not_total found.1.show h)

row_found : (rows : List Row) (controls : List Control) (object : ObjectKey) → HasSingleAddresses rows controls
    → HasRow rows object → is_readable (row_at_from 0 object.common_address object.address rows) ≡ true
row_found rows controls object single any =
    let r = first-any row_object IsReadable object 0 0 [] rows (map control_object controls) single any in
    ap is_readable r.1 ∙ total_not r.0.1.show r.2

-- ---- a control

-- no control is of the object of a row or of a control before it
controls_single : (rows : List Row) (controls : List Control) → HasSingleAddresses rows controls
    → let front = map row_object rows in
    repeated same_object (0 + length front) front (map control_object controls ++ []) ≡ []
controls_single rows controls single =
    let front = map row_object rows in
    let apart = repeated-append same_object 0 [] front (map control_object controls) in
    rw append-nil (nil_parts (repeated same_object 0 [] front) _ (rw apart at single)).1

module _ (action : Action) (IsSo : Operates → Type 0) where
  abbrev IsControl : Control → Type 0
  IsControl control = IsSo control.operates

  control_there : ((o : Operates) → is_operated_by action o ≡ true → IsSo o) → (controls : List Control) (object : ObjectKey)
      (found : Option (ℕ × Control)) → control_at_from 0 object.common_address object.address controls ≡ found → is_operated action found ≡ true
      → Any (λ control. (control_object control ≡ object) × IsSo control.operates) controls
  control_there so controls object None e h = absurd cc
  control_there so controls object (Some found) e h =
      any-first control_object IsControl object 0 controls found e (so found.1.operates h)

  control_found : ((o : Operates) → IsSo o → is_operated_by action o ≡ true) → (rows : List Row)
      (controls : List Control) (object : ObjectKey) → HasSingleAddresses rows controls
      → Any (λ control. (control_object control ≡ object) × IsSo control.operates) controls
      → is_operated action (control_at_from 0 object.common_address object.address controls) ≡ true
  control_found so rows controls object single any =
      let alone = controls_single rows controls single in
      let r = first-any control_object IsControl object _ 0 (map row_object rows) controls [] alone any in
      ap (is_operated action) r.1 ∙ so r.0.1.operates r.2

-- ---- by which type a control is operated

abbrev IsSingle : Operates → Type 0
IsSingle o = (p : Pulses) × (o ≡ operated.Single p)

abbrev IsDouble : Operates → Type 0
IsDouble o = (p : Pulses) × (o ≡ operated.Double p)

abbrev IsSetpoint : Operates → Type 0
IsSetpoint o = (s : Scale) × (o ≡ operated.Setpoint s)

is_single : (c : SingleCommand) (o : Operates) → is_operated_by (Single c) o ≡ true → IsSingle o
is_single c (operated.Single p) h = (p, refl)
is_single c _ h = absurd cc

is_double : (c : DoubleCommand) (o : Operates) → is_operated_by (Double c) o ≡ true → IsDouble o
is_double c (operated.Double p) h = (p, refl)
is_double c _ h = absurd cc

is_setpoint : (c : SetpointCommand) (o : Operates) → is_operated_by (Setpoint c) o ≡ true → IsSetpoint o
is_setpoint c (operated.Setpoint s) h = (s, refl)
is_setpoint c _ h = absurd cc

by_single : (c : SingleCommand) (o : Operates) → IsSingle o → is_operated_by (Single c) o ≡ true
by_single c o h = ap (is_operated_by (Single c)) h.1

by_double : (c : DoubleCommand) (o : Operates) → IsDouble o → is_operated_by (Double c) o ≡ true
by_double c o h = ap (is_operated_by (Double c)) h.1

by_setpoint : (c : SetpointCommand) (o : Operates) → IsSetpoint o → is_operated_by (Setpoint c) o ≡ true
by_setpoint c o h = ap (is_operated_by (Setpoint c)) h.1

-- ---- the object

pub object_there : (setup : Setup) (action : Action) (object : ObjectKey) → is_object_of setup action object ≡ true
    → HasObject setup action object
object_there setup (Interrogation qualifier) object h = eqb-true object.address 0 h
object_there setup (CounterInterrogation qualifier) object h = eqb-true object.address 0 h
object_there setup Read object h = row_there setup.rows object (row_at_from 0 object.common_address object.address setup.rows) refl h
object_there setup (Single c) object h =
    let found = control_at_from 0 object.common_address object.address setup.controls in
    control_there (Single c) IsSingle (is_single c) setup.controls object found refl h
object_there setup (Double c) object h =
    let found = control_at_from 0 object.common_address object.address setup.controls in
    control_there (Double c) IsDouble (is_double c) setup.controls object found refl h
object_there setup (Setpoint c) object h =
    let found = control_at_from 0 object.common_address object.address setup.controls in
    control_there (Setpoint c) IsSetpoint (is_setpoint c) setup.controls object found refl h

pub object_found : (setup : Setup) (action : Action) (object : ObjectKey) → HasSingleAddresses setup.rows setup.controls
    → HasObject setup action object → is_object_of setup action object ≡ true
object_found setup (Interrogation qualifier) object single h = eq-eqb object.address 0 h
object_found setup (CounterInterrogation qualifier) object single h = eq-eqb object.address 0 h
object_found setup Read object single h = row_found setup.rows setup.controls object single h
object_found setup (Single c) object single h =
    control_found (Single c) IsSingle (by_single c) setup.rows setup.controls object single h
object_found setup (Double c) object single h =
    control_found (Double c) IsDouble (by_double c) setup.rows setup.controls object single h
object_found setup (Setpoint c) object single h =
    control_found (Setpoint c) IsSetpoint (by_setpoint c) setup.rows setup.controls object single h
