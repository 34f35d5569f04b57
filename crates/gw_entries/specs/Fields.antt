-- Rows and controls as plain values, without the facts that their types keep.
use Rattle.gw_entries.specs.declared.row.Row.{Row}
use Rattle.gw_entries.specs.declared.control.Control.{Control}
use Rattle.gw_entries.specs.declared.control.Operates.{Operates}
use Rattle.gw_entries.specs.declared.control.Operates.TheVariants.{Single, Double, Setpoint}
use Rattle.gw_entries.specs.declared.control.ControlShow.{ControlShow}
use Rattle.gw_entries.specs.declared.control.ControlShow.TheVariants as show
use Rattle.gw_entries.specs.declared.control.Pulses.{Pulses}
use Rattle.gw_entries.specs.declared.row.Scale.{Scale}
use Rattle.gw_entries.specs.Setup.{RowFields, ControlFields, Operation, single, double, setpoint}

abbrev pub row_fields : Row → RowFields
row_fields r = record {
  key = r.key;
  common_address = r.common_address;
  address = r.address;
  show = r.show;
  num = r.scale.num;
  den = r.scale.den;
}

abbrev pub operation_of : Operates → Operation
operation_of (Single pulses) = single pulses.rest pulses.short_ms pulses.long_ms
operation_of (Double pulses) = double pulses.rest pulses.short_ms pulses.long_ms
operation_of (Setpoint scale) = setpoint scale.num scale.den

-- how a control is operated that is shown so
abbrev pub operation_with : ControlShow → Pulses → Scale → Operation
operation_with show.Single pulses scale = single pulses.rest pulses.short_ms pulses.long_ms
operation_with show.Double pulses scale = double pulses.rest pulses.short_ms pulses.long_ms
operation_with show.Setpoint pulses scale = setpoint scale.num scale.den

abbrev pub control_fields : Control → ControlFields
control_fields c = record {
  outstation = c.outstation;
  index = c.index;
  common_address = c.common_address;
  address = c.address;
  select = c.select;
  mode = c.mode;
  operates = operation_of c.operates;
}
