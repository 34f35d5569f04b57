-- Reports by their fields alone, for worked examples.
use Rattle.std.specs.Prelude.{ℕ, Bool, true, false, List, map, Result, Ok}
use Rattle.gw_model.specs.declared.point.Kind.{Kind}
use Rattle.gw_model.specs.declared.point.Raw.{Raw}
use Rattle.gw_model.specs.declared.point.Stamp.{Stamp}
use Rattle.gw_model.specs.declared.point.Stamp.TheVariants.{Untimed}
use Rattle.gw_model.specs.declared.point.PointKey.{PointKey}
use Rattle.gw_model.specs.declared.point.Report.{Report}
use Rattle.dnp_objects.specs.declared.fault.ObjectFault.{ObjectFault}
use Rattle.gw_model.specs.Outcome.{◌>>=◌}
use Rattle.dnp_points.specs.Meaning.{meaning_of}

-- what a report says
pub record ReportFields : Type 0 where
  pub key : PointKey
  pub raw : Raw
  pub flags : ℕ
  pub stamp : Stamp
  pub event : Bool

abbrev pub fields_of : Report → ReportFields
fields_of r = record { key = r.key; raw = r.raw; flags = r.flags; stamp = r.stamp; event = r.event }

-- what the reports of a part say
abbrev pub fields_of_part : ℕ → List ℕ → Result (List ReportFields) ObjectFault
fields_of_part outstation part = meaning_of outstation part >>= λ rs. Ok (map fields_of rs)

abbrev pub static_fields : ℕ → Kind → ℕ → Raw → ℕ → ReportFields
static_fields outstation kind index raw flags = record {
  key = record { outstation = outstation; kind = kind; index = index };
  raw = raw;
  flags = flags;
  stamp = Untimed;
  event = false;
}

abbrev pub event_fields : ℕ → Kind → ℕ → Raw → ℕ → Stamp → ReportFields
event_fields outstation kind index raw flags stamp = record {
  key = record { outstation = outstation; kind = kind; index = index };
  raw = raw;
  flags = flags;
  stamp = stamp;
  event = true;
}
