-- What stands between two lines of `translate`.
use Rattle.std.specs.Prelude.{List}
use Rattle.gw_model.specs.declared.observation.Observation.{Observation}
use Rattle.gw_map.specs.Settings.{Setup}
use Rattle.cmd_streams.specs.declared.translator.Finding.{Finding}

-- the settings, what became of the lines so far, and what was shown of each row last
pub record Standing : Type 0 where
  pub setup : Setup
  pub finding : Finding
  pub picture : List Observation

abbrev pub standing : Setup → Finding → List Observation → Standing
standing setup finding picture = record { setup = setup; finding = finding; picture = picture }
