-- The log of news and losses.
use Rattle.std.specs.Prelude.{List, [], ◌∷◌, ◌++◌, if◌then◌else◌}
use Rattle.gw_model.specs.declared.observation.Observation.{Observation}
use Rattle.gw_model.specs.declared.point.Report.{Report}
use Rattle.gw_map.specs.Settings.{Setup, station_clocks}
use Rattle.gw_picture.specs.Log.{picture_of}
use Rattle.gw_picture.specs.Loss.{losses_of}
use Rattle.gw_picture.specs.Picture.{news_of_report}
use Rattle.gw_steps.specs.declared.step.Step.{Step}
use Rattle.gw_steps.specs.declared.step.Step.TheVariants as steps
use Rattle.gw_steps.specs.Runs.{Entry, unless_fault}
use Rattle.law_history.specs.Accepted.{is_accepted}

-- the news of reports taken in turn after a log
abbrev pub news_after_log : Setup → List Observation → List Report → List Observation
news_after_log setup log [] = []
news_after_log setup log (r ∷ rs) =
    let xs = news_of_report (station_clocks setup.station) setup.rows (picture_of setup.rows log) r in
    xs ++ news_after_log setup (log ++ xs) rs

-- what a step without a fault brings to the log
abbrev pub news_of_step : Setup → List Observation → List Entry → Step → List Observation
news_of_step setup log past (steps.OutstationDown o moment) = losses_of o setup.rows (picture_of setup.rows log)
news_of_step setup log past (steps.Fragment f moment) =
    if is_accepted setup past f then news_after_log setup log f.reports else []
news_of_step setup log past _ = []

abbrev pub news_of_entry : Setup → List Observation → List Entry → Entry → List Observation
news_of_entry setup log past e = unless_fault [] (λ reply. news_of_step setup log past e.step) e.reply

-- the news and losses of all steps without a fault, in order
abbrev pub log_of : Setup → List Entry → List Observation
log_of setup [] = []
log_of setup (e ∷ past) = log_of setup past ++ news_of_entry setup (log_of setup past) past e
