-- The news by the picture that is kept are those by the log, and so is the picture after them.
use Rattle.std.proofs.Common.{◌≡◌, List, [], ◌∷◌, ◌++◌, refl, sym, ap, ◌∙◌, append_assoc}
use Rattle.std.proofs.lemmas.List.{append-nil}
use Rattle.gw_model.specs.declared.point.Report.{Report}
use Rattle.gw_model.specs.declared.observation.Observation.{Observation}
use Rattle.gw_map.specs.Settings.{Setup, HasSingleAddresses, station_clocks}
use Rattle.gw_picture.specs.Log.{picture_of}
use Rattle.gw_picture.specs.Picture.{news_of_report, picture_after_report, news_of, picture_after}
use Rattle.gw_picture.proofs.Logs.{report_in_log}
use Rattle.law_history.specs.Log.{news_after_log}

pub news_same : (setup : Setup) (log : List Observation) (rs : List Report)
    → HasSingleAddresses setup.rows setup.controls
    → (news_of (station_clocks setup.station) setup.rows (picture_of setup.rows log) rs ≡ news_after_log setup log rs)
    × (picture_after (station_clocks setup.station) setup.rows (picture_of setup.rows log) rs
    ≡ picture_of setup.rows (log ++ news_after_log setup log rs))
news_same setup log [] single = (refl, ap (picture_of setup.rows) (sym (append-nil log)))
news_same setup log (r ∷ rs) single =
    let xs : List Observation = news_of_report (station_clocks setup.station) setup.rows (picture_of setup.rows log) r in
    let one : picture_after_report (station_clocks setup.station) setup.rows (picture_of setup.rows log) r
    ≡ picture_of setup.rows (log ++ xs) = report_in_log (station_clocks setup.station) setup.rows setup.controls log
    r single in
    let others = news_same setup (log ++ xs) rs single in (
      ap (λ (p : List Observation). xs ++ news_of (station_clocks setup.station) setup.rows p rs) one
          ∙ ap (λ (ys : List Observation). xs ++ ys) others.0,
      ap (λ (p : List Observation). picture_after (station_clocks setup.station) setup.rows p rs) one
          ∙ (others.1 ∙ ap (picture_of setup.rows) (append_assoc log xs (news_after_log setup (log ++ xs) rs))),
    )
