-- What is decided of a line: a confirmation where one is asked for, and the news among what is reported.
use Rattle.std.specs.Prelude.{◌≡◌, ℕ, ◌≢◌, List, [], ◌∷◌, ◌++◌, codes, Some, None, Ok}
use Rattle.gw_model.specs.declared.point.Report.{Report}
use Rattle.gw_model.specs.declared.observation.Observation.{Observation}
use Rattle.gw_map.specs.Settings.{Setup, station_clocks}
use Rattle.dnp_app.specs.Control.{confirm_of}
use Rattle.dnp_app.specs.Response.{Fragment, IsRefused, response_of}
use Rattle.gw_picture.specs.Picture.{news_of, picture_after}
use Rattle.cmd_text.specs.Hex.{line_octets}
use Rattle.cmd_replay.specs.FragmentText.{accepted_text, refusal_text}
use Rattle.cmd_streams.specs.declared.decision.Decision.{Decision}
use Rattle.cmd_streams.specs.declared.decision.Decision.TheVariants.{Empty, NotHex, Refused, Accepted}

-- the news among reports that come after such a picture, and the picture after them
abbrev pub news_in : Setup → List Observation → List Report → List Observation
news_in setup picture reports = news_of (station_clocks setup.station) setup.rows picture reports

abbrev pub picture_after_reports : Setup → List Observation → List Report → List Observation
picture_after_reports setup picture reports = picture_after (station_clocks setup.station) setup.rows picture reports

-- what is decided of a line, with the news that are told, and from what was shown before it to what is shown after it
abbrev pub Decides : Setup → List ℕ → Decision → List Observation → List Observation → List Observation → Type 0
Decides setup line Empty news before shown = (line ≡ []) × (news ≡ []) × (shown ≡ before)
Decides setup line NotHex news before shown =
    (line ≢ []) × (line_octets line ≡ None) × (news ≡ []) × (shown ≡ before)
Decides setup line (Refused fault) news before shown =
    (octets : List ℕ) × (line_octets line ≡ Some octets) × IsRefused 0 fault octets × (news ≡ []) × (shown ≡ before)
Decides setup line (Accepted confirm) news before shown =
    (octets : List ℕ) × (fragment : Fragment) × (line_octets line ≡ Some octets) × (response_of 0 octets ≡ Ok fragment)
    × (confirm ≡ confirm_of octets) × (news ≡ news_in setup before fragment.reports)
    × (shown ≡ picture_after_reports setup before fragment.reports)

-- what is written for a decision, with its news
abbrev pub decision_text : Setup → Decision → List Observation → List ℕ
decision_text setup Empty news = []
decision_text setup NotHex news = codes "refused 0 Hex" ++ 10 ∷ []
decision_text setup (Refused fault) news = refusal_text fault
decision_text setup (Accepted confirm) news = accepted_text setup confirm news
