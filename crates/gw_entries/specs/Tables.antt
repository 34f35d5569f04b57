-- The tables of a settings file: which keys each may have, in the order in which they are judged, what may stand
-- at them, and what is meant where one is left out.
use Prim.Native.String.{String as Name}
use Rattle.std.specs.Prelude.{ℕ, ℤ, pos, negsuc, false, List, [], ◌∷◌, map, codes}
use Rattle.toml.specs.Data.{Data, string, integer, boolean}
use Rattle.gw_model.specs.declared.point.Kind.{Kind}
use Rattle.gw_model.specs.declared.point.Kind.TheVariants as kind
use Rattle.gw_entries.specs.declared.fault.Section.{Section}
use Rattle.gw_entries.specs.declared.fault.Section.TheVariants.{Top, Station, Outstation, Point, Control}
use Rattle.gw_entries.specs.declared.row.Show.{Show}
use Rattle.gw_entries.specs.declared.row.Show.TheVariants as show
use Rattle.gw_entries.specs.declared.control.ControlShow.{ControlShow}
use Rattle.gw_entries.specs.declared.control.ControlShow.TheVariants as control
use Rattle.gw_entries.specs.declared.control.Mode.{Mode}
use Rattle.gw_entries.specs.declared.control.Mode.TheVariants.{Direct, Sbo}
use Rattle.gw_entries.specs.declared.control.Rest.{Rest}
use Rattle.gw_entries.specs.declared.control.Rest.TheVariants.{Latch, Short}

-- what may stand at a key
pub data KeyContent : Type 0 where
  -- a whole number, from the first to the second
  whole : ℤ → ℤ → KeyContent
  -- a whole number from the first on, to the value of another key of the table, or below it
  whole_to : ℤ → List ℕ → KeyContent
  whole_below : ℤ → List ℕ → KeyContent
  -- the position of an outstation, from 0
  outstation_position : KeyContent
  -- one of these texts, or any text
  one_of : List (List ℕ) → KeyContent
  any_text : KeyContent
  -- a text that is a rule of POSIX's TZ variable (IEEE Std 1003.1), with the days on which summer time begins and
  -- ends, if it has one
  posix_rule : KeyContent
  -- true or false
  yes_or_no : KeyContent

-- what a key means that is left out
pub data Absence : Type 0 where
  required : Absence
  default : Data → Absence
  -- the type by which points of the kind are usually shown
  usual_type : Absence
  -- what the station has at the key
  of_station : Absence
  -- no rule: civil time has no summer time
  no_rule : Absence

pub record KeyRule : Type 0 where
  pub key : List ℕ
  pub content : KeyContent
  pub absence : Absence

abbrev pub rule : Name → KeyContent → Absence → KeyRule
rule name content absence = record { key = codes name; content = content; absence = absence }

abbrev pub number : ℕ → ℕ → KeyContent
number first last = whole (pos first) (pos last)

abbrev pub or_number : ℕ → Absence
or_number n = default (integer (pos n))

abbrev pub or_text : Name → Absence
or_text name = default (string (codes name))

abbrev pub or_no : Absence
or_no = default (boolean false)

-- ---- words

abbrev pub kinds : List (List ℕ × Kind)
kinds =
    (codes "binary", kind.Binary) ∷ (codes "output", kind.Output) ∷ (codes "double", kind.Double)
    ∷ (codes "counter", kind.Counter) ∷ (codes "analog", kind.Analog) ∷ []

abbrev pub shows : List (List ℕ × Show)
shows =
    (codes "single", show.Single) ∷ (codes "double", show.Double) ∷ (codes "scaled", show.Scaled)
    ∷ (codes "word", show.Word) ∷ (codes "total", show.Total) ∷ []

abbrev pub control_shows : List (List ℕ × ControlShow)
control_shows =
    (codes "single", control.Single) ∷ (codes "double", control.Double) ∷ (codes "setpoint", control.Setpoint) ∷ []

abbrev pub modes : List (List ℕ × Mode)
modes = (codes "direct", Direct) ∷ (codes "sbo", Sbo) ∷ []

abbrev pub rests : List (List ℕ × Rest)
rests = (codes "latch", Latch) ∷ (codes "short", Short) ∷ []

abbrev pub words : {A : Type 0} → List (List ℕ × A) → List (List ℕ)
words pairs = map (λ pair. pair.0) pairs

-- ---- the tables

abbrev pub top_keys : List (List ℕ)
top_keys = codes "station" ∷ codes "outstation" ∷ codes "point" ∷ codes "control" ∷ []

abbrev pub station_keys : List KeyRule
station_keys =
    rule "common_address" (number 1 65534) required
    ∷ rule "master_address" (number 0 65519) (or_number 1024)
    ∷ rule "offset_minutes" (whole (negsuc 839) (pos 840)) (or_number 0)
    ∷ rule "rule" posix_rule no_rule
    ∷ rule "k" (number 1 32767) (or_number 12)
    ∷ rule "w" (whole_to (pos 1) (codes "k")) (or_number 8)
    ∷ rule "t1_ms" (number 1 255000) (or_number 15000)
    ∷ rule "t2_ms" (whole_below (pos 1) (codes "t1_ms")) (or_number 10000)
    ∷ rule "t3_ms" (number 1 255000) (or_number 20000)
    ∷ rule "queue" (number 1 65536) (or_number 1000)
    ∷ rule "select_ms" (number 1 600000) (or_number 10000)
    ∷ rule "recorder" (number 1 65536) (or_number 1024)
    ∷ rule "listen" any_text (or_text "127.0.0.1:2404")
    ∷ []

abbrev pub outstation_keys : List KeyRule
outstation_keys =
    rule "address" (number 0 65519) required
    ∷ rule "connect" any_text (or_text "127.0.0.1:20000")
    ∷ rule "poll_ms" (number 1 86400000) (or_number 2000)
    ∷ rule "integrity_ms" (number 0 86400000) (or_number 3600000)
    ∷ rule "response_ms" (number 1 600000) (or_number 5000)
    ∷ rule "unsolicited" yes_or_no or_no
    ∷ rule "lan_time" yes_or_no or_no
    ∷ rule "common_address" (number 1 65534) of_station
    ∷ []

abbrev pub point_keys : List KeyRule
point_keys =
    rule "outstation" outstation_position required
    ∷ rule "kind" (one_of (words kinds)) required
    ∷ rule "index" (number 0 65535) required
    ∷ rule "address" (number 1 16777215) required
    ∷ rule "show" (one_of (words shows)) usual_type
    ∷ rule "num" (number 1 32767) (or_number 1)
    ∷ rule "den" (number 1 32767) (or_number 1)
    ∷ []

abbrev pub control_keys : List KeyRule
control_keys =
    rule "outstation" outstation_position required
    ∷ rule "show" (one_of (words control_shows)) required
    ∷ rule "index" (number 0 65535) required
    ∷ rule "address" (number 1 16777215) required
    ∷ rule "select" yes_or_no or_no
    ∷ rule "mode" (one_of (words modes)) (or_text "direct")
    ∷ rule "rest" (one_of (words rests)) (or_text "latch")
    ∷ rule "short_ms" (number 1 3600000) (or_number 500)
    ∷ rule "long_ms" (number 1 3600000) (or_number 2000)
    ∷ rule "num" (number 1 32767) (or_number 1)
    ∷ rule "den" (number 1 32767) (or_number 1)
    ∷ []

abbrev pub rules_of : Section → List KeyRule
rules_of Top = []
rules_of Station = station_keys
rules_of Outstation = outstation_keys
rules_of Point = point_keys
rules_of Control = control_keys

-- which keys the table of a section may have
abbrev pub known_keys : Section → List (List ℕ)
known_keys Top = top_keys
known_keys section = map (λ rule. rule.key) (rules_of section)

-- how many outstations there may be; points; and points and controls together
abbrev pub outstation_limit : ℕ
outstation_limit = 32

abbrev pub row_limit : ℕ
row_limit = 20000
