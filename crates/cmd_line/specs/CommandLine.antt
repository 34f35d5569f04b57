-- The program's command line by `clap`'s rules, and what each subcommand asks for.
use Rattle.std.specs.Prelude.{⊤, ℕ, Bool, ◌&&◌, nat_le, Result, Ok, Err, Option, Some, None, List, [], ◌∷◌, codes}
use Rattle.std.specs.Prelude.{fold, if◌then◌else◌, map, option_and_then, option_map, pos, false, true, unwrap_or}
use Rattle.std.specs.Str.{bytes_eq}
use Rattle.std.specs.Str.Parse.{digits_value, without_leading_plus}
use Rattle.clap.specs.Words.{App, IsAmong, Row, Rule, Text, all_of, first_of, kind_of}
use Rattle.clap.specs.Words.{new_app, new_rule, subcommand_of, with_rule, with_subcommand}
use Rattle.clap.specs.Kinds.{Kinds}
use Rattle.clap.specs.Simple.{on_top}
use Rattle.clap.specs.ValueTests.{is_unsigned_in}
use Rattle.clap.specs.declared.builder.action.ArgAction.TheVariants.{Append, Set, SetTrue}
use Rattle.clap.specs.declared.builder.value_parser.ValueParser.TheVariants as vp
use Rattle.clap.specs.declared.error.Error.{Error}
use Rattle.clap.specs.declared.error.kind.ErrorKind.{ErrorKind}
use Rattle.clap.specs.declared.error.kind.ErrorKind.TheVariants.{OutOfMemory}
use Rattle.cmd_line.specs.declared.reading.Asked.{Asked}
use Rattle.cmd_line.specs.declared.reading.Asked.TheVariants.{Check, Points, Translate, Replay, Pcap, Run}
use Rattle.cmd_line.specs.declared.reading.RunOptions.{RunOptions}
use Rattle.cmd_line.specs.declared.reading.LineFault.{LineFault}
use Rattle.cmd_line.specs.declared.reading.LineFault.TheVariants.{Clap, Memory}

-- ---- the program

-- FILE, which has to be named
abbrev pub file_rule : Rule
file_rule = record (new_rule (codes "file")) { required = true; action = Some Set; value_names = 1 }

-- OUT, which has to be named behind it
abbrev pub out_rule : Rule
out_rule = record (new_rule (codes "out")) { required = true; action = Some Set; value_names = 1 }

-- `--NAME VALUE`, which may be used once
abbrev pub text_rule : Text → Rule
text_rule name = record (new_rule name) { long = Some name; action = Some Set; value_names = 1 }

-- the same, several times
abbrev pub texts_rule : Text → Rule
texts_rule name = record (text_rule name) { action = Some Append }

-- the same, once, with a number from 1 to 1000000
abbrev pub number_rule : Text → Rule
number_rule name = record (text_rule name) { parser = Some (vp.Signed (pos 1) (pos 1000000)) }

-- `--NAME`, which may be used once
abbrev pub flag_rule : Text → Rule
flag_rule name = record (new_rule name) { long = Some name; action = Some SetTrue }

-- `gateway NAME FILE`
abbrev pub file_app : Text → App
file_app name = with_rule (new_app name) file_rule

-- `gateway check FILE [--profile] [--profile-html] [--names FILE]`
abbrev pub check : App
check =
    fold with_rule (file_app (codes "check"))
    (flag_rule (codes "profile") ∷ flag_rule (codes "profile-html") ∷ text_rule (codes "names") ∷ [])

-- `gateway points FILE [--site FILE] [--csv] [--names FILE]`
abbrev pub points : App
points =
    fold with_rule (file_app (codes "points"))
    (text_rule (codes "site") ∷ flag_rule (codes "csv") ∷ text_rule (codes "names") ∷ [])

-- `gateway translate [--settings FILE]`
abbrev pub translate : App
translate = with_rule (new_app (codes "translate")) (text_rule (codes "settings"))

-- `gateway replay FILE`
abbrev pub replay : App
replay = file_app (codes "replay")

-- `gateway pcap FILE OUT`
abbrev pub pcap : App
pcap = with_rule (file_app (codes "pcap")) out_rule

-- `gateway run FILE [--sessions N] [--allow ADDRESS]... [--until-eof]`
abbrev pub serve : App
serve =
    fold with_rule (file_app (codes "run"))
    (number_rule (codes "sessions") ∷ texts_rule (codes "allow") ∷ flag_rule (codes "until-eof") ∷ [])

-- the same with `[--site NAME] [--health-needs-centre]`
abbrev pub shown : App
shown = fold with_rule serve (text_rule (codes "site") ∷ flag_rule (codes "health-needs-centre") ∷ [])

-- the same with `[--status ADDRESS:PORT] [--record FILE] [--record-size MB] [--names FILE]`
abbrev pub run : App
run =
    fold with_rule shown
    (text_rule (codes "status") ∷ text_rule (codes "record") ∷ number_rule (codes "record-size")
    ∷ text_rule (codes "names") ∷ [])

-- the same with `[--record-folder DIR] [--record-keep MB]`
abbrev pub recording : App
recording = fold with_rule run (text_rule (codes "record-folder") ∷ number_rule (codes "record-keep") ∷ [])

-- the same with `[--values] [--events FILE] [--events-keep MB]`
abbrev pub following : App
following =
    fold with_rule recording
    (flag_rule (codes "values") ∷ text_rule (codes "events") ∷ number_rule (codes "events-keep") ∷ [])

-- the program: a subcommand has to be named, and it has a version
abbrev pub alone : App
alone = on_top (λ top. record top { subcommand_required = true; has_version = true }) (new_app (codes "gateway"))

abbrev pub gateway : App
gateway =
    with_subcommand
    (with_subcommand
    (with_subcommand
    (with_subcommand (with_subcommand (with_subcommand alone check.top) points.top) translate.top) replay.top)
    pcap.top)
    following.top

-- ---- what it asks for

-- what the options of `gateway run` ask for, but for `--sessions`
pub record Options : Type 0 where
  pub allow : List Text
  pub until_eof : Bool
  pub site : Option Text
  pub needs_centre : Bool
  pub status : Option Text
  pub «record» : Option Text
  pub record_size : ℕ
  pub names : Option Text
  pub record_folder : Option Text
  pub record_keep : Option ℕ
  pub values : Bool
  pub events : Option Text
  pub events_keep : Option ℕ

-- the same where none of them is used
abbrev pub no_options : Options
no_options =
    record {
      allow = [];
      until_eof = false;
      site = None;
      needs_centre = false;
      status = None;
      «record» = None;
      record_size = 256;
      names = None;
      record_folder = None;
      record_keep = None;
      values = false;
      events = None;
      events_keep = None;
    }

abbrev pub options_of : RunOptions → Options
options_of options = record {
  allow = map (λ address. address.now) options.allow.items;
  until_eof = options.until_eof;
  site = option_map (λ name. name.now) options.site;
  needs_centre = options.needs_centre;
  status = option_map (λ address. address.now) options.status;
  «record» = option_map (λ file. file.now) options.record;
  record_size = options.record_size;
  names = option_map (λ list. list.now) options.names;
  record_folder = option_map (λ folder. folder.now) options.record_folder;
  record_keep = options.record_keep;
  values = options.values;
  events = option_map (λ file. file.now) options.events;
  events_keep = options.events_keep;
}

-- what is asked for, with the words that name files and addresses, whether the profile is, as text and in HTML, and whether a
-- list is
pub data Request : Type 0 where
  to_check : Text → Bool → Bool → Option Text → Request
  to_points : Text → Option Text → Bool → Option Text → Request
  to_translate : Option Text → Request
  to_replay : Text → Request
  to_pcap : Text → Text → Request
  to_run : Text → Option ℕ → Options → Request

abbrev pub request_of : Asked → Request
request_of (Check file profile profile_html names) =
    to_check file.now profile profile_html (option_map (λ list. list.now) names)
request_of (Points file site csv names) =
    to_points file.now (option_map (λ settings. settings.now) site) csv (option_map (λ list. list.now) names)
request_of (Translate settings) = to_translate (option_map (λ file. file.now) settings)
request_of (Replay file) = to_replay file.now
request_of (Pcap file out) = to_pcap file.now out.now
request_of (Run file sessions options) = to_run file.now sessions (options_of options)

-- the number that a text says, from 1 to 1000000
abbrev pub number_of : Text → Option ℕ
number_of text = if is_unsigned_in 1 1000000 text then Some (digits_value 10 (without_leading_plus text)) else None

-- the same of what `parse` read of it
abbrev pub number_from : {E : Type 0} → Result ℕ E → Option ℕ
number_from (Ok n) = if nat_le 1 n && nat_le n 1000000 then Some n else None
number_from (Err e) = None

-- the flag was used, by the text that `clap` has for it
abbrev pub is_set : Option Text → Bool
is_set (Some text) = bytes_eq text (codes "true")
is_set None = false

-- what was found for an argument, by its kind
abbrev pub file_in : List Row → Text
file_in rows = unwrap_or (first_of (codes "file") rows) []

abbrev pub out_in : List Row → Text
out_in rows = unwrap_or (first_of (codes "out") rows) []

abbrev pub texts_in : Text → List Row → List Text
texts_in name rows = unwrap_or (all_of name rows) []

abbrev pub number_in : Text → List Row → Option ℕ
number_in name rows = option_and_then number_of (first_of name rows)

abbrev pub is_used : Text → List Row → Bool
is_used name rows = is_set (first_of name rows)

-- what the options of `gateway run` ask for, and all that it asks for, by what was found for its arguments
abbrev pub options_in : List Row → Options
options_in rows = record {
  allow = texts_in (codes "allow") rows;
  until_eof = is_used (codes "until-eof") rows;
  site = first_of (codes "site") rows;
  needs_centre = is_used (codes "health-needs-centre") rows;
  status = first_of (codes "status") rows;
  «record» = first_of (codes "record") rows;
  record_size = unwrap_or (number_in (codes "record-size") rows) 256;
  names = first_of (codes "names") rows;
  record_folder = first_of (codes "record-folder") rows;
  record_keep = number_in (codes "record-keep") rows;
  values = is_used (codes "values") rows;
  events = first_of (codes "events") rows;
  events_keep = number_in (codes "events-keep") rows;
}

abbrev pub run_in : List Row → Request
run_in rows = to_run (file_in rows) (number_in (codes "sessions") rows) (options_in rows)

abbrev pub check_in : List Row → Request
check_in rows =
    to_check (file_in rows) (is_used (codes "profile") rows) (is_used (codes "profile-html") rows)
    (first_of (codes "names") rows)

abbrev pub points_in : List Row → Request
points_in rows =
    to_points (file_in rows) (first_of (codes "site") rows) (is_used (codes "csv") rows) (first_of (codes "names") rows)

-- what a subcommand asks for, by its name and what was found for its arguments
abbrev pub asked_as : Text → List Row → Option Request
asked_as name rows =
    if bytes_eq name (codes "check") then Some (check_in rows)
    else if bytes_eq name (codes "points") then Some (points_in rows)
    else if bytes_eq name (codes "translate") then Some (to_translate (first_of (codes "settings") rows))
    else if bytes_eq name (codes "replay") then Some (to_replay (file_in rows))
    else if bytes_eq name (codes "pcap") then Some (to_pcap (file_in rows) (out_in rows))
    else if bytes_eq name (codes "run") then Some (run_in rows)
    else None

-- what the subcommand that a line named asks for
abbrev pub asked_of : Option (Text × List Row) → Option Request
asked_of = option_and_then (λ named. asked_as named.0 named.1)

-- what the words of a line ask for, where `clap` takes them
abbrev pub spelled : List Text → Option Request
spelled words = asked_of (subcommand_of gateway words)

-- ---- why it asks for nothing

-- an error of `clap` of this kind
abbrev pub fault_as : ErrorKind → Error → LineFault
fault_as OutOfMemory error = Memory
fault_as _ error = Clap error

abbrev pub as_fault : Error → LineFault
as_fault error = fault_as (kind_of error) error

-- memory ran out, or the error has one of the kinds by which the rules refuse the words
abbrev pub IsRefusal : Kinds → LineFault → Type 0
IsRefusal kinds (Clap error) = IsAmong (kind_of error) kinds
IsRefusal kinds Memory = ⊤
