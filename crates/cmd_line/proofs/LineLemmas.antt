-- Where `clap`'s rules refuse nothing of a line, the line asks for something.
use Rattle.std.proofs.Common.{arith, ◌≡◌, ◌∙◌, ◌&&◌, ◌⊎◌, inl, inr, ℕ, Bool, cond, codes, true, false, not, refl}
use Rattle.std.proofs.Common.{sym, ap, subst, List, [], ◌∷◌, option_map, Option, Some, None, is_some, true≢false, fold}
use Rattle.std.specs.Prelude.{⊤, ◌≤◌, nat_le, Result, Ok, Err}
use Rattle.std.specs.Str.Parse.{ParsesUnsigned, digits_value, without_leading_plus}
use Rattle.std.specs.Str.{bytes_eq}
use Rattle.std.proofs.lemmas.Slice.Eq.{bytes_eq-Decides}
use Rattle.clap.specs.Lexer.{long_of, short_of}
use Rattle.clap.specs.Kinds.{HasKind, IsAmong, Kinds, or_else}
use Rattle.clap.specs.Walk.{Held, Names, Outcome, Row, Rule, Step, Text, Waiting, Walk, after_flag}
use Rattle.clap.specs.Walk.{after_step, arg_by_index, bundle, done, finished, idle, long_or_other, next}
use Rattle.clap.specs.Walk.{nothing_held, option, plain, plain_word, positional, refused, settled}
use Rattle.clap.specs.Walk.{short_or_plain, subcommand, subcommand_met, subcommand_or_other, to_positional}
use Rattle.clap.specs.Walk.{trailing, value, waits, walk, walk_from, walked, walked_from, word_met}
use Rattle.clap.specs.Simple.{App, Shape, argument_words, built, entered, names_of}
use Rattle.clap.specs.Faults.{check_fault, defaults_fault, entered_fault, fault_of, is_simple_and_free, level_fault}
use Rattle.clap.specs.Faults.{settle_fault, other_fault, step_fault, turn_fault, walk_fault, word_fault}
use Rattle.clap.specs.Values.{kind_of}
use Rattle.clap.specs.declared.error.Error.{Error}
use Rattle.clap.specs.declared.error.ErrorKind.{ErrorKind}
use Rattle.clap.specs.declared.error.ErrorKind.TheVariants.{DisplayHelp, InvalidSubcommand, MissingSubcommand, OutOfMemory}
use Rattle.clap.specs.Words.{all_of, first_of, first_value, matched_of, raw_values, rows_of}
use Rattle.clap.specs.declared.parser.matches.Found.{Found}
use Rattle.clap.specs.Values.{IsUnsignedIn}
use Rattle.clap.specs.ValueTests.{is_unsigned_in}
use Rattle.clap.specs.declared.builder.value_parser.ValueParser.TheVariants as vp
use Rattle.clap.proofs.ValueTestLemmas.{Accepts-accepts, accepts-Accepts}
use Rattle.clap.proofs.WalkLemmas.{first_value-rows, raw_values-rows}
use Rattle.cmd_line.specs.CommandLine.{IsRefusal, as_fault, asked_of, fault_as, gateway, number_from, number_of, spelled}

-- ---- a line that is not refused does not stop at `help`, for which help is the answer

-- the walk over the words stopped at `help`
abbrev is_help : Option (Text × List Text) → Bool
is_help None = false
is_help (Some stop) = bytes_eq stop.0 (codes "help")

-- the step enters no subcommand, or another one than `help`
abbrev AvoidsHelp : Step → Type 0
AvoidsHelp (subcommand name) = bytes_eq name (codes "help") ≡ false
AvoidsHelp _ = ⊤

-- a word that names no subcommand enters none
plain_avoids : (c : List Rule) (waiting : Waiting) (word : Text) (h : Held) → AvoidsHelp (plain_word c waiting word h).1
plain_avoids c (option id) word h = tt
plain_avoids c idle word h = tt
plain_avoids c positional word h = tt

flag_avoids : (c : List Rule) (waiting : Waiting) (word : Text) (h : Held) (o : Outcome)
    → AvoidsHelp (after_flag c waiting word h o).1
flag_avoids c waiting word h done = tt
flag_avoids c waiting word h (waits id) = tt
flag_avoids c waiting word h plain = plain_avoids c waiting word h
flag_avoids c waiting word h refused = plain_avoids c waiting word h

short_avoids : (c : List Rule) (waiting : Waiting) (word : Text) (flags : Option Text) (h : Held)
    → AvoidsHelp (short_or_plain c waiting word flags h).1
short_avoids c waiting word (Some flags) h = flag_avoids c waiting word (bundle c flags h).0 (bundle c flags h).1
short_avoids c waiting word None h = plain_avoids c waiting word h

long_avoids : (c : List Rule) (waiting : Waiting) (word : Text) (long : Option (Text × Option Text)) (h : Held)
    → AvoidsHelp (long_or_other c waiting word long h).1
long_avoids c waiting word (Some p) h = flag_avoids c waiting word _ _
long_avoids c waiting word None h = short_avoids c waiting word (short_of word) h

-- the rules refuse `help`, where it is a subcommand
no_help : (b disabled : Bool) → disabled ≡ false
    → cond (b && not disabled) (DisplayHelp ∷ InvalidSubcommand ∷ []) [] ≡ [] → b ≡ false
no_help false disabled enabled none = refl
no_help true true enabled none = enabled
no_help true false enabled none = cc

word_avoids : (s : Shape) (names : Names) (is_trailing : Bool) (waiting : Waiting) (position : ℕ) (word : Text)
    (h : Held) → s.disable_help_subcommand ≡ false
    → word_fault s names is_trailing waiting word h ≡ []
    → AvoidsHelp (word_met s.rules names is_trailing waiting position word h).1
word_avoids s names true waiting position word h enabled none = tt
word_avoids s names false waiting position word h enabled none = go (subcommand_met names waiting word) none
  where
    go : (met : Option Text) → other_fault s met word h ≡ []
        → AvoidsHelp (subcommand_or_other s.rules met waiting position word h).1
    go (Some name) none = no_help (bytes_eq name (codes "help")) s.disable_help_subcommand enabled none
    go None none = ends (bytes_eq word (45 ∷ 45 ∷ []))
      where
        ends : (b : Bool)
            → AvoidsHelp (cond b (h, trailing position) (long_or_other s.rules waiting word (long_of word) h)).1
        ends true = tt
        ends false = long_avoids s.rules waiting word (long_of word) h

step_avoids : (c : List Rule) (word : Text) (w : Walk) (h : Held) (s : Step) → w.stopped ≡ None → AvoidsHelp s
    → is_help (after_step c word w h s).stopped ≡ false
step_avoids c word w h (next waiting) going avoids = ap is_help going
step_avoids c word w h (trailing position) going avoids = ap is_help going
step_avoids c word w h (subcommand name) going avoids = avoids
step_avoids c word w h value going avoids = go (arg_by_index c w.position)
  where
    go : (found : Option Rule) → is_help (to_positional c found word w h).stopped ≡ false
    go None = ap is_help going
    go (Some a) = refl

-- where neither of two steps has a fault
first_none : (a b : Kinds) → or_else a b ≡ [] → a ≡ []
first_none [] b none = refl
first_none (k ∷ ks) b none = none

rest_none : (a b : Kinds) → or_else a b ≡ [] → b ≡ []
rest_none [] b none = none
rest_none (k ∷ ks) b none = let no_kind : k ∷ ks ≡ [] = none in cc

-- one word more, and then all the words
turn_avoids : (s : Shape) (names : Names) (w : Walk) (word : Text) → s.disable_help_subcommand ≡ false
    → is_help w.stopped ≡ false
    → turn_fault s names w word ≡ [] → is_help (walked s.rules names w word).stopped ≡ false
unfolding walked
turn_avoids s names w word enabled avoids none = go w.stopped refl avoids none
  where
    met : Held × Step
    met = word_met s.rules names w.is_trailing w.waiting w.position word w.held

    go : (stop : Option (Text × List Text)) → w.stopped ≡ stop → is_help stop ≡ false
        → cond (is_some stop) []
        (or_else (word_fault s names w.is_trailing w.waiting word w.held) (step_fault s w.position met.0 met.1)) ≡ []
        → is_help (walked_from s.rules names stop w word).stopped ≡ false
    go (Some stop) is avoids none = avoids
    go None is avoids none =
        step_avoids s.rules word w met.0 met.1 is
        (word_avoids s names w.is_trailing w.waiting w.position word w.held enabled (first_none _ _ none))

walk_avoids : (s : Shape) (names : Names) (w : Walk) (words : List Text) → s.disable_help_subcommand ≡ false
    → is_help w.stopped ≡ false
    → walk_fault s names w words ≡ [] → is_help (fold (walked s.rules names) w words).stopped ≡ false
unfolding walk_fault
walk_avoids s names w [] enabled avoids none = avoids
walk_avoids s names w (word ∷ rest) enabled avoids none =
    walk_avoids s names (walked s.rules names w word) rest enabled
    (turn_avoids s names w word enabled avoids (first_none _ _ none)) (rest_none (turn_fault s names w word) _ none)

-- ---- a line that is not refused asks for something

-- the subcommands are `check`, `points`, `translate`, `replay`, `pcap`, `run` and `help`
stop_asks : (stop : Option (Text × List Text)) → is_help stop ≡ false → is_some (entered (built gateway) stop) ≡ true
    → is_some (asked_of (entered (built gateway) stop)) ≡ true
stop_asks None avoids has = has
stop_asks (Some stop) avoids has =
    go (bytes_eq (codes "check") stop.0) (bytes_eq (codes "points") stop.0) (bytes_eq (codes "translate") stop.0)
    (bytes_eq (codes "replay") stop.0) (bytes_eq (codes "pcap") stop.0) (bytes_eq (codes "run") stop.0)
    (bytes_eq (codes "help") stop.0) refl refl refl refl refl refl refl
  where
    go : (k o b d p r h : Bool) → bytes_eq (codes "check") stop.0 ≡ k → bytes_eq (codes "points") stop.0 ≡ o
        → bytes_eq (codes "translate") stop.0 ≡ b
        → bytes_eq (codes "replay") stop.0 ≡ d → bytes_eq (codes "pcap") stop.0 ≡ p
        → bytes_eq (codes "run") stop.0 ≡ r → bytes_eq (codes "help") stop.0 ≡ h
        → is_some (asked_of (entered (built gateway) (Some stop))) ≡ true
    go true o b d p r h is_check is_points is_translate is_replay is_pcap is_run is_other = rw is_check refl
    go false true b d p r h is_check is_points is_translate is_replay is_pcap is_run is_other =
        rw (is_check, is_points) refl
    go false false true d p r h is_check is_points is_translate is_replay is_pcap is_run is_other =
        rw (is_check, is_points, is_translate) refl
    go false false false true p r h is_check is_points is_translate is_replay is_pcap is_run is_other =
        rw (is_check, is_points, is_translate, is_replay) refl
    go false false false false true r h is_check is_points is_translate is_replay is_pcap is_run is_other =
        rw (is_check, is_points, is_translate, is_replay, is_pcap) refl
    go false false false false false true h is_check is_points is_translate is_replay is_pcap is_run is_other =
        rw (is_check, is_points, is_translate, is_replay, is_pcap, is_run) refl
    go false false false false false false true is_check is_points is_translate is_replay is_pcap is_run is_other =
        let same : codes "help" ≡ stop.0 = (bytes_eq-Decides _ _).0 is_other in
        absurd (true≢false (rw (← same) at avoids))
    go false false false false false false false is_check is_points is_translate is_replay is_pcap is_run is_other =
        absurd (true≢false (sym (rw (is_check, is_points, is_translate, is_replay, is_pcap, is_run, is_other) at has)))

-- the last check wants a subcommand
has_named : (rows : List Row) (has : Bool) → check_fault (built gateway).top rows has ≡ [] → has ≡ true
has_named rows true none = refl
has_named rows false none = let missing : MissingSubcommand ∷ [] ≡ [] = none in cc

-- where a level has no fault, its walk and its last check have none
level_none : (s : Shape) (names : Names) (words : List Text) (has : Bool) (below : Kinds)
    → level_fault s names nothing_held words has below ≡ []
    → (walk_fault s names (walk_from nothing_held) words ≡ [])
    × (check_fault s (finished s.rules (walk s.rules names nothing_held words).held) has ≡ [])
level_none s names words has below none =
    let end = (walk s.rules names nothing_held words).held in
    let after_walk = rest_none (walk_fault s names (walk_from nothing_held) words) _ none in
    let after_subcommand = rest_none below _ after_walk in
    let after_values = rest_none (settle_fault s.rules s.args_override_self end) _ after_subcommand in
    (first_none _ _ none, rest_none (defaults_fault (settled s.rules end).rows s.rules) _ after_values)

-- a line without a fault asks for something
pub line_asks : (words : List Text) → fault_of gateway words ≡ [] → is_some (spelled words) ≡ true
line_asks words none =
    let top = (built gateway).top in
    let names = names_of (built gateway) in
    let given = argument_words gateway words in
    let stop = (walk top.rules names nothing_held given).stopped in
    let parts =
    level_none top names given (is_some (entered (built gateway) stop)) (entered_fault (built gateway) stop) none in
    let avoids : is_help stop ≡ false = walk_avoids top names (walk_from nothing_held) given refl refl parts.0 in
    stop_asks stop avoids (has_named (finished top.rules (walk top.rules names nothing_held given).held) _ parts.1)

-- ---- what a parse says of the line

is_simple-gateway : is_simple_and_free gateway ≡ true
is_simple-gateway = refl

-- what holds of the built command, whose rules are the program's
pub as_gateway : (P : App → Type 0) (app : App) → app ≡ gateway → (is_simple_and_free app ≡ true → P app) → P gateway
as_gateway P app same h = subst P same (h (ap is_simple_and_free same ∙ is_simple-gateway))

-- memory ran out, or a kind by which the rules refuse
pub refusal_of : (e : Error) (kinds : Kinds) → HasKind kinds e → IsRefusal kinds (as_fault e)
refusal_of e kinds has = go (kind_of e) refl has
  where
    go : (k : ErrorKind) → kind_of e ≡ k → (k ≡ OutOfMemory) ⊎ IsAmong k kinds → IsRefusal kinds (fault_as k e)
    go OutOfMemory is h = tt
    go k is (inl memory) = cc
    go k is (inr among) = subst (λ x. IsAmong x kinds) (sym is) among

-- ---- what was found for an argument

pub value_in_rows : (f : Found) (id : Text) → first_value f id ≡ first_of id (rows_of f)
value_in_rows = first_value-rows

pub values_in_rows : (f : Found) (id : Text) → option_map raw_values (matched_of f id) ≡ all_of id (rows_of f)
values_in_rows = raw_values-rows

-- ---- the number of an option

-- a number from 1 to 1000000, by tests and by order
in_range : (n : ℕ) → (nat_le 1 n && nat_le n 1000000) ≡ true → (1 ≤ n) × (n ≤ 1000000)
in_range n is = grind arith

not_in_range : (n : ℕ) → (nat_le 1 n && nat_le n 1000000) ≡ false → 1 ≤ n → n ≤ 1000000 → ⊥
not_in_range n is least most = grind arith

taken : (text : Text) → IsUnsignedIn 1 1000000 text → is_unsigned_in 1 1000000 text ≡ true
taken text is = Accepts-accepts false (vp.Unsigned 1 1000000) text is

is_taken : (text : Text) → is_unsigned_in 1 1000000 text ≡ true → IsUnsignedIn 1 1000000 text
is_taken text is = accepts-Accepts false (vp.Unsigned 1 1000000) text is

-- what `parse` reads of a text is the number that can be asked for by it
pub number_parsed : {E : Type 0} (text : Text) (r : Result ℕ E) → ParsesUnsigned 32 10 text r
    → number_from r ≡ number_of text
number_parsed text (Ok n) read = go (nat_le 1 n && nat_le n 1000000) (is_unsigned_in 1 1000000 text) refl refl
  where
    d : ℕ
    d = digits_value 10 (without_leading_plus text)

    go : (c b : Bool) → (nat_le 1 n && nat_le n 1000000) ≡ c → is_unsigned_in 1 1000000 text ≡ b
        → cond c (Some n) None ≡ cond b (Some d) None
    go true true is_in is_read = ap Some read.1
    go true false is_in is_read =
        let range = in_range n is_in in
        let least : 1 ≤ d = subst (λ k. 1 ≤ k) read.1 range.0 in
        let most : d ≤ 1000000 = subst (λ k. k ≤ 1000000) read.1 range.1 in
        absurd (true≢false (sym (taken text (read.0.0, omega arith, least, most)) ∙ is_read))
    go false true is_in is_read =
        let is = is_taken text is_read in
        absurd (not_in_range n is_in (subst (λ k. 1 ≤ k) (sym read.1) is.2)
        (subst (λ k. k ≤ 1000000) (sym read.1) is.3))
    go false false is_in is_read = refl
number_parsed text (Err e) none = go (is_unsigned_in 1 1000000 text) refl
  where
    d : ℕ
    d = digits_value 10 (without_leading_plus text)

    go : (b : Bool) → is_unsigned_in 1 1000000 text ≡ b → None ≡ cond b (Some d) None
    go true is_read =
        let is = is_taken text is_read in
        absurd (none (is.0, omega arith))
    go false is_read = refl
