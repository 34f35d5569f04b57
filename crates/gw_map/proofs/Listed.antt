-- The sections, entry by entry.
use Rattle.std.proofs.Common.{◌≡◌, ℕ, ◌+◌, ◌<◌, ◌≤◌, List, [], ◌∷◌, ◌++◌, length, drop, get_or}
use Rattle.std.proofs.Common.{Option, Some, None, option_map, refl, ap, sym, ◌∙◌, codes, append_assoc}
use Rattle.std.proofs.lemmas.List.{append-nil, drop_all, drop_more}
use Rattle.std.proofs.lemmas.Option.{same_Some}
use Rattle.toml.specs.Data.{Data, string, integer, float, boolean, datetime, array, table, Items, item, Members, as_table}
use Rattle.toml.specs.View.{view, items_view}
use Rattle.toml.specs.declared.value.Value.{Value}
use Rattle.gw_entries.specs.declared.fault.Fault.TheVariants.{Missing, WrongType}
use Rattle.gw_entries.specs.declared.fault.Section.TheVariants as of
use Rattle.gw_entries.specs.Answers.{first}
use Rattle.gw_entries.specs.Complaints.{complaint, placed, table_wrongs, no_mismatches}
use Rattle.gw_map.specs.Sections.{station_complaints, tables_of, table_at}
use Rattle.gw_entries.specs.Tables.{station_keys}

-- ---- the station

pub station_missing : (o : Option Data) → o ≡ None
    → first (station_complaints o) ≡ Some (complaint of.Top 0 (Missing, codes "station"))
unfolding station_complaints first
station_missing o e = rw e

pub station_no_table : (d : Data) → as_table d ≡ None
    → first (station_complaints (Some d)) ≡ Some (complaint of.Top 0 (WrongType, codes "station"))
unfolding station_complaints first
station_no_table (table ms) e = absurd cc
station_no_table d e = refl

pub station_table : (d : Data) (ms : Members) → as_table d ≡ Some ms
    → (station_complaints (Some d) ≡ placed of.Station 0 (table_wrongs 0 station_keys no_mismatches ms))
    × (table_at (Some d) ≡ ms)
unfolding station_complaints
station_table (table t) ms e =
    let same : t ≡ ms = same_Some _ _ e in
    (ap (λ t. placed of.Station 0 (table_wrongs 0 station_keys no_mismatches t)) same, same)
station_table (string s) ms e = absurd cc
station_table (integer z) ms e = absurd cc
station_table (float x) ms e = absurd cc
station_table (boolean b) ms e = absurd cc
station_table (datetime t) ms e = absurd cc
station_table (array ds) ms e = absurd cc

-- ---- tables of a list

-- tables, and those that follow
abbrev pub after : List Members → Option (List Members) → Option (List Members)
after done more = option_map (λ rest. done ++ rest) more

pub after-none : (o : Option (List Members)) → after [] o ≡ o
after-none None = refl
after-none (Some x) = refl

after-more : (done : List Members) (ms : Members) (o : Option (List Members))
    → after (done ++ ms ∷ []) o ≡ after done (option_map (λ tables. ms ∷ tables) o)
after-more done ms None = refl
after-more done ms (Some x) = ap Some (append_assoc done (ms ∷ []) x)

head_is_table : (d : Data) (ms : Members) (more : Items) → as_table d ≡ Some ms
    → tables_of (item d more) ≡ option_map (λ tables. ms ∷ tables) (tables_of more)
head_is_table (table t) ms more e = ap (λ t. option_map (λ tables. t ∷ tables) (tables_of more)) (same_Some _ _ e)
head_is_table (string s) ms more e = absurd cc
head_is_table (integer z) ms more e = absurd cc
head_is_table (float x) ms more e = absurd cc
head_is_table (boolean b) ms more e = absurd cc
head_is_table (datetime t) ms more e = absurd cc
head_is_table (array ds) ms more e = absurd cc

head_is_none : (d : Data) (more : Items) → as_table d ≡ None → tables_of (item d more) ≡ None
head_is_none (table t) more e = absurd cc
head_is_none d more e = refl

pub one_more_table : (done : List Members) (ms : Members) (vs : List Value) (i : ℕ) (v : Value)
    (all : Option (List Members)) → i < length vs
    → as_table (view (get_or vs i v)) ≡ Some ms → after done (tables_of (items_view (drop i vs))) ≡ all
    → after (done ++ ms ∷ []) (tables_of (items_view (drop (i + 1) vs))) ≡ all
one_more_table done ms vs i v all h e so =
    after-more done ms (tables_of (items_view (drop (i + 1) vs)))
    ∙ ap (after done) (sym (head_is_table (view (get_or vs i v)) ms (items_view (drop (i + 1) vs)) e))
    ∙ ap (λ xs. after done (tables_of (items_view xs))) (sym (drop_more vs i v h)) ∙ so

pub no_more_tables : (done : List Members) (vs : List Value) (i : ℕ) (v : Value) (all : Option (List Members))
    → i < length vs
    → as_table (view (get_or vs i v)) ≡ None → after done (tables_of (items_view (drop i vs))) ≡ all → None ≡ all
no_more_tables done vs i v all h e so =
    ap (after done) (sym (head_is_none (view (get_or vs i v)) (items_view (drop (i + 1) vs)) e))
    ∙ ap (λ xs. after done (tables_of (items_view xs))) (sym (drop_more vs i v h)) ∙ so

pub all_tables : (done : List Members) (vs : List Value) (i : ℕ) (all : Option (List Members)) → length vs ≤ i
    → after done (tables_of (items_view (drop i vs))) ≡ all → Some done ≡ all
all_tables done vs i all h so =
    ap Some (sym (append-nil done)) ∙ ap (λ xs. after done (tables_of (items_view xs))) (sym (drop_all i vs h)) ∙ so
