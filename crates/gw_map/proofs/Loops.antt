-- Going over the entries of a section.
use Rattle.std.proofs.Common.{◌≡◌, ℕ, ◌+◌, ◌<◌, ◌≤◌, List, [], ◌∷◌, ◌++◌, length, map, drop}
use Rattle.std.proofs.Common.{take, get_or, Some, None, false, nat_le, refl, ap, sym, ◌∙◌, arith, codes}
use Rattle.std.proofs.lemmas.List.{drop_all, drop_more, take_all, take_more, map-append}
use Rattle.std.proofs.lemmas.Simd.{map-map}
use Rattle.std.proofs.lemmas.Bool.Decides.{nat_tests}
use Rattle.std.proofs.lemmas.Option.{same_Some}
use Rattle.toml.specs.Data.{Data, string, integer, float, boolean, datetime, array, table, Items, Members, as_array}
use Rattle.gw_entries.specs.declared.fault.Fault.TheVariants.{OutOfRange}
use Rattle.gw_entries.specs.declared.fault.Section.{Section}
use Rattle.gw_entries.specs.declared.fault.SettingsFault.{SettingsFault}
use Rattle.gw_entries.specs.Answers.{first, IsTold}
use Rattle.gw_entries.specs.Complaints.{Complaint, complaint, placed}
use Rattle.gw_map.specs.Sections.{count_wrongs, tables_of, listed, each_from}
use Rattle.gw_entries.proofs.Told.{told_front}

module _ {X : Type 0} (F : ℕ → Members → List Complaint) (g : X → Members) where
  each_from-step : (all : List X) (i : ℕ) (d : X) → i < length all
      → each_from i F (map g (drop i all)) ≡ F i (g (get_or all i d)) ++ each_from (i + 1) F (map g (drop (i + 1) all))
  unfolding each_from
  each_from-step all i d h = rw (drop_more all i d h)

  -- an entry without a complaint is left behind
  pub each_from-more : (all : List X) (i : ℕ) (d : X) → i < length all
      → each_from 0 F (map g all) ≡ each_from i F (map g (drop i all))
      → F i (g (get_or all i d)) ≡ [] → each_from 0 F (map g all) ≡ each_from (i + 1) F (map g (drop (i + 1) all))
  each_from-more all i d h so none = so ∙ each_from-step all i d h ∙ rw none

  -- the complaint of an entry is the first of all, where none was before
  pub told_entry : (f : SettingsFault) (all : List X) (i : ℕ) (d : X) → i < length all
      → each_from 0 F (map g all) ≡ each_from i F (map g (drop i all))
      → IsTold f (F i (g (get_or all i d))) → IsTold f (each_from 0 F (map g all))
  told_entry f all i d h so told = rw (so, each_from-step all i d h) (told_front f _ _ told)

-- one more value
pub map_take-more : {X Y : Type 0} (g : X → Y) (all : List X) (i : ℕ) (d : X) (done : List Y) (y : Y) → i < length all
    → done ≡ map g (take i all) → y ≡ g (get_or all i d)
    → done ++ y ∷ [] ≡ map g (take (i + 1) all)
map_take-more g all i d done y h so e =
    rw (so, e, take_more all i d h) (sym (map-append g (take i all) (get_or all i d ∷ [])))

-- ---- sections as a whole

pub listed_no_array : (d : Data) → as_array d ≡ None → listed (Some d) ≡ None
listed_no_array (array ds) e = absurd cc
listed_no_array d e = refl

pub listed_array : (d : Data) (items : Items) → as_array d ≡ Some items → listed (Some d) ≡ tables_of items
listed_array (array ds) items e = ap tables_of (same_Some _ _ e)
listed_array (string s) items e = absurd cc
listed_array (integer z) items e = absurd cc
listed_array (float x) items e = absurd cc
listed_array (boolean b) items e = absurd cc
listed_array (datetime t) items e = absurd cc
listed_array (table t) items e = absurd cc

pub count_told : (section : Section) (room : ℕ) (tables : List Members) → room < length tables
    → first (placed section 0 (count_wrongs room tables)) ≡ Some (complaint section 0 (OutOfRange, codes "count"))
unfolding first
count_told section room tables many = let no : nat_le (length tables) room ≡ false = grind (arith, nat_tests) in rw no

-- ---- the end of a loop

-- all entries are left behind
pub each_from-end : {X : Type 0} (F : ℕ → Members → List Complaint) (g : X → Members) (all : List X) (i : ℕ)
    → length all ≤ i
    → each_from 0 F (map g all) ≡ each_from i F (map g (drop i all)) → each_from 0 F (map g all) ≡ []
unfolding each_from
each_from-end F g all i h so = so ∙ rw (drop_all i all h)

pub map_take-end : {X Y Z : Type 0} (f : Y → Z) (g : X → Y) (all : List X) (i : ℕ) (done : List Z) → length all ≤ i
    → done ≡ map (λ x. f (g x)) (take i all)
    → done ≡ map f (map g all)
map_take-end f g all i done h so = so ∙ ap (map (λ x. f (g x))) (take_all i all h) ∙ sym (map-map f g all)
