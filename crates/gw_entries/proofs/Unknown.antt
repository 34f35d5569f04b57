-- What is wrong with one table: keys that are unknown come first.
use Rattle.std.proofs.Common.{◌≡◌, ℕ, Bor, List, [], ◌∷◌, ◌++◌, map, find, not, Option, Some, None, is_some}
use Rattle.std.proofs.Common.{option_map, String, Global, string_bytes, refl, ap, sym, ◌∙◌, inl, inr}
use Rattle.std.specs.Prelude.{bytes_eq}
use Rattle.std.specs.List.{list_any}
use Rattle.std.specs.Map.{keys_of}
use Rattle.std.proofs.lemmas.Bool.{cases_Bool, true≢false}
use Rattle.std.proofs.lemmas.Slice.Eq.{bytes_eq-Decides}
use Rattle.std.proofs.lemmas.List.{map-append}
use Rattle.toml.specs.Data.{Members}
use Rattle.toml.specs.View.{members_view}
use Rattle.toml.proofs.Views.{Entry}
use Rattle.gw_entries.specs.declared.fault.Fault.TheVariants.{UnknownKey, KindMismatch}
use Rattle.gw_entries.specs.declared.fault.Section.{Section}
use Rattle.gw_entries.specs.declared.fault.Section.TheVariants.{Top, Station, Outstation, Point, Control}
use Rattle.gw_entries.specs.Answers.{first}
use Rattle.gw_entries.specs.Complaints.{Wrong, complaint, placed, wrong_at, unknown_keys, key_wrongs, rules_wrongs, table_wrongs}
use Rattle.gw_entries.specs.Tables.{KeyRule, rules_of, known_keys}
use Rattle.gw_entries.proofs.First.{told, first-None}

-- ---- known keys

-- texts are the same either way
same_either_way : (a b : List ℕ) → bytes_eq a b ≡ bytes_eq b a
same_either_way a b = elim (cases_Bool (bytes_eq a b)) [
  | inl same ↦ same ∙ sym ((bytes_eq-Decides b a).1 (sym ((bytes_eq-Decides a b).0 same)))
  | inr other ↦ elim (cases_Bool (bytes_eq b a)) [
    | inl same ↦ absurd (true≢false (sym ((bytes_eq-Decides a b).1 (sym ((bytes_eq-Decides b a).0 same))) ∙ other))
    | inr differ ↦ other ∙ sym differ
  ]
]

pub any_known : (key : List ℕ) (known : List (Bor (List ℕ)))
    → list_any (λ name. bytes_eq name.now key) known ≡ list_any (bytes_eq key) (map (λ name. name.now) known)
any_known key [] = refl
any_known key (name ∷ known) = rw (same_either_way name.now key, any_known key known)

-- a key that has a rule is known
pub known_by_rule : (name : List ℕ) (rules : List KeyRule)
    → is_some (find (λ rule. bytes_eq rule.key name) rules) ≡ list_any (bytes_eq name) (map (λ rule. rule.key) rules)
known_by_rule name [] = refl
known_by_rule name (rule ∷ rules) = elim (cases_Bool (bytes_eq rule.key name)) [
  | inl same ↦ rw (same, same_either_way name rule.key, same)
  | inr other ↦ rw (other, same_either_way name rule.key, other, known_by_rule name rules)
]

pub known_by_rules : (section : Section) → (section ≡ Top → ⊥)
    → known_keys section ≡ map (λ rule. rule.key) (rules_of section)
known_by_rules Top other = absurd (other refl)
known_by_rules Station other = refl
known_by_rules Outstation other = refl
known_by_rules Point other = refl
known_by_rules Control other = refl

pub is_some-map : {A B : Type 0} (f : A → B) (o : Option A) → is_some o ≡ is_some (option_map f o)
is_some-map f None = refl
is_some-map f (Some x) = refl

-- ---- unknown keys

unknown_found : (known : List (List ℕ)) (es : List Entry)
    → option_map string_bytes (find (λ key. not (list_any (bytes_eq (string_bytes key)) known)) (keys_of es))
    ≡ first (unknown_keys known (members_view es))
unfolding unknown_keys first
unknown_found known [] = refl
unknown_found known (e ∷ es) = elim (cases_Bool (list_any (bytes_eq (string_bytes e.0)) known)) [
  | inl there ↦ rw there (unknown_found known es)
  | inr missing ↦ rw missing
]

pub no_unknown : (known : List (List ℕ)) (es : List Entry) (section : Section) (position : ℕ)
    → None ≡ find (λ key. not (list_any (bytes_eq (string_bytes key)) known)) (keys_of es)
    → placed section position (wrong_at UnknownKey (unknown_keys known (members_view es))) ≡ []
no_unknown known es section position none =
    rw (first-None (unknown_keys known (members_view es))
    (sym (unknown_found known es) ∙ ap (option_map string_bytes) (sym none)))

pub unknown_told : (known : List (List ℕ)) (es : List Entry) (section : Section) (position : ℕ) (key : String Global)
    → Some key ≡ find (λ key. not (list_any (bytes_eq (string_bytes key)) known)) (keys_of es)
    → first (placed section position (wrong_at UnknownKey (unknown_keys known (members_view es))))
    ≡ Some (complaint section position (UnknownKey, string_bytes key))
unknown_told known es section position key some =
    told (complaint section position) (wrong_at UnknownKey (unknown_keys known (members_view es)))
    (UnknownKey, string_bytes key)
    (told (λ key. (UnknownKey, key)) (unknown_keys known (members_view es)) (string_bytes key)
    (sym (unknown_found known es) ∙ ap (option_map string_bytes) (sym some)))

-- ---- one table

pub key_parts : (section : Section) (position outstations : ℕ) (known : List (List ℕ))
    (rules : List KeyRule) (ms : Members)
    → placed section position (key_wrongs outstations known rules ms)
    ≡ placed section position (wrong_at UnknownKey (unknown_keys known ms))
    ++ placed section position (rules_wrongs outstations rules ms)
unfolding key_wrongs
key_parts section position outstations known rules ms = map-append (complaint section position) _ _

pub table_parts : (section : Section) (position outstations : ℕ) (rules : List KeyRule)
    (mismatches : Members → List (List ℕ)) (ms : Members)
    → placed section position (table_wrongs outstations rules mismatches ms)
    ≡ placed section position (key_wrongs outstations (map (λ rule. rule.key) rules) rules ms)
    ++ placed section position (wrong_at KindMismatch (mismatches ms))
unfolding table_wrongs
table_parts section position outstations rules mismatches ms = map-append (complaint section position) _ _

pub nothing_placed : (section : Section) (position : ℕ) (ws : List Wrong) → ws ≡ [] → placed section position ws ≡ []
nothing_placed section position ws e = rw e
