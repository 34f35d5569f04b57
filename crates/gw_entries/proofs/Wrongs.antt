-- What is wrong at the keys of a table.
use Rattle.std.proofs.Common.{◌≡◌, ℕ, ◌<◌, ◌≤◌, Bor, List, [], length, drop, get_or, map, Option}
use Rattle.std.proofs.Common.{Some, None, option_map, filter_map, is_some, true, sym, ◌∙◌}
use Rattle.std.proofs.lemmas.List.{drop_all, drop_more}
use Rattle.toml.specs.Data.{Data, Members, get_member}
use Rattle.gw_entries.specs.declared.fault.KeyFault.{KeyFault}
use Rattle.gw_entries.specs.declared.fault.Section.{Section}
use Rattle.gw_entries.specs.declared.fault.SettingsFault.{SettingsFault}
use Rattle.gw_entries.specs.Answers.{first, wrong_of, IsTold}
use Rattle.gw_entries.specs.Complaints.{Wrong, wrong_by, present, complaint, placed}
use Rattle.gw_entries.specs.Faults.{refusal_of, refused}
use Rattle.gw_entries.proofs.First.{first-None}
use Rattle.gw_entries.proofs.Told.{tells_wrong}
use Rattle.gw_entries.proofs.Unknown.{nothing_placed}
use Rattle.gw_entries.specs.Tables.{KeyRule}

-- the first that is wrong at the keys of some rules, in a table with these rules
abbrev pub first_wrong : ℕ → List KeyRule → Members → List KeyRule → Option Wrong
first_wrong outstations rules ms some = first (filter_map (wrong_by outstations rules ms) some)

module _ {X : Type 0} (outstations : ℕ) (rules : List KeyRule) (ms : Members) (some : List KeyRule) (view : X → KeyRule)
    (xs : List X) (i : ℕ) where
  pub wrong_here : (d : X) (w : Wrong)
      → first_wrong outstations rules ms some ≡ first_wrong outstations rules ms (map view (drop i xs)) → i < length xs
      → wrong_by outstations rules ms (view (get_or xs i d)) ≡ Some w → Some w ≡ first_wrong outstations rules ms some
  unfolding first
  wrong_here d w so h is = sym (so ∙ rw (drop_more xs i d h, is))

  pub nothing_wrong : first_wrong outstations rules ms some ≡ first_wrong outstations rules ms (map view (drop i xs))
      → length xs ≤ i
      → None ≡ first_wrong outstations rules ms some
  unfolding first
  nothing_wrong so h = sym (so ∙ rw (drop_all i xs h))

-- ---- the first of some keys that stands there

abbrev pub first_present : Members → List (List ℕ) → Option (List ℕ)
first_present ms keys = first (present ms keys)

abbrev pub names : List (Bor (List ℕ)) → List (List ℕ)
names keys = map (λ name. name.now) keys

same_is_some : {X : Type 0} (view : X → Data) (o : Option X) (p : Option Data) → option_map view o ≡ p
    → is_some o ≡ true → is_some p ≡ true
same_is_some view None p e is = absurd cc
same_is_some view (Some x) p e is = rw (← e)

pub first_there : {X : Type 0} (view : X → Data) (ms : Members) (keys : List (Bor (List ℕ))) (i : ℕ) (d : Bor (List ℕ))
    (found : Option X)
    → first_present ms (names keys) ≡ first_present ms (names (drop i keys)) → i < length keys
    → option_map view found ≡ get_member (get_or keys i d).now ms → is_some found ≡ true
    → Some (get_or keys i d).now ≡ first_present ms (names keys)
unfolding first
first_there view ms keys i d found so h e is =
    sym (so ∙ rw (drop_more keys i d h, same_is_some view found (get_member (get_or keys i d).now ms) e is))

pub none_there : (ms : Members) (keys : List (Bor (List ℕ))) (i : ℕ)
    → first_present ms (names keys) ≡ first_present ms (names (drop i keys))
    → length keys ≤ i → None ≡ first_present ms (names keys)
unfolding first
none_there ms keys i so h = sym (so ∙ rw (drop_all i keys h))

-- ---- an entry

pub first_told : (f : SettingsFault) (section : Section) (position : ℕ) (fault : KeyFault) (ws : List Wrong)
    → refusal_of f ≡ refused (complaint section position (wrong_of fault)) → Some (wrong_of fault) ≡ first ws
    → IsTold f (placed section position ws)
first_told f section position fault ws same is = tells_wrong f section position (wrong_of fault) ws same (sym is)

pub none_placed : (section : Section) (position : ℕ) (ws : List Wrong) → None ≡ first ws
    → placed section position ws ≡ []
none_placed section position ws is = nothing_placed section position ws (first-None ws (sym is))
