use Rattle.std.proofs.Common.{◌≡◌, ℕ, ◌+◌, List, map, take, length, ap, sym, ◌∙◌, arith}
use Rattle.std.specs.Prelude.{vec_len}
use Rattle.std.proofs.lemmas.Bool.{eqb-true, true≢false}
use Rattle.std.proofs.lemmas.List.{take_all, nil_from_length}
use Rattle.gw_entries.specs.Ranges.{IsWithin}
use Rattle.gw_map.specs.Settings.{distinct, is_among}
use Rattle.gw_map.proofs.Known.{with, common_of, distinct-more, known-none, known-some, all-more}
use Rattle.gw_map.proofs.common_addresses.known_addresses.Goals as goal
use Rattle.gw_map.proofs.common_addresses.known_addresses.Goals.{then-not-contains+in_ok-push, else-not-contains}
use Rattle.gw_map.proofs.common_addresses.known_addresses.Goals.{then-is_empty+in_ok-push-2, else-is_empty}

pub loop-outstation-init : goal.loop-outstation-init
loop-outstation-init c = record { known = c.in_ok-known.ensures.items; within = rw c.in_ok-known.ensures.items tt }

-- the known ones, with that of the next outstation
next : (c : goal.Joined-not-contains)
    → distinct (map common_of (take (c.loop-outstation.outstation-index + 1) c.args.outstations.now))
    ≡ with c.outstation.inside.common_address c.loop-outstation.known.items
next c =
    let same : c.outstation.inside.common_address ≡ c.outstation-item.result.common_address =
    ap (λ s. s.common_address) c.outstation.view_is in
    distinct-more c.args.outstations.now c.loop-outstation.outstation-index c.outstation-item.result
    c.loop-outstation-test.true c.outstation-item.is
    ∙ rw (← c.loop-outstation.invariant.known, ← same)

there : (c : goal.Joined-not-contains)
    → c.contains.result ≡ is_among c.loop-outstation.known.items c.outstation.inside.common_address
there c =
    c.contains.ensures.value
    ∙ ap (λ (ns : List ℕ). is_among ns c.outstation.inside.common_address) c.deref.ensures.value

pub loop-outstation-preserved : goal.loop-outstation-preserved
loop-outstation-preserved c = elim c.if-not-contains.branch [
  | then-not-contains+in_ok-push w ↦
      let fresh = sym (there c) ∙ w.if-not-contains.true in
      let items = ap (λ v. v.items) w.known-is ∙ w.in_ok-push.ensures.items in
      record {
        known = items ∙ sym (next c ∙ rw fresh);
        within = rw items (all-more (IsWithin 1 65534) c.loop-outstation.known.items c.outstation.inside.common_address
            c.loop-outstation.invariant.within c.outstation.invariant.common_address);
      }
  | else-not-contains w ↦
      let again = sym (there c) ∙ w.if-not-contains.false in
      let items = ap (λ v. v.items) w.known-is in
      record { known = items ∙ sym (next c ∙ rw again); within = rw items c.loop-outstation.invariant.within }
]

-- as many as are known
counted : (c : goal.Joined-is_empty) → vec_len c.loop-outstation.known ≡ length c.loop-outstation.known.items
counted c = c.loop-outstation.known.ok.0

-- all outstations were asked
asked : (c : goal.Joined-is_empty)
    → c.loop-outstation.known.items ≡ distinct (map common_of c.args.outstations.now)
asked c =
    c.loop-outstation.invariant.known
    ∙ ap (λ outstations. distinct (map common_of outstations))
    (take_all c.loop-outstation.outstation-index c.args.outstations.now c.loop-outstation-test.false)

pub returns-clause-known : goal.returns-clause-known
returns-clause-known c = elim c.if-is_empty.branch [
  | then-is_empty+in_ok-push-2 w ↦
      let none = nil_from_length c.loop-outstation.known.items (omega (arith, counted c, eqb-true _ _ (sym c.is_empty.ensures ∙ w.if-is_empty.true))) in
      ap (λ v. v.items) w.known-is ∙ w.in_ok-push-2.ensures.items
      ∙ rw (none, ap (λ s. s.common_address) c.station.view_is)
      (known-none c.args.station.now c.args.outstations.now c.loop-outstation.known.items (asked c) none)
  | else-is_empty w ↦
      ap (λ v. v.items) w.known-is
      ∙ known-some c.args.station.now c.args.outstations.now c.loop-outstation.known.items (asked c)
      (λ none. true≢false (sym (c.is_empty.ensures ∙ rw (counted c, none)) ∙ w.if-is_empty.false))
]

pub returns-clause-within : goal.returns-clause-within
returns-clause-within c = elim c.if-is_empty.branch [
  | then-is_empty+in_ok-push-2 w ↦
      rw (ap (λ v. v.items) w.known-is ∙ w.in_ok-push-2.ensures.items)
      (all-more (IsWithin 1 65534) c.loop-outstation.known.items c.station.inside.common_address
      c.loop-outstation.invariant.within c.station.invariant.common_address)
  | else-is_empty w ↦ rw (ap (λ v. v.items) w.known-is) c.loop-outstation.invariant.within
]
