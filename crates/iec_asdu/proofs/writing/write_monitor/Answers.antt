use Rattle.std.proofs.Common.{◌≡◌, ◌∙◌, ◌∷◌, ◌-◌, ℕ, List, Option, is_some}
use Rattle.std.proofs.Common.{length, get_or, take, drop, refl, sym, ap, subst, arith}
use Rattle.std.specs.Prelude.{All}
use Rattle.gw_model.specs.Fit.{HasWidth}
use Rattle.gw_model.specs.declared.observation.Observation.{Observation}
use Rattle.gw_time.specs.Rule.{clocks_of}
use Rattle.iec_asdu.specs.Packing.{taken_of, packed_spelling}
use Rattle.iec_asdu.proofs.Behind.{writes_before}
use Rattle.iec_asdu.proofs.Carried.{taken_of_some, taken_of_within, taken_of_few, packed_room, packed_whole, by_first}
use Rattle.iec_asdu.proofs.Counts.{nothing}
use Rattle.iec_asdu.proofs.Meant.{written_meant}
use Rattle.iec_asdu.proofs.writing.write_monitor.Goals as goal
use Rattle.iec_asdu.proofs.writing.write_monitor.Goals.{After-write_header}

-- the first one, and those behind it
abbrev first : (c : After-write_header) → Observation
first c = get_or c.args.observations.now 0 nothing

abbrev others : (c : After-write_header) → List Observation
others c = take (length c.args.observations.now - 1) (drop 1 c.args.observations.now)

same : (c : After-write_header) → first c ∷ others c ≡ c.args.observations.now
same c = by_first c.args.observations.now c.requires

taken : (c : After-write_header)
    → c.write_objects-written.result.taken ≡ taken_of (clocks_of c.args.zone.now) c.args.observations.now
taken c =
    c.write_objects-written.ensures.taken
    ∙ ap (λ (xs : List Observation). taken_of (clocks_of c.args.zone.now) xs) (same c)

pub write_header-requires : goal.write_header-requires
write_header-requires c =
    omega (
      arith,
      c.write_objects-written.ensures.taken,
      taken_of_few (clocks_of c.args.zone.now)
          (get_or c.args.observations.now 0 nothing
          ∷ take (length c.args.observations.now - 1) (drop 1 c.args.observations.now)),
    )

pub returns-clause-taken : goal.returns-clause-taken
returns-clause-taken c = taken c

pub returns-clause-some : goal.returns-clause-some
returns-clause-some c =
    omega (arith, taken c, taken_of_some (clocks_of c.args.zone.now) c.args.observations.now c.requires)

pub returns-clause-within : goal.returns-clause-within
returns-clause-within c =
    omega (arith, taken c, taken_of_within (clocks_of c.args.zone.now) c.args.observations.now)

pub returns-clause-most : goal.returns-clause-most
returns-clause-most c =
    omega (arith, taken c, taken_of_few (clocks_of c.args.zone.now) c.args.observations.now)

pub returns-clause-room : goal.returns-clause-room
returns-clause-room c =
    omega (
      arith,
      c.write_objects-written.ensures.written.ends,
      packed_room (clocks_of c.args.zone.now) (first c ∷ others c) _ _ (omega arith) refl refl,
    )

pub returns-clause-rest : goal.returns-clause-rest
returns-clause-rest c =
    (writes_before _ _ _ _ _ _ _ (omega arith) c.write_objects-written.ensures.written c.write_header.ensures).rest

spelled : (c : After-write_header)
    → take c.write_objects-written.result.octets c.write_header.new.out
    ≡ packed_spelling (clocks_of c.args.zone.now) c.args.cause c.args.observations.now
spelled c =
    (writes_before _ _ _ _ _ _ _ (omega arith) c.write_objects-written.ensures.written c.write_header.ensures).front
    ∙ packed_whole (clocks_of c.args.zone.now) c.args.cause (first c) (others c) _ _ _ _ c.of.ensures
    (c.is_some.ensures ∙ ap (λ (t : Option (List ℕ)). is_some t) c.to_tag-tag.ensures.exact)
    (c.is_some-2.ensures ∙ c.sequence_behind-sequence.ensures.sequence) c.write_objects-written.ensures.taken
    ∙ ap (λ (xs : List Observation).
    packed_spelling (clocks_of c.args.zone.now) c.args.cause xs) (same c)

pub returns-clause-spelled : goal.returns-clause-spelled
returns-clause-spelled c = spelled c

pub returns-clause-meant : goal.returns-clause-meant
returns-clause-meant c =
    let widths : All (λ x. HasWidth x.value) (take c.write_objects-written.result.taken c.args.observations.now) =
    subst (λ (xs : List Observation). All (λ x. HasWidth x.value) (take c.write_objects-written.result.taken xs))
    (same c) (subst (λ (n : ℕ). All (λ x. HasWidth x.value) (take n (first c ∷ others c)))
    (sym c.write_objects-written.ensures.taken) c.write_objects-written.ensures.width) in
    written_meant (clocks_of c.args.zone.now) c.args.cause c.args.observations.now _ _ c.requires
    (taken c) (spelled c) widths
