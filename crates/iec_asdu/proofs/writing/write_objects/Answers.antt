use Rattle.std.proofs.Common.{◌≡◌, ◌∷◌, Option, None, ℕ, is_some, false, List, take, ap, sym, subst, ◌∙◌, arith}
use Rattle.std.specs.Prelude.{All}
use Rattle.std.proofs.lemmas.List.{length-take-le}
use Rattle.gw_model.specs.Fit.{HasWidth}
use Rattle.gw_model.specs.declared.observation.Observation.{Observation}
use Rattle.gw_model.specs.Clocks.{Clocks}
use Rattle.gw_time.specs.Rule.{clocks_of}
use Rattle.iec_asdu.specs.Packing.{is_in_sequence}
use Rattle.iec_asdu.proofs.Carried.{in_sequence, apart_octets, taken_of_few}
use Rattle.iec_asdu.specs.Buffer.{Writes}
use Rattle.iec_asdu.proofs.writing.write_objects.Goals as goal

pub slice_bounds-write_in_sequence-end : goal.slice_bounds-write_in_sequence-end
slice_bounds-write_in_sequence-end c =
    sym (length-take-le c.in-Some.behind c.args.others.now (in_sequence _ _ _ _ _ c.in-Some.is c.requires.sequence c.requires.behind).within)

pub write_in_sequence-requires : goal.write_in_sequence-requires
write_in_sequence-requires c = (in_sequence _ _ _ _ _ c.in-Some.is c.requires.sequence c.requires.behind).room

pub overflow_add-result : goal.overflow_add-result
overflow_add-result c = omega (
  arith,
  (in_sequence _ _ _ _ _ c.in-Some.is c.requires.sequence c.requires.behind).within,
  (in_sequence _ _ _ _ _ c.in-Some.is c.requires.sequence c.requires.behind).taken,
  taken_of_few (clocks_of c.args.zone.now) (c.args.first.now ∷ c.args.others.now),
)

pub returns-in-Some-clause-taken : goal.returns-in-Some-clause-taken
returns-in-Some-clause-taken c = (in_sequence _ _ _ _ _ c.in-Some.is c.requires.sequence c.requires.behind).taken

pub returns-in-Some-clause-written : goal.returns-in-Some-clause-written
returns-in-Some-clause-written c =
    subst (λ (o : List ℕ). Writes 6 c.write_in_sequence.result c.args.out.now c.write_in_sequence.new.out o)
    (in_sequence _ _ _ _ _ c.in-Some.is c.requires.sequence c.requires.behind).octets c.write_in_sequence.ensures.written

pub returns-in-Some-clause-width : goal.returns-in-Some-clause-width
returns-in-Some-clause-width c =
    subst (λ (xs : List Observation). All (λ x. HasWidth x.value) xs) (in_sequence _ _ _ _ _ c.in-Some.is c.requires.sequence c.requires.behind).list
    c.write_in_sequence.ensures.width

apart : (clocks : Clocks) (xs : List Observation) (sequence : Option ℕ) → is_some sequence ≡ is_in_sequence clocks xs
    → sequence ≡ None → is_in_sequence clocks xs ≡ false
apart clocks xs sequence told none = sym told ∙ ap (λ (o : Option ℕ). is_some o) none

pub returns-in-None-clause-taken : goal.returns-in-None-clause-taken
returns-in-None-clause-taken c =
    (apart_octets (clocks_of c.args.zone.now) c.args.first.now c.args.others.now c.write_apart.result.taken (apart _ _ _ c.requires.sequence c.in-None.is)
    c.write_apart.ensures.taken).0

pub returns-in-None-clause-written : goal.returns-in-None-clause-written
returns-in-None-clause-written c =
    subst (λ (o : List ℕ). Writes 6 c.write_apart.result.octets c.args.out.now c.write_apart.new.out o)
    (apart_octets (clocks_of c.args.zone.now) c.args.first.now c.args.others.now c.write_apart.result.taken (apart _ _ _ c.requires.sequence c.in-None.is)
    c.write_apart.ensures.taken).1 c.write_apart.ensures.written

pub returns-in-None-clause-width : goal.returns-in-None-clause-width
returns-in-None-clause-width c =
    subst (λ (n : ℕ). All (λ x. HasWidth x.value) (take n (c.args.first.now ∷ c.args.others.now)))
    (apart_octets (clocks_of c.args.zone.now) c.args.first.now c.args.others.now c.write_apart.result.taken (apart _ _ _ c.requires.sequence c.in-None.is)
    c.write_apart.ensures.taken).0 c.write_apart.ensures.width
