use Rattle.std.proofs.Common.{◌≡◌, ◌≢◌, Bool, false, not, sym, ap, subst, ◌∙◌}
use Rattle.std.proofs.Common.{length, get_or, arith, is_some, Option, List, ℕ}
use denote.Enum.Bare.{sameb}
use mathlib.Core.Bool.{beq}
use Rattle.iec_asdu.specs.contracts.types.ElementKind.{the_type}
use Rattle.iec_asdu.specs.declared.types.ElementKind.{ElementKind}
use Rattle.std.proofs.lemmas.List.Elements.{All-more}
use Rattle.gw_model.specs.Fit.{HasWidth}
use Rattle.gw_model.specs.declared.observation.Observation.{Observation}
use Rattle.gw_model.specs.Clocks.{Clocks}
use Rattle.gw_time.specs.Spelling.{tag_of}
use Rattle.gw_time.specs.Rule.{clocks_of}
use Rattle.iec_asdu.specs.declared.types.MonitorType.{MonitorType}
use Rattle.iec_asdu.specs.Buffer.{Writes}
use Rattle.iec_asdu.specs.Types.{type_length}
use Rattle.iec_asdu.specs.Spelling.{element_kind, object_octets, object_octets_with}
use Rattle.iec_asdu.specs.Packing.{type_at}
use Rattle.iec_asdu.proofs.Behind.{writes_both, flat_map_next}
use Rattle.iec_asdu.proofs.Known.{typed_as, other_element, other_time, element_is, element_is_not, timed_is, timed_is_not}
use Rattle.iec_asdu.proofs.Lengths.{object_long}
use Rattle.iec_asdu.proofs.Carried.{room_more}
use Rattle.iec_asdu.proofs.Counts.{nothing, first_named, is_like, other_type, other_common, alike_stops, alike_goes_on, alike_none}
use Rattle.iec_asdu.proofs.writing.write_alike.Goals as goal

pub returns-then-observation-first-clause-taken : goal.returns-then-observation-first-clause-taken
returns-then-observation-first-clause-taken c =
    let clocks = (clocks_of c.args.zone.now) in
    let x : Observation = get_or c.args.others.now c.loop-observation.observation-index nothing in
    omega (
      arith,
      alike_stops clocks c.args.first.now c.args.others.now c.loop-observation.observation-index nothing
          c.loop-observation-test.true (other_common clocks c.args.first.now x c.if-observation-first.true),
    )

pub returns-then-ne-clause-taken : goal.returns-then-ne-clause-taken
returns-then-ne-clause-taken c =
    let clocks = (clocks_of c.args.zone.now) in
    let x : Observation = get_or c.args.others.now c.loop-observation.observation-index nothing in
    let named = first_named clocks c.args.first.now c.args.kind c.requires.kind in
    let other : element_kind x.value ≢ c.args.kind.element =
    λ e. element_is_not _ _ (sym c.ne.ensures ∙ c.if-ne.true) (c.of.ensures ∙ e) in
    let unlike = other_element c.args.kind (element_kind x.value) (is_some (tag_of clocks x.stamp)) other in
    omega (
      arith,
      alike_stops clocks c.args.first.now c.args.others.now c.loop-observation.observation-index nothing
          c.loop-observation-test.true (other_type clocks c.args.first.now x (λ e. unlike (e ∙ sym named))),
    )

pub returns-then-is_some-kind-clause-taken : goal.returns-then-is_some-kind-clause-taken
returns-then-is_some-kind-clause-taken c =
    let clocks = (clocks_of c.args.zone.now) in
    let x : Observation = get_or c.args.others.now c.loop-observation.observation-index nothing in
    let named = first_named clocks c.args.first.now c.args.kind c.requires.kind in
    let told : c.is_some.result ≡ is_some (tag_of clocks x.stamp) =
    c.is_some.ensures ∙ ap (λ (t : Option (List ℕ)). is_some t) c.to_tag-tag.ensures.exact in
    let other : is_some (tag_of clocks x.stamp) ≢ c.args.kind.timed =
    λ e. timed_is_not _ _ c.if-is_some-kind.true (told ∙ e) in
    let unlike = other_time c.args.kind (element_kind x.value) (is_some (tag_of clocks x.stamp)) other in
    omega (
      arith,
      alike_stops clocks c.args.first.now c.args.others.now c.loop-observation.observation-index nothing
          c.loop-observation-test.true (other_type clocks c.args.first.now x (λ e. unlike (e ∙ sym named))),
    )

-- what is neither of another element nor of another time is of the type
of_type : (clocks : Clocks) (x : Observation) (kind : MonitorType) (element : ElementKind) (differs timed : Bool)
    (tag : Option (List ℕ)) → element ≡ element_kind x.value → differs ≡ not (sameb the_type element kind.element)
    → differs ≡ false → timed ≡ is_some tag → tag ≡ tag_of clocks x.stamp → not (beq timed kind.timed) ≡ false
    → kind ≡ type_at clocks x
of_type clocks x kind element differs timed tag is_element told is tagged is_tag same =
    let time : timed ≡ is_some (tag_of clocks x.stamp) = tagged ∙ ap (λ (t : Option (List ℕ)). is_some t) is_tag in
    typed_as kind (element_kind x.value) (is_some (tag_of clocks x.stamp))
    (sym is_element ∙ element_is element kind.element (sym told ∙ is))
    (sym time ∙ timed_is timed kind.timed same)

pub write_object-requires : goal.write_object-requires
write_object-requires c =
    let x : Observation = get_or c.args.others.now c.loop-observation.observation-index nothing in
    let kind = of_type (clocks_of c.args.zone.now) x c.args.kind _ _ _ _ c.of.ensures c.ne.ensures c.if-ne.false
    c.is_some.ensures c.to_tag-tag.ensures.exact c.if-is_some-kind.false in
    let long = object_long (clocks_of c.args.zone.now) x c.to_tag-tag.result c.args.kind c.to_tag-tag.ensures.exact
    kind in
    omega (
      arith,
      long.0,
      c.loop-observation.invariant.ends,
      room_more c.args.start c.loop-observation.observation-index (length c.args.others.now)
          (type_length c.args.kind) c.loop-observation-test.true c.requires.room,
    )

pub loop-observation-preserved : goal.loop-observation-preserved
loop-observation-preserved c =
    let clocks = (clocks_of c.args.zone.now) in
    let xs = c.args.others.now in
    let i = c.loop-observation.observation-index in
    let x : Observation = get_or xs i nothing in
    let kind = of_type clocks x c.args.kind _ _ _ _ c.of.ensures c.ne.ensures c.if-ne.false c.is_some.ensures
    c.to_tag-tag.ensures.exact c.if-is_some-kind.false in
    let like = sym (first_named clocks x c.args.kind kind)
    ∙ first_named clocks c.args.first.now c.args.kind c.requires.kind in
    let long = object_long clocks x c.to_tag-tag.result c.args.kind c.to_tag-tag.ensures.exact kind in
    let object : Writes c.loop-observation.written.octets c.write_object.result c.loop-observation.out
    c.write_object.new.out (object_octets clocks x) =
    subst (λ (t : Option (List ℕ)). Writes c.loop-observation.written.octets c.write_object.result
    c.loop-observation.out c.write_object.new.out (object_octets_with t x)) c.to_tag-tag.ensures.exact
    c.write_object.ensures.written in
    record {
      place = omega arith;
      ends = omega (arith, c.write_object.ensures.written.ends, c.loop-observation.invariant.ends, long.0);
      counted = omega (
        arith,
        alike_goes_on clocks c.args.first.now xs i nothing c.loop-observation-test.true
            (is_like clocks c.args.first.now x (like, c.if-observation-first.false)),
      );
      written = rw (flat_map_next (object_octets clocks) xs i nothing c.loop-observation-test.true)
          (writes_both _ _ _ _ _ _ _ _ c.loop-observation.invariant.written object);
      width = All-more (λ x. HasWidth x.value) xs i nothing c.loop-observation-test.true
          c.loop-observation.invariant.width c.write_object.ensures.width;
    }

pub returns-clause-taken : goal.returns-clause-taken
returns-clause-taken c =
    omega (
      arith,
      alike_none (clocks_of c.args.zone.now) c.args.first.now c.args.others.now
          c.loop-observation.observation-index (omega arith),
    )
