use Rattle.std.proofs.Common.{◌≡◌, ◌≢◌, ◌∙◌, ap, sym, true, false, Bool, not}
use mathlib.Core.Bool.{beq}
use Rattle.gw_model.specs.declared.observation.Observation.{Observation}
use Rattle.gw_model.specs.Clocks.{Clocks}
use Rattle.gw_time.specs.Rule.{clocks_of}
use Rattle.iec_asdu.specs.declared.types.MonitorType.{MonitorType}
use Rattle.iec_asdu.specs.Types.{identification_by}
use Rattle.iec_asdu.specs.Spelling.{identification_at}
use Rattle.iec_asdu.specs.Packing.{is_alike, type_at}
use Rattle.iec_asdu.proofs.Counts.{first_named, other_type}
use Rattle.iec_asdu.proofs.Known.{other_element, other_time, element_is_not, timed_is_not}
use Rattle.iec_asdu.proofs.packing.is_alike.Goals as goal
use Rattle.iec_asdu.proofs.packing.is_alike.Goals.{then-eq, else-eq}

-- what is of another type than the first one is unlike it
unlike : (clocks : Clocks) (first x : Observation) (kind : MonitorType) → kind ≡ type_at clocks first
    → identification_at clocks x ≢ identification_by kind.element kind.timed → is_alike clocks first x ≡ false
unlike clocks first x kind named other =
    other_type clocks first x (λ same. other (same ∙ sym (first_named clocks first kind named)))

pub returns-else-has_tag-kind : goal.returns-else-has_tag-kind
returns-else-has_tag-kind c =
    let clocks = clocks_of c.args.zone.now in
    let first = c.args.first.now in
    let x = c.args.observation.now in
    let kind = c.args.kind in
    c.if-has_tag-kind.false ∙ sym (unlike clocks first x kind c.requires (
    elim c.if-eq.branch [
      | then-eq w ↦
          let other = timed_is_not w.has_tag.result kind.timed
          (ap (λ (b : Bool). not b) (sym w.value-is ∙ c.if-has_tag-kind.false)) in
          other_time kind _ _ (λ same. other (w.has_tag.ensures ∙ same))
      | else-eq w ↦
          let other = element_is_not c.of.result kind.element
          (ap (λ (b : Bool). not b) (sym c.eq.ensures ∙ w.if-eq.false)) in
          other_element kind _ _ (λ same. other (c.of.ensures ∙ same))
    ]
    ))
