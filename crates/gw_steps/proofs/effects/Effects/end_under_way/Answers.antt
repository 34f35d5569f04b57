use Rattle.std.specs.Option.{option_to_list}
use Rattle.std.specs.Prelude.{slice_get}
use Rattle.std.proofs.Common.{◌≡◌, List, length, Option, None, Some, refl, sym, ap, ◌∙◌}
use Rattle.std.proofs.lemmas.Option.{slice_get_past, slice_get_read}
use Rattle.gw_control.specs.declared.accepted.UnderWay.{UnderWay}
use Rattle.gw_steps.specs.declared.effects.OrderEnd.{OrderEnd}
use Rattle.gw_steps.specs.Effects.{end_at, end_of, with_ends}
use Rattle.gw_steps.proofs.Ending.{none_at, none_told, some_at}
use Rattle.gw_steps.proofs.effects.Effects.end_under_way.Goals as goal

pub returns-in_default-get : goal.returns-in_default-get
returns-in_default-get c =
    let o = c.args.outstation in
    let qs = c.args.outgoing.now in
    none_told (end_at o c.args.fate c.args.ended (slice_get qs o)) c.args.self.now
    (none_at o c.args.fate c.args.ended (slice_get qs o) (slice_get_past qs o c.in_default-get.ensures.lookup.3))

pub returns-in-Some-under_way : goal.returns-in-Some-under_way
returns-in-Some-under_way c =
    let o = c.args.outstation in
    let qs = c.args.outgoing.now in
    let q = c.in-Some.outgoing.now in
    let there = slice_get_read qs (length qs) o q refl c.in-Some.ensures.lookup.3.0 c.in-Some.ensures.lookup.1 in
    let u : Some c.in-Some-under_way.under_way ≡ q.under_way = sym c.in-Some-under_way.is ∙ c.under_way.ensures in
    let is = some_at o c.in-Some-Some.fate c.in-Some-Some.ended q c.args.fate c.args.ended (slice_get qs o)
    c.in-Some-Some.is-0 c.in-Some-Some.is-1 there in
    c.end_order.ensures
    ∙ (ap (λ (w : Option UnderWay).
    with_ends (option_to_list (end_of o c.in-Some-Some.fate c.in-Some-Some.ended w)) c.args.self.now) u
    ∙ ap (λ (ends : List OrderEnd). with_ends ends c.args.self.now) (sym is))

pub returns-in_default-under_way : goal.returns-in_default-under_way
returns-in_default-under_way c =
    let o = c.args.outstation in
    let qs = c.args.outgoing.now in
    let q = c.in-Some.outgoing.now in
    let there = slice_get_read qs (length qs) o q refl c.in-Some.ensures.lookup.3.0 c.in-Some.ensures.lookup.1 in
    let u : q.under_way ≡ None = sym c.under_way.ensures ∙ c.in_default-under_way.is in
    let is = some_at o c.in-Some-Some.fate c.in-Some-Some.ended q c.args.fate c.args.ended (slice_get qs o)
    c.in-Some-Some.is-0 c.in-Some-Some.is-1 there in
    none_told (end_at o c.args.fate c.args.ended (slice_get qs o)) c.args.self.now
    (is ∙ ap (λ (w : Option UnderWay). option_to_list (end_of o c.in-Some-Some.fate c.in-Some-Some.ended w)) u)
