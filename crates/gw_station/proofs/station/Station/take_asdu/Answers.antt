use Rattle.std.proofs.Common.{◌≡◌, [], ◌∷◌, length, sym, ap, ◌∙◌, rules}
use Rattle.std.proofs.lemmas.List.{length-append}
use Rattle.circular_buffer.specs.Buffer.{Buffer}
use Rattle.gw_answers.specs.Interrogations.{answer_to, asked_addresses}
use Rattle.gw_answers.specs.declared.outgoing.AsduAnswer.{AsduAnswer}
use Rattle.gw_answers.specs.Sections.{parts_of}
use Rattle.gw_station.proofs.Answered.{answer_joined, returnable_more}
use Rattle.gw_station.proofs.station.Station.take_asdu.Goals as goal

pub invariant_of-self-in-Some : goal.invariant_of-self-in-Some
invariant_of-self-in-Some c =
    let kept = c.self.invariant in
    let waiting = c.self.inside.answers.items in
    let more = ap (λ (b : Buffer AsduAnswer). b.items) c.push.ensures in
    let capacity = ap (λ (b : Buffer AsduAnswer). b.capacity) c.push.ensures ∙ kept.3 in
    let count = ap length more ∙ length-append waiting (c.in-Some.answer ∷ []) in
    let returnable = returnable_more c.args.settings.now c.args.picture.now c.is_pending-pending.result c.args.asdu.now
    c.args.judged.now c.in-Some.answer waiting c.push.new.queue.items
    (sym c.requires.judged) (sym c.answer_at_once.ensures ∙ c.in-Some.is) more kept.4 in
    search (rules, returnable, capacity, count)

pub returns-then-is_accepted_act-clause-client : goal.returns-then-is_accepted_act-clause-client
returns-then-is_accepted_act-clause-client c =
    let command = c.in-Accepted.command in
    let picture = c.args.picture.now in
    let asked = asked_addresses c.args.settings.now command.common_address in
    let rest : c.in_ok-self-inside.field-0 ≡ answer_to asked command picture =
    c.in_ok-self-inside.ensures
    ∙ answer_joined asked command picture (parts_of c.in_ok-answer.answer.items) c.in_ok-answer.ensures in
    search (rules, rest)
