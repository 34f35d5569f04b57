use Rattle.std.proofs.Common.{unwrap_or, ap, ◌∙◌}
use Rattle.gw_entries.specs.Keys.{rule_seen}
use Rattle.gw_entries.proofs.Words.{word_meant, copied_item}
use Rattle.gw_entries.proofs.entry.Entry.word.Goals as goal

pub returns-in-Some-place_of : goal.returns-in-Some-place_of
returns-in-Some-place_of g c =
    c.unwrap_or.ensures
    ∙ ap (λ o. unwrap_or o c.args.other)
    (c.copied.ensures ∙ copied_item c.args.meanings.now c.in-Some-place_of.place c.get.result c.get.ensures.lookup)
    ∙ word_meant (rule_seen c.in-Some.key.now) _ c.words.result.now c.args.meanings.now _
    c.text.result.now _ c.args.other
    c.in-Some.ensures c.words.ensures c.in-Some-place_of.ensures c.text.ensures

pub returns-in-None : goal.returns-in-None
returns-in-None g c =
    word_meant (rule_seen c.in-Some.key.now) _ c.words.result.now c.args.meanings.now _ c.text.result.now _ c.args.other
    c.in-Some.ensures c.words.ensures c.in-None.ensures c.text.ensures
