use Rattle.std.proofs.Common.{ap, ◌∙◌, bytes_eq}
use Rattle.std.specs.List.{list_any}
use Rattle.gw_entries.specs.Keys.{datum_seen}
use Rattle.gw_entries.specs.Values.{text_in}
use Rattle.gw_entries.proofs.Unknown.{any_known}
use Rattle.gw_entries.proofs.Words.{texts, text_or}
use Rattle.gw_entries.proofs.entry.Entry.allows.Goals as goal

pub returns-in-Word : goal.returns-in-Word
returns-in-Word c =
    rw c.in-Word.is (c.contains.ensures.value ∙ any_known c.unwrap_or.result.now c.in-Word.words.now
    ∙ ap (λ text. list_any (bytes_eq text) (texts c.in-Word.words.now))
    (ap (λ text. text.now) c.unwrap_or.ensures
    ∙ text_or c.text.result _ (text_in (datum_seen c.args.datum)) c.text.ensures))
