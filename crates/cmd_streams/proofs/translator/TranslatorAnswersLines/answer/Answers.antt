use Rattle.std.proofs.Common.{List, ap, subst, true}
use Rattle.std.specs.Io.KnownBytes.{Appends}
use Rattle.gw_model.specs.declared.observation.Observation.{Observation}
use Rattle.cmd_streams.specs.Answers.{AnswersLine}
use Rattle.cmd_streams.specs.Standing.{Standing, standing}
use Rattle.cmd_streams.specs.Translation.{decision_text}
use Rattle.cmd_streams.specs.declared.translator.Finding.{Finding}
use Rattle.cmd_streams.proofs.DecisionLaws.{AnswersLine-decided}
use Rattle.cmd_streams.proofs.translator.TranslatorAnswersLines.answer.Goals as goal

pub returns : goal.returns
returns g c =
    let fields = c.self.inside in
    let line = c.args.line.now in
    let decision = c.in_ok-decision.decision in
    let news = c.decide.new.news.items in
    let picture = c.decide.new.picture in
    let before = standing fields.settings fields.finding fields.picture in
    let now = standing fields.settings c.after-self-inside.result picture in
    let text = decision_text fields.settings decision news in
    let found = ap (λ (f : Finding). standing fields.settings f picture) c.after-self-inside.ensures in
    let answered = AnswersLine-decided before line c.args._number decision news picture now c.in_ok-decision.ensures
    found in
    let written = subst
    (λ (told : List Observation). Appends (g.W.Write.contents c.args.writer.now)
    (g.W.Write.contents c.write_decision.new.writer) (decision_text fields.settings decision told))
    c.as_slice.ensures.value c.in_ok-write_decision.ensures in
    (text, written, subst (λ (s : Standing). AnswersLine s c.args._number line true text now) c.self.view_is answered)
