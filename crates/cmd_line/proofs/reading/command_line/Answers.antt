use Rattle.std.proofs.Common.{◌≡◌, ◌∙◌, [], ap, option_map, refl, sym}
use Rattle.std.proofs.lemmas.Result.{err_from_is_err_and}
use Rattle.clap.specs.Words.{App, HasMatchesOf, fault_of}
use Rattle.clap.specs.Kinds.{HasKind}
use Rattle.clap.specs.Walk.{texts}
use Rattle.clap.proofs.CallerLemmas.{some_of_text}
use Rattle.cmd_line.specs.CommandLine.{asked_of, request_of, spelled}
use Rattle.cmd_line.proofs.LineLemmas.{as_gateway, line_asks, refusal_of}
use Rattle.cmd_line.proofs.reading.command_line.Goals as goal

pub returns-in_err-matches-clause-refused : goal.returns-in_err-matches-clause-refused
returns-in_err-matches-clause-refused c =
    let words = texts c.args.words.now in
    let error = c.in_err-matches.field-0.0 in
    let kind = as_gateway (λ (a : App). HasKind (fault_of a words) error) _ c.in_ok-gateway_command.ensures
    c.in_err-matches.ensures.kinds in
    let p = err_from_is_err_and c.from_residual-in_err-matches.result c.from_residual-in_err-matches.ensures.1 in
    rw (p.1, p.2) (refusal_of error _ kind)

pub unwrap-requires : goal.unwrap-requires
unwrap-requires c =
    let words = texts c.args.words.now in
    let none =
    as_gateway (λ (a : App). fault_of a words ≡ []) _ c.in_ok-gateway_command.ensures c.in_ok-matches.ensures.kinds in
    let met = as_gateway (λ (a : App). HasMatchesOf a words c.in_ok-matches.matches) _ c.in_ok-gateway_command.ensures
    (λ _. c.in_ok-matches.ensures.matches) in
    some_of_text request_of c.in_ok-asked.asked (spelled words) (c.in_ok-asked.ensures ∙ ap asked_of (met refl).1)
    (line_asks words none)

pub returns-clause-spelled : goal.returns-clause-spelled
returns-clause-spelled c =
    let words = texts c.args.words.now in
    let met = as_gateway (λ (a : App). HasMatchesOf a words c.in_ok-matches.matches) _ c.in_ok-gateway_command.ensures
    (λ _. c.in_ok-matches.ensures.matches) in
    ap asked_of (sym (met refl).1) ∙ sym c.in_ok-asked.ensures ∙ ap (option_map request_of) c.unwrap.ensures

pub returns-clause-taken : goal.returns-clause-taken
returns-clause-taken c =
    as_gateway (λ (a : App). fault_of a (texts c.args.words.now) ≡ []) _ c.in_ok-gateway_command.ensures
    c.in_ok-matches.ensures.kinds
