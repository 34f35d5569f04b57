use Rattle.cmd_line.proofs.reading.points_command.Goals as goal

pub returns-clause-app : goal.returns-clause-app
returns-clause-app c =
    c.with_argument.ensures.app _ _
    (c.with_argument-command-2.ensures.app _ _
    (c.with_argument-command.ensures.app _ _ c.named_command-command.ensures.app c.text_argument-site.ensures.rule)
    c.flag_argument-csv.ensures.rule)
    c.text_argument-names.ensures.rule

pub returns-clause-local : goal.returns-clause-local
returns-clause-local c =
    c.with_argument.ensures.local
    (c.with_argument-command-2.ensures.local (c.with_argument-command.ensures.local c.named_command-command.ensures.local))
