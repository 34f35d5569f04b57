use Rattle.cmd_line.proofs.reading.run_command.Goals as goal

pub returns-clause-app : goal.returns-clause-app
returns-clause-app c =
    c.with_argument.ensures.app _ _
    (c.with_argument-command-3.ensures.app _ _
    (c.with_argument-command-2.ensures.app _ _
    (c.with_argument-command.ensures.app _ _ c.shown_command.ensures.app c.text_argument-status.ensures.rule)
    c.text_argument-record.ensures.rule)
    c.number_argument-record_size.ensures.rule)
    c.text_argument-names.ensures.rule

pub returns-clause-local : goal.returns-clause-local
returns-clause-local c =
    c.with_argument.ensures.local
    (c.with_argument-command-3.ensures.local
    (c.with_argument-command-2.ensures.local (c.with_argument-command.ensures.local c.shown_command.ensures.local)))
