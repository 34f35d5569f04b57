use Rattle.cmd_line.proofs.reading.shown_command.Goals as goal

pub returns-clause-app : goal.returns-clause-app
returns-clause-app c =
    c.with_argument.ensures.app _ _
    (c.with_argument-command.ensures.app _ _ c.serve_command.ensures.app c.text_argument-site.ensures.rule)
    c.flag_argument-needs_centre.ensures.rule

pub returns-clause-local : goal.returns-clause-local
returns-clause-local c =
    c.with_argument.ensures.local (c.with_argument-command.ensures.local c.serve_command.ensures.local)
