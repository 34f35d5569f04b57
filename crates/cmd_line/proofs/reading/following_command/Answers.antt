use Rattle.cmd_line.proofs.reading.following_command.Goals as goal

pub returns-clause-app : goal.returns-clause-app
returns-clause-app c =
    c.with_argument.ensures.app _ _
    (c.with_argument-command-2.ensures.app _ _
    (c.with_argument-command.ensures.app _ _ c.recording_command.ensures.app c.flag_argument-values.ensures.rule)
    c.text_argument-events.ensures.rule)
    c.number_argument-keep.ensures.rule

pub returns-clause-local : goal.returns-clause-local
returns-clause-local c =
    c.with_argument.ensures.local
    (c.with_argument-command-2.ensures.local
    (c.with_argument-command.ensures.local c.recording_command.ensures.local))
